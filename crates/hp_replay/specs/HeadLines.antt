-- What the lines before the events say: how many processors are possible, of those that a version has, which of them are absent, a subsystem, a
-- rule of it, or that the events follow. This project's own.
use Rattle.std.specs.Prelude.{ℕ, ◌+◌, if◌then◌else◌, List, [], ◌∷◌, Option, Some, None, codes}
use Rattle.std.specs.Option.{option_and_then}
use Rattle.hp_event.specs.declared.version.Version.{Version}
pub use Rattle.hp_replay.specs.declared.head_lines.HeadLine.{HeadLine}
pub use Rattle.hp_replay.specs.declared.head_lines.HeadLine.TheVariants.{Sub as a_sub, Rule as a_rule, Events as the_events}
use Rattle.hp_text.specs.Numbers.{number_from}
use Rattle.hp_text.specs.Readings.{alone}
use Rattle.hp_text.specs.Sets.{rise_from}
use Rattle.hp_text.specs.Lists.{number_list_or_dash}
use Rattle.hp_text.specs.Subs.{sub, rule}
use Rattle.hp_replay.specs.LineWords.{words_at}
use Rattle.hp_replay.specs.Readers.{Tail, Row, done, mapped, row, one_of}
use Rattle.hp_replay.specs.Tails.{read}
use Rattle.hp_replay.specs.Versions.{most_cpus}

abbrev pub cpus_tail : Version → Tail ℕ
cpus_tail v words = read (alone (number_from 1 (most_cpus v + 1))) words

abbrev pub cpus_rows : Version → List (Row ℕ)
cpus_rows v = row (codes "cpus") (cpus_tail v) ∷ []

unfoldable pub cpus_at : Version → (line : List ℕ) → Option ℕ
cpus_at v line = option_and_then (one_of (cpus_rows v)) (words_at line)

-- numbers that rise from 1 to the last possible processor's
abbrev pub if_rising : (possible : ℕ) → List ℕ → Option (List ℕ)
if_rising possible ns = if rise_from 1 possible ns then Some ns else None

-- a dash, where none is absent; else their numbers
abbrev pub absent_tail : (possible : ℕ) → Tail (List ℕ)
absent_tail possible words = option_and_then (if_rising possible) (read number_list_or_dash words)

abbrev pub absent_rows : (possible : ℕ) → List (Row (List ℕ))
absent_rows possible = row (codes "absent") (absent_tail possible) ∷ []

unfoldable pub absent_at : (possible : ℕ) → (line : List ℕ) → Option (List ℕ)
absent_at possible line = option_and_then (one_of (absent_rows possible)) (words_at line)

abbrev pub sub_tail : Tail HeadLine
sub_tail words = mapped (λ s. a_sub s) (read sub) words

abbrev pub rule_tail : Tail HeadLine
rule_tail words = mapped (λ r. a_rule r) (read rule) words

abbrev pub head_rows : List (Row HeadLine)
head_rows =
    row (codes "sub") sub_tail ∷ row (codes "rule") rule_tail ∷ row (codes "events") (done the_events) ∷ []

unfoldable pub head_line_at : (line : List ℕ) → Option HeadLine
head_line_at line = option_and_then (one_of head_rows) (words_at line)

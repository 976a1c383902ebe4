-- What the words of a line say: the words of each kind of line behind its first. What a script shares with a journal is
-- read as hp_text says; here stand schedules and the labels of actors. This project's own.
use Rattle.std.specs.Prelude.{ℕ, List, [], ◌∷◌, codes, bytes_eq, Option, Some, None, Ok, Err, if◌then◌else◌}
use Rattle.hp_text.specs.declared.unread.Unread.TheVariants.{NotOfForm}
use Rattle.hp_text.specs.Readings.{Reading, Field, Tail, said, done, alone, in_front}
use Rattle.hp_text.specs.Numbers.{number, long_number}
use Rattle.hp_text.specs.Choices.{is_name}
use Rattle.hp_text.specs.Lists.{number_list}
use Rattle.hp_text.specs.Subs.{sub, rule}
use Rattle.hp_text.specs.OpAt.{op_tail}
use Rattle.hp_script.specs.declared.verb.Verb.{Verb}
use Rattle.hp_script.specs.declared.verb.Verb.TheVariants as verb
use Rattle.hp_script.specs.declared.schedule.Schedule.{Schedule}
use Rattle.hp_script.specs.declared.schedule.Schedule.TheVariants.{Rounds, Turns, Mix}
use Rattle.hp_script.specs.declared.statement.Statement.{Statement}
use Rattle.hp_script.specs.declared.statement.Statement.TheVariants as says
use Rattle.hp_script.specs.Verbs.{verb_of}

-- a seed, and how many turns
abbrev pub mix : Tail Schedule
mix words = said (λ x. Mix x.0 x.1) (in_front long_number (alone number) words)

-- by the second word of the line
unfoldable pub schedule_of_kind : (name : List ℕ) → Tail Schedule
schedule_of_kind name words =
    if bytes_eq name (codes "rounds") then done Rounds words
    else (if bytes_eq name (codes "turns") then said (λ seats. Turns seats) (number_list words)
    else (if bytes_eq name (codes "mix") then mix words else Err NotOfForm))

unfoldable pub schedule : Tail Schedule
schedule [] = Err NotOfForm
schedule (name ∷ words) = schedule_of_kind name words

-- the label of an actor is not kept
abbrev pub label : Field (Unit {0})
label word = if is_name word then Ok tt else Err NotOfForm

-- what stands behind the first word
abbrev pub statement_by : Verb → Tail Statement
statement_by verb.Cpus words = said (λ n. says.Cpus n) (alone number words)
statement_by verb.Absent words = said (λ ns. says.Absent ns) (number_list words)
statement_by verb.Sub words = said (λ s. says.Sub s) (sub words)
statement_by verb.Rule words = said (λ r. says.Rule r) (rule words)
statement_by verb.Schedule words = said (λ s. says.Schedule s) (schedule words)
statement_by verb.Actor words = said (λ _. says.Actor) (alone label words)
statement_by (verb.Operation first) words = said (λ o. says.Operation o) (op_tail first words)

-- what stands behind a word that may be a first one
abbrev pub statement_behind : Option Verb → Tail Statement
statement_behind None words = Err NotOfForm
statement_behind (Some verb) words = statement_by verb words

-- what the words of a line say
abbrev pub statement_in : Tail Statement
statement_in [] = Err NotOfForm
statement_in (first ∷ words) = statement_behind (verb_of first) words

-- The text of a journal: its head, its events and their number. It has two versions, which tell the same of a journal but
-- for the numbers of its operations. This project's own.
use Rattle.std.specs.Prelude.{ℕ, List, [], ◌∷◌, ◌++◌, map, length, codes, decimal}
use Rattle.std.specs.List.{flat_map}
use Rattle.hp_states.specs.declared.plan.Rule.{Rule}
use Rattle.hp_event.specs.declared.head.Sub.{Sub}
use Rattle.hp_event.specs.declared.head.Head.{Head}
use Rattle.hp_event.specs.declared.event.Event.{Event}
use Rattle.hp_event.specs.declared.version.Version.{Version}
use Rattle.hp_event.specs.declared.version.Version.TheVariants.{One, Two}
use Rattle.hp_model.specs.Words.{line, dir_word, name_word, list_words, any_word, calls_word, kind_word}
use Rattle.hp_model.specs.OperationNumber.{operation_number}
use Rattle.hp_model.specs.EventLine.{event_line}

abbrev pub rule_line : Rule → List ℕ
rule_line rule =
    line
    (codes "rule" ∷ dir_word rule.dir ∷ any_word rule.cpu ∷ any_word rule.inst ∷ any_word rule.nth ∷ decimal rule.code ∷ [])

-- a subsystem's line, and those of its rules
abbrev pub sub_lines : Sub → List ℕ
sub_lines sub =
    line (codes "sub" ∷ name_word sub.name ∷ calls_word sub.up sub.down ∷ kind_word sub.multi ∷ [])
    ++ flat_map rule_line sub.plan

-- how many processors are possible, and which of them are absent
unfoldable pub processor_lines : Head → List ℕ
processor_lines head =
    line (codes "cpus" ∷ decimal head.possible ∷ []) ++ line (codes "absent" ∷ list_words (map decimal head.absent))

abbrev pub version_word : Version → List ℕ
version_word One = codes "1"
version_word Two = codes "2"

-- the format and its version
unfoldable pub title_line : Version → List ℕ
title_line v = line (codes "cpuhp" ∷ codes "journal" ∷ version_word v ∷ [])

-- what stands before the events
unfoldable pub head_text : Version → Head → List ℕ
head_text v head =
    title_line v
    ++ processor_lines head
    ++ flat_map sub_lines head.subs
    ++ line (codes "events" ∷ [])

-- the lines of events that follow others
abbrev pub event_lines : Version → (before : List Event) → List Event → List ℕ
event_lines v before [] = []
event_lines v before (e ∷ es) = event_line v (operation_number before e) e ++ event_lines v (before ++ e ∷ []) es

unfoldable pub journal_text : Version → Head → List Event → List ℕ
journal_text v head events =
    head_text v head ++ event_lines v [] events ++ line (codes "end" ∷ decimal (length events) ∷ [])

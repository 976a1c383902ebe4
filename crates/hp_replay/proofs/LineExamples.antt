-- Lines and what they say: examples of the grammar's corners. All hold by computing the definitions.
use Rattle.std.proofs.Common.{◌≡◌, ℕ, true, false, List, [], ◌∷◌, ◌++◌, map, Option, Some, None, refl}
use Rattle.std.specs.Prelude.{codes, decimal, pos, negsuc}
use Rattle.std.specs.Fmt.{digits}
use Rattle.hp_states.specs.declared.dir.Dir.TheVariants as dir
use Rattle.hp_states.specs.declared.limits.TheConstants.{MAX_EVENTS}
use Rattle.hp_event.specs.declared.op.Op.TheVariants.{Up, Target, Setup, Freeze}
use Rattle.hp_event.specs.declared.how.How.TheVariants.{RanOk, RanFault}
use Rattle.hp_event.specs.declared.answer.Answer.TheVariants.{Ok, Refused as RefusedWith, Stuck, LogFull}
use Rattle.hp_event.specs.declared.event.Role.TheVariants.{Client, Ap}
use Rattle.hp_event.specs.declared.event.File.TheVariants.{State, States}
use Rattle.hp_event.specs.declared.event.Event.TheVariants.{Admit, Leave, Enter, Refused, Call, WalkEnd, OpEnd, RegBegin, RegEnd, ReadLock, ReadUnlock, Armed, Shown, Wakeup}
use Rattle.hp_text.specs.Numbers.{number_below, integer}
use Rattle.hp_replay.specs.LineWords.{words_at}
use Rattle.hp_text.specs.Flags.{flags, form}
use Rattle.hp_text.specs.FirstWords.{op_word_of, file_of}
use Rattle.hp_text.specs.Sets.{set}
use Rattle.hp_text.specs.OpAt.{op_tail, op_at}
use Rattle.hp_replay.specs.EventAt.{role, how, answer, walk_answer, event, event_at}
use Rattle.hp_event.specs.declared.version.Version.TheVariants.{One, Two}
use Rattle.hp_replay.specs.declared.event.NumberedEvent.{NumberedEvent}
use Rattle.hp_replay.specs.EventAt.{alone, of_operation}
use Rattle.hp_replay.specs.EndAt.{any_number, end_at}
use Rattle.hp_text.specs.Choices.{dir_of, calls_of, kind_of, name_of, any_from}
use Rattle.hp_text.specs.Lists.{number_list_or_dash}
use Rattle.hp_text.specs.Subs.{sub, rule}
use Rattle.hp_replay.specs.HeadLines.{HeadLine, a_sub, a_rule, the_events, cpus_at, absent_at, head_line_at}

-- with its newline
abbrev ended : List ℕ → List ℕ
ended text = text ++ 10 ∷ []

-- ---- event lines

abbrev event_lines : List (List ℕ × Option NumberedEvent)
event_lines =
    (codes "leave 4294967295", Some (alone (Leave 4294967295))) ∷
    (codes "leave 4294967296", None) ∷
    (codes "leave 007", None) ∷
    (codes "leave  7", None) ∷
    (codes "leave 7 ", None) ∷
    (codes " leave 7", None) ∷
    (codes "leave", None) ∷
    (codes "leave -1", None) ∷
    (codes "leave 7 7", None) ∷
    (codes "admit 2 client", Some (alone (Admit 2 Client))) ∷
    (codes "admit 1 ap 1", Some (alone (Admit 1 (Ap 1)))) ∷
    (codes "admit 1 ap", None) ∷
    (codes "enter 2 7 up 1", Some (of_operation (Some 7) (Enter 2 (Up 1)))) ∷
    (codes "enter 2 0 up 1", Some (of_operation (Some 0) (Enter 2 (Up 1)))) ∷
    (codes "enter 2 4294967296 up 1", None) ∷
    (codes "enter 2 07 up 1", None) ∷
    (codes "enter 2 up 1", None) ∷
    (codes "enter 2 7 target 1 -2147483648", Some (of_operation (Some 7) (Enter 2 (Target 1 (negsuc 2147483647))))) ∷
    (codes "enter 2 7 freeze -1", Some (of_operation (Some 7) (Enter 2 (Freeze (negsuc 0))))) ∷
    (codes "enter 2 7 upmany", None) ∷
    (codes "enter 2 7 upmany ", None) ∷
    (codes "enter 2 7 upmany 256", None) ∷
    (codes "refused 2 7 16 up 1", Some (of_operation (Some 7) (Refused 2 16 (Up 1)))) ∷
    (codes "reg 2 7 120 setup 120 1", Some (of_operation (Some 7) (RegBegin 2 120 (Setup 120 1 (flags false false))))) ∷
    (codes "reg 2 7 120 setup 120 1 nocalls locked", Some (of_operation (Some 7) (RegBegin 2 120 (Setup 120 1 (flags true true))))) ∷
    (codes "reg 2 7 120 up 1", Some (of_operation (Some 7) (RegBegin 2 120 (Up 1)))) ∷
    (codes "call 1 1 150 0 up fault 5", Some (alone (Call 1 1 150 0 dir.Up (RanFault 5)))) ∷
    (codes "call 1 1 120 0 down ok", Some (alone (Call 1 1 120 0 dir.Down RanOk))) ∷
    (codes "walked 2 1 ok", Some (alone (WalkEnd 2 1 (Ok (pos 0))))) ∷
    (codes "walked 2 1 ok 0", None) ∷
    (codes "walked 2 1 full", None) ∷
    (codes "walked 2 1 refused 16", None) ∷
    (codes "done 2 7 stuck 7 9 149", Some (of_operation (Some 7) (OpEnd 2 (Stuck 7 9 149)))) ∷
    (codes "done 2 7 ok -1", Some (of_operation (Some 7) (OpEnd 2 (Ok (negsuc 0))))) ∷
    (codes "done 2 7 refused 22", Some (of_operation (Some 7) (OpEnd 2 (RefusedWith 22)))) ∷
    (codes "regged 2 7 full", Some (of_operation (Some 7) (RegEnd 2 LogFull))) ∷
    (codes "lock 2 7", Some (of_operation (Some 7) (ReadLock 2))) ∷
    (codes "lock 2", None) ∷
    (codes "unlock 2 7", Some (of_operation (Some 7) (ReadUnlock 2))) ∷
    (codes "armed 2 7 1 120", Some (of_operation (Some 7) (Armed 2 1 (pos 120)))) ∷
    (codes "shown 4 7 states 9", Some (of_operation (Some 7) (Shown 4 States 0 (pos 9)))) ∷
    (codes "shown 4 7 state 1 200", Some (of_operation (Some 7) (Shown 4 State 1 (pos 200)))) ∷
    (codes "wakeup 4 7", Some (of_operation (Some 7) (Wakeup 4))) ∷
    (codes "end 3", None) ∷
    []

event_lines_say : map (λ row. event_at Two (ended row.0)) event_lines ≡ map (λ row. row.1) event_lines
unfolding event_at words_at event op_at op_tail op_word_of file_of set form number_below integer dir_of role how answer walk_answer
event_lines_say = refl

-- in version 1

abbrev first_lines : List (List ℕ × Option NumberedEvent)
first_lines =
    (codes "leave 7", Some (alone (Leave 7))) ∷
    (codes "enter 2 up 1", Some (of_operation None (Enter 2 (Up 1)))) ∷
    (codes "enter 2 7 up 1", None) ∷
    (codes "refused 2 16 up 1", Some (of_operation None (Refused 2 16 (Up 1)))) ∷
    (codes "reg 2 120 setup 120 1", Some (of_operation None (RegBegin 2 120 (Setup 120 1 (flags false false))))) ∷
    (codes "done 2 ok -1", Some (of_operation None (OpEnd 2 (Ok (negsuc 0))))) ∷
    (codes "regged 2 full", Some (of_operation None (RegEnd 2 LogFull))) ∷
    (codes "lock 2", Some (of_operation None (ReadLock 2))) ∷
    (codes "lock 2 7", None) ∷
    (codes "shown 4 states 9", Some (of_operation None (Shown 4 States 0 (pos 9)))) ∷
    (codes "call 1 1 120 0 down ok", Some (alone (Call 1 1 120 0 dir.Down RanOk))) ∷
    []

first_lines_say : map (λ row. event_at One (ended row.0)) first_lines ≡ map (λ row. row.1) first_lines
unfolding event_at words_at event op_at op_tail op_word_of file_of set form number_below integer dir_of role how answer walk_answer
first_lines_say = refl

no_newline : event_at Two (codes "leave 7") ≡ None
unfolding event_at words_at
no_newline = refl

-- ---- end lines

abbrev end_lines : List (List ℕ × Option ℕ)
end_lines =
    (codes "end 15", Some 15) ∷
    (codes "end 007", None) ∷
    (codes "end -1", None) ∷
    (codes "end", None) ∷
    (codes "end 0", Some 0) ∷
    (codes "end 99999999999999999999999999", Some 99999999999999999999999999) ∷
    (codes "end 1 1", None) ∷
    []

end_lines_say : map (λ row. end_at (ended row.0)) end_lines ≡ map (λ row. row.1) end_lines
unfolding end_at words_at any_number
end_lines_say = refl

-- ---- the lines before the events

abbrev cpus_lines : List (List ℕ × Option ℕ)
cpus_lines =
    (codes "cpus 2", Some 2) ∷
    (codes "cpus 64", Some 64) ∷
    (codes "cpus 65", None) ∷
    (codes "cpus 0", None) ∷
    (codes "cpus 02", None) ∷
    (codes "cpus", None) ∷
    []

cpus_lines_say : map (λ row. cpus_at One (ended row.0)) cpus_lines ≡ map (λ row. row.1) cpus_lines
unfolding cpus_at words_at number_below
cpus_lines_say = refl

abbrev absent_lines : List (List ℕ × Option (List ℕ))
absent_lines =
    (codes "absent -", Some []) ∷
    (codes "absent 1 3", Some (1 ∷ 3 ∷ [])) ∷
    (codes "absent 3 1", None) ∷
    (codes "absent 1 1", None) ∷
    (codes "absent 0", None) ∷
    (codes "absent 4", None) ∷
    (codes "absent - 1", None) ∷
    (codes "absent 1 -", None) ∷
    (codes "absent", None) ∷
    []

absent_lines_say : map (λ row. absent_at 4 (ended row.0)) absent_lines ≡ map (λ row. row.1) absent_lines
unfolding absent_at words_at number_below number_list_or_dash
absent_lines_say = refl

one_processor : absent_at 1 (ended (codes "absent 1")) ≡ None
unfolding absent_at words_at number_below number_list_or_dash
one_processor = refl

abbrev head_lines : List (List ℕ × Option HeadLine)
head_lines =
    (codes "sub net:a both single", Some (a_sub (record { name = codes "net:a"; up = true; down = true; multi = false; plan = [] }))) ∷
    (codes "sub - none multi", Some (a_sub (record { name = []; up = false; down = false; multi = true; plan = [] }))) ∷
    (codes "sub a_b/c.d-E9 down multi", Some (a_sub (record { name = codes "a_b/c.d-E9"; up = false; down = true; multi = true; plan = [] }))) ∷
    (codes "rule up 1 * * 5", Some (a_rule (record { dir = dir.Up; cpu = Some 1; inst = None; nth = None; code = 5 }))) ∷
    (codes "rule up 255 65535 " ++ decimal MAX_EVENTS ++ codes " 4095", Some (a_rule (record { dir = dir.Up; cpu = Some 255; inst = Some 65535; nth = Some MAX_EVENTS; code = 4095 }))) ∷
    (codes "rule up 256 * * 5", None) ∷
    (codes "events", Some the_events) ∷
    (codes "events 3", None) ∷
    []

head_lines_say : map (λ row. head_line_at (ended row.0)) head_lines ≡ map (λ row. row.1) head_lines
unfolding head_line_at digits words_at name_of calls_of kind_of dir_of any_from number_below sub rule
head_lines_say = refl

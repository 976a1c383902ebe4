-- Whole inputs and what is answered to them: examples.
use Rattle.std.proofs.Common.{◌≡◌, ℕ, true, false, List, [], ◌∷◌, ◌++◌, map, Some, None, refl, ap, ◌∙◌, arith}
use Rattle.std.specs.Prelude.{codes, decimal}
use Rattle.std.proofs.lemmas.Fmt.{decimal_digit, decimal_step}
use Rattle.hp_states.specs.declared.dir.Dir.TheVariants as dir
use Rattle.hp_event.specs.declared.head.Head.{Head}
use Rattle.hp_event.specs.declared.op.Op.TheVariants.{Setup}
use Rattle.hp_event.specs.declared.event.Role.TheVariants.{Client, Ap}
use Rattle.hp_event.specs.declared.event.Event.{Event}
use Rattle.hp_event.specs.declared.event.Event.TheVariants.{Admit, RegBegin}
use Rattle.hp_event.specs.declared.version.Version.TheVariants.{Two}
use Rattle.hp_model.specs.OperationNumber.{operations_of}
use Rattle.hp_model.specs.JournalText.{title_line}
use Rattle.hp_model.specs.Summary.{summary, cpu_lines, cpu_line, disabled_line, recorded, frozen_line, sub_lines_below, ops_line, events_line, answered_by}
use Rattle.hp_model.specs.Net.{entered, keys_in_force}
use Rattle.hp_model.specs.Settled.{settled}
use Rattle.hp_model.specs.Registered.{registered}
use Rattle.hp_model.specs.Suspend.{disabled, frozen}
use Rattle.hp_replay.specs.declared.error.ReplayKind.TheVariants.{Header, Syntax, Unlawful, Count, Trailing, Missing}
use Rattle.hp_text.specs.Numbers.{number_below, integer}
use Rattle.hp_replay.specs.LineWords.{words_at}
use Rattle.hp_text.specs.Flags.{flags, form}
use Rattle.hp_text.specs.FirstWords.{op_word_of, file_of}
use Rattle.hp_text.specs.Sets.{set}
use Rattle.hp_text.specs.OpAt.{op_tail, op_at}
use Rattle.hp_replay.specs.EventAt.{role, how, answer, walk_answer, event, event_at}
use Rattle.hp_replay.specs.EndAt.{any_number, end_at}
use Rattle.hp_text.specs.Choices.{dir_of, calls_of, kind_of, name_of, any_from}
use Rattle.hp_text.specs.Lists.{number_list_or_dash}
use Rattle.hp_text.specs.Subs.{sub, rule}
use Rattle.hp_replay.specs.HeadLines.{cpus_at, absent_at, head_line_at}
use Rattle.hp_replay.specs.InputLines.{lines_of}
use Rattle.hp_replay.specs.Stages.{begins, step}
use Rattle.hp_replay.specs.Judged.{Outcome, accepted, refused}
use Rattle.hp_replay.specs.Judge.{Test, judge}

-- ---- whole inputs, where each event stands, or none

abbrev always : Test
always head events e = true

abbrev never : Test
never head events e = false

abbrev the_head : Head
the_head = record {
  possible = 2;
  absent = [];
  subs =
      record { name = codes "net:a"; up = true; down = true; multi = false; plan = [] }
      ∷ record { name = codes "net:b"; up = true; down = true; multi = false; plan = record { dir = dir.Up; cpu = Some 1; inst = None; nth = None; code = 5 } ∷ [] } ∷ [];
}

abbrev four : List Event
four = Admit 0 (Ap 0) ∷ Admit 1 (Ap 1) ∷ Admit 2 Client ∷ RegBegin 2 120 (Setup 120 1 (flags false false)) ∷ []

abbrev inputs : List (Test × List ℕ × Outcome)
inputs =
    (always, codes "cpuhp journal 2" ++ (10 ∷ (codes "cpus 2" ++ (10 ∷ (codes "absent -" ++ (10 ∷ (codes "sub net:a both single" ++ (10 ∷ (codes "sub net:b both single" ++ (10 ∷ (codes "rule up 1 * * 5" ++ (10 ∷ (codes "events" ++ (10 ∷ (codes "admit 0 ap 0" ++ (10 ∷ (codes "admit 1 ap 1" ++ (10 ∷ (codes "admit 2 client" ++ (10 ∷ (codes "reg 2 1 120 setup 120 1" ++ (10 ∷ (codes "end 4" ++ (10 ∷ ([])))))))))))))))))))))))), accepted the_head four) ∷
    (always, codes "cpuhp journal 2" ++ (10 ∷ (codes "cpus 2" ++ (10 ∷ (codes "absent -" ++ (10 ∷ (codes "sub net:a both single" ++ (10 ∷ (codes "sub net:b both single" ++ (10 ∷ (codes "rule up 1 * * 5" ++ (10 ∷ (codes "events" ++ (10 ∷ (codes "admit 0 ap 0" ++ (10 ∷ (codes "admit 1 ap 1" ++ (10 ∷ (codes "admit 2 client" ++ (10 ∷ (codes "reg 2 2 120 setup 120 1" ++ (10 ∷ (codes "end 4" ++ (10 ∷ ([])))))))))))))))))))))))), refused 11 Unlawful) ∷
    (always, codes "cpuhp journal 2" ++ (10 ∷ (codes "cpus 2" ++ (10 ∷ (codes "absent -" ++ (10 ∷ (codes "sub net:a both single" ++ (10 ∷ (codes "sub net:b both single" ++ (10 ∷ (codes "rule up 1 * * 5" ++ (10 ∷ (codes "events" ++ (10 ∷ (codes "admit 0 ap 0" ++ (10 ∷ (codes "admit 1 ap 1" ++ (10 ∷ (codes "admit 2 client" ++ (10 ∷ (codes "reg 2 120 setup 120 1" ++ (10 ∷ (codes "end 4" ++ (10 ∷ ([])))))))))))))))))))))))), refused 11 Syntax) ∷
    (never, codes "cpuhp journal 2" ++ (10 ∷ (codes "cpus 2" ++ (10 ∷ (codes "absent -" ++ (10 ∷ (codes "sub net:a both single" ++ (10 ∷ (codes "sub net:b both single" ++ (10 ∷ (codes "rule up 1 * * 5" ++ (10 ∷ (codes "events" ++ (10 ∷ (codes "admit 0 ap 0" ++ (10 ∷ (codes "admit 1 ap 1" ++ (10 ∷ (codes "admit 2 client" ++ (10 ∷ (codes "reg 2 1 120 setup 120 1" ++ (10 ∷ (codes "end 4" ++ (10 ∷ ([])))))))))))))))))))))))), refused 8 Unlawful) ∷
    (always, codes "cpuhp journal 2" ++ (10 ∷ (codes "cpus 2" ++ (10 ∷ (codes "absent -" ++ (10 ∷ (codes "sub net:a both single" ++ (10 ∷ (codes "sub net:b both single" ++ (10 ∷ (codes "rule up 1 * * 5" ++ (10 ∷ (codes "events" ++ (10 ∷ (codes "admit 0 ap 0" ++ (10 ∷ (codes "admit 1 ap 1" ++ (10 ∷ (codes "admit 2 client" ++ (10 ∷ (codes "reg 2 1 120 setup 120 1" ++ (10 ∷ (codes "end 4")))))))))))))))))))))), refused 12 Syntax) ∷
    (always, codes "cpuhp journal 2" ++ (10 ∷ (codes "cpus 2" ++ (10 ∷ (codes "absent -" ++ (10 ∷ (codes "sub net:a both single" ++ (10 ∷ (codes "sub net:b both single" ++ (10 ∷ (codes "rule up 1 * * 5" ++ (10 ∷ (codes "events" ++ (10 ∷ (codes "admit 0 ap 0" ++ (10 ∷ (codes "admit 1 ap 1" ++ (10 ∷ (codes "admit 2 client" ++ (10 ∷ (codes "reg 2 1 120 setup 120 1" ++ (10 ∷ (codes "end 5" ++ (10 ∷ ([])))))))))))))))))))))))), refused 12 Count) ∷
    (always, codes "cpuhp journal 2" ++ (10 ∷ (codes "cpus 2" ++ (10 ∷ (codes "absent -" ++ (10 ∷ (codes "sub net:a both single" ++ (10 ∷ (codes "sub net:b both single" ++ (10 ∷ (codes "rule up 1 * * 5" ++ (10 ∷ (codes "events" ++ (10 ∷ (codes "admit 0 ap 0" ++ (10 ∷ (codes "admit 1 ap 1" ++ (10 ∷ (codes "admit 2 client" ++ (10 ∷ (codes "reg 2 1 120 setup 120 1" ++ (10 ∷ ([])))))))))))))))))))))), refused 12 Missing) ∷
    (always, codes "cpuhp journal 2" ++ (10 ∷ (codes "cpus 2" ++ (10 ∷ (codes "absent -" ++ (10 ∷ (codes "sub net:a both single" ++ (10 ∷ (codes "sub net:b both single" ++ (10 ∷ (codes "rule up 1 * * 5" ++ (10 ∷ (codes "events" ++ (10 ∷ (codes "admit 0 ap 0" ++ (10 ∷ (codes "admit 1 ap 1" ++ (10 ∷ (codes "admit 2 clients" ++ (10 ∷ (codes "reg 2 1 120 setup 120 1" ++ (10 ∷ (codes "end 4" ++ (10 ∷ ([])))))))))))))))))))))))), refused 10 Syntax) ∷
    (always, codes "cpuhp journal 2" ++ (10 ∷ (codes "cpus 2" ++ (10 ∷ (codes "absent -" ++ (10 ∷ (codes "sub net:a both single" ++ (10 ∷ (codes "sub net:b both single" ++ (10 ∷ (codes "rule up 256 * * 5" ++ (10 ∷ (codes "events" ++ (10 ∷ (codes "admit 0 ap 0" ++ (10 ∷ (codes "admit 1 ap 1" ++ (10 ∷ (codes "admit 2 client" ++ (10 ∷ (codes "reg 2 1 120 setup 120 1" ++ (10 ∷ (codes "end 4" ++ (10 ∷ ([])))))))))))))))))))))))), refused 6 Header) ∷
    (always, codes "cpuhp journal 2" ++ (10 ∷ (codes "cpus 2" ++ (10 ∷ (codes "absent -" ++ (10 ∷ (codes "sub net:a both single" ++ (10 ∷ (codes "sub net:b both single" ++ (10 ∷ (codes "rule up 1 * * 5" ++ (10 ∷ (codes "event" ++ (10 ∷ (codes "admit 0 ap 0" ++ (10 ∷ (codes "admit 1 ap 1" ++ (10 ∷ (codes "admit 2 client" ++ (10 ∷ (codes "reg 2 1 120 setup 120 1" ++ (10 ∷ (codes "end 4" ++ (10 ∷ ([])))))))))))))))))))))))), refused 7 Header) ∷
    (always, [], refused 1 Missing) ∷
    (always, codes "cpuhp journal 2", refused 1 Header) ∷
    (always, codes "cpuhp journal 1" ++ (10 ∷ ([])), refused 1 Header) ∷
    (always, codes "cpuhp journal 2" ++ (10 ∷ (codes "cpus 2" ++ (10 ∷ ([])))), refused 3 Missing) ∷
    (always, codes "cpuhp journal 2" ++ (10 ∷ (codes "cpus 2" ++ (10 ∷ (codes "absent -" ++ (10 ∷ (codes "rule up * * * 5" ++ (10 ∷ ([])))))))), refused 4 Header) ∷
    (always, codes "cpuhp journal 2" ++ (10 ∷ (codes "cpus 2" ++ (10 ∷ (codes "" ++ (10 ∷ (codes "absent -" ++ (10 ∷ ([])))))))), refused 3 Header) ∷
    []

inputs_judged : map (λ row. judge Two row.0 begins 1 (lines_of row.1)) inputs ≡ map (λ row. row.2) inputs
unfolding step title_line operations_of lines_of event_at words_at event op_at op_tail op_word_of file_of set form number_below integer dir_of role how answer walk_answer end_at any_number cpus_at absent_at head_line_at name_of calls_of kind_of any_from number_list_or_dash sub rule
inputs_judged = refl

-- ---- the summary of a journal without events

abbrev bare : Head
bare = record { possible = 1; absent = []; subs = [] }

zero_is : decimal 0 ≡ codes "0"
zero_is = decimal_digit 0 (omega arith)

two_hundred_is : decimal 200 ≡ codes "200"
two_hundred_is =
    decimal_step 200 (omega arith) (omega arith)
    ∙ ap (λ (x : List ℕ). x ++ 48 ∷ []) (decimal_step 20 (omega arith) (omega arith) ∙ ap (λ (x : List ℕ). x ++ 48 ∷ []) (decimal_digit 2 (omega arith)))

bare_summary : summary bare [] ≡ codes "cpu 0 present state 200 keys -" ++ (10 ∷ (codes "disabled 0" ++ (10 ∷ (codes "frozen -" ++ (10 ∷ (codes "ops ok 0 refused 0 fault 0 stuck 0 full 0" ++ (10 ∷ (codes "events 0" ++ (10 ∷ ([]))))))))))
unfolding summary cpu_lines cpu_line disabled_line recorded frozen_line sub_lines_below ops_line events_line answered_by entered keys_in_force settled registered disabled frozen
bare_summary = rw (two_hundred_is, zero_is) refl

abbrev summaries : List (Test × List ℕ × Outcome)
summaries =
    (always, codes "cpuhp journal 2" ++ (10 ∷ (codes "cpus 1" ++ (10 ∷ (codes "absent -" ++ (10 ∷ (codes "events" ++ (10 ∷ (codes "end 0" ++ (10 ∷ ([])))))))))), accepted bare []) ∷
    (always, codes "cpuhp journal 2" ++ (10 ∷ (codes "cpus 1" ++ (10 ∷ (codes "absent -" ++ (10 ∷ (codes "events" ++ (10 ∷ (codes "end 0" ++ (10 ∷ (codes "cpu 0 present state 200 keys -" ++ (10 ∷ (codes "disabled 0" ++ (10 ∷ (codes "frozen -" ++ (10 ∷ (codes "ops ok 0 refused 0 fault 0 stuck 0 full 0" ++ (10 ∷ (codes "events 0" ++ (10 ∷ ([])))))))))))))))))))), accepted bare []) ∷
    (always, codes "cpuhp journal 2" ++ (10 ∷ (codes "cpus 1" ++ (10 ∷ (codes "absent -" ++ (10 ∷ (codes "events" ++ (10 ∷ (codes "end 0" ++ (10 ∷ (codes "cpu 0 present state 199 keys -" ++ (10 ∷ (codes "disabled 0" ++ (10 ∷ (codes "frozen -" ++ (10 ∷ (codes "ops ok 0 refused 0 fault 0 stuck 0 full 0" ++ (10 ∷ (codes "events 0" ++ (10 ∷ ([])))))))))))))))))))), refused 6 Trailing) ∷
    (always, codes "cpuhp journal 2" ++ (10 ∷ (codes "cpus 1" ++ (10 ∷ (codes "absent -" ++ (10 ∷ (codes "events" ++ (10 ∷ (codes "end 0" ++ (10 ∷ (codes "cpu 0 present state 200 keys -" ++ (10 ∷ (codes "disabled 0" ++ (10 ∷ (codes "frozen -" ++ (10 ∷ (codes "ops ok 0 refused 0 fault 0 stuck 0 full 0" ++ (10 ∷ (codes "events 0" ++ (10 ∷ (codes "events 0" ++ (10 ∷ ([])))))))))))))))))))))), refused 11 Trailing) ∷
    (always, codes "cpuhp journal 2" ++ (10 ∷ (codes "cpus 1" ++ (10 ∷ (codes "absent -" ++ (10 ∷ (codes "events" ++ (10 ∷ (codes "end 0" ++ (10 ∷ (codes "cpu 0 present state 200 keys -" ++ (10 ∷ (codes "disabled 0" ++ (10 ∷ (codes "frozen -" ++ (10 ∷ (codes "ops ok 0 refused 0 fault 0 stuck 0 full 0" ++ (10 ∷ (codes "events 0")))))))))))))))))), refused 10 Trailing) ∷
    (always, codes "cpuhp journal 2" ++ (10 ∷ (codes "cpus 1" ++ (10 ∷ (codes "absent -" ++ (10 ∷ (codes "events" ++ (10 ∷ (codes "end 0" ++ (10 ∷ (codes "cpu 0 present state 200 keys -" ++ (10 ∷ (codes "disabled 0" ++ (10 ∷ (codes "frozen -" ++ (10 ∷ (codes "ops ok 0 refused 0 fault 0 stuck 0 full 0" ++ (10 ∷ ([])))))))))))))))))), refused 10 Missing) ∷
    (always, codes "cpuhp journal 2" ++ (10 ∷ (codes "cpus 1" ++ (10 ∷ (codes "absent -" ++ (10 ∷ (codes "events" ++ (10 ∷ (codes "end 0" ++ (10 ∷ (codes "" ++ (10 ∷ ([])))))))))))), refused 6 Trailing) ∷
    (always, codes "cpuhp journal 2" ++ (10 ∷ (codes "cpus 1" ++ (10 ∷ (codes "absent -" ++ (10 ∷ (codes "events" ++ (10 ∷ (codes "end 0" ++ (10 ∷ (codes "leave 0" ++ (10 ∷ ([])))))))))))), refused 6 Trailing) ∷
    (never, codes "cpuhp journal 2" ++ (10 ∷ (codes "cpus 1" ++ (10 ∷ (codes "absent -" ++ (10 ∷ (codes "events" ++ (10 ∷ (codes "leave 0" ++ (10 ∷ ([])))))))))), refused 5 Unlawful) ∷
    []

summaries_judged : map (λ row. judge Two row.0 begins 1 (lines_of row.1)) summaries ≡ map (λ row. row.2) summaries
unfolding step title_line lines_of event_at words_at event end_at any_number cpus_at absent_at head_line_at any_from number_below number_list_or_dash sub rule dir_of name_of calls_of kind_of
summaries_judged = rw bare_summary refl

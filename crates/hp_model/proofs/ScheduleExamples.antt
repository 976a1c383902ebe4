-- Further runs of scripts, computed: by a schedule of drawn turns, by the target file, with a wakeup before a freeze, and with a
-- whole dynamic range. What each journal is to be was written by hand, from the rules.
use Rattle.std.proofs.Common.{◌≡◌, true, false, List, [], ◌∷◌, refl}
use Rattle.std.specs.Prelude.{pos, codes, filter_map}
use Rattle.hp_model.specs.Events.{answer_by}
use Rattle.hp_states.specs.declared.dir.Dir.TheVariants.{Up, Down}
use Rattle.hp_event.specs.declared.how.How.TheVariants.{RanOk}
use Rattle.hp_event.specs.declared.answer.Answer.TheVariants.{Ok}
use Rattle.hp_event.specs.declared.answer.Answer.TheVariants as answer
use Rattle.hp_event.specs.declared.op.Op.{Op}
use Rattle.hp_event.specs.declared.op.Op.TheVariants.{Target, ShowState, Setup, Freeze, Thaw}
use Rattle.hp_event.specs.declared.event.File.TheVariants as file
use Rattle.hp_event.specs.declared.event.Role.TheVariants.{Client, Ap}
use Rattle.hp_event.specs.declared.head.Head.{Head}
use Rattle.hp_event.specs.declared.event.Event.TheVariants.{Admit, Enter, Refused, WalkBegin, Call, WalkEnd, OpEnd, RegBegin, RegEnd, ReadLock, ReadUnlock, Shown, Wakeup}
use Rattle.hp_model.specs.Walks.{walk, walking, walk_entries}
use Rattle.hp_model.specs.Registrations.{registration, registration_entries}
use Rattle.hp_model.specs.Registered.{registered, instance_count}
use Rattle.hp_model.specs.Resolved.{lowest_free}
use Rattle.hp_model.specs.Settled.{settled}
use Rattle.hp_model.specs.Calls.{sites}
use Rattle.hp_model.specs.Armed.{armed}
use Rattle.hp_model.specs.Sequence.{answers, begun}
use Rattle.hp_model.specs.Suspend.{disabled, frozen, wakeup_pending}
use Rattle.hp_model.specs.MapLock.{operation}
use Rattle.hp_model.specs.Readers.{reading_since, readers}
use Rattle.hp_model.specs.Seats.{role_of, ap_seat, seats}
use Rattle.hp_model.specs.Promised.{promised, promised_to_walks}
use Rattle.hp_model.specs.Files.{named_states}
use Rattle.hp_model.specs.UnderWay.{under_way}
use Rattle.hp_model.specs.NextEvent.{due_entry, next_event, is_full}
use Rattle.hp_model.specs.ScriptTurns.{RunState, after_turns}
use Rattle.hp_model.specs.ScriptRun.{is_over, after_rounds}
use Rattle.hp_model.specs.Schedule.{first_turns, mix}
use Rattle.hp_model.proofs.RunExamples.{plain}

abbrev mixed_head : Head
mixed_head =
    record { possible = 2; absent = []; subs = record { name = codes "net:a"; up = true; down = true; multi = false; plan = [] } ∷ [] }

abbrev mixed_actors : List (List Op)
mixed_actors = (Setup 120 1 plain ∷ Op.Up 1 ∷ []) ∷ (Op.Lock ∷ ShowState 1 ∷ Op.Unlock ∷ []) ∷ []

abbrev mixed_progress : RunState
mixed_progress = after_rounds mixed_head mixed_actors (first_turns 4 (mix 42 12)) 8

-- twelve turns drawn from 42, and closing rounds
mixed : mixed_progress.events ≡ Admit 0 (Ap 0) ∷ Admit 1 (Ap 1) ∷ Admit 2 Client ∷ Admit 3 Client ∷ RegBegin 2 120 (Setup 120 1 plain) ∷ ReadLock 3 ∷ Call 0 0 120 0 Up RanOk ∷ RegEnd 2 (Ok (pos 0)) ∷ Enter 2 (Op.Up 1) ∷ Shown 3 file.State 1 (pos 0) ∷ ReadUnlock 3 ∷ WalkBegin 2 1 0 200 ∷ Call 1 1 120 0 Up RanOk ∷ WalkEnd 2 1 (Ok (pos 0)) ∷ OpEnd 2 (Ok (pos 0)) ∷ []
unfolding walk walking walk_entries registration registration_entries operation reading_since readers role_of ap_seat seats promised promised_to_walks under_way due_entry next_event is_full after_turns registered settled sites armed answers begun disabled frozen wakeup_pending lowest_free instance_count named_states
mixed = refl

mixed_over : is_over mixed_actors mixed_progress ≡ true
unfolding walk walking walk_entries registration registration_entries operation reading_since readers role_of ap_seat seats promised promised_to_walks under_way due_entry next_event is_full after_turns registered settled sites armed answers begun disabled frozen wakeup_pending lowest_free instance_count named_states
mixed_over = refl

abbrev target_file_head : Head
target_file_head =
    record { possible = 2; absent = []; subs = record { name = codes "net:a"; up = true; down = true; multi = false; plan = [] } ∷ [] }

abbrev target_file_actors : List (List Op)
target_file_actors = (Setup 150 1 plain ∷ Target 1 (pos 150) ∷ ShowState 1 ∷ Target 1 (pos 120) ∷ Target 1 (pos 0) ∷ []) ∷ []

abbrev target_file_progress : RunState
target_file_progress = after_rounds target_file_head target_file_actors [] 20

-- up to a state where one can stop, and down from it
target_file : target_file_progress.events ≡ Admit 0 (Ap 0) ∷ Admit 1 (Ap 1) ∷ Admit 2 Client ∷ RegBegin 2 150 (Setup 150 1 plain) ∷ Call 0 0 150 0 Up RanOk ∷ RegEnd 2 (Ok (pos 0)) ∷ Enter 2 (Target 1 (pos 150)) ∷ WalkBegin 2 1 0 150 ∷ Call 1 1 150 0 Up RanOk ∷ WalkEnd 2 1 (Ok (pos 0)) ∷ OpEnd 2 (Ok (pos 0)) ∷ Shown 2 file.State 1 (pos 150) ∷ Refused 2 22 (Target 1 (pos 120)) ∷ Enter 2 (Target 1 (pos 0)) ∷ WalkBegin 2 1 150 0 ∷ Call 1 1 150 0 Down RanOk ∷ WalkEnd 2 1 (Ok (pos 0)) ∷ OpEnd 2 (Ok (pos 0)) ∷ []
unfolding walk walking walk_entries registration registration_entries operation reading_since readers role_of ap_seat seats promised promised_to_walks under_way due_entry next_event is_full after_turns registered settled sites armed answers begun disabled frozen wakeup_pending lowest_free instance_count named_states
target_file = refl

target_file_over : is_over target_file_actors target_file_progress ≡ true
unfolding walk walking walk_entries registration registration_entries operation reading_since readers role_of ap_seat seats promised promised_to_walks under_way due_entry next_event is_full after_turns registered settled sites armed answers begun disabled frozen wakeup_pending lowest_free instance_count named_states
target_file_over = refl

-- and what its operations are answered
target_file_answers : filter_map answer_by target_file_progress.events ≡ Ok (pos 0) ∷ Ok (pos 0) ∷ Ok (pos 150) ∷ answer.Refused 22 ∷ Ok (pos 0) ∷ []
unfolding walk walking walk_entries registration registration_entries operation reading_since readers role_of ap_seat seats promised promised_to_walks under_way due_entry next_event is_full after_turns registered settled sites armed answers begun disabled frozen wakeup_pending lowest_free instance_count named_states
target_file_answers = refl

abbrev wakeup_stops_head : Head
wakeup_stops_head =
    record { possible = 2; absent = []; subs = [] }

abbrev wakeup_stops_actors : List (List Op)
wakeup_stops_actors = (Op.Up 1 ∷ Op.Wakeup ∷ Freeze (pos 0) ∷ Op.Down 1 ∷ Thaw ∷ []) ∷ []

abbrev wakeup_stops_progress : RunState
wakeup_stops_progress = after_rounds wakeup_stops_head wakeup_stops_actors [] 20

-- a pending wakeup ends a freeze before its walk
wakeup_stops : wakeup_stops_progress.events ≡ Admit 0 (Ap 0) ∷ Admit 1 (Ap 1) ∷ Admit 2 Client ∷ Enter 2 (Op.Up 1) ∷ WalkBegin 2 1 0 200 ∷ WalkEnd 2 1 (Ok (pos 0)) ∷ OpEnd 2 (Ok (pos 0)) ∷ Wakeup 2 ∷ Enter 2 (Freeze (pos 0)) ∷ OpEnd 2 (answer.Refused 16) ∷ Refused 2 16 (Op.Down 1) ∷ Enter 2 Thaw ∷ OpEnd 2 (Ok (pos 0)) ∷ []
unfolding walk walking walk_entries registration registration_entries operation reading_since readers role_of ap_seat seats promised promised_to_walks under_way due_entry next_event is_full after_turns registered settled sites armed answers begun disabled frozen wakeup_pending lowest_free instance_count named_states
wakeup_stops = refl

wakeup_stops_over : is_over wakeup_stops_actors wakeup_stops_progress ≡ true
unfolding walk walking walk_entries registration registration_entries operation reading_since readers role_of ap_seat seats promised promised_to_walks under_way due_entry next_event is_full after_turns registered settled sites armed answers begun disabled frozen wakeup_pending lowest_free instance_count named_states
wakeup_stops_over = refl

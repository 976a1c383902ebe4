-- Upmanys, computed: what each journal is to be was written by hand, from the rules.
use Rattle.std.proofs.Common.{◌≡◌, true, false, Some, None, List, [], ◌∷◌, drop, refl}
use Rattle.std.specs.Prelude.{pos, codes}
use Rattle.hp_states.specs.declared.cpu_set.CpuSet.{CpuSet}
use Rattle.hp_states.specs.CpuSets.{has}
use Rattle.hp_states.specs.declared.dir.Dir.TheVariants.{Up, Down}
use Rattle.hp_event.specs.declared.op.Form.{Form}
use Rattle.hp_event.specs.declared.how.How.TheVariants.{RanOk, RanFault}
use Rattle.hp_event.specs.declared.answer.Answer.TheVariants.{Ok, Fault}
use Rattle.hp_event.specs.declared.op.Op.{Op}
use Rattle.hp_event.specs.declared.op.Op.TheVariants.{Setup, UpMany, Lock}
use Rattle.hp_event.specs.declared.head.Head.{Head}
use Rattle.hp_event.specs.declared.event.Event.{Event}
use Rattle.hp_event.specs.declared.event.Event.TheVariants.{Enter, Refused, WalkBegin, Call, WalkEnd, OpEnd}
use Rattle.hp_model.specs.Listed.{listed}
use Rattle.hp_model.specs.Walks.{walk, walking, walk_entries}
use Rattle.hp_model.specs.Registrations.{registration, registration_entries}
use Rattle.hp_model.specs.Registered.{registered, instance_count}
use Rattle.hp_model.specs.Resolved.{lowest_free}
use Rattle.hp_model.specs.Settled.{settled}
use Rattle.hp_model.specs.Calls.{sites}
use Rattle.hp_model.specs.Armed.{armed}
use Rattle.hp_model.specs.Batch.{begun}
use Rattle.hp_model.specs.Sequence.{answers}
use Rattle.hp_model.specs.Suspend.{disabled, frozen, wakeup_pending}
use Rattle.hp_model.specs.MapLock.{operation}
use Rattle.hp_model.specs.Readers.{reading_since, readers}
use Rattle.hp_model.specs.Seats.{role_of, ap_seat, seats}
use Rattle.hp_model.specs.Waits.{writer_in, wait_to_begin}
use Rattle.hp_model.specs.Promised.{promised, promised_to_walks}
use Rattle.hp_model.specs.Files.{named_states}
use Rattle.hp_model.specs.BatchTurn.{last_event, turn_of, lowest_walking}
use Rattle.hp_model.specs.UnderWay.{under_way}
use Rattle.hp_model.specs.NextEvent.{due_entry, next_event, is_full}
use Rattle.hp_model.specs.ScriptTurns.{after_turns}
use Rattle.hp_model.specs.ScriptRun.{is_over, after_rounds}

abbrev plain : Form
plain = record { nocalls = false; locked = false }

abbrev many_head : Head
many_head = record { possible = 3; absent = []; subs = record { name = codes "net:p"; up = true; down = true; multi = false; plan = [] } ∷ record { name = codes "net:b"; up = true; down = true; multi = false; plan = record { dir = Up; cpu = Some 2; inst = None; nth = None; code = 5 } ∷ [] } ∷ [] }

-- the processors 1 and 2
abbrev one_and_two : CpuSet
one_and_two = record { words = 6 ∷ 0 ∷ 0 ∷ 0 ∷ [] }

abbrev many_actors : List (List Op)
many_actors = (Setup 20 1 plain ∷ Setup 150 2 plain ∷ UpMany one_and_two ∷ []) ∷ []

-- by a schedule: an upmany of two processors whose walks go on beside each other, one of them back
many : (drop 10 (after_rounds many_head many_actors (3 ∷ 3 ∷ 3 ∷ 3 ∷ 0 ∷ 3 ∷ 3 ∷ 3 ∷ 3 ∷ 3 ∷ 3 ∷ 2 ∷ 1 ∷ 3 ∷ 3 ∷ 3 ∷ 3 ∷ []) 0).events ≡ Enter 3 (UpMany one_and_two) ∷ WalkBegin 3 1 0 200 ∷ WalkBegin 3 2 0 200 ∷ Call 3 1 20 0 Up RanOk ∷ Call 3 2 20 0 Up RanOk ∷ Call 2 2 150 0 Up (RanFault 5) ∷ Call 1 1 150 0 Up RanOk ∷ Call 3 2 20 0 Down RanOk ∷ WalkEnd 3 1 (Ok (pos 0)) ∷ WalkEnd 3 2 (Fault 5) ∷ OpEnd 3 (Ok (pos 1)) ∷ []) × (is_over many_actors (after_rounds many_head many_actors (3 ∷ 3 ∷ 3 ∷ 3 ∷ 0 ∷ 3 ∷ 3 ∷ 3 ∷ 3 ∷ 3 ∷ 3 ∷ 2 ∷ 1 ∷ 3 ∷ 3 ∷ 3 ∷ 3 ∷ []) 0) ≡ true)
unfolding walk walking walk_entries registration registration_entries operation reading_since readers role_of ap_seat seats promised promised_to_walks under_way due_entry next_event is_full after_turns registered settled sites armed answers begun disabled frozen wakeup_pending lowest_free instance_count named_states has listed last_event turn_of lowest_walking
many = (refl, refl)

-- a board in the middle: both walks have made the client's entry, and each waits for its processor's thread
abbrev calm_head : Head
calm_head = record { possible = 3; absent = []; subs = record { name = codes "net:p"; up = true; down = true; multi = false; plan = [] } ∷ record { name = codes "net:b"; up = true; down = true; multi = false; plan = [] } ∷ [] }

abbrev middle : List Event
middle = (after_rounds calm_head many_actors (3 ∷ 3 ∷ 3 ∷ 3 ∷ 0 ∷ 3 ∷ 3 ∷ 3 ∷ 3 ∷ 3 ∷ 3 ∷ []) 0).events

threads_are_due : (due_entry calm_head middle 1 ≡ Some (Call 1 1 150 0 Up RanOk)) × (due_entry calm_head middle 2 ≡ Some (Call 2 2 150 0 Up RanOk)) × (next_event calm_head middle 3 (UpMany one_and_two) ≡ None) × (turn_of calm_head middle 3 ≡ None) × (lowest_walking calm_head middle ≡ Some 1) × (wait_to_begin middle Lock ≡ Some (writer_in 3))
unfolding walk walking walk_entries registration registration_entries operation reading_since readers role_of ap_seat seats promised promised_to_walks under_way due_entry next_event is_full after_turns registered settled sites armed answers begun disabled frozen wakeup_pending lowest_free instance_count named_states has listed last_event turn_of lowest_walking
threads_are_due = (refl, refl, refl, refl, refl, refl)

abbrev nobody : CpuSet
nobody = record { words = 0 ∷ 0 ∷ 0 ∷ 0 ∷ [] }

abbrev far : CpuSet
far = record { words = 2 ∷ 0 ∷ 1 ∷ 0 ∷ [] }

abbrev refused_actors : List (List Op)
refused_actors = (UpMany far ∷ UpMany (record { words = 1 ∷ 0 ∷ 0 ∷ 0 ∷ [] }) ∷ UpMany (record { words = 5 ∷ 0 ∷ 0 ∷ 0 ∷ [] }) ∷ []) ∷ []

abbrev two_head : Head
two_head = record { possible = 3; absent = 2 ∷ []; subs = [] }

-- the processor 128 isn't possible, processor 0 is up already, and processor 2 isn't present; an upmany of nobody is none
refusals : (listed far ≡ 1 ∷ 128 ∷ []) × (drop 3 (after_rounds two_head refused_actors [] 4).events ≡ Refused 2 22 (UpMany far) ∷ Enter 2 (UpMany (record { words = 1 ∷ 0 ∷ 0 ∷ 0 ∷ [] })) ∷ OpEnd 2 (Ok (pos 0)) ∷ Refused 2 22 (UpMany (record { words = 5 ∷ 0 ∷ 0 ∷ 0 ∷ [] })) ∷ []) × (is_over refused_actors (after_rounds two_head refused_actors [] 4) ≡ true) × (next_event two_head (after_rounds two_head refused_actors [] 4).events 2 (UpMany nobody) ≡ None)
unfolding walk walking walk_entries registration registration_entries operation reading_since readers role_of ap_seat seats promised promised_to_walks under_way due_entry next_event is_full after_turns registered settled sites armed answers begun disabled frozen wakeup_pending lowest_free instance_count named_states has listed last_event turn_of lowest_walking
refusals = (refl, refl, refl, refl)

-- Runs of small scripts, computed: what each journal is to be was written by hand, from the rules.
use Rattle.std.proofs.Common.{◌≡◌, Bool, true, false, Some, None, List, [], ◌∷◌, drop, refl}
use Rattle.std.specs.Prelude.{pos, negsuc, codes}
use Rattle.hp_states.specs.declared.dir.Dir.TheVariants.{Up, Down}
use Rattle.hp_event.specs.declared.op.Form.{Form}
use Rattle.hp_event.specs.declared.how.How.TheVariants.{RanOk, RanFault, Injected, Empty, Presumed, Overruled}
use Rattle.hp_event.specs.declared.answer.Answer.TheVariants.{Ok, Fault, Stuck}
use Rattle.hp_event.specs.declared.op.Op.{Op}
use Rattle.hp_event.specs.declared.op.Op.TheVariants.{Target, Arm, ShowFail, ShowStates, Setup, Add, Lock, Unlock, Boot, Disable, Freeze, Thaw}
use Rattle.hp_event.specs.declared.event.File.TheVariants as file
use Rattle.hp_event.specs.declared.event.Role.TheVariants.{Client, Ap}
use Rattle.hp_event.specs.declared.head.Head.{Head}
use Rattle.hp_event.specs.declared.event.Event.TheVariants.{Admit, Enter, Refused, WalkBegin, Call, WalkEnd, OpEnd, RegBegin, RegEnd, ReadLock, ReadUnlock, Armed, Shown}
use Rattle.hp_model.specs.Walks.{walk, walking, walk_entries}
use Rattle.hp_model.specs.Registrations.{registration, registration_entries}
use Rattle.hp_model.specs.Registered.{registered, instance_count}
use Rattle.hp_model.specs.Resolved.{lowest_free}
use Rattle.hp_model.specs.Settled.{settled}
use Rattle.hp_model.specs.Calls.{sites}
use Rattle.hp_model.specs.Armed.{armed}
use Rattle.hp_model.specs.Sequence.{answers, begun}
use Rattle.hp_model.specs.Suspend.{disabled, frozen, wakeup_pending}
use Rattle.hp_model.specs.MapLock.{operation}
use Rattle.hp_model.specs.Readers.{reading_since, readers}
use Rattle.hp_model.specs.Seats.{role_of, ap_seat, seats}
use Rattle.hp_model.specs.Promised.{promised, promised_to_walks}
use Rattle.hp_model.specs.Files.{named_states}
use Rattle.hp_model.specs.UnderWay.{under_way}
use Rattle.hp_model.specs.NextEvent.{due_entry, next_event, is_full}
use Rattle.hp_model.specs.ScriptTurns.{after_turns}
use Rattle.hp_model.specs.ScriptRun.{is_over, after_rounds}

abbrev pub form_of : (nocalls locked : Bool) → Form
form_of a b = record { nocalls = a; locked = b }

abbrev pub plain : Form
plain = form_of false false

abbrev two_setups_head : Head
two_setups_head = record { possible = 2; absent = []; subs = record { name = codes "net:a"; up = true; down = true; multi = false; plan = [] } ∷ record { name = codes "net:b"; up = true; down = true; multi = false; plan = [] } ∷ [] }

abbrev two_setups_actors : List (List Op)
two_setups_actors = (Setup 120 1 plain ∷ Setup 150 2 plain ∷ Op.Up 1 ∷ []) ∷ []

-- two setups, and a processor brought up
two_setups : ((after_rounds two_setups_head two_setups_actors [] 9).events ≡ Admit 0 (Ap 0) ∷ Admit 1 (Ap 1) ∷ Admit 2 Client ∷ RegBegin 2 120 (Setup 120 1 plain) ∷ Call 0 0 120 0 Up RanOk ∷ RegEnd 2 (Ok (pos 0)) ∷ RegBegin 2 150 (Setup 150 2 plain) ∷ Call 0 0 150 0 Up RanOk ∷ RegEnd 2 (Ok (pos 0)) ∷ Enter 2 (Op.Up 1) ∷ WalkBegin 2 1 0 200 ∷ Call 1 1 120 0 Up RanOk ∷ Call 1 1 150 0 Up RanOk ∷ WalkEnd 2 1 (Ok (pos 0)) ∷ OpEnd 2 (Ok (pos 0)) ∷ []) × (is_over two_setups_actors (after_rounds two_setups_head two_setups_actors [] 9) ≡ true)
unfolding walk walking walk_entries registration registration_entries operation reading_since readers role_of ap_seat seats promised promised_to_walks under_way due_entry next_event is_full after_turns registered settled sites armed answers begun disabled frozen wakeup_pending lowest_free instance_count named_states
two_setups = (refl, refl)

abbrev turned_back_head : Head
turned_back_head = record { possible = 2; absent = []; subs = record { name = codes "net:a"; up = true; down = true; multi = false; plan = [] } ∷ record { name = codes "net:b"; up = true; down = true; multi = false; plan = record { dir = Up; cpu = Some 1; inst = None; nth = None; code = 5 } ∷ [] } ∷ [] }

abbrev turned_back_actors : List (List Op)
turned_back_actors = (Setup 120 1 plain ∷ Setup 150 2 plain ∷ Op.Up 1 ∷ []) ∷ []

-- a fault on the way up turns the walk back
turned_back : (drop 9 (after_rounds turned_back_head turned_back_actors [] 11).events ≡ Enter 2 (Op.Up 1) ∷ WalkBegin 2 1 0 200 ∷ Call 1 1 120 0 Up RanOk ∷ Call 1 1 150 0 Up (RanFault 5) ∷ Call 1 1 120 0 Down RanOk ∷ WalkEnd 2 1 (Fault 5) ∷ OpEnd 2 (Fault 5) ∷ []) × (is_over turned_back_actors (after_rounds turned_back_head turned_back_actors [] 11) ≡ true)
unfolding walk walking walk_entries registration registration_entries operation reading_since readers role_of ap_seat seats promised promised_to_walks under_way due_entry next_event is_full after_turns registered settled sites armed answers begun disabled frozen wakeup_pending lowest_free instance_count named_states
turned_back = (refl, refl)

abbrev no_startup_head : Head
no_startup_head = record { possible = 2; absent = []; subs = record { name = codes "net:a"; up = false; down = true; multi = false; plan = [] } ∷ record { name = codes "net:b"; up = true; down = true; multi = false; plan = record { dir = Up; cpu = Some 1; inst = None; nth = None; code = 5 } ∷ [] } ∷ [] }

abbrev no_startup_actors : List (List Op)
no_startup_actors = (Setup 130 1 plain ∷ Setup 131 2 plain ∷ Op.Up 1 ∷ []) ∷ []

-- a state without a startup is crossed back by its teardown
no_startup : (drop 3 (after_rounds no_startup_head no_startup_actors [] 11).events ≡ RegBegin 2 130 (Setup 130 1 plain) ∷ Call 0 0 130 0 Up Empty ∷ RegEnd 2 (Ok (pos 0)) ∷ RegBegin 2 131 (Setup 131 2 plain) ∷ Call 0 0 131 0 Up RanOk ∷ RegEnd 2 (Ok (pos 0)) ∷ Enter 2 (Op.Up 1) ∷ WalkBegin 2 1 0 200 ∷ Call 1 1 130 0 Up Empty ∷ Call 1 1 131 0 Up (RanFault 5) ∷ Call 1 1 130 0 Down RanOk ∷ WalkEnd 2 1 (Fault 5) ∷ OpEnd 2 (Fault 5) ∷ []) × (is_over no_startup_actors (after_rounds no_startup_head no_startup_actors [] 11) ≡ true)
unfolding walk walking walk_entries registration registration_entries operation reading_since readers role_of ap_seat seats promised promised_to_walks under_way due_entry next_event is_full after_turns registered settled sites armed answers begun disabled frozen wakeup_pending lowest_free instance_count named_states
no_startup = (refl, refl)

abbrev down_turned_back_head : Head
down_turned_back_head = record { possible = 2; absent = []; subs = record { name = codes "net:a"; up = true; down = true; multi = false; plan = record { dir = Down; cpu = Some 1; inst = None; nth = None; code = 7 } ∷ [] } ∷ record { name = codes "net:b"; up = true; down = true; multi = false; plan = [] } ∷ [] }

abbrev down_turned_back_actors : List (List Op)
down_turned_back_actors = (Setup 120 1 plain ∷ Setup 150 2 plain ∷ Op.Up 1 ∷ Op.Down 1 ∷ []) ∷ []

-- a fault on the way down
down_turned_back : (drop 15 (after_rounds down_turned_back_head down_turned_back_actors [] 17).events ≡ Enter 2 (Op.Down 1) ∷ WalkBegin 2 1 200 0 ∷ Call 1 1 150 0 Down RanOk ∷ Call 1 1 120 0 Down (RanFault 7) ∷ Call 1 1 150 0 Up RanOk ∷ WalkEnd 2 1 (Fault 7) ∷ OpEnd 2 (Fault 7) ∷ []) × (is_over down_turned_back_actors (after_rounds down_turned_back_head down_turned_back_actors [] 17) ≡ true)
unfolding walk walking walk_entries registration registration_entries operation reading_since readers role_of ap_seat seats promised promised_to_walks under_way due_entry next_event is_full after_turns registered settled sites armed answers begun disabled frozen wakeup_pending lowest_free instance_count named_states
down_turned_back = (refl, refl)

abbrev stuck_head : Head
stuck_head = record { possible = 2; absent = []; subs = record { name = codes "net:a"; up = true; down = true; multi = false; plan = record { dir = Down; cpu = Some 1; inst = None; nth = None; code = 7 } ∷ [] } ∷ record { name = codes "net:b"; up = true; down = true; multi = false; plan = record { dir = Up; cpu = Some 1; inst = None; nth = Some 2; code = 9 } ∷ [] } ∷ record { name = codes "net:c"; up = true; down = true; multi = false; plan = [] } ∷ [] }

abbrev stuck_actors : List (List Op)
stuck_actors = (Setup 120 1 plain ∷ Setup 150 2 plain ∷ Setup 180 3 plain ∷ Op.Up 1 ∷ Op.Down 1 ∷ []) ∷ []

-- a second fault on the way back: the walk is stuck
stuck : (drop 19 (after_rounds stuck_head stuck_actors [] 22).events ≡ Enter 2 (Op.Down 1) ∷ WalkBegin 2 1 200 0 ∷ Call 1 1 180 0 Down RanOk ∷ Call 1 1 150 0 Down RanOk ∷ Call 1 1 120 0 Down (RanFault 7) ∷ Call 1 1 150 0 Up (RanFault 9) ∷ WalkEnd 2 1 (Stuck 7 9 149) ∷ OpEnd 2 (Stuck 7 9 149) ∷ []) × (is_over stuck_actors (after_rounds stuck_head stuck_actors [] 22) ≡ true)
unfolding walk walking walk_entries registration registration_entries operation reading_since readers role_of ap_seat seats promised promised_to_walks under_way due_entry next_event is_full after_turns registered settled sites armed answers begun disabled frozen wakeup_pending lowest_free instance_count named_states
stuck = (refl, refl)

abbrev instances_head : Head
instances_head = record { possible = 2; absent = []; subs = record { name = codes "net:a"; up = true; down = true; multi = true; plan = record { dir = Up; cpu = Some 1; inst = Some 1; nth = None; code = 5 } ∷ [] } ∷ [] }

abbrev instances_actors : List (List Op)
instances_actors = (Setup 150 1 plain ∷ Add 150 1 plain ∷ Add 150 2 plain ∷ Add 150 3 plain ∷ Op.Up 1 ∷ []) ∷ []

-- a fault at the last of three instances
instances : (drop 3 (after_rounds instances_head instances_actors [] 18).events ≡ RegBegin 2 150 (Setup 150 1 plain) ∷ RegEnd 2 (Ok (pos 0)) ∷ RegBegin 2 150 (Add 150 1 plain) ∷ Call 0 0 150 1 Up RanOk ∷ RegEnd 2 (Ok (pos 0)) ∷ RegBegin 2 150 (Add 150 2 plain) ∷ Call 0 0 150 2 Up RanOk ∷ RegEnd 2 (Ok (pos 0)) ∷ RegBegin 2 150 (Add 150 3 plain) ∷ Call 0 0 150 3 Up RanOk ∷ RegEnd 2 (Ok (pos 0)) ∷ Enter 2 (Op.Up 1) ∷ WalkBegin 2 1 0 200 ∷ Call 1 1 150 3 Up RanOk ∷ Call 1 1 150 2 Up RanOk ∷ Call 1 1 150 1 Up (RanFault 5) ∷ Call 1 1 150 3 Down RanOk ∷ Call 1 1 150 2 Down RanOk ∷ WalkEnd 2 1 (Fault 5) ∷ OpEnd 2 (Fault 5) ∷ []) × (is_over instances_actors (after_rounds instances_head instances_actors [] 18) ≡ true)
unfolding walk walking walk_entries registration registration_entries operation reading_since readers role_of ap_seat seats promised promised_to_walks under_way due_entry next_event is_full after_turns registered settled sites armed answers begun disabled frozen wakeup_pending lowest_free instance_count named_states
instances = (refl, refl)

abbrev undone_head : Head
undone_head = record { possible = 4; absent = []; subs = record { name = codes "net:a"; up = true; down = true; multi = false; plan = record { dir = Up; cpu = Some 3; inst = None; nth = None; code = 5 } ∷ [] } ∷ [] }

abbrev undone_actors : List (List Op)
undone_actors = (Op.Up 1 ∷ Op.Up 3 ∷ Setup 150 1 plain ∷ ShowStates ∷ []) ∷ []

-- a setup that one processor's fault undoes
undone : (drop 13 (after_rounds undone_head undone_actors [] 16).events ≡ RegBegin 4 150 (Setup 150 1 plain) ∷ Call 0 0 150 0 Up RanOk ∷ Call 1 1 150 0 Up RanOk ∷ Call 3 3 150 0 Up (RanFault 5) ∷ Call 0 0 150 0 Down RanOk ∷ Call 1 1 150 0 Down RanOk ∷ RegEnd 4 (Fault 5) ∷ Shown 4 file.States 0 (pos 9) ∷ []) × (is_over undone_actors (after_rounds undone_head undone_actors [] 16) ≡ true)
unfolding walk walking walk_entries registration registration_entries operation reading_since readers role_of ap_seat seats promised promised_to_walks under_way due_entry next_event is_full after_turns registered settled sites armed answers begun disabled frozen wakeup_pending lowest_free instance_count named_states
undone = (refl, refl)

abbrev overruled_head : Head
overruled_head = record { possible = 2; absent = []; subs = record { name = codes "net:a"; up = true; down = true; multi = false; plan = record { dir = Up; cpu = Some 1; inst = None; nth = None; code = 5 } ∷ [] } ∷ [] }

abbrev overruled_actors : List (List Op)
overruled_actors = (Setup 70 1 plain ∷ Op.Up 1 ∷ []) ∷ []

-- a fault where an entry must not fail
overruled : (drop 7 (after_rounds overruled_head overruled_actors [] 8).events ≡ WalkBegin 2 1 0 200 ∷ Call 1 1 70 0 Up (Overruled 5) ∷ WalkEnd 2 1 (Ok (pos 0)) ∷ OpEnd 2 (Ok (pos 0)) ∷ []) × (is_over overruled_actors (after_rounds overruled_head overruled_actors [] 8) ≡ true)
unfolding walk walking walk_entries registration registration_entries operation reading_since readers role_of ap_seat seats promised promised_to_walks under_way due_entry next_event is_full after_turns registered settled sites armed answers begun disabled frozen wakeup_pending lowest_free instance_count named_states
overruled = (refl, refl)

abbrev presumed_head : Head
presumed_head = record { possible = 2; absent = []; subs = record { name = codes "net:a"; up = true; down = true; multi = false; plan = [] } ∷ [] }

abbrev presumed_actors : List (List Op)
presumed_actors = (Op.Up 1 ∷ Setup 150 1 (form_of true false) ∷ Op.Down 1 ∷ []) ∷ []

-- a setup that calls nothing
presumed : (drop 7 (after_rounds presumed_head presumed_actors [] 13).events ≡ RegBegin 2 150 (Setup 150 1 (form_of true false)) ∷ Call 2 0 150 0 Up Presumed ∷ Call 2 1 150 0 Up Presumed ∷ RegEnd 2 (Ok (pos 0)) ∷ Enter 2 (Op.Down 1) ∷ WalkBegin 2 1 200 0 ∷ Call 1 1 150 0 Down RanOk ∷ WalkEnd 2 1 (Ok (pos 0)) ∷ OpEnd 2 (Ok (pos 0)) ∷ []) × (is_over presumed_actors (after_rounds presumed_head presumed_actors [] 13) ≡ true)
unfolding walk walking walk_entries registration registration_entries operation reading_since readers role_of ap_seat seats promised promised_to_walks under_way due_entry next_event is_full after_turns registered settled sites armed answers begun disabled frozen wakeup_pending lowest_free instance_count named_states
presumed = (refl, refl)

abbrev injected_head : Head
injected_head = record { possible = 2; absent = []; subs = record { name = codes "net:a"; up = true; down = true; multi = true; plan = [] } ∷ [] }

abbrev injected_actors : List (List Op)
injected_actors = (Setup 150 1 plain ∷ Add 150 1 plain ∷ Add 150 2 plain ∷ Op.Up 1 ∷ Op.Down 1 ∷ []) ∷ (Arm 1 (pos 150) ∷ []) ∷ []

-- by a schedule of turns: a fault is armed during a walk, and taken on the next one
injected : (drop 12 (after_rounds injected_head injected_actors (2 ∷ 2 ∷ 2 ∷ 0 ∷ 2 ∷ 2 ∷ 0 ∷ 2 ∷ 2 ∷ 2 ∷ 1 ∷ 3 ∷ 1 ∷ 2 ∷ 2 ∷ []) 6).events ≡ Enter 2 (Op.Up 1) ∷ WalkBegin 2 1 0 200 ∷ Call 1 1 150 2 Up RanOk ∷ Armed 3 1 (pos 150) ∷ Call 1 1 150 1 Up RanOk ∷ WalkEnd 2 1 (Ok (pos 0)) ∷ OpEnd 2 (Ok (pos 0)) ∷ Enter 2 (Op.Down 1) ∷ WalkBegin 2 1 200 0 ∷ Call 1 1 150 2 Down Injected ∷ WalkEnd 2 1 (Fault 11) ∷ OpEnd 2 (Fault 11) ∷ []) × (is_over injected_actors (after_rounds injected_head injected_actors (2 ∷ 2 ∷ 2 ∷ 0 ∷ 2 ∷ 2 ∷ 0 ∷ 2 ∷ 2 ∷ 2 ∷ 1 ∷ 3 ∷ 1 ∷ 2 ∷ 2 ∷ []) 6) ≡ true)
unfolding walk walking walk_entries registration registration_entries operation reading_since readers role_of ap_seat seats promised promised_to_walks under_way due_entry next_event is_full after_turns registered settled sites armed answers begun disabled frozen wakeup_pending lowest_free instance_count named_states
injected = (refl, refl)

abbrev arming_head : Head
arming_head = record { possible = 1; absent = []; subs = record { name = codes "net:a"; up = true; down = true; multi = false; plan = [] } ∷ [] }

abbrev arming_actors : List (List Op)
arming_actors = (Setup 50 1 plain ∷ Arm 0 (pos 50) ∷ Arm 0 (negsuc 0) ∷ Arm 0 (pos 64) ∷ ShowFail 0 ∷ []) ∷ []

-- what may be armed
arming : (drop 2 (after_rounds arming_head arming_actors [] 7).events ≡ RegBegin 1 50 (Setup 50 1 plain) ∷ Call 1 0 50 0 Up RanOk ∷ RegEnd 1 (Ok (pos 0)) ∷ Refused 1 22 (Arm 0 (pos 50)) ∷ Armed 1 0 (negsuc 0) ∷ Refused 1 22 (Arm 0 (pos 64)) ∷ Shown 1 file.Fail 0 (negsuc 0) ∷ []) × (is_over arming_actors (after_rounds arming_head arming_actors [] 7) ≡ true)
unfolding walk walking walk_entries registration registration_entries operation reading_since readers role_of ap_seat seats promised promised_to_walks under_way due_entry next_event is_full after_turns registered settled sites armed answers begun disabled frozen wakeup_pending lowest_free instance_count named_states
arming = (refl, refl)

abbrev refusals_head : Head
refusals_head = record { possible = 1; absent = []; subs = [] }

abbrev refusals_actors : List (List Op)
refusals_actors = (Op.Down 0 ∷ Target 0 (pos 101) ∷ Target 0 (pos 200) ∷ Op.Up 1 ∷ []) ∷ []

-- refusals
refusals : (drop 2 (after_rounds refusals_head refusals_actors [] 5).events ≡ Refused 1 16 (Op.Down 0) ∷ Refused 1 22 (Target 0 (pos 101)) ∷ Enter 1 (Target 0 (pos 200)) ∷ OpEnd 1 (Ok (pos 0)) ∷ Refused 1 22 (Op.Up 1) ∷ []) × (is_over refusals_actors (after_rounds refusals_head refusals_actors [] 5) ≡ true)
unfolding walk walking walk_entries registration registration_entries operation reading_since readers role_of ap_seat seats promised promised_to_walks under_way due_entry next_event is_full after_turns registered settled sites armed answers begun disabled frozen wakeup_pending lowest_free instance_count named_states
refusals = (refl, refl)

abbrev a_reader_head : Head
a_reader_head = record { possible = 2; absent = []; subs = record { name = codes "net:a"; up = true; down = true; multi = false; plan = [] } ∷ [] }

abbrev a_reader_actors : List (List Op)
a_reader_actors = (Lock ∷ Setup 120 1 (form_of false true) ∷ Op.Up 1 ∷ Unlock ∷ Disable ∷ []) ∷ (Op.Up 1 ∷ []) ∷ []

-- a reader sets up, and keeps a walk waiting
a_reader : (drop 4 (after_rounds a_reader_head a_reader_actors (2 ∷ 3 ∷ 3 ∷ 2 ∷ 3 ∷ 2 ∷ 1 ∷ 0 ∷ 2 ∷ 2 ∷ 2 ∷ 2 ∷ 3 ∷ 1 ∷ 3 ∷ 3 ∷ 2 ∷ 2 ∷ []) 0).events ≡ ReadLock 2 ∷ Enter 3 (Op.Up 1) ∷ RegBegin 2 120 (Setup 120 1 (form_of false true)) ∷ Call 0 0 120 0 Up RanOk ∷ RegEnd 2 (Ok (pos 0)) ∷ Refused 2 35 (Op.Up 1) ∷ ReadUnlock 2 ∷ WalkBegin 3 1 0 200 ∷ Call 1 1 120 0 Up RanOk ∷ WalkEnd 3 1 (Ok (pos 0)) ∷ OpEnd 3 (Ok (pos 0)) ∷ Enter 2 Disable ∷ OpEnd 2 (Ok (pos 0)) ∷ []) × (is_over a_reader_actors (after_rounds a_reader_head a_reader_actors (2 ∷ 3 ∷ 3 ∷ 2 ∷ 3 ∷ 2 ∷ 1 ∷ 0 ∷ 2 ∷ 2 ∷ 2 ∷ 2 ∷ 3 ∷ 1 ∷ 3 ∷ 3 ∷ 2 ∷ 2 ∷ []) 0) ≡ true)
unfolding walk walking walk_entries registration registration_entries operation reading_since readers role_of ap_seat seats promised promised_to_walks under_way due_entry next_event is_full after_turns registered settled sites armed answers begun disabled frozen wakeup_pending lowest_free instance_count named_states
a_reader = (refl, refl)

abbrev freeze_head : Head
freeze_head = record { possible = 4; absent = []; subs = record { name = codes "net:a"; up = true; down = true; multi = false; plan = record { dir = Down; cpu = Some 2; inst = None; nth = None; code = 6 } ∷ [] } ∷ record { name = codes "net:b"; up = true; down = true; multi = false; plan = [] } ∷ [] }

abbrev freeze_actors : List (List Op)
freeze_actors = (Setup 150 1 plain ∷ Boot 4 ∷ Freeze (pos 0) ∷ Op.Up 1 ∷ Thaw ∷ []) ∷ (Setup 160 2 plain ∷ []) ∷ []

-- by a schedule: a freeze with a setup between two of its walks, and a thaw
freeze : (drop 20 (after_rounds freeze_head freeze_actors (4 ∷ 0 ∷ 4 ∷ 4 ∷ 4 ∷ 1 ∷ 4 ∷ 4 ∷ 2 ∷ 4 ∷ 4 ∷ 3 ∷ 4 ∷ 4 ∷ 4 ∷ 4 ∷ 1 ∷ 4 ∷ 5 ∷ 0 ∷ 2 ∷ 3 ∷ 5 ∷ []) 17).events ≡ Enter 4 (Freeze (pos 0)) ∷ WalkBegin 4 1 200 0 ∷ Call 1 1 150 0 Down RanOk ∷ WalkEnd 4 1 (Ok (pos 0)) ∷ RegBegin 5 160 (Setup 160 2 plain) ∷ Call 0 0 160 0 Up RanOk ∷ Call 2 2 160 0 Up RanOk ∷ Call 3 3 160 0 Up RanOk ∷ RegEnd 5 (Ok (pos 0)) ∷ WalkBegin 4 2 200 0 ∷ Call 2 2 160 0 Down RanOk ∷ Call 2 2 150 0 Down (RanFault 6) ∷ Call 2 2 160 0 Up RanOk ∷ WalkEnd 4 2 (Fault 6) ∷ OpEnd 4 (Fault 6) ∷ Refused 4 16 (Op.Up 1) ∷ Enter 4 Thaw ∷ WalkBegin 4 1 0 200 ∷ Call 1 1 150 0 Up RanOk ∷ Call 1 1 160 0 Up RanOk ∷ WalkEnd 4 1 (Ok (pos 0)) ∷ OpEnd 4 (Ok (pos 0)) ∷ []) × (is_over freeze_actors (after_rounds freeze_head freeze_actors (4 ∷ 0 ∷ 4 ∷ 4 ∷ 4 ∷ 1 ∷ 4 ∷ 4 ∷ 2 ∷ 4 ∷ 4 ∷ 3 ∷ 4 ∷ 4 ∷ 4 ∷ 4 ∷ 1 ∷ 4 ∷ 5 ∷ 0 ∷ 2 ∷ 3 ∷ 5 ∷ []) 17) ≡ true)
unfolding walk walking walk_entries registration registration_entries operation reading_since readers role_of ap_seat seats promised promised_to_walks under_way due_entry next_event is_full after_turns registered settled sites armed answers begun disabled frozen wakeup_pending lowest_free instance_count named_states
freeze = (refl, refl)

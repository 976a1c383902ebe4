-- Own faults and answers, computed: what each journal is to be was written by hand, from the rules.
use Rattle.std.proofs.Common.{◌≡◌, ℕ, true, false, Some, None, List, [], ◌∷◌, drop, refl}
use Rattle.std.specs.Prelude.{pos, codes}
use Rattle.hp_states.specs.CpuSets.{has}
use Rattle.hp_states.specs.declared.dir.Dir.TheVariants.{Up}
use Rattle.hp_event.specs.declared.op.Form.{Form}
use Rattle.hp_event.specs.declared.how.How.TheVariants.{RanFault}
use Rattle.hp_event.specs.declared.answer.Answer.TheVariants.{Ok, Fault}
use Rattle.hp_event.specs.declared.answer.Answer.TheVariants as answer
use Rattle.hp_event.specs.declared.op.Op.{Op}
use Rattle.hp_event.specs.declared.op.Op.TheVariants.{Setup, Boot, Freeze, Wakeup}
use Rattle.hp_event.specs.declared.head.Head.{Head}
use Rattle.hp_event.specs.declared.event.Event.{Event}
use Rattle.hp_event.specs.declared.event.Event.TheVariants.{Enter, WalkBegin, Call, WalkEnd, OpEnd, RegBegin, RegEnd}
use Rattle.hp_event.specs.declared.event.Event.TheVariants as event
use Rattle.hp_model.specs.Listed.{listed}
use Rattle.hp_model.specs.Own.{operation_entries, own_faults}
use Rattle.hp_model.specs.Walks.{walk, walking, walk_entries}
use Rattle.hp_model.specs.Registrations.{registration, registration_entries}
use Rattle.hp_model.specs.Registered.{registered, instance_count}
use Rattle.hp_model.specs.Resolved.{lowest_free}
use Rattle.hp_model.specs.Settled.{settled}
use Rattle.hp_model.specs.Calls.{sites}
use Rattle.hp_model.specs.Armed.{armed}
use Rattle.hp_model.specs.Batch.{begun}
use Rattle.hp_model.specs.Sequence.{answers}
use Rattle.hp_model.specs.Suspend.{disabled, frozen, wakeup_pending}
use Rattle.hp_model.specs.MapLock.{operation}
use Rattle.hp_model.specs.Readers.{reading_since, readers}
use Rattle.hp_model.specs.Seats.{role_of, ap_seat, seats}
use Rattle.hp_model.specs.Promised.{promised, promised_to_walks}
use Rattle.hp_model.specs.Files.{named_states}
use Rattle.hp_model.specs.BatchTurn.{last_event, turn_of, lowest_walking}
use Rattle.hp_model.specs.UnderWay.{under_way}
use Rattle.hp_model.specs.NextEvent.{due_entry, next_event, is_full}
use Rattle.hp_model.specs.ScriptTurns.{after_turns}
use Rattle.hp_model.specs.ScriptRun.{after_rounds}

abbrev plain : Form
plain = record { nocalls = false; locked = false }

-- a setup fails on processor 0
abbrev head_of_setup : Head
head_of_setup = record { possible = 3; absent = []; subs = record { name = codes "net:p"; up = true; down = true; multi = false; plan = record { dir = Up; cpu = Some 0; inst = None; nth = None; code = 5 } ∷ [] } ∷ [] }

abbrev boot_and_setup : List (List Op)
boot_and_setup = (Boot 3 ∷ []) ∷ ((Setup 150 1 plain ∷ []) ∷ [])

abbrev after_setup : (schedule : List ℕ) → List Event
after_setup turns = (after_rounds head_of_setup boot_and_setup turns 0).events

-- between the walks of a boot a registration of another seat fails: its fault is its own, and the boot answers Ok(0)
beside : (drop 5 (after_setup (3 ∷ 3 ∷ 3 ∷ 4 ∷ 0 ∷ 4 ∷ 3 ∷ 3 ∷ 3 ∷ [])) ≡ Enter 3 (Boot 3) ∷ WalkBegin 3 1 0 200 ∷ WalkEnd 3 1 (Ok (pos 0)) ∷ RegBegin 4 150 (Setup 150 1 plain) ∷ Call 0 0 150 0 Up (RanFault 5) ∷ RegEnd 4 (Fault 5) ∷ WalkBegin 3 2 0 200 ∷ WalkEnd 3 2 (Ok (pos 0)) ∷ OpEnd 3 (Ok (pos 0)) ∷ []) × (own_faults 4 (after_setup (3 ∷ 3 ∷ 3 ∷ 4 ∷ 0 ∷ [])) ≡ 5 ∷ []) × (own_faults 3 (after_setup (3 ∷ 3 ∷ 3 ∷ 4 ∷ 0 ∷ [])) ≡ []) × (own_faults 3 (after_setup (3 ∷ 3 ∷ 3 ∷ 4 ∷ 0 ∷ 4 ∷ 3 ∷ 3 ∷ [])) ≡ [])
unfolding walk walking walk_entries registration registration_entries operation operation_entries reading_since readers role_of ap_seat seats promised promised_to_walks under_way due_entry next_event is_full after_turns registered settled sites armed answers begun disabled frozen wakeup_pending lowest_free instance_count named_states has listed last_event turn_of lowest_walking
beside = (refl, refl, refl, refl)

-- a walk of a boot fails: the fault is the boot's, whichever seat made the entry, and the boot counts it
abbrev head_of_walk : Head
head_of_walk = record { possible = 2; absent = []; subs = record { name = codes "net:p"; up = true; down = true; multi = false; plan = record { dir = Up; cpu = Some 1; inst = None; nth = None; code = 7 } ∷ [] } ∷ [] }

abbrev setup_and_boot : List (List Op)
setup_and_boot = (Setup 150 1 plain ∷ (Boot 2 ∷ [])) ∷ []

abbrev after_walk : (schedule : List ℕ) → List Event
after_walk turns = (after_rounds head_of_walk setup_and_boot turns 0).events

failed_walk : (drop 6 (after_walk (2 ∷ 0 ∷ 2 ∷ 2 ∷ 2 ∷ 1 ∷ 2 ∷ 2 ∷ [])) ≡ Enter 2 (Boot 2) ∷ WalkBegin 2 1 0 200 ∷ Call 1 1 150 0 Up (RanFault 7) ∷ WalkEnd 2 1 (Fault 7) ∷ OpEnd 2 (Ok (pos 1)) ∷ []) × (own_faults 2 (after_walk (2 ∷ 0 ∷ 2 ∷ 2 ∷ 2 ∷ 1 ∷ 2 ∷ [])) ≡ 7 ∷ [])
unfolding walk walking walk_entries registration registration_entries operation operation_entries reading_since readers role_of ap_seat seats promised promised_to_walks under_way due_entry next_event is_full after_turns registered settled sites armed answers begun disabled frozen wakeup_pending lowest_free instance_count named_states has listed last_event turn_of lowest_walking
failed_walk = (refl, refl)

abbrev bare_head : Head
bare_head = record { possible = 2; absent = []; subs = [] }

abbrev freeze_and_wakeup : List (List Op)
freeze_and_wakeup = (Boot 2 ∷ (Freeze (pos 0) ∷ [])) ∷ ((Wakeup ∷ []) ∷ [])

abbrev after_freeze : (schedule : List ℕ) → List Event
after_freeze turns = (after_rounds bare_head freeze_and_wakeup turns 0).events

-- a wakeup that comes before the walk of a freeze ends it; one that comes in its last walk doesn't, pending though it is at the end
woken_before : drop 8 (after_freeze (2 ∷ 2 ∷ 2 ∷ 2 ∷ 2 ∷ 3 ∷ 2 ∷ [])) ≡ Enter 2 (Freeze (pos 0)) ∷ event.Wakeup 3 ∷ OpEnd 2 (answer.Refused 16) ∷ []
unfolding walk walking walk_entries registration registration_entries operation operation_entries reading_since readers role_of ap_seat seats promised promised_to_walks under_way due_entry next_event is_full after_turns registered settled sites armed answers begun disabled frozen wakeup_pending lowest_free instance_count named_states has listed last_event turn_of lowest_walking
woken_before = refl

woken_late : (drop 8 (after_freeze (2 ∷ 2 ∷ 2 ∷ 2 ∷ 2 ∷ 2 ∷ 3 ∷ 2 ∷ 2 ∷ [])) ≡ Enter 2 (Freeze (pos 0)) ∷ WalkBegin 2 1 200 0 ∷ event.Wakeup 3 ∷ WalkEnd 2 1 (Ok (pos 0)) ∷ OpEnd 2 (Ok (pos 0)) ∷ []) × (wakeup_pending (after_freeze (2 ∷ 2 ∷ 2 ∷ 2 ∷ 2 ∷ 2 ∷ 3 ∷ 2 ∷ [])) ≡ true)
unfolding walk walking walk_entries registration registration_entries operation operation_entries reading_since readers role_of ap_seat seats promised promised_to_walks under_way due_entry next_event is_full after_turns registered settled sites armed answers begun disabled frozen wakeup_pending lowest_free instance_count named_states has listed last_event turn_of lowest_walking
woken_late = (refl, refl)

-- Where a client's operation waits for the thread of a processor: the entry that comes next in its walk or registration
-- is that thread's to make, whether it is in or not. After `cpuhp_kick_ap` of `kernel/cpu.c`.
use Rattle.std.specs.Prelude.{◌≡◌, ℕ, Bool, true, ◌&&◌, if◌then◌else◌, is_none, List, ◌⊎◌}
use Rattle.hp_states.specs.declared.dir.Dir.{Dir}
use Rattle.hp_event.specs.declared.how.How.{How}
use Rattle.hp_event.specs.declared.head.Head.{Head}
use Rattle.hp_event.specs.declared.event.Event.{Event}
use Rattle.hp_model.specs.Lists.{is_empty}
use Rattle.hp_model.specs.MapLock.{operation}
use Rattle.hp_model.specs.Caller.{is_made_by_ap}
use Rattle.hp_model.specs.Batch.{to_begin}
use Rattle.hp_model.specs.BatchTurn.{turn_of, is_it, brings_up, lowest_walking}
use Rattle.hp_model.specs.StandsCalls.{WalkEntry, RegistrationEntry}

-- the entry that comes next in a walk or a registration of a seat
abbrev pub IsEntryOf : Head → List Event → (seat cpu state inst : ℕ) → Dir → How → Type 0
IsEntryOf head events k cpu state inst dir how =
    ((e : WalkEntry head events cpu state inst dir how) × (e.of.seat ≡ k))
    ⊎ ((e : RegistrationEntry head events cpu state inst dir how) × (e.of.seat ≡ k))

-- in an upmany the seat has nothing to make itself, and the processor is the lowest with a walk in flight
abbrev pub is_held_up : Head → List Event → (seat cpu : ℕ) → Bool
is_held_up head events k c =
    if brings_up k (operation events)
    then (is_empty (to_begin head events) && is_none (turn_of head events k)) && is_it c (lowest_walking head events)
    else true

pub record IsApTurn (head : Head) (events : List Event) (seat cpu : ℕ) : Type 0 where
  pub state : ℕ
  pub inst : ℕ
  pub dir : Dir
  pub how : How
  pub entry : IsEntryOf head events seat cpu state inst dir how
  pub by_thread : is_made_by_ap state how ≡ true
  pub held_up : is_held_up head events seat cpu ≡ true

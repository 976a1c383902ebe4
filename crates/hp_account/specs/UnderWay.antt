-- What is under way in a machine, as the account keeps it: the one walk in flight or the registration in flight, or nothing; of an
-- upmany that walks nothing is kept. And the entry of it that a seat makes. This project's own.
use Rattle.std.specs.Prelude.{◌≡◌, ◌==◌, ◌<◌, ◌≤◌, ◌&&◌, if◌then◌else◌, ℕ, Bool, true, Option, Some, None, List, [], ◌⊎◌}
use Rattle.hp_event.specs.Hows.{is_called}
use Rattle.hp_event.specs.declared.how.How.{How}
use Rattle.hp_event.specs.declared.head.Head.{Head}
use Rattle.hp_event.specs.declared.event.Event.{Event}
use Rattle.hp_model.specs.Batch.{is_upmany}
use Rattle.hp_model.specs.Lent.{cpu_of}
use Rattle.hp_model.specs.MapLock.{operation}
use Rattle.hp_model.specs.NextEvent.{due_entry}
use Rattle.hp_model.specs.Registrations.{registration}
use Rattle.hp_model.specs.Seats.{ap_seat}
use Rattle.hp_model.specs.UnderWay.{under_way}
use Rattle.hp_model.specs.Suspend.{held_by}
use Rattle.hp_model.specs.Walks.{walking, is_walking}
use Rattle.hp_account.specs.declared.under_way.NextStep.{NextStep}
use Rattle.hp_account.specs.declared.under_way.NextStep.TheVariants as coming
use Rattle.hp_account.specs.declared.under_way.Entry.{Entry}
use Rattle.hp_account.specs.declared.under_way.MadeBy.{MadeBy}
use Rattle.hp_account.specs.declared.under_way.MadeBy.TheVariants.{Hook}
use Rattle.hp_account.specs.NextStep.{IsComing}

-- nothing walks, and no registration is in flight
pub record NothingUnderWay (head : Head) (events : List Event) : Type 0 where
  pub none : under_way head events ≡ []
  pub no_walk : walking events ≡ []
  pub no_registration : registration events ≡ None

-- whether an upmany is in flight, and a processor walks
abbrev pub is_batch_walking : List Event → Bool
is_batch_walking events = held_by is_upmany (operation events) && is_walking events

abbrev pub IsUnderWay : Head → List Event → Option NextStep → Type 0
IsUnderWay head events None = NothingUnderWay head events ⊎ (is_batch_walking events ≡ true)
IsUnderWay head events (Some what) = IsComing head events what

-- the entry, where it is this seat's to make
abbrev pub entry_of : (seat : ℕ) → Option Entry → Option Entry
entry_of k None = None
entry_of k (Some x) = if x.seat == k then Some x else None

abbrev pub due_by : (seat : ℕ) → Option NextStep → Option Entry
due_by k None = None
due_by k (Some (coming.Entry client cpu entry)) = entry_of k entry
due_by k (Some (coming.End e)) = None

-- an entry of a processor is due from a seat
pub record IsDueOn (head : Head) (events : List Event) (cpu seat : ℕ) : Type 0 where
  pub entry : Event
  pub due : due_entry head events seat ≡ Some entry
  pub cpu_is : cpu_of entry ≡ cpu

-- and none is of a processor from one number on up to another
abbrev pub NoneDue : Head → List Event → (from to : ℕ) → Type 0
NoneDue head events from to = (cpu seat : ℕ) → from ≤ cpu → cpu < to → IsDueOn head events cpu seat → ⊥

abbrev pub NoneDueFrom : Head → List Event → (from : ℕ) → Type 0
NoneDueFrom head events from = NoneDue head events from head.possible

-- the lowest processor from one on of which an entry is due, with the seat that it is due from
abbrev pub IsNextDue : Head → List Event → (from : ℕ) → (due : ℕ × ℕ) → Type 0
IsNextDue head events from due = (from ≤ due.0) × IsDueOn head events due.0 due.1 × NoneDue head events from due.0

-- an entry of a processor is due from its thread
pub record IsThreadDue (head : Head) (events : List Event) (cpu seat : ℕ) : Type 0 where
  pub thread_is : ap_seat cpu events ≡ Some seat
  pub due : IsDueOn head events cpu seat

abbrev pub NoThreadDue : Head → List Event → (from to : ℕ) → Type 0
NoThreadDue head events from to = (cpu seat : ℕ) → from ≤ cpu → cpu < to → IsThreadDue head events cpu seat → ⊥

abbrev pub NoThreadDueFrom : Head → List Event → (from : ℕ) → Type 0
NoThreadDueFrom head events from = NoThreadDue head events from head.possible

-- the lowest processor from one on of which an entry is due from its thread, with that
abbrev pub IsNextThreadDue : Head → List Event → (from : ℕ) → (due : ℕ × ℕ) → Type 0
IsNextThreadDue head events from due =
    (from ≤ due.0) × IsThreadDue head events due.0 due.1 × NoThreadDue head events from due.0

-- the state whose hook an entry calls that is made so, if it calls one
abbrev pub hook_asked : (state : ℕ) → How → Option ℕ
hook_asked s how = if is_called how then Some s else None

-- the state whose hook an entry calls that is made by this, if it calls one
abbrev pub hook_by : (state : ℕ) → MadeBy → Option ℕ
hook_by s Hook = Some s
hook_by s made_by = None

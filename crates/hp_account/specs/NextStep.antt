-- What it means that this comes next in a walk or a registration in flight: that it is what is under way, and nothing else is.
-- This project's own.
use Rattle.std.specs.Prelude.{◌≡◌, ◌==◌, ◌⊎◌, ◌&&◌, not, if◌then◌else◌, nat_le, ℕ, Bool, false, IfSome, Option, Some, None, List, [], ◌∷◌}
use Rattle.hp_states.specs.declared.dir.Dir.{Dir}
use Rattle.hp_states.specs.declared.dir.Dir.TheVariants.{Up, Down}
use Rattle.hp_states.specs.declared.place.Place.{Place}
use Rattle.hp_states.specs.Sections.{can_fail}
use Rattle.hp_event.specs.declared.head.Head.{Head}
use Rattle.hp_event.specs.declared.event.Event.{Event}
use Rattle.hp_event.specs.declared.event.Event.TheVariants.{WalkEnd, RegEnd}
use Rattle.hp_model.specs.Armed.{is_armed_at}
use Rattle.hp_model.specs.Events.{seat_of, is_call}
use Rattle.hp_model.specs.Seats.{ap_seat}
use Rattle.hp_model.specs.Needs.{need}
use Rattle.hp_model.specs.ApTurn.{IsApTurn}
use Rattle.hp_model.specs.Registrations.{Registration, registration}
use Rattle.hp_model.specs.UnderWay.{under_way}
use Rattle.hp_model.specs.Walks.{Walk, walk, walking}
use Rattle.hp_table.specs.Kept.{Kept}
use Rattle.hp_table.specs.Step.{Step}
use Rattle.hp_account.specs.declared.under_way.MadeBy.{MadeBy}
use Rattle.hp_account.specs.declared.under_way.MadeBy.TheVariants.{Empty, Injected, Hook}
use Rattle.hp_account.specs.declared.under_way.Entry.{Entry}
use Rattle.hp_account.specs.declared.under_way.NextStep.{NextStep}
use Rattle.hp_account.specs.declared.under_way.NextStep.TheVariants as coming
use Rattle.hp_account.specs.declared.under_way.Ending.{Ending}
use Rattle.hp_account.specs.declared.under_way.Ending.TheVariants as ending
use Rattle.hp_account.specs.Entries.{entry_event}

-- whether what is registered has a callback of a direction
abbrev pub has_callback_by : Kept → Dir → Bool
has_callback_by kept Up = kept.up
has_callback_by kept Down = kept.down

-- an armed fault is taken at the first entry of a crossing, where that may fail
abbrev pub is_injected : (armed_at : Option ℕ) → (state : ℕ) → Dir → Place → (first : Bool) → Bool
is_injected armed_at s d place first = first && (can_fail d s place && is_armed_at armed_at s)

-- what an entry of a walk is made by
abbrev pub made_by_in_walk : Kept → (armed_at : Option ℕ) → (state : ℕ) → Dir → Place → (first : Bool) → MadeBy
made_by_in_walk kept armed_at s d place first =
    if has_callback_by kept d then (if is_injected armed_at s d place first then Injected else Hook) else Empty

-- an entry of a walk is made by this, where something is registered
abbrev pub IsMadeByInWalk : Option Step → (armed_at : Option ℕ) → (state : ℕ) → Dir → Place → (first : Bool) → MadeBy → Type 0
IsMadeByInWalk at armed_at s d place first made_by = IfSome at (λ step. made_by ≡ made_by_in_walk step.kept armed_at s d place first)

-- what is under way is the client's: a walk of its operation, or its registration, while nothing walks
abbrev pub IsInFlightOf : List Event → (client : ℕ) → Type 0
IsInFlightOf events client =
    ((c : ℕ) × (w : Walk) × (walk c events ≡ Some w) × (w.seat ≡ client))
    ⊎ ((r : Registration) × (registration events ≡ Some r) × (r.seat ≡ client) × (walking events ≡ []))

-- the seat is that of the processor's thread, whose turn the client waits for
pub record IsByThread (head : Head) (events : List Event) (client cpu seat : ℕ) : Type 0 where
  pub thread_is : ap_seat cpu events ≡ Some seat
  pub turn : IsApTurn head events client cpu

-- an entry is under way: the client's to make, or its processor's thread's, which is in
pub record ComesByEntry (head : Head) (events : List Event) (client cpu : ℕ) (x : Entry) : Type 0 where
  pub only : under_way head events ≡ entry_event head events x ∷ []
  pub cpu_is : x.cpu ≡ cpu
  pub made_by : (x.seat ≡ client) ⊎ IsByThread head events client cpu x.seat
  pub of_client : IsInFlightOf events client

-- nothing is, since the next entry is a thread's to make that isn't in
pub record Awaits (head : Head) (events : List Event) (client cpu : ℕ) : Type 0 where
  pub none : under_way head events ≡ []
  pub turn : IsApTurn head events client cpu
  pub of_client : IsInFlightOf events client

-- the end is, which takes no room of its own
pub record ComesToEnd (head : Head) (events : List Event) (e : Event) : Type 0 where
  pub only : under_way head events ≡ e ∷ []
  pub no_entry : is_call e ≡ false
  pub takes_none : need head events e ≡ None
  pub of_client : IsInFlightOf events (seat_of e)

-- the event of an end
abbrev pub end_event : Ending → Event
end_event (ending.Walk k c answer) = WalkEnd k c answer
end_event (ending.Registration k answer) = RegEnd k answer

-- the processor whose thread the client waits for
abbrev pub waits_unless_made : (seat cpu : ℕ) → Option Entry → Option ℕ
waits_unless_made k c None = Some c
waits_unless_made k c (Some x) = if x.seat == k then None else Some c

abbrev pub waits_by : (seat : ℕ) → NextStep → Option ℕ
waits_by k (coming.Entry client c entry) = if client == k then waits_unless_made k c entry else None
waits_by k (coming.End e) = None

-- the processor of its entry, from one on, and the seat that makes it
abbrev pub due_beyond : (from : ℕ) → NextStep → Option (ℕ × ℕ)
due_beyond from (coming.Entry client c None) = None
due_beyond from (coming.Entry client c (Some x)) = if nat_le from x.cpu then Some (x.cpu, x.seat) else None
due_beyond from (coming.End e) = None

-- the same where a thread makes it
abbrev pub thread_due_beyond : (from : ℕ) → NextStep → Option (ℕ × ℕ)
thread_due_beyond from (coming.Entry client c None) = None
thread_due_beyond from (coming.Entry client c (Some x)) =
    if not (x.seat == client) && nat_le from x.cpu then Some (x.cpu, x.seat) else None
thread_due_beyond from (coming.End e) = None

abbrev pub IsComing : Head → List Event → NextStep → Type 0
IsComing head events (coming.Entry client cpu None) = Awaits head events client cpu
IsComing head events (coming.Entry client cpu (Some x)) = ComesByEntry head events client cpu x
IsComing head events (coming.End e) = ComesToEnd head events (end_event e)

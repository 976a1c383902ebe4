-- What it means that this comes next in the walk of a processor: that it is the next event there, whoever makes it. This project's own.
use Rattle.std.specs.Prelude.{◌≡◌, ℕ, true, false, Option, Some, None, List, ◌⊎◌}
use Rattle.hp_states.specs.declared.dir.Dir.{Dir}
use Rattle.hp_event.specs.declared.how.How.{How}
use Rattle.hp_event.specs.declared.head.Head.{Head}
use Rattle.hp_event.specs.declared.event.Event.{Event}
use Rattle.hp_model.specs.Caller.{is_made_by_ap}
use Rattle.hp_model.specs.Events.{seat_of, is_call}
use Rattle.hp_model.specs.Needs.{need}
use Rattle.hp_model.specs.NextInWalk.{next_of_walk}
use Rattle.hp_model.specs.Seats.{ap_seat}
use Rattle.hp_model.specs.StandsCalls.{WalkEntry}
use Rattle.hp_model.specs.Walks.{Walk, walk}
use Rattle.hp_account.specs.declared.under_way.NextStep.{NextStep}
use Rattle.hp_account.specs.declared.under_way.NextStep.TheVariants as coming
use Rattle.hp_account.specs.declared.under_way.Entry.{Entry}
use Rattle.hp_account.specs.NextStep.{end_event}
use Rattle.hp_account.specs.Entries.{entry_event}

-- the event that comes; none where it is a thread's that isn't in
abbrev pub event_of : Head → List Event → NextStep → Option Event
event_of head events (coming.Entry client c None) = None
event_of head events (coming.Entry client c (Some x)) = Some (entry_event head events x)
event_of head events (coming.End e) = Some (end_event e)

-- the next entry of a client's walk is its processor's thread's
pub record IsThreadsEntry (head : Head) (events : List Event) (client cpu : ℕ) : Type 0 where
  pub state : ℕ
  pub inst : ℕ
  pub dir : Dir
  pub how : How
  pub entry : WalkEntry head events cpu state inst dir how
  pub client_is : entry.of.seat ≡ client
  pub by_thread : is_made_by_ap state how ≡ true

-- who makes it: the client, or the thread, if that is in
abbrev pub IsMadeBy : Head → List Event → (client cpu : ℕ) → Option Entry → Type 0
IsMadeBy head events client c None = IsThreadsEntry head events client c
IsMadeBy head events client c (Some x) =
    (x.cpu ≡ c) × ((x.seat ≡ client) ⊎ (IsThreadsEntry head events client c × (ap_seat c events ≡ Some x.seat)))

abbrev pub IsOfWalk : Head → List Event → (cpu : ℕ) → Walk → NextStep → Type 0
IsOfWalk head events c w (coming.Entry client on entry) = (on ≡ c) × (client ≡ w.seat) × IsMadeBy head events client c entry
IsOfWalk head events c w (coming.End e) = (seat_of (end_event e) ≡ w.seat) × (is_call (end_event e) ≡ false) × (need head events (end_event e) ≡ None)

pub record IsNextOn (head : Head) (events : List Event) (cpu : ℕ) (what : NextStep) : Type 0 where
  pub of : Walk
  pub in_flight : walk cpu events ≡ Some of
  pub gives : next_of_walk head events cpu (walk cpu events) ≡ event_of head events what
  pub parts : IsOfWalk head events cpu of what

-- what comes next in the walk of a processor, if it walks
abbrev pub IsNextOnIf : Head → List Event → (cpu : ℕ) → Option NextStep → Type 0
IsNextOnIf head events c None = walk c events ≡ None
IsNextOnIf head events c (Some what) = IsNextOn head events c what

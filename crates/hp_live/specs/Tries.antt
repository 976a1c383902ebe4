-- What one try of a pass did: nothing where another held the lock, and else the work of one lock section. This project's own.
use Rattle.std.specs.Prelude.{◌≡◌, ◌==◌, ◌&&◌, ◌⊎◌, ◌↔◌, ◌+◌, ℕ, Bool, true, false, not, is_some, Option, Some, None, Result, Ok, List, filter}
use Rattle.std.specs.List.{list_any}
use Rattle.hp_event.specs.declared.aside.Aside.{Aside}
use Rattle.hp_event.specs.declared.event.Event.{Event}
use Rattle.hp_event.specs.declared.event.Event.TheVariants.{Call}
use Rattle.hp_event.specs.declared.head.Head.{Head}
use Rattle.hp_event.specs.declared.op.Op.{Op}
use Rattle.hp_event.specs.Hows.{is_called}
use Rattle.hp_hook.specs.Counted.{Counts}
use Rattle.hp_states.specs.declared.no_memory.NoMemory.{NoMemory}
use Rattle.hp_locks.specs.declared.why.Why.{Why}
use Rattle.hp_locks.specs.declared.why.Why.TheVariants.{ApTurn, HookOut}
use Rattle.hp_model.specs.Lent.{arms, calls_at}
use Rattle.hp_model.specs.NextEvent.{next_event, due_entry}
use Rattle.hp_model.specs.Walks.{walk}
use Rattle.hp_account.specs.UnderWay.{hook_asked}
use Rattle.hp_machine.specs.Next.{IsKept}
use Rattle.hp_turn.specs.Asides.{aside_of}
use Rattle.hp_board.specs.Loans.{IsLoan}
use Rattle.hp_board.specs.declared.turn.Ask.{Ask}
use Rattle.hp_board.specs.declared.turn.Turn.{Turn}
use Rattle.hp_board.specs.declared.turn.Turn.TheVariants.{Made, Answered, NotYet}
use Rattle.hp_live.specs.Hooks.{TurnsHook}
use Rattle.hp_live.specs.Known.{Seated}
use Rattle.hp_live.specs.Sections.{EntersIn, LentIn, ServedIn, TurnedIn, WantedIn}
use Rattle.hp_live.specs.declared.step.Stepped.{Stepped}
use Rattle.hp_live.specs.declared.step.Stepped.TheVariants as did
use Rattle.hp_live.specs.declared.tried.Tried.{Tried}
use Rattle.hp_live.specs.declared.tried.Tried.TheVariants as tried

-- ---- what is lent, by the pairs of a seat and an entry that a pass keeps

-- what is lent to others than a seat
abbrev pub lent_beside : (seat : ℕ) → List (ℕ × Aside) → List (ℕ × Aside)
lent_beside k pairs = filter (λ p. not (p.0 == k)) pairs

-- whether the hook of a state is lent
abbrev pub is_away : (state : ℕ) → List (ℕ × Aside) → Bool
is_away s pairs = list_any (λ p. p.1.key.state == s) pairs

-- whether an entry is made by the answer of its hook, and that is home
abbrev pub can_lend_by : Option Event → List (ℕ × Aside) → Bool
can_lend_by (Some (Call seat cpu state inst dir how)) pairs = is_called how && not (is_away state pairs)
can_lend_by _ pairs = false

-- whether a board with this journal, of which this is lent, lends a hook to the seat
abbrev pub lends_over : Head → List Event → List (ℕ × Aside) → (seat : ℕ) → Bool
lends_over head events pairs k = can_lend_by (due_entry head events k) pairs

-- a client waits for a processor's thread, and the entry that this has to make calls the hook of a state, which is lent
pub record WaitsForThreadBy (head : Head) (events : List Event) (pairs : List (ℕ × Aside)) (state seat : ℕ) (op : Op) : Type 0 where
  pub cpu : ℕ
  pub kept : IsKept head events seat op (ApTurn cpu)
  pub asks : hook_asked kept.why_is.state kept.why_is.how ≡ Some state
  pub away : is_away state pairs ≡ true

-- whether the hook of a state is lent for an entry of a processor in the middle of its walk, whose `fail` file an event writes
abbrev pub arms_lent : List Event → List (ℕ × Aside) → (state : ℕ) → Event → Bool
arms_lent events pairs s e =
    list_any (λ p. (p.1.key.state == s) && (is_some (walk p.1.cpu events) && arms p.1.cpu e)) pairs

-- a write of `fail` can stand, and the hook of a state is lent for an entry of the processor's walk
pub record WaitsToArmBy (head : Head) (events : List Event) (pairs : List (ℕ × Aside)) (state seat : ℕ) (op : Op) : Type 0 where
  pub event : Event
  pub next_is : next_event head events seat op ≡ Some event
  pub arms : arms_lent events pairs state event ≡ true

-- what a turn of a board waits for, where this is lent
abbrev pub IsHookOutBy : Head → List Event → List (ℕ × Aside) → (state seat : ℕ) → Op → Type 0
IsHookOutBy head events pairs s k op = WaitsForThreadBy head events pairs s k op ⊎ WaitsToArmBy head events pairs s k op

abbrev pub IsNotYetBy : Head → List Event → List (ℕ × Aside) → (seat : ℕ) → Op → Why → Type 0
IsNotYetBy head events pairs k op (HookOut s) = IsHookOutBy head events pairs s k op
IsNotYetBy head events pairs k op (ApTurn cpu) =
    IsKept head events k op (ApTurn cpu) × ((s : ℕ) → WaitsForThreadBy head events pairs s k op → ⊥)
IsNotYetBy head events pairs k op why = IsKept head events k op why

-- the entry that is due from a seat calls the hook of a state, which is lent
pub record CallsLent (head : Head) (events : List Event) (pairs : List (ℕ × Aside)) (state seat : ℕ) : Type 0 where
  pub event : Event
  pub due : due_entry head events seat ≡ Some event
  pub calls : calls_at state event ≡ true
  pub away : is_away state pairs ≡ true

-- ---- what a try left

-- another held the lock: the pass has one miss more, and all else of it is as before
abbrev pub missed : Seated → Seated
missed p = record {
  lock = p.lock;
  head = p.head;
  front = p.front;
  seat = p.seat;
  misses = p.misses + 1;
  lent = p.lent;
  kept = p.kept;
}

-- none did; and what is lent to the seat then is what the pass carries
pub record HadLock (old new : Seated) : Type 0 where
  pub misses : new.misses ≡ old.misses
  pub own : aside_of old.seat new.kept ≡ new.lent

-- the hook that the pass carried came home: the entry that it was lent for was made, by its answer
pub record GaveBack (old new : Seated) (turn : Turn) : Type 0 where
  pub had_lock : HadLock old new
  pub loan : Aside
  pub carried : old.lent ≡ Some loan
  pub nothing : new.lent ≡ None
  pub at : ℕ
  pub turn_is : turn ≡ Made at
  pub enters : EntersIn old.head old.seat old.front new.front at
  pub is_loan : IsLoan old.head enters.found old.seat loan

-- the pass, which carried no hook, was lent one for the entry that is due from its seat: it carries it, called, and no event was made
pub record TookLoan (old new : Seated) (state : ℕ) : Type 0 where
  pub had_lock : HadLock old new
  pub carried : old.lent ≡ None
  pub found : LentIn old.head old.seat old.front new.front
  pub lends : lends_over old.head new.front (lent_beside old.seat new.kept) old.seat ≡ true
  pub loan : Aside
  pub carries : new.lent ≡ Some loan
  pub state_is : loan.key.state ≡ state
  pub is_loan : IsLoan old.head new.front old.seat loan

-- a turn of a client's seat was taken: the pass carried no hook, none could be lent to it, and the turn was that of a board with the
-- journal that was found, of which this is lent
pub record TookTurn {H : Type 0} (seen : H → Counts) (old new : Seated) (before after : Ask H) (turn : Turn) : Type 0 where
  pub had_lock : HadLock old new
  pub carried : old.lent ≡ None
  pub nothing : new.lent ≡ None
  pub turned : TurnedIn old.head old.seat before.op (is_some before.hook) (is_some after.hook) old.front new.front turn
  pub lends : lends_over old.head turned.found (lent_beside old.seat new.kept) old.seat ≡ false
  pub waits : (why : Why) → turn ≡ NotYet why →
      IsNotYetBy old.head turned.found (lent_beside old.seat new.kept) old.seat before.op why
  pub hook_out : (s : ℕ) → IsHookOutBy old.head turned.found (lent_beside old.seat new.kept) s old.seat before.op →
      turn ≡ NotYet (HookOut s)
  pub hook : TurnsHook seen old.head turned.found old.seat before.op before.hook after.hook turn
  pub same_ask : (why : Why) → turn ≡ NotYet why → after ≡ before

-- memory was wanting for one: nothing was made
pub record WantedOnce {H : Type 0} (old new : Seated) (ask : Ask H) : Type 0 where
  pub had_lock : HadLock old new
  pub carried : old.lent ≡ None
  pub nothing : new.lent ≡ None
  pub wanted : WantedIn old.head old.seat ask.op old.front new.front
  pub lends : lends_over old.head new.front (lent_beside old.seat new.kept) old.seat ≡ false
  pub no_wait : (s : ℕ) → IsHookOutBy old.head new.front (lent_beside old.seat new.kept) s old.seat ask.op → ⊥

-- a turn of a thread's seat was taken, likewise
pub record TookService (old new : Seated) (turn : Turn) : Type 0 where
  pub had_lock : HadLock old new
  pub carried : old.lent ≡ None
  pub nothing : new.lent ≡ None
  pub served : ServedIn old.head old.seat old.front new.front turn
  pub lends : lends_over old.head served.found (lent_beside old.seat new.kept) old.seat ≡ false
  pub hook_out : (s : ℕ) → CallsLent old.head served.found (lent_beside old.seat new.kept) s old.seat ↔ (turn ≡ NotYet (HookOut s))

-- ---- by what the try answered

abbrev pub tried_by : Stepped → Tried
tried_by (did.Turned turn) = tried.Turned turn
tried_by (did.Lent state) = tried.Lent state

-- the give-back of a hook that was carried
abbrev pub BackTried : (old new : Seated) → Tried → Type 0
BackTried old new tried.Busy = new ≡ missed old
BackTried old new (tried.Turned turn) = GaveBack old new turn
BackTried old new (tried.Lent state) = ⊥

-- a client's
abbrev pub TurnTried : {H : Type 0} → (seen : H → Counts) → (old new : Seated) → (before after : Ask H) → Tried → Type 0
TurnTried seen old new before after tried.Busy = (new ≡ missed old) × (after ≡ before)
TurnTried seen old new before after (tried.Turned turn) =
    TookTurn seen old new before after turn ⊎ (GaveBack old new turn × (after ≡ before))
TurnTried seen old new before after (tried.Lent state) = TookLoan old new state × (after ≡ before)

-- a thread's
abbrev pub ServeTried : (old new : Seated) → Tried → Type 0
ServeTried old new tried.Busy = new ≡ missed old
ServeTried old new (tried.Turned turn) = TookService old new turn ⊎ GaveBack old new turn
ServeTried old new (tried.Lent state) = TookLoan old new state

-- whether it answered the operation
abbrev pub is_answered : Result Tried NoMemory → Bool
is_answered (Ok (tried.Turned (Answered at answer))) = true
is_answered _ = false

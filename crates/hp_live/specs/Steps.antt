-- What one lock section finds and leaves, by the board under the lock. The code's own clauses speak of it, and those of tries.
-- This project's own.
use Rattle.std.specs.Prelude.{◌≡◌, ◌≢◌, ℕ, Bool, true, is_some, Option, Some, None, Result, Ok, Err, List, ◌++◌}
use Rattle.hp_states.specs.declared.no_memory.NoMemory.{NoMemory}
use Rattle.hp_event.specs.declared.aside.Aside.{Aside}
use Rattle.hp_event.specs.declared.event.Event.{Event}
use Rattle.hp_event.specs.declared.op.Op.{Op}
use Rattle.hp_hook.specs.Counted.{Counts}
use Rattle.hp_model.specs.Lawful.{IsLawful}
use Rattle.hp_account.specs.Table.{IsTableOf}
use Rattle.hp_machine.specs.StandsNext.{next_event_of}
use Rattle.hp_turn.specs.Asides.{seat_aside}
use Rattle.hp_turn.specs.Pass.{Pass, Knew}
use Rattle.hp_turn.specs.Story.{MayAdd, new_seat}
use Rattle.hp_turn.specs.Views.{held_of}
use Rattle.hp_board.specs.Contents.{Contents}
use Rattle.hp_board.specs.Hooks.{has_hook, has_hook_after}
use Rattle.hp_board.specs.Loans.{loan, AreOut, CanLendTo}
use Rattle.hp_board.specs.Turns.{IsTurn, IsServed, NextTakesRoom, goes_on}
use Rattle.hp_board.specs.declared.turn.Ask.{Ask}
use Rattle.hp_board.specs.declared.turn.Turn.TheVariants.{Made}
use Rattle.hp_live.specs.HeldSteps.{KeepsAsk}
use Rattle.hp_live.specs.declared.step.Step.{Step}
use Rattle.hp_live.specs.declared.step.Step.TheVariants.{Turned, Lent}
use Rattle.hp_live.specs.declared.step.Stepped.{Stepped}
use Rattle.hp_live.specs.declared.step.Stepped.TheVariants as did
use Rattle.hp_live.specs.Lending.{lent_pairs}
use Rattle.hp_live.specs.Sections.{CanAsk}

-- the pass holds the lock, and this board with it
pub record IsInside (p : Pass) (b : Contents) : Type 0 where
  pub took : p.held ≡ Some (held_of b.events (lent_pairs b))
  pub head_is : b.head ≡ p.head

-- what is so of a board at any time
pub record IsBoard (b : Contents) : Type 0 where
  pub lawful : IsLawful b.head b.events
  pub table : IsTableOf b.head b.events b.places
  pub out : AreOut b

-- a board that the lock gives to a pass: the pass's front stands for its journal, and what is lent to the pass's seat is the pass's
pub record Finds (p : Pass) (found : Contents) : Type 0 where
  pub head_is : found.head ≡ p.head
  pub knew : Knew p found.events
  pub lent : seat_aside p.seat (lent_pairs found) ≡ p.aside
  pub board : IsBoard found

-- what a pass has seen of a board that it put back
pub record HasSeen (p : Pass) (b : Contents) : Type 0 where
  pub front_is : p.front ≡ b.events
  pub kept_is : p.kept ≡ lent_pairs b

-- what a pass that holds the lock may put back: the board that it took, with what it may add, and what is lent to others as it was
pub record CanPut (p : Pass) (new : Contents) : Type 0 where
  pub found : Contents
  pub took : p.held ≡ Some (held_of found.events (lent_pairs found))
  pub lawful : IsLawful found.head found.events
  pub head_is : new.head ≡ p.head
  pub added : List Event
  pub whole : found.events ++ added ≡ new.events
  pub may : MayAdd p.seat p.admits found.events added
  pub others : (k : ℕ) → new_seat p.seat p.held new.events ≢ Some k → loan new k ≡ loan found k

-- the pass put this board back
pub record IsPut (before after : Pass) (new : Contents) : Type 0 where
  pub lock : after.lock ≡ before.lock
  pub head : after.head ≡ before.head
  pub seat : after.seat ≡ new_seat before.seat before.held new.events
  pub admits : after.admits ≡ before.admits
  pub misses : after.misses ≡ before.misses
  pub seen : HasSeen after new
  pub lent : (k : ℕ) → after.seat ≡ Some k → after.aside ≡ loan new k
  pub nothing : after.seat ≡ None → after.aside ≡ None

-- ---- a client's seat

-- what a section of a client's seat makes of a board, by a hook that is lent, or by a turn where none can be, or nothing, where memory
-- was wanting; and whether the ask has its hook before and after
abbrev pub StepsOn : {H : Type 0} → (seat : ℕ) → Op → (had has : Bool) → (old new : Contents) → Result (Step H) NoMemory → Type 0
StepsOn k op had has old new (Ok (Turned turn)) =
    (CanLendTo old k → ⊥) × IsTurn k op old new turn × (loan new k ≡ None)
    × (has ≡ has_hook_after old.events (next_event_of old k op) had)
    × (goes_on turn ≡ true → has ≡ has_hook new.events k op)
StepsOn k op had has old new (Err e) =
    (CanLendTo old k → ⊥) × (new ≡ old) × NextTakesRoom old k op × (has ≡ had)
StepsOn k op had has old new (Ok (Lent a)) =
    CanLendTo old k × (new.head ≡ old.head) × (new.events ≡ old.events) × (loan new k ≡ Some a) × (has ≡ had)

-- what of it is lent to the seat then
abbrev pub lent_by : {H : Type 0} → Step H → Option Aside
lent_by (Lent a) = Some a
lent_by (Turned turn) = None

abbrev pub lent_of : {H : Type 0} → Result (Step H) NoMemory → Option Aside
lent_of (Ok step) = lent_by step
lent_of (Err e) = None

abbrev pub lent_if : {H : Type 0} → Option (Step H) → Option Aside
lent_if None = None
lent_if (Some step) = lent_by step

-- the same of a board whose pass puts it back
pub record StepsTo {H : Type 0} (seat : ℕ) (op : Op) (had has : Bool) (found : Contents) (after : Pass)
    (step : Result (Step H) NoMemory) : Type 0 where
  pub new : Contents
  pub steps : StepsOn seat op had has found new step
  pub seen : HasSeen after new

-- and of one that the lock gives to a pass, and of the ask
pub record StepsIn {H : Type 0} (seen : H → Counts) (seat : ℕ) (was now : Ask H) (before after : Pass)
    (step : Result (Step H) NoMemory) : Type 0 where
  pub found : Contents
  pub finds : Finds before found
  pub asked : CanAsk found.head found.events seat was.op (is_some was.hook)
  pub to : StepsTo seat was.op (is_some was.hook) (is_some now.hook) found after step
  pub ask : KeepsAsk seen found seat was now step

-- what it did, once the hook that it lent was called
abbrev pub stepped_by : {H : Type 0} → Step H → Stepped
stepped_by (Turned turn) = did.Turned turn
stepped_by (Lent a) = did.Lent a.key.state

-- ---- a thread's seat

abbrev pub ServesOn : {H : Type 0} → (seat : ℕ) → (old new : Contents) → Step H → Type 0
ServesOn k old new (Turned turn) = (CanLendTo old k → ⊥) × IsServed k old new turn × (loan new k ≡ None)
ServesOn k old new (Lent a) =
    CanLendTo old k × (new.head ≡ old.head) × (new.events ≡ old.events) × (loan new k ≡ Some a)

pub record ServesTo {H : Type 0} (seat : ℕ) (found : Contents) (after : Pass) (step : Step H) : Type 0 where
  pub new : Contents
  pub serves : ServesOn seat found new step
  pub seen : HasSeen after new

pub record ServesIn {H : Type 0} (seat : ℕ) (before after : Pass) (step : Step H) : Type 0 where
  pub found : Contents
  pub finds : Finds before found
  pub to : ServesTo seat found after step

-- ---- a hook that comes back

-- the entry that it was lent for was made, at this place
pub record GivesTo (seat : ℕ) (found : Contents) (after : Pass) (at : ℕ) : Type 0 where
  pub new : Contents
  pub served : IsServed seat (record found { lent = new.lent }) new (Made at)
  pub seen : HasSeen after new

pub record GivesIn (seat : ℕ) (before after : Pass) (at : ℕ) : Type 0 where
  pub found : Contents
  pub finds : Finds before found
  pub to : GivesTo seat found after at

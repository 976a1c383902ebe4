-- What a step of a board and the section around it keep besides, of which tries and runs answer: the code's own clauses speak of it.
-- This project's own.
use Rattle.std.specs.Prelude.{◌≡◌, ◌↔◌, ℕ, Some, Result, Ok, Err}
use Rattle.hp_states.specs.declared.no_memory.NoMemory.{NoMemory}
use Rattle.hp_event.specs.declared.aside.Aside.{Aside}
use Rattle.hp_event.specs.declared.op.Op.{Op}
use Rattle.hp_hook.specs.Counted.{Counts}
use Rattle.hp_locks.specs.declared.why.Why.TheVariants.{HookOut}
use Rattle.hp_machine.specs.StandsNext.{due_of}
use Rattle.hp_turn.specs.Asides.{aside_of}
use Rattle.hp_turn.specs.Pass.{Pass}
use Rattle.hp_board.specs.Contents.{Contents}
use Rattle.hp_board.specs.Hooks.{KeepsItsHook, GetsStatesHook}
use Rattle.hp_board.specs.Loans.{IsLoan, CallsAway}
use Rattle.hp_board.specs.Turns.{IsHookOut}
use Rattle.hp_board.specs.declared.turn.Ask.{Ask}
use Rattle.hp_board.specs.declared.turn.Turn.TheVariants.{NotYet}
use Rattle.hp_live.specs.Known.{Seated}
use Rattle.hp_live.specs.Tries.{TookLoan, TookService, TookTurn, WantedOnce}
use Rattle.hp_live.specs.declared.step.Step.{Step}
use Rattle.hp_live.specs.declared.step.Step.TheVariants.{Turned, Lent}

-- a turn of a client's seat waits for a hook that is lent wherever it has to
abbrev pub WaitsOut : {H : Type 0} → Contents → (seat : ℕ) → Op → Result (Step H) NoMemory → Type 0
WaitsOut b k op (Ok (Turned turn)) = (s : ℕ) → IsHookOut s k op b → turn ≡ NotYet (HookOut s)
WaitsOut b k op (Err e) = (s : ℕ) → IsHookOut s k op b → ⊥
WaitsOut b k op (Ok (Lent a)) = Unit {0}

-- a turn of a thread's seat does exactly where it has to
abbrev pub ServesOut : {H : Type 0} → Contents → (seat : ℕ) → Step H → Type 0
ServesOut b k (Turned turn) = (s : ℕ) → CallsAway b s (due_of b k) ↔ (turn ≡ NotYet (HookOut s))
ServesOut b k step = Unit {0}

-- the ask is as before, but where a turn takes its hook or hands one back, which is the state's
abbrev pub KeepsAsk : {H : Type 0} → (seen : H → Counts) → Contents → (seat : ℕ) → (before after : Ask H) → Result (Step H) NoMemory →
    Type 0
KeepsAsk seen b k before after (Ok (Turned turn)) = KeepsItsHook b k before after × GetsStatesHook seen b k before after
KeepsAsk seen b k before after (Ok (Lent a)) = after ≡ before
KeepsAsk seen b k before after (Err e) = after ≡ before

-- the pass of a seat put a board back: what is lent to the seat then is what the pass carries, and it is that of the entry that is due
pub record Keeps (seat : ℕ) (before after : Pass) : Type 0 where
  pub misses : after.misses ≡ before.misses
  pub own : aside_of seat after.kept ≡ after.aside
  pub loans : (a : Aside) → after.aside ≡ Some a → IsLoan after.head after.front seat a

-- ---- a section of a try, before a hook that it lent is called

-- what contracts see of a seat's pass, by the pass of the lock
abbrev pub seated : (seat : ℕ) → Pass → Seated
seated k p = record {
  lock = p.lock;
  head = p.head;
  front = p.front;
  seat = k;
  misses = p.misses;
  lent = p.aside;
  kept = p.kept;
}

-- a client's
abbrev pub StepTried : {H : Type 0} → (seen : H → Counts) → (old new : Seated) → (before after : Ask H) → Result (Step H) NoMemory →
    Type 0
StepTried seen old new before after (Ok (Turned turn)) = TookTurn seen old new before after turn
StepTried seen old new before after (Err e) = WantedOnce old new before × (after ≡ before)
StepTried seen old new before after (Ok (Lent a)) = TookLoan old new a.key.state × (new.lent ≡ Some a) × (after ≡ before)

-- a thread's
abbrev pub ServiceTried : {H : Type 0} → (old new : Seated) → Step H → Type 0
ServiceTried old new (Turned turn) = TookService old new turn
ServiceTried old new (Lent a) = TookLoan old new a.key.state × (new.lent ≡ Some a)

-- The operation that holds the map lock, and how far it is: one walk of one processor, or a sequence of walks. That it is the
-- journal's, and what it means that it comes to this. After `_cpu_up` and `_cpu_down`, and the loops of `kernel/cpu.c` over
-- processors.
use Rattle.std.specs.Prelude.{◌≡◌, ◌<◌, ◌≤◌, ◌==◌, if◌then◌else◌, ℕ, pos, Option, Some, None, List, slice_get}
use Rattle.hp_states.specs.declared.limits.TheConstants.{OFFLINE, ONLINE, MAX_EVENTS}
use Rattle.hp_event.specs.declared.op.Op.{Op}
use Rattle.hp_event.specs.declared.op.Op.TheVariants as op
use Rattle.hp_event.specs.declared.answer.Answer.{Answer}
use Rattle.hp_event.specs.declared.answer.Answer.TheVariants.{Ok}
use Rattle.hp_event.specs.declared.head.Head.{Head}
use Rattle.hp_event.specs.declared.event.Event.{Event}
use Rattle.hp_model.specs.MapLock.{Operation, operation}
use Rattle.hp_model.specs.Sequence.{Next, walks, ends, answers, target_of}
use Rattle.hp_suspend.specs.Freezing.{IsFreezing}
use Rattle.hp_suspend.specs.Thawing.{IsThawing}
use Rattle.hp_suspend.specs.Batching.{IsBatching}
use Rattle.hp_suspend.specs.Booting.{IsBooting}
use Rattle.hp_account.specs.declared.operation.OneWalk.{OneWalk}
use Rattle.hp_account.specs.declared.operation.Walks.{Walks}
use Rattle.hp_account.specs.declared.operation.Walks.TheVariants.{Single, Freeze, Thaw, Boot, Batch, NoWalk}
use Rattle.hp_account.specs.declared.operation.MapOperation.{MapOperation}

-- one walk, and its answer once it has ended
pub record IsSingle (cpu to : ℕ) (events : List Event) (w : OneWalk) : Type 0 where
  pub cpu_is : w.cpu ≡ cpu
  pub to_is : w.to ≡ to
  pub answer_is : w.answer ≡ slice_get (answers events) 0

-- what comes next of one walk, by where its processor stands and by its answer
abbrev pub single_by : (cpu to now : ℕ) → Option Answer → Next
single_by c to now None = if now == to then ends (Ok (pos 0)) else walks c to
single_by c to now (Some answer) = ends answer

-- the sequence is that of the operation, which entered after the first events, and now these have been made
abbrev pub AreWalks : Head → (entered events : List Event) → Op → Walks → Type 0
AreWalks head entered events (op.Up c) (Single w) = IsSingle c ONLINE events w
AreWalks head entered events (op.Down c) (Single w) = IsSingle c OFFLINE events w
AreWalks head entered events (op.Target c v) (Single w) = IsSingle c (target_of v) events w
AreWalks head entered events (op.Boot n) (Boot b) = IsBooting n events b
AreWalks head entered events (op.Freeze p) (Freeze f) = IsFreezing head entered events p f
AreWalks head entered events op.Thaw (Thaw t) = IsThawing events t
AreWalks head entered events (op.UpMany set) (Batch b) = IsBatching head entered events set b
AreWalks head entered events op.Disable NoWalk = Unit {0}
AreWalks head entered events op.Enable NoWalk = Unit {0}
AreWalks head entered events op sequence = ⊥

-- its counts have room for one walk more
abbrev pub CountsFit : Walks → Type 0
CountsFit (Thaw t) = t.failed < MAX_EVENTS
CountsFit (Boot b) = (b.failed < MAX_EVENTS) × (b.turned_back < MAX_EVENTS)
CountsFit (Batch b) = b.failed < MAX_EVENTS
CountsFit _ = Unit {0}

-- its counts are of no more walks than a journal has events
abbrev pub IsFew : Walks → Type 0
IsFew (Thaw t) = t.failed ≤ MAX_EVENTS
IsFew (Boot b) = b.failed ≤ MAX_EVENTS
IsFew (Batch b) = b.failed ≤ MAX_EVENTS
IsFew _ = Unit {0}

pub record IsHeld (head : Head) (events : List Event) (h : MapOperation) : Type 0 where
  pub of : Operation
  pub held : operation events ≡ Some of
  pub seat_is : h.seat ≡ of.seat
  pub op_is : h.op ≡ of.op
  pub sequence_is : AreWalks head of.before events of.op h.sequence

abbrev pub IsHeldBy : Head → List Event → Option MapOperation → Type 0
IsHeldBy head events None = operation events ≡ None
IsHeldBy head events (Some h) = IsHeld head events h

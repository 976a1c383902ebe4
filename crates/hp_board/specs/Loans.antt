-- What is lent of a board: hooks of entries that are due, each for the entry of a processor. This project's own.
use Rattle.std.specs.Prelude.{◌≡◌, ℕ, Bool, true, false, ◌&&◌, if◌then◌else◌, Option, Some, None, List, length}
use Rattle.hp_states.specs.CpuSets.{has}
use Rattle.hp_states.specs.declared.cpu_set.CpuSet.{CpuSet}
use Rattle.hp_states.specs.declared.dir.Dir.{Dir}
use Rattle.hp_states.specs.Rules.{counts_of}
use Rattle.hp_event.specs.declared.aside.Aside.{Aside}
use Rattle.hp_event.specs.declared.head.Head.{Head}
use Rattle.hp_event.specs.declared.how.How.{How}
use Rattle.hp_event.specs.declared.event.Event.{Event}
use Rattle.hp_event.specs.declared.event.Event.TheVariants.{Call}
use Rattle.hp_event.specs.declared.op.Op.{Op}
use Rattle.hp_event.specs.Hows.{is_called}
use Rattle.hp_model.specs.Calls.{sites, sub_at}
use Rattle.hp_model.specs.How.{answer_at}
use Rattle.hp_model.specs.Lent.{arms_walker, calls_at}
use Rattle.hp_model.specs.NextEvent.{next_event, due_entry}
use Rattle.hp_model.specs.Subsystems.{plan_of}
use Rattle.hp_table.specs.Step.{Step, step_at, is_home}
use Rattle.hp_locks.specs.declared.why.Why.TheVariants.{ApTurn}
use Rattle.hp_account.specs.declared.under_way.MadeBy.{MadeBy}
use Rattle.hp_account.specs.declared.under_way.MadeBy.TheVariants.{Hook}
use Rattle.hp_machine.specs.Next.{IsKept}
use Rattle.hp_machine.specs.StandsNext.{due_of}
use Rattle.hp_account.specs.UnderWay.{hook_asked}
use Rattle.hp_board.specs.Answered.{aside_of, answer_of_loan}
use Rattle.hp_board.specs.Contents.{Contents}

-- the hook of what stands at a state, as it was lent for an entry there, if it is away
abbrev pub aside_at : (cpu state inst : ℕ) → Dir → Option Step → Option Aside
aside_at c s i d None = None
aside_at c s i d (Some step) = if step.kept.home then None else Some (aside_of c (record { state = s; inst = i }) d step.kept.counts)

abbrev pub loan_of : Option Event → (lent : CpuSet) → List (Option Step) → Option Aside
loan_of (Some (Call seat cpu state inst dir how)) lent places =
    if has lent cpu then aside_at cpu state inst dir (step_at places state) else None
loan_of _ lent places = None

-- what is lent to a seat, if anything is: the hook of the entry that is due from it, where hooks are lent for the entry's processor
abbrev pub loan : Contents → (seat : ℕ) → Option Aside
loan b k = loan_of (due_entry b.head b.events k) b.lent b.places

-- whether an entry is made by the answer of its hook, and that is home
abbrev pub can_lend : Option Event → List (Option Step) → Bool
can_lend (Some (Call seat cpu state inst dir how)) places = is_called how && is_home (step_at places state)
can_lend _ places = false

abbrev pub is_hook : MadeBy → Bool
is_hook Hook = true
is_hook _ = false

-- so is the entry that is due from a seat
abbrev pub CanLendTo : Contents → (seat : ℕ) → Type 0
CanLendTo b k = can_lend (due_of b k) b.places ≡ true

-- the hook of a state is away, lent for an entry that is due and that its answer makes
pub record IsOutFor (b : Contents) (state : ℕ) : Type 0 where
  pub seat : ℕ
  pub cpu : ℕ
  pub inst : ℕ
  pub dir : Dir
  pub how : How
  pub due : due_entry b.head b.events seat ≡ Some (Call seat cpu state inst dir how)
  pub called : is_called how ≡ true
  pub lent : has b.lent cpu ≡ true
  pub away : is_home (step_at b.places state) ≡ false

-- that of some state is, for the entry of a processor
pub record IsOutOn (b : Contents) (cpu : ℕ) : Type 0 where
  pub state : ℕ
  pub out : IsOutFor b state
  pub cpu_is : out.cpu ≡ cpu

-- Several hooks can be away at once. Of each processor that hooks are lent for, an entry is due, a hook's answer makes it, and that hook
-- is away (`each`). No other hook is (`only`), and two of these processors have entries at two states (`apart`).
pub record AreOut (b : Contents) : Type 0 where
  pub each : (cpu : ℕ) → has b.lent cpu ≡ true → IsOutOn b cpu
  pub only : (state : ℕ) → is_home (step_at b.places state) ≡ false → IsOutFor b state
  pub apart : (state : ℕ) (one other : IsOutFor b state) → one.cpu ≡ other.cpu

-- The five facts of what is lent to a seat: it is the entry that is due from the seat; no armed fault is taken in its place; and
-- the hook has the plan of the state's subsystem, the counts of that plan over the state's calls since its setup began, and the
-- number of these calls. So it answers what the definitions say of the entry, though it was away.
pub record IsLoan (head : Head) (events : List Event) (seat : ℕ) (a : Aside) : Type 0 where
  pub how : How
  pub due : due_entry head events seat ≡ Some (Call seat a.cpu a.key.state a.key.inst a.dir how)
  pub called : is_called how ≡ true
  pub plan_is : a.plan ≡ plan_of (sub_at head a.key.state events)
  pub seen_is : a.seen ≡ counts_of a.plan (sites a.key.state events)
  pub base_is : a.base ≡ length (sites a.key.state events)
  pub answer_is : answer_of_loan a ≡ answer_at head events a.cpu a.key.state a.key.inst a.dir

-- whatever is lent to a seat is so
abbrev pub AreLoans : Contents → Type 0
AreLoans b = (k : ℕ) (a : Aside) → loan b k ≡ Some a → IsLoan b.head b.events k a

-- an entry calls the hook of a state, which is away
pub record CallsAway (b : Contents) (state : ℕ) (next : Option Event) : Type 0 where
  pub event : Event
  pub next_is : next ≡ Some event
  pub calls : calls_at state event ≡ true
  pub away : is_home (step_at b.places state) ≡ false

-- a client waits for a processor's thread, and the entry that this has to make calls the hook of a state, which is away
pub record WaitsForThread (b : Contents) (state seat : ℕ) (op : Op) : Type 0 where
  pub cpu : ℕ
  pub kept : IsKept b.head b.events seat op (ApTurn cpu)
  pub asks : hook_asked kept.why_is.state kept.why_is.how ≡ Some state
  pub away : is_home (step_at b.places state) ≡ false

-- a write of `fail` can stand, in the middle of the walk of a processor that the hook of a state is lent for
pub record WaitsToArm (b : Contents) (state seat : ℕ) (op : Op) : Type 0 where
  pub event : Event
  pub next_is : next_event b.head b.events seat op ≡ Some event
  pub out : IsOutFor b state
  pub arms : arms_walker b.events (Call out.seat out.cpu state out.inst out.dir out.how) event ≡ true

-- an event doesn't arm a processor in the middle of a walk whose hook is out
abbrev pub ArmsNone : Contents → Event → Type 0
ArmsNone b e =
    (s : ℕ) (o : IsOutFor b s) → arms_walker b.events (Call o.seat o.cpu s o.inst o.dir o.how) e ≡ false

-- nor calls a hook that is away
abbrev pub CallsHome : Contents → Event → Type 0
CallsHome b e = (s : ℕ) → calls_at s e ≡ true → is_home (step_at b.places s) ≡ true

abbrev pub IsCalm : Contents → Event → Type 0
IsCalm b e = ArmsNone b e × CallsHome b e

-- Whether what a seat does next meets a hook that is out: an entry that a thread has to make, or a write of `fail`. This project's own.
use Rattle.std.specs.Prelude.{◌≡◌, ℕ, true, false, is_some, Some}
use Rattle.hp_event.specs.declared.event.Event.{Event}
use Rattle.hp_event.specs.declared.event.Event.TheVariants.{Call}
use Rattle.hp_event.specs.declared.op.Op.{Op}
use Rattle.hp_account.specs.UnderWay.{hook_asked}
use Rattle.hp_locks.specs.declared.why.Why.{Why}
use Rattle.hp_machine.specs.Next.{IsKept}
use Rattle.hp_model.specs.ApTurn.{IsApTurn}
use Rattle.hp_model.specs.Lent.{arms_walker}
use Rattle.hp_model.specs.Walks.{walk}
use Rattle.hp_table.specs.Step.{step_at, is_home}
use Rattle.hp_board.specs.Contents.{Contents}
use Rattle.hp_board.specs.Loans.{IsOutFor}
use Rattle.hp_board.specs.Turns.{IsNotYet}

-- an event arms a processor in the middle of a walk that the hook of a state is out for
abbrev pub ArmsBeside : Contents → Event → (state : ℕ) → Type 0
ArmsBeside b e s =
    (o : IsOutFor b s) × (arms_walker b.events (Call o.seat o.cpu s o.inst o.dir o.how) e ≡ true)

-- the hook of a state is out for the walk of a processor
abbrev pub IsOutInWalk : Contents → (cpu state : ℕ) → Type 0
IsOutInWalk b c s = (o : IsOutFor b s) × (o.cpu ≡ c) × (is_some (walk c b.events) ≡ true)

-- no hook is out for it
abbrev pub NoneOutInWalk : Contents → (cpu : ℕ) → Type 0
NoneOutInWalk b c = (s : ℕ) (o : IsOutFor b s) → o.cpu ≡ c → is_some (walk c b.events) ≡ false

-- the entry that the thread of a processor has to make, where a client waits for it, calls the hook of this state
abbrev pub ThreadCalls : Contents → (cpu state : ℕ) → Type 0
ThreadCalls b c s =
    (seat : ℕ) (turn : IsApTurn b.head b.events seat c) → hook_asked turn.state turn.how ≡ Some s

-- and calls none that is away
abbrev pub ThreadCallsHome : Contents → (cpu : ℕ) → Type 0
ThreadCallsHome b c =
    (seat s : ℕ) (turn : IsApTurn b.head b.events seat c) → hook_asked turn.state turn.how ≡ Some s →
    is_home (step_at b.places s) ≡ true

-- what waits for `why` by the machine waits for this by the board
abbrev pub IsWhyNotYet : Contents → (why on_board : Why) → Type 0
IsWhyNotYet b why on_board =
    (seat : ℕ) (op : Op) → IsKept b.head b.events seat op why → IsNotYet seat op b on_board

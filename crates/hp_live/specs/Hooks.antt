-- Which hook a client's operation has after a turn: the one that it had, or that of the state which its registration is for. After the
-- callbacks of `struct cpuhp_step` of `kernel/cpu.c`; that an operation has its hook is this project's own.
use Rattle.std.specs.Prelude.{◌≡◌, ℕ, true, false, Option, Some, IfSome, List}
use Rattle.hp_event.specs.declared.event.Event.{Event}
use Rattle.hp_event.specs.declared.head.Head.{Head}
use Rattle.hp_event.specs.declared.op.Op.{Op}
use Rattle.hp_hook.specs.Counted.{Counts}
use Rattle.hp_locks.specs.declared.why.Why.{Why}
use Rattle.hp_model.specs.Calls.{sub_at}
use Rattle.hp_model.specs.NextEvent.{next_event}
use Rattle.hp_model.specs.Registrations.{Registration, registration}
use Rattle.hp_model.specs.Subsystems.{plan_of}
use Rattle.hp_account.specs.Table.{counts_by}
use Rattle.hp_board.specs.Hooks.{leaves_hook}
use Rattle.hp_board.specs.declared.turn.Turn.{Turn}
use Rattle.hp_board.specs.declared.turn.Turn.TheVariants.{NotYet}

-- a hook is that of the state which the registration in flight is for: it has the plan of the state's subsystem, and has counted the
-- calls of these events since the state's setup began
pub record IsOfState {H : Type 0} (seen : H → Counts) (head : Head) (events : List Event) (hook : H) : Type 0 where
  pub of : Registration
  pub in_flight : registration events ≡ Some of
  pub counts_are : seen hook ≡ counts_by (plan_of (sub_at head of.state events)) events of.state

-- the hook after a turn: where the event that comes next neither takes it nor hands one out, or where nothing was made, it is the same
-- one, and one that is handed out is the state's
pub record TurnsHook {H : Type 0} (seen : H → Counts) (head : Head) (found : List Event) (seat : ℕ) (op : Op) (was now : Option H)
    (turn : Turn) : Type 0 where
  pub same : leaves_hook found (next_event head found seat op) ≡ true → now ≡ was
  pub states : leaves_hook found (next_event head found seat op) ≡ false → IfSome now (IsOfState seen head found)
  pub waits : (why : Why) → turn ≡ NotYet why → now ≡ was

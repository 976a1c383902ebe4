-- What keeps an operation from beginning: that it is refused with this number, or isn't refused and waits for this. This
-- project's own.
use Rattle.std.specs.Prelude.{◌≡◌, ℕ, Some, None, option_map, List}
use Rattle.hp_event.specs.declared.op.Op.{Op}
use Rattle.hp_event.specs.declared.head.Head.{Head}
use Rattle.hp_event.specs.declared.event.Event.{Event}
use Rattle.hp_locks.specs.declared.why.Why.{Why}
use Rattle.hp_model.specs.Refusals.{refusal}
use Rattle.hp_model.specs.Waits.{wait_to_begin}
use Rattle.hp_machine.specs.declared.refusals.Blocked.{Blocked}
use Rattle.hp_machine.specs.declared.refusals.Blocked.TheVariants.{Refused, Waits}
use Rattle.hp_account.specs.Locks.{why_of}

-- the operation of the seat isn't refused, and waits for this before it begins
pub record IsKeptBack (head : Head) (events : List Event) (seat : ℕ) (op : Op) (why : Why) : Type 0 where
  pub not_refused : refusal head events seat op ≡ None
  pub why_is : Some why ≡ option_map why_of (wait_to_begin events op)

abbrev pub IsBlockedBy : Head → List Event → (seat : ℕ) → Op → Blocked → Type 0
IsBlockedBy head events k op (Refused errno) = refusal head events k op ≡ Some errno
IsBlockedBy head events k op (Waits why) = IsKeptBack head events k op why

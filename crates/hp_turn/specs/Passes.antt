-- Which passes a lock gave, and which of them may take it. This project's own.
use Rattle.std.specs.Prelude.{◌≡◌, None}
use Rattle.atomic_table.specs.Seated.{TableId}
use Rattle.hp_turn.specs.Pass.{Pass}
use Rattle.hp_turn.specs.declared.parts.TurnLock.{TurnLock}

module _ {V : Type 0} where
  -- what tells one lock from another
  abbrev pub lock_id : TurnLock V → TableId
  lock_id lock = lock.table.shared.table_id

  abbrev pub IsPassOf : TurnLock V → Pass → Type 0
  IsPassOf lock pass = pass.lock ≡ lock_id lock

  -- the lock gave the pass, which doesn't hold it
  abbrev pub MayLock : TurnLock V → Pass → Type 0
  MayLock lock pass = IsPassOf lock pass × (pass.held ≡ None)

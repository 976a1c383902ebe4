-- What a seat finds after what another seat did: its own operation is as it was. This project's own.
use Rattle.std.specs.Prelude.{◌≡◌, ℕ}
use Rattle.hp_event.specs.declared.op.Op.{Op}
use Rattle.hp_model.specs.Pending.{IsAllowed}
use Rattle.hp_model.specs.Seats.{is_busy}
use Rattle.hp_board.specs.Contents.{Contents}

-- it is as busy as before, and may ask for what it might ask for
pub record StaysFor (old new : Contents) (seat : ℕ) : Type 0 where
  pub busy : is_busy seat new.events ≡ is_busy seat old.events
  pub allowed :
      (op : Op) → IsAllowed old.head old.events (record { seat = seat; op = op }) →
      IsAllowed new.head new.events (record { seat = seat; op = op })

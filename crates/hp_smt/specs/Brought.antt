-- That a write of On brought up what was recorded as it began: of each processor the journal has an `up` since then that answered Ok(0).
-- This project's own.
use Rattle.std.specs.Prelude.{◌≡◌, ℕ, pos, ◌≤◌, true, Some, List, ◌∷◌, ◌++◌, length}
use Rattle.hp_states.specs.CpuSets.{has}
use Rattle.hp_event.specs.declared.answer.Answer.TheVariants.{Ok}
use Rattle.hp_event.specs.declared.event.Event.{Event}
use Rattle.hp_event.specs.declared.event.Event.TheVariants.{OpEnd}
use Rattle.hp_event.specs.declared.op.Op.TheVariants.{Up}
use Rattle.hp_model.specs.MapLock.{Operation, operation}
use Rattle.hp_board.specs.declared.turn.Turn.{Turn}
use Rattle.hp_board.specs.declared.turn.Turn.TheVariants.{Answered}
use Rattle.hp_smt.specs.Contents.{Controlled}
use Rattle.hp_smt.specs.declared.mode.Control.TheVariants.{On}
use Rattle.hp_smt.specs.declared.setting.Write.{Write}

-- an `up` of a processor by a seat, which entered after at least so many events, and ended Ok(0)
pub record IsBroughtUp (events : List Event) (since seat cpu : ℕ) : Type 0 where
  pub before : List Event
  pub rest : List Event
  pub of : Operation
  pub events_are : events ≡ before ++ OpEnd seat (Ok (pos 0)) ∷ rest
  pub held : operation before ≡ Some of
  pub seat_is : of.seat ≡ seat
  pub op_is : of.op ≡ Up cpu
  pub since_is : since ≤ length of.before

-- of each processor that was recorded as a write began the journal has one, and nothing is recorded
pub record BroughtAllUp (w : Write) (new : Controlled) : Type 0 where
  pub each : (cpu : ℕ) → has w.first cpu ≡ true → IsBroughtUp new.board.events w.since w.seat cpu
  pub none_recorded : (cpu : ℕ) → has new.setting.recorded cpu ≡ true → ⊥

-- so it is where a write of On has answered Ok(0)
abbrev pub BringsAllUp : Write → (new : Controlled) → Turn → Type 0
BringsAllUp w new (Answered at a) = w.want ≡ On → a ≡ Ok (pos 0) → BroughtAllUp w new
BringsAllUp w new _ = Unit {0}

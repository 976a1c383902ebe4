-- How the seats of processors' threads leave at the end of a run, by what the root hears of it. This project's own.
use Rattle.std.specs.Prelude.{◌≡◌, true, Some, None, List, [], ◌∷◌}
use mathlib.Core.List.{IsPrefix}
use Rattle.hp_event.specs.declared.event.Event.{Event}
use Rattle.hp_live.specs.Known.{Seated}
use Rattle.hp_live.specs.Threads.{LeavesAfter}
use Rattle.hp_model.specs.Front.{StandsFor}
use Rattle.hp_turn.specs.Story.{Knows}

-- a seat heard of all that the root had seen, made the entries that were due and its leave, and the root heard of that
pub record HasGone (pass : Seated) (old new : List Event) : Type 0 where
  pub told : List Event
  pub heard : StandsFor (Some pass.seat) pass.front told
  pub past : IsPrefix old told
  pub ended : List Event
  pub leaves : LeavesAfter pass.head pass.seat told ended
  pub met : IsPrefix ended new
  pub grown : Knows None true old new

-- one after another
abbrev pub HaveGone : List Seated → (old new : List Event) → Type 0
HaveGone [] old new = new ≡ old
HaveGone (pass ∷ passes) old new = (mid : List Event) × HasGone pass old mid × HaveGone passes mid new

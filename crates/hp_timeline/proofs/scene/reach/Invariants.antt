use Rattle.std.proofs.Common.{◌≡◌, ℕ, ◌+◌, Option, None, List, length, get_or}
use Rattle.hp_timeline.proofs.scene.reach.Given as goal

-- so many places more, each with none
pub record Longer (old new : List (Option ℕ)) (more : ℕ) : Type 0 where
  pub same : (k : ℕ) → get_or new k None ≡ get_or old k None
  pub longer : length new ≡ length old + more

abbrev pub invariant-loop : goal.invariant-loop
invariant-loop l = Longer l.initial.sections.items l.sections.items l.counter

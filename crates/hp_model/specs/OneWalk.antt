-- The walks in flight are those of one operation, and but in an upmany one at most is in flight. A walk leaves each processor that
-- hasn't walked beside it as it was, however it ends. After `cpus_write_lock` of `kernel/cpu.c`, which one operation holds; that an
-- upmany holds it for several walks is this project's own.
use Rattle.std.specs.Prelude.{◌≡◌, ℕ, true, false, Some, List, [], ◌∷◌, ◌++◌, ◌⊎◌}
use Rattle.hp_event.specs.declared.answer.Answer.{Answer}
use Rattle.hp_event.specs.declared.event.Event.{Event}
use Rattle.hp_event.specs.declared.event.Event.TheVariants.{WalkEnd}
use Rattle.hp_model.specs.MapLock.{Operation, operation}
use Rattle.hp_model.specs.Walks.{Walk, walk, touched}
use Rattle.hp_model.specs.Suspend.{held_by}
use Rattle.hp_model.specs.Batch.{is_upmany}
use Rattle.hp_model.specs.Headline.{Unchanged}

-- of two walks in flight both are one processor's, or the operation is an upmany
abbrev pub IsOnlyWalk : List Event → Type 0
IsOnlyWalk events =
    (one other : ℕ) (w v : Walk) → walk one events ≡ Some w → walk other events ≡ Some v →
    (one ≡ other) ⊎ (held_by is_upmany (operation events) ≡ true)

-- where a walk has just ended, with any answer, each processor that hasn't walked since it began is as it was then
abbrev pub LeavesOthers : List Event → Type 0
LeavesOthers events =
    (before : List Event) (seat cpu : ℕ) (answer : Answer) (w : Walk) → events ≡ before ++ WalkEnd seat cpu answer ∷ [] →
    walk cpu before ≡ Some w → (other : ℕ) → touched cpu other before ≡ false → Unchanged other w.before events

-- Of a journal: a walk in flight is of the operation that holds the map lock (`held`). No two are in flight together but in an upmany
-- (`one`), nor, but in an upmany, has another processor walked since one in flight began (`since_begin`), which is what the headline
-- asks of the others where a walk faults or is stuck. So each walk leaves them as they were (`others`). Said of every front of a journal
-- it is said of each walk in it.
pub record WalksAlone (events : List Event) : Type 0 where
  pub held : (cpu : ℕ) (w : Walk) → walk cpu events ≡ Some w →
      (o : Operation) × (operation events ≡ Some o) × (o.seat ≡ w.seat)
  pub one : IsOnlyWalk events
  pub since_begin : (cpu other : ℕ) (w : Walk) → walk cpu events ≡ Some w → held_by is_upmany (operation events) ≡ false →
      (other ≡ cpu → ⊥) → touched cpu other events ≡ false
  pub others : LeavesOthers events

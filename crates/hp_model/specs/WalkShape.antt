-- Walks: whole, turned back at a fault, or stuck at a second fault on the way back. The order and the
-- way back are those of `core-api/cpu_hotplug.rst`; what a fault on the way back does is this
-- project's own: `kernel/cpu.c` stops at it too, but for a bring-up from `cpu:bringup` or below,
-- whose rollback `cpuhp_up_callbacks` goes on with, past the state that faulted. Below `cpu:bringup`
-- a rollback ends there at a fault of a teardown, and here no such fault counts.
use Rattle.std.specs.Prelude.{◌≡◌, ℕ, pos, List, [], ◌∷◌, ◌++◌, reverse}
use Rattle.hp_states.specs.declared.dir.Dir.{Dir}
use Rattle.hp_states.specs.declared.place.Place.{Place}
use Rattle.hp_states.specs.declared.place.Place.TheVariants.{Forward, Back}
use Rattle.hp_states.specs.Sections.{opposite}
use Rattle.hp_event.specs.declared.event.Event.{Event}
use Rattle.hp_event.specs.declared.answer.Answer.{Answer}
use Rattle.hp_event.specs.declared.answer.Answer.TheVariants.{Ok, Fault, Stuck}
use Rattle.hp_model.specs.Entries.{codes_of_faults}
use Rattle.hp_model.specs.Crossing.{Crossing, done, failed, far, slots, Fill, Begin}

-- how a walk ends
pub data Outcome : Type 0 where
  went : Outcome
  returned : Outcome
  stopped : (at : ℕ) → Outcome

-- done crossings of some states
abbrev pub crossed : Place → Dir → List ℕ → List Crossing
crossed p d [] = []
crossed p d (s ∷ ss) = done p d s ∷ crossed p d ss

-- The states before one were crossed, that one failed, and those before it were crossed back, last first.
pub record IsBack (keys : ℕ → List ℕ) (d : Dir) (plan : List ℕ) (xs : List Crossing) : Type 0 where
  pub before : List ℕ
  pub state : ℕ
  pub after : List ℕ
  pub earlier : List ℕ
  pub inst : ℕ
  pub later : List ℕ
  pub plan_is : plan ≡ before ++ state ∷ after
  pub keys_are : keys state ≡ earlier ++ inst ∷ later
  pub crossings_are :
      xs ≡ crossed Forward d before ++ (failed Forward d state earlier inst ∷ crossed Back (opposite d) (reverse before))

-- As back, but the return crossing of one state failed too, and nothing follows.
pub record IsStuck (keys : ℕ → List ℕ) (d : Dir) (plan : List ℕ) (at : ℕ) (xs : List Crossing) : Type 0 where
  pub before : List ℕ
  pub stuck_state : ℕ
  pub between : List ℕ
  pub state : ℕ
  pub after : List ℕ
  pub earlier : List ℕ
  pub inst : ℕ
  pub later : List ℕ
  pub stuck_earlier : List ℕ
  pub stuck_inst : ℕ
  pub stuck_later : List ℕ
  pub plan_is : plan ≡ before ++ (stuck_state ∷ (between ++ state ∷ after))
  pub keys_are : keys state ≡ earlier ++ inst ∷ later
  pub stuck_keys_are : keys stuck_state ≡ stuck_earlier ++ stuck_inst ∷ stuck_later
  pub crossings_are :
      xs ≡ crossed Forward d before
      ++ (done Forward d stuck_state
      ∷ (crossed Forward d between
      ++ (failed Forward d state earlier inst
      ∷ (crossed Back (opposite d) (reverse between)
      ++ failed Back (opposite d) stuck_state stuck_earlier stuck_inst ∷ []))))
  pub at_is : at ≡ far d stuck_state

abbrev pub IsWalkShape : (keys : ℕ → List ℕ) → Dir → (plan : List ℕ) → List Crossing → Outcome → Type 0
IsWalkShape keys d plan xs went = xs ≡ crossed Forward d plan
IsWalkShape keys d plan xs returned = IsBack keys d plan xs
IsWalkShape keys d plan xs (stopped at) = IsStuck keys d plan at xs

-- the answer of a walk that ends so, with these entries
abbrev pub IsAnswer : Outcome → List Event → Answer → Type 0
IsAnswer went entries answer = answer ≡ Ok (pos 0)
IsAnswer returned entries answer = (e : ℕ) × (codes_of_faults entries ≡ e ∷ []) × (answer ≡ Fault e)
IsAnswer (stopped at) entries answer =
    (e second : ℕ) × (codes_of_faults entries ≡ e ∷ second ∷ []) × (answer ≡ Stuck e second at)

-- The entries are those of a whole walk along the plan, with that answer.
pub record IsWholeWalk
    (cpu : ℕ) (keys : ℕ → List ℕ) (d : Dir) (plan : List ℕ) (entries : List Event) (answer : Answer) : Type 0
  where
    pub outcome : Outcome
    pub crossings : List Crossing
    pub shape : IsWalkShape keys d plan crossings outcome
    pub filled : Fill (slots cpu keys crossings) entries
    pub answered : IsAnswer outcome entries answer

-- The entries are the first of such a walk.
pub record IsWalkSoFar
    (cpu : ℕ) (keys : ℕ → List ℕ) (d : Dir) (plan : List ℕ) (entries : List Event) : Type 0
  where
    pub outcome : Outcome
    pub crossings : List Crossing
    pub shape : IsWalkShape keys d plan crossings outcome
    pub begun : Begin (slots cpu keys crossings) entries

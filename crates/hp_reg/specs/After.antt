-- Where a registration stands after the entries that were asked for and made, and how its next step goes on with them:
-- by another entry of a registration shape, or by the end of one. This project's own; the shapes are those of
-- `RegistrationShape.antt` of hp_model.
use Rattle.std.specs.Prelude.{◌≡◌, ℕ, ◌<◌, Bool, true, false, Option, Some, None, List, [], ◌∷◌, ◌++◌, AllPairs}
use Rattle.hp_states.specs.declared.dir.Dir.{Dir}
use Rattle.hp_states.specs.declared.place.Place.{Place}
use Rattle.hp_states.specs.declared.place.Place.TheVariants.{Undo, Remove}
use Rattle.hp_event.specs.declared.answer.Answer.{Answer}
use Rattle.hp_event.specs.declared.how.How.{How}
use Rattle.hp_event.specs.declared.event.Event.{Event}
use Rattle.hp_event.specs.declared.event.Event.TheVariants as event
use Rattle.hp_event.specs.declared.key.Key.{Key}
use Rattle.hp_model.specs.Entries.{codes_of_faults}
use Rattle.hp_model.specs.Crossing.{Slot, Fits, Fill}
use Rattle.hp_model.specs.How.{fits}
use Rattle.hp_model.specs.RegistrationShape.{is_adding, ok_value, Registering, IsRegistrationShape, IsRegistrationAnswer}
use Rattle.hp_model.specs.StandsCalls.{IsNext}
use Rattle.hp_model.specs.Trees.{Tree, stop, down_tree, add_tree, registration_tree}
use Rattle.hp_model.specs.Runs.{Runs}
use Rattle.hp_reg.specs.declared.phase.Phase.{Phase}
use Rattle.hp_reg.specs.declared.phase.Phase.TheVariants.{Making, Undoing}
use Rattle.hp_reg.specs.declared.step.RegStep.{RegStep}
use Rattle.hp_reg.specs.declared.step.RegStep.TheVariants.{Call, Ended}
use Rattle.hp_reg.specs.Progress.{Progress, from_on, below}
use Rattle.hp_reg.specs.Asked.{asked}

-- what can still follow, of all that can follow from the start of the registration
abbrev pub tree_in : Phase → (adding : Bool) → (state inst : ℕ) → (cpus : List ℕ) → Tree
tree_in (Making from) true s i cpus = add_tree s i (below from cpus) (from_on from cpus)
tree_in (Making from) false s i cpus = down_tree Remove s i (from_on from cpus)
tree_in (Undoing from failed code) adding s i cpus = down_tree Undo s i (from_on from (below failed cpus))

abbrev pub tree_left : Option ℕ → (cpus : List ℕ) → Progress → Tree
tree_left None cpus p = stop
tree_left (Some i) cpus p = tree_in p.phase (is_adding p.op) p.state i cpus

-- the codes of the faults so far
abbrev pub codes_in : Phase → List ℕ
codes_in (Making from) = []
codes_in (Undoing from failed code) = code ∷ []

-- these entries were asked for and made, and the registration stands after them
pub record IsAfter (key : Option ℕ) (cpus : List ℕ) (entries : List Event) (p : Progress) : Type 0 where
  pub rising : AllPairs (λ c d. c < d) cpus
  pub leads : Runs (registration_tree (is_adding p.op) p.state key cpus) entries (tree_left key cpus p)
  pub codes : codes_of_faults entries ≡ codes_in p.phase

-- it stands before its first entry, whatever its key is and whichever processors it concerns
abbrev pub HasBegun : Progress → Type 0
HasBegun p = (key : Option ℕ) (cpus : List ℕ) → AllPairs (λ c d. c < d) cpus → IsAfter key cpus [] p

-- an entry that goes on with a registration shape, after exactly these entries
pub record IsNextEntry (key : Option ℕ) (cpus : List ℕ) (entries : List Event) (p : Progress) (place : Place) (entry : Event) : Type 0 where
  pub outcome : Registering
  pub slots : List Slot
  pub shape : IsRegistrationShape (is_adding p.op) p.state key cpus slots outcome
  pub slot : Slot
  pub is_next : IsNext slots entries slot
  pub fits : Fits slot entry
  pub place_is : slot.place ≡ place

-- these entries are the whole of a registration shape, which has that answer
pub record IsWhole (key : Option ℕ) (cpus : List ℕ) (entries : List Event) (p : Progress) (answer : Answer) : Type 0 where
  pub outcome : Registering
  pub slots : List Slot
  pub shape : IsRegistrationShape (is_adding p.op) p.state key cpus slots outcome
  pub filled : Fill slots entries
  pub answered : IsRegistrationAnswer outcome (ok_value p.op p.state) entries answer

-- however an entry is made that fits its place, and whoever makes it, it goes on with a shape
abbrev pub GoesOnBy : Option ℕ → (cpus : List ℕ) → List Event → Progress → (cpu : ℕ) → Key → Dir → Place → Type 0
GoesOnBy key cpus entries p c k d place =
    (seat : ℕ) (how : How) → fits how d k.state place ≡ true →
    IsNextEntry key cpus entries p place (event.Call seat c k.state k.inst d how)

-- what the next step is to the entries before it
abbrev pub GoesOn : Option ℕ → (cpus : List ℕ) → List Event → Progress → RegStep → Type 0
GoesOn key cpus entries p (Call c k d place) = GoesOnBy key cpus entries p c k d place
GoesOn key cpus entries p (Ended answer) = IsWhole key cpus entries p answer

-- it goes on with whatever entries the registration stands after
abbrev pub GoesOnFrom : Option ℕ → (cpus : List ℕ) → Progress → RegStep → Type 0
GoesOnFrom key cpus p next = (entries : List Event) → IsAfter key cpus entries p → GoesOn key cpus entries p next

-- the registration has gone on past an entry: whichever was asked for on this processor and made so, where that fits
-- its place, it stands after that entry too
abbrev pub WentOn : Progress → (cpu : ℕ) → How → Progress → Type 0
WentOn p cpu how q =
    (key : Option ℕ) (cpus : List ℕ) (entries : List Event) (seat : ℕ) (at : Key) (dir : Dir) (place : Place) →
    IsAfter key cpus entries p → asked key cpus p ≡ Call cpu at dir place → fits how dir at.state place ≡ true →
    IsAfter key cpus (entries ++ event.Call seat cpu at.state at.inst dir how ∷ []) q

-- Crossings of a state: done, or failed at one of its keys. After `cpuhp_invoke_callback` of `kernel/cpu.c`;
-- the instances of a state go in list order both ways there too. That a fault in STARTING leaves the crossing as it is,
-- and that a part is undone whatever that answers, is this project's own.
use Rattle.std.specs.Prelude.{◌≡◌, ℕ, Bool, false, true, not, List, [], ◌∷◌, ◌++◌}
use Rattle.std.specs.List.{AllZip}
use Rattle.hp_states.specs.declared.dir.Dir.{Dir}
use Rattle.hp_states.specs.declared.place.Place.{Place}
use Rattle.hp_states.specs.declared.place.Place.TheVariants.{Part}
use Rattle.hp_states.specs.Sections.{opposite}
use Rattle.hp_event.specs.declared.how.How.{How}
pub use Rattle.hp_states.specs.Crossings.{state_before as near, state_after as far}
use Rattle.hp_event.specs.declared.event.Event.{Event}
use Rattle.hp_event.specs.declared.event.Event.TheVariants.{Call}
use Rattle.hp_model.specs.Lists.{is_empty}
use Rattle.hp_model.specs.Entries.{is_done}

-- where an entry can stand
pub record Slot : Type 0 where
  pub cpu : ℕ
  pub state : ℕ
  pub inst : ℕ
  pub dir : Dir
  pub place : Place
  pub first : Bool
  pub fails : Bool

-- an entry of that processor, key and direction, a fault where one is wanted and else done
abbrev pub FitsAt : Slot → (cpu state inst : ℕ) → Dir → How → Type 0
FitsAt slot cpu state inst dir how =
    (cpu ≡ slot.cpu) × (state ≡ slot.state) × (inst ≡ slot.inst) × (dir ≡ slot.dir) × (is_done how ≡ not slot.fails)

abbrev pub Fits : Slot → Event → Type 0
Fits slot (Call seat cpu state inst dir how) = FitsAt slot cpu state inst dir how
Fits slot _ = ⊥

-- the entries are those of the slots, one for each
abbrev pub Fill : List Slot → List Event → Type 0
Fill slots entries = AllZip Fits slots entries

-- the entries are those of the first slots
abbrev pub Begin : List Slot → List Event → Type 0
Begin slots [] = Unit {0}
Begin [] (e ∷ es) = ⊥
Begin (slot ∷ slots) (e ∷ es) = Fits slot e × Begin slots es

-- done entries of some keys of a state
abbrev pub visit : (cpu : ℕ) → Place → Dir → (state : ℕ) → (first : Bool) → (insts : List ℕ) → List Slot
visit c p d s b [] = []
visit c p d s b (i ∷ is) =
    record { cpu = c; state = s; inst = i; dir = d; place = p; first = b; fails = false } ∷ visit c p d s false is

-- A crossing of a state: done, or failed at one key, after the keys before it were done.
pub data Crossing : Type 0 where
  done : Place → Dir → ℕ → Crossing
  failed : Place → Dir → ℕ → List ℕ → ℕ → Crossing

abbrev pub state_of : Crossing → ℕ
state_of (done p d s) = s
state_of (failed p d s earlier i) = s

-- Each key of the state in list order. Where one fails, the keys before it are undone in list order.
abbrev pub slots_of : (cpu : ℕ) → (keys : ℕ → List ℕ) → Crossing → List Slot
slots_of c keys (done p d s) = visit c p d s true (keys s)
slots_of c keys (failed p d s earlier i) =
    visit c p d s true earlier
    ++ (record { cpu = c; state = s; inst = i; dir = d; place = p; first = is_empty earlier; fails = true }
    ∷ visit c Part (opposite d) s false earlier)

abbrev pub slots : (cpu : ℕ) → (keys : ℕ → List ℕ) → List Crossing → List Slot
slots c keys [] = []
slots c keys (x ∷ xs) = slots_of c keys x ++ slots c keys xs

-- the state after some crossings: that of the last done crossing, less 1 if it went down
abbrev pub level : ℕ → List Crossing → ℕ
level a [] = a
level a (done p d s ∷ xs) = level (far d s) xs
level a (failed p d s earlier i ∷ xs) = level a xs

-- How far a registration has come. This project's own.
use Rattle.std.specs.Prelude.{ℕ, ◌+◌, nat_le, nat_lt, Option, Some, None, List, filter}
use Rattle.hp_event.specs.declared.op.Op.{Op}
use Rattle.hp_reg.specs.declared.phase.Phase.{Phase}
use Rattle.hp_reg.specs.declared.phase.Phase.TheVariants.{Making, Undoing}

-- the operation, the state that it registers or changes, and where its entries stand
pub record Progress : Type 0 where
  pub op : Op
  pub state : ℕ
  pub phase : Phase

-- of some processors those from a number on, and those below it
abbrev pub from_on : (cpu : ℕ) → List ℕ → List ℕ
from_on c cpus = filter (λ d. nat_le c d) cpus

abbrev pub below : (cpu : ℕ) → List ℕ → List ℕ
below c cpus = filter (λ d. nat_lt d c) cpus

-- the processors whose entry is still to come in this phase
abbrev pub cpus_left : Phase → List ℕ → List ℕ
cpus_left (Making from) cpus = from_on from cpus
cpus_left (Undoing from failed code) cpus = from_on from (below failed cpus)

-- the phase once the entry on a processor is done
abbrev pub past_done : Phase → (cpu : ℕ) → Phase
past_done (Making from) c = Making (c + 1)
past_done (Undoing from failed code) c = Undoing (c + 1) failed code

-- the phase once the entry on a processor was made: a fault of it is kept, and those before it are to be undone
abbrev pub past : Phase → (cpu : ℕ) → (fault : Option ℕ) → Phase
past phase c None = past_done phase c
past phase c (Some code) = Undoing 0 c code

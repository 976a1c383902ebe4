-- The slots of a dynamic range, and which of them is given out. After `cpuhp_reserve_state` of `kernel/cpu.c`.
use Rattle.std.specs.Prelude.{◌≡◌, ℕ, ◌<◌, ◌≤◌, true, false, Option, List}
use Rattle.hp_states.specs.declared.section.Range.{Range}
pub use Rattle.hp_states.specs.Sections.{first_slot, last_slot}
use Rattle.hp_table.specs.Step.{Step}
use Rattle.hp_table.specs.Named.{is_named}

-- the lowest slot of the range without a name
pub record IsLowestFree (places : List (Option Step)) (range : Range) (state : ℕ) : Type 0 where
  pub from : first_slot range ≤ state
  pub to : state ≤ last_slot range
  pub free : is_named places state ≡ false
  pub lowest : (s : ℕ) → first_slot range ≤ s → s < state → is_named places s ≡ true

-- each slot of the range has a name
abbrev pub IsFull : List (Option Step) → Range → Type 0
IsFull places range = (s : ℕ) → first_slot range ≤ s → s ≤ last_slot range → is_named places s ≡ true

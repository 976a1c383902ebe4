-- The instances of a state, and of the whole table. After the instance list of a `struct cpuhp_step` and its
-- `multi_instance` of `kernel/cpu.c`; how many there may be is this project's own.
use Rattle.std.specs.Prelude.{◌≡◌, ℕ, Bool, true, false, not, ◌&&◌, ◌||◌, ◌==◌, nat_le, IsTrue, Option, Some, None, List, [], ◌∷◌, length, filter, sum_by}
use Rattle.std.specs.List.{list_any}
use Rattle.hp_states.specs.declared.limits.TheConstants.{MAX_INSTANCES, MAX_TABLE_INSTANCES}
use Rattle.hp_table.specs.Step.{Step, step_at}

-- the instances of what is registered, newest first
abbrev pub instances_of : Option Step → List ℕ
instances_of None = []
instances_of (Some step) = step.insts

abbrev pub instances_at : List (Option Step) → (state : ℕ) → List ℕ
instances_at places s = instances_of (step_at places s)

abbrev pub is_multi : Option Step → Bool
is_multi None = false
is_multi (Some step) = step.kept.multi

-- whether a state is registered with an instance list
abbrev pub is_multi_at : List (Option Step) → (state : ℕ) → Bool
is_multi_at places s = is_multi (step_at places s)

abbrev pub is_among : ℕ → List ℕ → Bool
is_among inst insts = list_any (λ i. i == inst) insts

-- whether a state has an instance
abbrev pub has_instance : List (Option Step) → (state inst : ℕ) → Bool
has_instance places s inst = is_among inst (instances_at places s)

abbrev pub instances_in : Option Step → ℕ
instances_in place = length (instances_of place)

-- how many instances all states have together
abbrev pub instance_count : List (Option Step) → ℕ
instance_count places = sum_by instances_in places

-- whether a state has as many instances as a state may have, or the table as many as a table may have
abbrev pub has_no_room : List (Option Step) → (state : ℕ) → Bool
has_no_room places s = nat_le MAX_INSTANCES (length (instances_at places s)) || nat_le MAX_TABLE_INSTANCES (instance_count places)

-- a step with one instance more: it is the newest
abbrev pub with_instance : ℕ → Step → Step
with_instance inst step = record { kept = step.kept; insts = inst ∷ step.insts }

-- a step without an instance: the others keep their order
abbrev pub without_instance : ℕ → Step → Step
without_instance inst step = record { kept = step.kept; insts = filter (λ i. not (i == inst)) step.insts }

-- whether an instance is one that a state may have: it isn't 0, and the state has an instance list
abbrev pub takes : List (Option Step) → (state inst : ℕ) → Bool
takes places s inst = not (inst == 0) && is_multi_at places s

-- an instance that can be added: the state may have it, hasn't it yet, and has room
pub record CanAdd (places : List (Option Step)) (state inst : ℕ) : Type 0 where
  pub taken : takes places state inst ≡ true
  pub new : has_instance places state inst ≡ false
  pub room : has_no_room places state ≡ false

-- one that the state may have, and has
abbrev pub HasAlready : List (Option Step) → (state inst : ℕ) → Type 0
HasAlready places s inst = IsTrue (takes places s inst) × IsTrue (has_instance places s inst)

-- one that the state may have and hasn't, and has no room for
abbrev pub LacksRoomFor : List (Option Step) → (state inst : ℕ) → Type 0
LacksRoomFor places s inst =
    IsTrue (takes places s inst) × (has_instance places s inst ≡ false) × IsTrue (has_no_room places s)

-- whether an instance can be taken out: the state has an instance list, and it is there
abbrev pub can_remove : List (Option Step) → (state inst : ℕ) → Bool
can_remove places s inst = is_multi_at places s && has_instance places s inst

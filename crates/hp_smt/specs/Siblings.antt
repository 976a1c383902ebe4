-- The threads of a core: of each `threads` processors in a row the first is the primary, and the others are its siblings. And which
-- operations bring a sibling up. After `topology_is_primary_thread` of `kernel/cpu.c`; that the numbers say it is this project's own.
use Rattle.std.specs.Prelude.{ℕ, Bool, true, false, not, ◌&&◌, ◌%◌, ◌==◌, is_some, Option, List, find}
use Rattle.hp_states.specs.declared.limits.TheConstants.{MAX_CPU_SET}
use Rattle.hp_states.specs.declared.cpu_set.CpuSet.{CpuSet}
use Rattle.hp_states.specs.CpuSets.{has}
use Rattle.hp_states.specs.Sections.{is_online_state}
use Rattle.hp_event.specs.declared.head.Head.{Head}
use Rattle.hp_event.specs.declared.event.Event.{Event}
use Rattle.hp_event.specs.declared.op.Op.{Op}
use Rattle.hp_event.specs.declared.op.Op.TheVariants.{Up, Target, Boot, UpMany}
use Rattle.hp_model.specs.Lists.{numbers}
use Rattle.hp_model.specs.Sequence.{target_of}
use Rattle.hp_model.specs.Settled.{is_online}

abbrev pub is_sibling : (threads cpu : ℕ) → Bool
is_sibling n c = not (c % n == 0)

-- the lowest processor of a set
unfoldable pub lowest_of : CpuSet → Option ℕ
lowest_of set = find (has set) (numbers MAX_CPU_SET)

-- the lowest sibling of a set
unfoldable pub sibling_in : (threads : ℕ) → CpuSet → Option ℕ
sibling_in n set = find (λ c. has set c && is_sibling n c) (numbers MAX_CPU_SET)

-- the lowest sibling that is online
unfoldable pub sibling_online : (threads : ℕ) → Head → List Event → Option ℕ
sibling_online n head events = find (λ c. is_online c events && is_sibling n c) (numbers head.possible)

-- whether an operation asks for a sibling to be brought up, or may come to bring one up
abbrev pub is_up_of_sibling : (threads : ℕ) → Op → Bool
is_up_of_sibling n (Up c) = is_sibling n c
is_up_of_sibling n (Target c v) = is_sibling n c && is_online_state (target_of v)
is_up_of_sibling n (UpMany set) = is_some (sibling_in n set)
is_up_of_sibling n (Boot k) = true
is_up_of_sibling n _ = false

-- The present processors of a machine, those online, and those at or above a state. After `cpu_possible_mask`,
-- `cpu_present_mask` and `cpu_online_mask` of `kernel/cpu.c`.
use Rattle.std.specs.Prelude.{ℕ, Bool, ◌&&◌, nat_lt, nat_le, List, filter}
use Rattle.hp_event.specs.declared.head.Head.{Head}
use Rattle.hp_event.specs.declared.event.Event.{Event}
pub use Rattle.hp_event.specs.Heads.{is_present}
use Rattle.hp_model.specs.Lists.{numbers}
use Rattle.hp_model.specs.Settled.{settled, is_online}

abbrev pub is_possible : Head → (cpu : ℕ) → Bool
is_possible head c = nat_lt c head.possible

-- each list is in rising number
abbrev pub present : Head → List ℕ
present head = filter (λ c. is_present head c) (numbers head.possible)

abbrev pub online : Head → List Event → List ℕ
online head events = filter (λ c. is_online c events) (numbers head.possible)

-- the present processors that stand at a state or above it
abbrev pub processors : Head → (state : ℕ) → List Event → List ℕ
processors head s events = filter (λ c. is_present head c && nat_le s (settled c events)) (numbers head.possible)

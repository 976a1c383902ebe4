-- What a head says of a processor and of a number: whether the processor is present, and which subsystem has the
-- number. After `cpu_present_mask` of `kernel/cpu.c`; that subsystems have numbers is this project's own.
use Rattle.std.specs.Prelude.{ℕ, zero, suc, ◌+◌, Bool, not, ◌&&◌, ◌==◌, nat_lt, if◌then◌else◌, Option, None, List, [], ◌∷◌, slice_get}
use Rattle.hp_event.specs.declared.head.Sub.{Sub}
use Rattle.hp_event.specs.declared.head.Head.{Head}

-- how often a number is in a list
abbrev pub occurs : ℕ → List ℕ → ℕ
occurs i [] = 0
occurs i (x ∷ xs) = (if x == i then 1 else 0) + occurs i xs

abbrev pub among : ℕ → List ℕ → Bool
among i xs = nat_lt 0 (occurs i xs)

abbrev pub is_present : Head → (cpu : ℕ) → Bool
is_present head c = nat_lt c head.possible && not (among c head.absent)

-- the subsystem of a number
abbrev pub sub_numbered : Head → (number : ℕ) → Option Sub
sub_numbered head zero = None
sub_numbered head (suc n) = slice_get head.subs n

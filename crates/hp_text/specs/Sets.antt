-- A set of processors in words: one or more numbers from 0 to 255, each above the one before it. This project's own.
use Rattle.std.specs.Prelude.{ℕ, ◌+◌, Bool, true, not, ◌&&◌, ◌||◌, nat_lt, nat_le, if◌then◌else◌, List, [], ◌∷◌, map, Ok, Err}
use Rattle.std.specs.List.{list_all}
use Rattle.hp_states.specs.declared.limits.TheConstants.{MAX_CPU_SET}
use Rattle.hp_states.specs.declared.cpu_set.CpuSet.{CpuSet}
use Rattle.hp_model.specs.Lists.{is_empty}
use Rattle.hp_model.specs.SetOf.{set_of}
use Rattle.hp_text.specs.declared.unread.Unread.{Unread}
use Rattle.hp_text.specs.declared.unread.Unread.TheVariants.{NotOfForm, OutOfRange}
use Rattle.hp_text.specs.Numbers.{is_number, value}
use Rattle.hp_text.specs.Readings.{Reading, Tail}

-- the first is at least as high as this, each is above the one before it, and all are below a limit
abbrev pub rise_from : (low limit : ℕ) → List ℕ → Bool
rise_from low limit [] = true
rise_from low limit (n ∷ ns) = nat_le low n && nat_lt n limit && rise_from (n + 1) limit ns

-- the set of some numbers, where they rise
abbrev pub if_rising : List ℕ → Reading CpuSet
if_rising cpus = if rise_from 0 MAX_CPU_SET cpus then Ok (set_of cpus) else Err OutOfRange

-- why words say no set behind a number that is out of its range: they may have others than numbers
abbrev pub out_of_range : (behind : List (List ℕ)) → Unread
out_of_range behind = if list_all is_number behind then OutOfRange else NotOfForm

unfoldable pub set : Tail CpuSet
set words =
    if is_empty words || not (list_all is_number words) then Err NotOfForm else if_rising (map value words)

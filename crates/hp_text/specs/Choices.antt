-- Words of which each is one of a few, and names. This project's own.
use Rattle.std.specs.Prelude.{ℕ, Bool, true, false, ◌&&◌, nat_le, if◌then◌else◌, List, [], length, Option, Some, None, Ok, codes}
use Rattle.std.specs.List.{list_all}
use Rattle.std.specs.Str.{bytes_eq}
use Rattle.hp_states.specs.declared.dir.Dir.{Dir}
use Rattle.hp_states.specs.declared.dir.Dir.TheVariants.{Up, Down}
use Rattle.hp_states.specs.declared.limits.TheConstants.{MAX_NAME_LEN}
use Rattle.hp_states.specs.Names.{is_name_byte}
use Rattle.hp_text.specs.Readings.{Reading, said}
use Rattle.hp_text.specs.Numbers.{number_from}

unfoldable pub dir_of : (word : List ℕ) → Option Dir
dir_of w = if bytes_eq w (codes "up") then Some Up else (if bytes_eq w (codes "down") then Some Down else None)

-- which callbacks there are: a startup, a teardown
unfoldable pub calls_of : (word : List ℕ) → Option (Bool × Bool)
calls_of w =
    if bytes_eq w (codes "both")
    then Some (true, true)
    else
    (if bytes_eq w (codes "up")
    then Some (true, false)
    else
    (if bytes_eq w (codes "down")
    then Some (false, true)
    else (if bytes_eq w (codes "none") then Some (false, false) else None)))

-- whether there are instances
unfoldable pub kind_of : (word : List ℕ) → Option Bool
kind_of w = if bytes_eq w (codes "multi") then Some true else (if bytes_eq w (codes "single") then Some false else None)

-- a word that stands for a name: 1 to 32 letters, digits and `:` `_` `/` `.` `-`
abbrev pub is_name : (word : List ℕ) → Bool
is_name w = nat_le 1 (length w) && (nat_le (length w) MAX_NAME_LEN && list_all is_name_byte w)

-- a name, or a dash for none
unfoldable pub name_of : (word : List ℕ) → Option (List ℕ)
name_of w = if bytes_eq w (codes "-") then Some [] else (if is_name w then Some w else None)

-- a number from `low`, below a limit, or a star for any
unfoldable pub any_from : (low limit : ℕ) → (word : List ℕ) → Reading (Option ℕ)
any_from low limit w = if bytes_eq w (codes "*") then Ok None else said (λ n. Some n) (number_from low limit w)

-- The form of a name: which bytes it has, and how many. This project's own.
use Rattle.std.specs.Prelude.{◌≢◌, ℕ, ◌≤◌, Bool, ◌&&◌, ◌||◌, ◌==◌, nat_le, List, length, codes}
use Rattle.std.specs.List.{AllPass}
use Rattle.hp_states.specs.declared.limits.TheConstants.{MAX_NAME_LEN}

-- a letter, a digit, or one of `:` `_` `/` `.` `-`
abbrev pub is_name_byte : ℕ → Bool
is_name_byte b =
    (nat_le 97 b && nat_le b 122)
    || ((nat_le 65 b && nat_le b 90)
    || ((nat_le 48 b && nat_le b 57) || (b == 58 || (b == 95 || (b == 47 || (b == 46 || b == 45))))))

-- an empty name is no name, and `-` is how that is spelled
pub record IsName (name : List ℕ) : Type 0 where
  pub short : length name ≤ MAX_NAME_LEN
  pub bytes : AllPass is_name_byte name
  pub not_dash : name ≢ codes "-"

-- How a registration is asked for: no flag, `nocalls`, `locked`, or both in this order. This project's own.
use Rattle.std.specs.Prelude.{Bool, true, false, ◌&&◌, if◌then◌else◌, ℕ, List, [], ◌∷◌, Ok, Err, codes}
use Rattle.std.specs.Str.{bytes_eq}
use Rattle.hp_event.specs.declared.op.Form.{Form}
use Rattle.hp_text.specs.declared.unread.Unread.TheVariants.{NotOfForm}
use Rattle.hp_text.specs.Readings.{Reading, Field, Tail}

abbrev pub flags : (nocalls locked : Bool) → Form
flags nocalls locked = record { nocalls = nocalls; locked = locked }

-- one flag alone
abbrev pub one_flag : Field Form
one_flag w =
    if bytes_eq w (codes "nocalls")
    then Ok (flags true false)
    else (if bytes_eq w (codes "locked") then Ok (flags false true) else Err NotOfForm)

abbrev pub two_flags : (first second : List ℕ) → Reading Form
two_flags w v =
    if bytes_eq w (codes "nocalls") && bytes_eq v (codes "locked") then Ok (flags true true) else Err NotOfForm

unfoldable pub form : Tail Form
form [] = Ok (flags false false)
form (w ∷ []) = one_flag w
form (w ∷ v ∷ []) = two_flags w v
form (w ∷ v ∷ u ∷ ws) = Err NotOfForm

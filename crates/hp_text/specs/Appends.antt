-- What a call appends to a buffer of bytes. This project's own.
use Rattle.std.specs.Prelude.{◌≡◌, ℕ, List, ◌∷◌, ◌++◌, Vec, decimal}
use Rattle.hp_event.specs.declared.op.Form.{Form}
use Rattle.hp_model.specs.Words.{spaced}
use Rattle.hp_model.specs.EventLine.{form_words}

-- the buffer has these bytes behind those that it had
abbrev pub Appends : {A : Type 0} → (old new : Vec ℕ A) → (bytes : List ℕ) → Type 0
Appends old new bytes = new.items ≡ old.items ++ bytes

-- the state of a registration, what is registered there, and the flags, each behind a space
abbrev pub place_text : (state which : ℕ) → Form → List ℕ
place_text state which form = spaced (decimal state ∷ decimal which ∷ form_words form)

-- The name of a subsystem of a head is ASCII, and JSON has it as it is.
use Rattle.std.proofs.Common.{◌≡◌, ℕ, zero, suc, ◌<◌, true, Option, Some, None, List, [], ◌∷◌, refl, arith}
use Rattle.std.specs.Prelude.{slice_index_or, slice_get}
use Rattle.std.specs.List.{AllPass}
use Rattle.std.specs.Str.Lossy.{utf8_lossy}
use Rattle.std.proofs.lemmas.Bool.Decides.{nat_tests}
use Rattle.std.proofs.lemmas.Option.{slice_get_within, get_or_from_slice_get}
use Rattle.std.proofs.lemmas.Str.{utf8_lossy-IsUtf8, IsUtf8-from_ascii}
use Rattle.std.proofs.lemmas.Str.Ascii.{IsAscii-from_all}
use Rattle.json.specs.Print.{escape_byte, escape}
use Rattle.hp_states.specs.Names.{is_name_byte}
use Rattle.hp_event.specs.declared.head.Sub.{Sub}
use Rattle.hp_event.specs.declared.head.Head.{Head}
use Rattle.hp_model.specs.Heads.{IsHead, IsSub}
use Rattle.hp_model.specs.Summary.{name_in, name_of}

-- the bytes of the name that a number has in a head
name_bytes : (head : Head) (n : ℕ) → IsHead head → AllPass is_name_byte (name_of head n)
name_bytes head zero is = λ k d low. absurd (omega (arith, low))
name_bytes head (suc n) is = go (slice_get head.subs n) refl
  where
    go : (found : Option Sub) → slice_get head.subs n ≡ found → AllPass is_name_byte (name_in found)
    go None e = λ k d low. absurd (omega (arith, low))
    go (Some sub) e =
        let at = get_or_from_slice_get head.subs n sub sub e in
        let within = slice_get_within head.subs n sub e in
        let named : IsSub (slice_index_or head.subs n sub) = is.subs_are n sub within in
        (rw at at named).name_is.bytes

small_byte : (b : ℕ) → is_name_byte b ≡ true → b < 128
small_byte b h = grind (arith, nat_tests, h)

-- no byte of it is mended
pub name_text : (head : Head) (n : ℕ) → IsHead head → utf8_lossy (name_of head n) ≡ name_of head n
name_text head n is =
    utf8_lossy-IsUtf8 (name_of head n)
    (IsUtf8-from_ascii (name_of head n)
    (IsAscii-from_all (name_of head n) (λ k d low. small_byte (slice_index_or (name_of head n) k d) (name_bytes head n is k d low))))

plain_byte : (b : ℕ) → is_name_byte b ≡ true → escape_byte b ≡ b ∷ []
unfolding escape_byte
plain_byte b h = grind (arith, nat_tests, h)

plain : (bytes : List ℕ) → AllPass is_name_byte bytes → escape bytes ≡ bytes
plain [] h = refl
plain (b ∷ bs) h =
    let first : is_name_byte b ≡ true = h 0 0 (omega arith) in
    let rest : escape bs ≡ bs = plain bs (λ k d low. h (suc k) d (omega (arith, low))) in
    rw (plain_byte b first, rest) refl

-- none is escaped
pub unescaped : (head : Head) (n : ℕ) → IsHead head → escape (name_of head n) ≡ name_of head n
unescaped head n is = plain (name_of head n) (name_bytes head n is)

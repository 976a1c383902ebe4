-- The loops over the bytes of a piece: what they have passed, in front of what is left.
use Rattle.std.proofs.Common.{◌≡◌, ℕ, suc, ◌+◌, ◌-◌, ◌<◌, ◌≤◌, true, false, eqb, List, [], ◌∷◌, ◌++◌, length, get_or, take, drop, Some, refl, sym, ap, ◌∙◌, length-drop, arith}
use Rattle.std.proofs.lemmas.Bool.{eq-eqb, ne_eqb}
use Rattle.std.proofs.lemmas.List.{append-nil, drop_more, drop_all, take_all}
use Rattle.std.proofs.Math.Seq.{take-suc}
use Rattle.hp_states.proofs.Basics.{same_some}
use Rattle.hp_script.specs.Pieces.{onto_first, pieces, next}

-- bytes in front of the first piece
abbrev pub onto_all : (front : List ℕ) → List (List ℕ) → List (List ℕ)
onto_all [] pieces = pieces
onto_all (byte ∷ bytes) pieces = onto_first byte (onto_all bytes pieces)

pub onto_some : (front piece : List ℕ) (more : List (List ℕ)) → onto_all front (piece ∷ more) ≡ (front ++ piece) ∷ more
onto_some [] piece more = refl
onto_some (byte ∷ bytes) piece more = ap (onto_first byte) (onto_some bytes piece more)

pub onto_none : (byte : ℕ) (front : List ℕ) → onto_all (byte ∷ front) [] ≡ (byte ∷ front) ∷ []
onto_none byte [] = refl
onto_none byte (b ∷ bs) = ap (onto_first byte) (onto_none b bs)

pub onto_one_more : (front : List ℕ) (byte : ℕ) (more : List (List ℕ)) → onto_all (front ++ byte ∷ []) more ≡ onto_all front (onto_first byte more)
onto_one_more [] byte more = refl
onto_one_more (b ∷ bs) byte more = ap (onto_first b) (onto_one_more bs byte more)

-- ---- pieces

pub at_end : (end byte : ℕ) (bytes : List ℕ) → byte ≡ end → pieces end (byte ∷ bytes) ≡ [] ∷ pieces end bytes
at_end end byte bytes same = let t : eqb byte end ≡ true = eq-eqb byte end same in rw t refl

pub in_piece : (end byte : ℕ) (bytes : List ℕ) → (byte ≡ end → ⊥) → pieces end (byte ∷ bytes) ≡ onto_first byte (pieces end bytes)
in_piece end byte bytes other = let t : eqb byte end ≡ false = ne_eqb byte end other in rw t refl

-- what is passed up to a place, in front of the pieces of what is left, are the pieces of all
abbrev pub Passed : (end i : ℕ) (bytes : List ℕ) → Type 0
Passed end i bytes = onto_all (take i bytes) (pieces end (drop i bytes)) ≡ pieces end bytes

pub ends : (end i : ℕ) (bytes : List ℕ) → i < length bytes → get_or bytes i 0 ≡ end → Passed end i bytes
    → Some (take i bytes, pieces end (take (length bytes - (i + 1)) (drop (i + 1) bytes))) ≡ next (pieces end bytes)
ends end i bytes lt here passed =
    let rest : take (length bytes - (i + 1)) (drop (i + 1) bytes) ≡ drop (i + 1) bytes = take_all _ _ (omega (arith, length-drop (i + 1) bytes)) in
    let front : pieces end (drop i bytes) ≡ [] ∷ pieces end (drop (i + 1) bytes) = ap (pieces end) (drop_more bytes i 0 lt) ∙ at_end end (get_or bytes i 0) (drop (i + 1) bytes) here in
    let all : (take i bytes ++ []) ∷ pieces end (drop (i + 1) bytes) ≡ pieces end bytes = sym (onto_some (take i bytes) [] (pieces end (drop (i + 1) bytes))) ∙ sym (ap (onto_all (take i bytes)) front) ∙ passed in
    let shown : take i bytes ∷ pieces end (drop (i + 1) bytes) ≡ pieces end bytes = sym (ap (λ (w : List ℕ). w ∷ pieces end (drop (i + 1) bytes)) (append-nil (take i bytes))) ∙ all in
    ap (λ (w : List ℕ). Some (take i bytes, pieces end w)) rest ∙ ap next shown

pub goes_on : (end i : ℕ) (bytes : List ℕ) → i < length bytes → (get_or bytes i 0 ≡ end → ⊥) → Passed end i bytes → Passed end (i + 1) bytes
goes_on end i bytes lt other passed =
    let front : pieces end (drop i bytes) ≡ onto_first (get_or bytes i 0) (pieces end (drop (i + 1) bytes)) = ap (pieces end) (drop_more bytes i 0 lt) ∙ in_piece end (get_or bytes i 0) (drop (i + 1) bytes) other in
    let one : i + 1 ≡ suc i = omega arith in
    let longer : take (i + 1) bytes ≡ take i bytes ++ get_or bytes i 0 ∷ [] = ap (λ (n : ℕ). take n bytes) one ∙ take-suc bytes i 0 lt in
    ap (λ (w : List ℕ). onto_all w (pieces end (drop (i + 1) bytes))) longer
    ∙ onto_one_more (take i bytes) (get_or bytes i 0) (pieces end (drop (i + 1) bytes))
    ∙ sym (ap (onto_all (take i bytes)) front)
    ∙ passed

last_piece : (end : ℕ) (bytes : List ℕ) → 0 < length bytes → onto_all bytes [] ≡ pieces end bytes → Some (bytes, []) ≡ next (pieces end bytes)
last_piece end [] some passed = absurd (omega arith)
last_piece end (byte ∷ bytes) some passed = ap next (sym (onto_none byte bytes) ∙ passed)

pub at_last : (end i : ℕ) (bytes : List ℕ) → 0 < length bytes → length bytes ≤ i → Passed end i bytes → Some (bytes, []) ≡ next (pieces end bytes)
at_last end i bytes some done passed =
    let whole : take i bytes ≡ bytes = take_all i bytes done in
    let nothing : pieces end (drop i bytes) ≡ [] = ap (pieces end) (drop_all i bytes done) in
    last_piece end bytes some (sym (ap (λ (w : List ℕ). onto_all w []) whole) ∙ sym (ap (onto_all (take i bytes)) nothing) ∙ passed)

-- ---- a piece that was taken

pub next_is : (pieces : List (List ℕ)) (piece : List ℕ) (rest : List (List ℕ)) → Some (piece, rest) ≡ next pieces → pieces ≡ piece ∷ rest
next_is [] piece rest e = absurd cc
next_is (p ∷ ps) piece rest e =
    let same : ◌≡◌ {A = List ℕ × List (List ℕ)} (piece, rest) (p, ps) = same_some (piece, rest) (p, ps) e in
    ap (λ (x : List ℕ × List (List ℕ)). x.0 ∷ x.1) (sym same)

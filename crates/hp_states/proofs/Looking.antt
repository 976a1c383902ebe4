-- A table of words that is looked through.
use Rattle.std.proofs.Common.{◌≡◌, ℕ, suc, ◌+◌, ◌<◌, true, false, List, ◌∷◌, length, Option, Some, None, Bor, get_or, sym, ap, ◌∙◌, subst, arith}
use Rattle.std.specs.Prelude.{if◌then◌else◌, drop}
use Rattle.std.specs.Str.{bytes_eq}
use Rattle.hp_states.specs.Words.{says}
use Rattle.std.proofs.Math.Seq.{drop-cons, drop-length}

step : {V : Type 0} (word : List ℕ) (rows : List (Bor (List ℕ) × V)) (i : ℕ) (d : Bor (List ℕ) × V) → i < length rows →
    says word (drop i rows) ≡ says word (get_or rows i d ∷ drop (suc i) rows)
step word rows i d below = ap (says word) (drop-cons rows i d below)

-- a row of another word is passed over
pub passes : {V : Type 0} (word : List ℕ) (rows : List (Bor (List ℕ) × V)) (i : ℕ) (d : Bor (List ℕ) × V) (said : Option V) →
    i < length rows → bytes_eq word (get_or rows i d).0.now ≡ false → says word (drop i rows) ≡ said → says word (drop (i + 1) rows) ≡ said
passes word rows i d said below other is =
    let next : suc i ≡ i + 1 = omega arith in
    subst (λ j. says word (drop j rows) ≡ said) next (
    ap (λ t. if t then Some (get_or rows i d).1 else says word (drop (suc i) rows)) (sym other) ∙ (sym (step word rows i d below) ∙ is)
    )

-- the row of this word says it
pub finds : {V : Type 0} (word : List ℕ) (rows : List (Bor (List ℕ) × V)) (i : ℕ) (d : Bor (List ℕ) × V) (said : Option V) →
    i < length rows → bytes_eq word (get_or rows i d).0.now ≡ true → says word (drop i rows) ≡ said → Some (get_or rows i d).1 ≡ said
finds word rows i d said below same is =
    ap (λ t. if t then Some (get_or rows i d).1 else says word (drop (suc i) rows)) (sym same) ∙ (sym (step word rows i d below) ∙ is)

-- past the last row there is no word
pub ends : {V : Type 0} (word : List ℕ) (rows : List (Bor (List ℕ) × V)) (i : ℕ) (said : Option V) →
    i ≡ length rows → says word (drop i rows) ≡ said → None ≡ said
ends word rows i said all is = ap (says word) (sym (drop-length rows)) ∙ subst (λ j. says word (drop j rows) ≡ said) all is

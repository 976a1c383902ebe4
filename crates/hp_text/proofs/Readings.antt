-- What a reading was made of, and what tails that take words take of them.
use Rattle.std.proofs.Common.{◌≡◌, ℕ, List, [], ◌∷◌, Ok, Err, refl, ap}
use Rattle.std.specs.Prelude.{Result}
use Rattle.hp_text.specs.declared.unread.Unread.{Unread}
use Rattle.hp_text.specs.declared.unread.Unread.TheVariants.{NotOfForm, OutOfRange}
use Rattle.hp_text.specs.Readings.{Reading, Field, Tail, said, both, done, alone, in_front}

pub same_ok : {A : Type 0} (a b : A) → ◌≡◌ {A = Result A Unread} (Ok a) (Ok b) → a ≡ b
same_ok a b e = cc

pub both_ok : {A B : Type 0} (r : Reading A) (s : Reading B) (p : A × B) → both r s ≡ Ok p → (r ≡ Ok p.0) × (s ≡ Ok p.1)
both_ok {A} {B} (Ok a) (Ok b) p e =
    let same : ◌≡◌ {A = A × B} (a, b) p = same_ok (a, b) p e in
    (ap (λ (q : A × B). Ok q.0) same, ap (λ (q : A × B). Ok q.1) same)
both_ok (Ok a) (Err u) p e = absurd cc
both_ok (Err NotOfForm) s p e = absurd cc
both_ok (Err OutOfRange) (Ok b) p e = absurd cc
both_ok (Err OutOfRange) (Err u) p e = absurd cc

pub said_ok : {A B : Type 0} (make : A → B) (r : Reading A) (y : B) → said make r ≡ Ok y → (x : A) × (r ≡ Ok x) × (make x ≡ y)
said_ok make (Ok x) y e = (x, refl, same_ok (make x) y e)
said_ok make (Err u) y e = absurd cc

-- ---- what is taken

-- a word that a field takes is the spelling of its value
pub record IsField {A : Type 0} (field : Field A) (word : A → List ℕ) (In : A → Type 0) : Type 0 where
  pub takes : (w : List ℕ) (a : A) → field w ≡ Ok a → (w ≡ word a) × In a

-- the words that a tail takes are the spelling of what it says
pub record IsTail {A : Type 0} (tail : Tail A) (words : A → List (List ℕ)) (In : A → Type 0) : Type 0 where
  pub takes : (ws : List (List ℕ)) (a : A) → tail ws ≡ Ok a → (ws ≡ words a) × In a

pub done_takes : {A : Type 0} (a b : A) (ws : List (List ℕ)) → done a ws ≡ Ok b → (ws ≡ []) × (a ≡ b)
done_takes a b [] e = (refl, same_ok a b e)
done_takes a b (w ∷ ws) e = absurd cc

alone_takes : {A : Type 0} (field : Field A) (word : A → List ℕ) (In : A → Type 0) → IsField field word In →
    (ws : List (List ℕ)) (a : A) → alone field ws ≡ Ok a → (ws ≡ word a ∷ []) × In a
alone_takes field word In is [] a e = absurd cc
alone_takes field word In is (w ∷ []) a e = let t = is.takes w a e in (ap (λ (v : List ℕ). v ∷ []) t.0, t.1)
alone_takes field word In is (w ∷ v ∷ ws) a e = absurd cc

pub alone_is : {A : Type 0} {field : Field A} {word : A → List ℕ} {In : A → Type 0} → IsField field word In → IsTail (alone field) (λ a. word a ∷ []) In
alone_is {A} {field} {word} {In} is = record { takes = alone_takes field word In is }

in_front_takes : {A B : Type 0} (field : Field A) (tail : Tail B) (word : A → List ℕ) (words : B → List (List ℕ)) (In : A → Type 0) (Of : B → Type 0) →
    IsField field word In → IsTail tail words Of →
    (ws : List (List ℕ)) (p : A × B) → in_front field tail ws ≡ Ok p → (ws ≡ word p.0 ∷ words p.1) × (In p.0 × Of p.1)
in_front_takes field tail word words In Of is are [] p e = absurd cc
in_front_takes field tail word words In Of is are (w ∷ ws) p e =
    let b = both_ok (field w) (tail ws) p e in
    let first = is.takes w p.0 b.0 in
    let others = are.takes ws p.1 b.1 in
    let same : w ∷ ws ≡ word p.0 ∷ words p.1 = let x = first.0 in let y = others.0 in cc in
    (same, (first.1, others.1))

pub in_front_is : {A B : Type 0} {field : Field A} {tail : Tail B} {word : A → List ℕ} {words : B → List (List ℕ)} {In : A → Type 0} {Of : B → Type 0} →
    IsField field word In → IsTail tail words Of → IsTail (in_front field tail) (λ p. word p.0 ∷ words p.1) (λ p. In p.0 × Of p.1)
in_front_is {A} {B} {field} {tail} {word} {words} {In} {Of} is are = record { takes = in_front_takes field tail word words In Of is are }

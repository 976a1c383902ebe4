-- Lists of views, of which one changes or one comes at the end.
use Rattle.std.proofs.Common.{◌≡◌, ◌≢◌, ◌⊎◌, inl, inr, ℕ, zero, suc, List, [], ◌∷◌, ◌++◌, length, set, sym, refl, ap, ◌∙◌, subst, ⊎_elim}
use mathlib.Core.Option.{some, some-injective, some-ne-none}
use lib.ListN.{get_elem?}
use Rattle.atomic_table.proofs.Lists.{at_set}
use Rattle.hp_turn.specs.declared.view.View.{View}
use Rattle.hp_turn.specs.Turn.{AreAlone}

pub set_there : {A : Type 0} (l : List A) (i : ℕ) (b a : A) → get_elem? l i ≡ some b → get_elem? (set l i a) i ≡ some a
set_there [] i b a e = absurd (some-ne-none b (sym e))
set_there (x ∷ xs) zero b a e = refl
set_there (x ∷ xs) (suc i) b a e = set_there xs i b a e

pub set_swap : {A : Type 0} (l : List A) (i j : ℕ) (a b : A) → i ≢ j → set (set l i a) j b ≡ set (set l j b) i a
set_swap [] i j a b ne = refl
set_swap (x ∷ xs) zero zero a b ne = absurd (ne refl)
set_swap (x ∷ xs) zero (suc j) a b ne = refl
set_swap (x ∷ xs) (suc i) zero a b ne = refl
set_swap (x ∷ xs) (suc i) (suc j) a b ne = ap (λ l. x ∷ l) (set_swap xs i j a b (λ e. ne (ap suc e)))

-- a seat beyond those there are
pub at_end : {A : Type 0} (l : List A) (a b : A) (j : ℕ) → get_elem? (l ++ a ∷ []) j ≡ some b →
    (get_elem? l j ≡ some b) ⊎ ((j ≡ length l) × (a ≡ b))
at_end [] a b zero e = inr (refl, some-injective a b e)
at_end [] a b (suc j) e = absurd (some-ne-none b (sym e))
at_end (x ∷ xs) a b zero e = inl e
at_end (x ∷ xs) a b (suc j) e = ⊎_elim inl (λ t. inr (ap suc t.0, t.1)) (at_end xs a b j e)

-- what holds of the changed view and of each other one holds of all
pub each_set : (P : ℕ → View → Type 0) (vs : List View) (id : ℕ) (w : View) → P id w →
    ((j : ℕ) (v : View) → j ≢ id → get_elem? vs j ≡ some v → P j v) → (j : ℕ) (v : View) → get_elem?
    (set vs id w) j ≡ some v → P j v
each_set P vs id w mine others j v e = ⊎_elim
    (λ (t : (j ≡ id) × (w ≡ v)). subst (λ (y : ℕ × View). P y.0 y.1) (λ k. (sym t.0 k, t.1 k)) mine)
    (λ (t : (j ≢ id) × (get_elem? vs j ≡ some v)). others j v t.0 t.1) (at_set vs id j w v e)

pub each_end : (P : ℕ → View → Type 0) (vs : List View) (w : View) → P (length vs) w →
    ((j : ℕ) (v : View) → get_elem? vs j ≡ some v → P j v) → (j : ℕ) (v : View) → get_elem? (vs ++ w ∷ []) j ≡ some v → P j v
each_end P vs w mine others j v e = ⊎_elim (others j v)
    (λ (t : (j ≡ length vs) × (w ≡ v)). subst (λ (y : ℕ × View). P y.0 y.1) (λ k. (sym t.0 k, t.1 k)) mine)
    (at_end vs w v j e)

pub alone_set : (Q : View → Type 0) (vs : List View) (id : ℕ) (w : View) → AreAlone Q vs →
    (Q w → (j : ℕ) (u : View) → j ≢ id → get_elem? vs j ≡ some u → Q u → ⊥) → AreAlone Q (set vs id w)
alone_set Q vs id w alone only i j v u at_i at_j qv qu = ⊎_elim
    (λ (a : (i ≡ id) × (w ≡ v)). ⊎_elim (λ (b : (j ≡ id) × (w ≡ u)). a.0 ∙ sym b.0)
    (λ (b : (j ≢ id) × (get_elem? vs j ≡ some u)). absurd (only (subst Q (sym a.1) qv) j u b.0 b.1 qu))
    (at_set vs id j w u at_j))
    (λ (a : (i ≢ id) × (get_elem? vs i ≡ some v)). ⊎_elim
    (λ (b : (j ≡ id) × (w ≡ u)). absurd (only (subst Q (sym b.1) qu) i v a.0 a.1 qv))
    (λ (b : (j ≢ id) × (get_elem? vs j ≡ some u)). alone i j v u a.1 b.1 qv qu) (at_set vs id j w u at_j))
    (at_set vs id i w v at_i)

-- where the changed view was of the kind before
pub alone_same : (Q : View → Type 0) (vs : List View) (id : ℕ) (v w : View) → AreAlone Q vs → get_elem? vs id ≡ some v →
    (Q w → Q v) → AreAlone Q (set vs id w)
alone_same Q vs id v w alone at back = alone_set Q vs id w alone
    (λ qw j u ne at_j qu. ne (alone j id u v at_j at qu (back qw)))

pub alone_end : (Q : View → Type 0) (vs : List View) (w : View) → AreAlone Q vs →
    (Q w → (j : ℕ) (u : View) → get_elem? vs j ≡ some u → Q u → ⊥) → AreAlone Q (vs ++ w ∷ [])
alone_end Q vs w alone only i j v u at_i at_j qv qu = ⊎_elim
    (λ (a : get_elem? vs i ≡ some v). ⊎_elim (λ (b : get_elem? vs j ≡ some u). alone i j v u a b qv qu)
    (λ (b : (j ≡ length vs) × (w ≡ u)). absurd (only (subst Q (sym b.1) qu) i v a qv)) (at_end vs w u j at_j))
    (λ (a : (i ≡ length vs) × (w ≡ v)). ⊎_elim
    (λ (b : get_elem? vs j ≡ some u). absurd (only (subst Q (sym a.1) qv) j u b qu))
    (λ (b : (j ≡ length vs) × (w ≡ u)). a.0 ∙ sym b.0) (at_end vs w u j at_j))
    (at_end vs w v i at_i)

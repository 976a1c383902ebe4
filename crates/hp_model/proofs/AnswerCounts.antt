-- How many operations of each actor are answered, and which are, after one more.
use Rattle.std.proofs.Common.{◌≡◌, ℕ, ◌+◌, ◌<◌, ◌≤◌, Bool, true, false, eqb, Option, Some, None, List, [], ◌∷◌, ◌++◌, length, get_or, take, fold, slice_get, length-set, get_or-set_same, get_or-set_other, take-suc, add-one, refl, ap, sym, ◌∙◌, arith}
use Rattle.std.proofs.lemmas.Option.{slice_get_within, get_or_from_slice_get}
use Rattle.std.proofs.lemmas.Bool.{true≢false, eqb-true, eq-eqb}
use Rattle.hp_states.proofs.Basics.{none_some}
use Rattle.hp_event.specs.declared.op.Op.{Op}
use Rattle.hp_model.specs.Tasks.{first_unanswered}
use Rattle.hp_model.specs.Scripts.{lock_step, is_locked}
use Rattle.hp_model.specs.ScriptTurns.{unanswered, counted}

-- the operations of an actor
pub record IsNth (actors : List (List Op)) (answers : List ℕ) (i : ℕ) (op : Op) : Type 0 where
  pub within : i < length actors
  pub below : get_or answers i 0 < length (get_or actors i [])
  pub op_is : slice_get (get_or actors i []) (get_or answers i 0) ≡ Some op

pub nth_of : (actors : List (List Op)) (answers : List ℕ) (i : ℕ) (op : Op) → unanswered actors answers i ≡ Some op →
    IsNth actors answers i op
nth_of actors answers i op h = go (slice_get actors i) refl h
  where
    go : (o : Option (List Op)) → slice_get actors i ≡ o → first_unanswered o (get_or answers i 0) ≡ Some op → IsNth actors answers i op
    go None f g = absurd (none_some op g)
    go (Some ops) f g =
        let same : get_or actors i [] ≡ ops = get_or_from_slice_get actors i ops [] f in
        record {
          within = slice_get_within actors i ops f;
          below = rw same (slice_get_within ops (get_or answers i 0) op g);
          op_is = rw same g;
        }

-- one more answer
pub counted_other : (i j : ℕ) (b : Bool) (ns : List ℕ) → (j ≡ i → ⊥) → get_or (counted i b ns) j 0 ≡ get_or ns j 0
counted_other i j true ns h = get_or-set_other ns i j (get_or ns i 0 + 1) 0 h
counted_other i j false ns h = refl

pub counted_same : (i : ℕ) (ns : List ℕ) → i < length ns → get_or (counted i true ns) i 0 ≡ get_or ns i 0 + 1
counted_same i ns h = get_or-set_same ns i (get_or ns i 0 + 1) 0 h

pub counted_long : (i : ℕ) (b : Bool) (ns : List ℕ) → length (counted i b ns) ≡ length ns
counted_long i true ns = length-set ns i (get_or ns i 0 + 1)
counted_long i false ns = refl

pub unanswered_other : (actors : List (List Op)) (i j : ℕ) (b : Bool) (ns : List ℕ) → (j ≡ i → ⊥) →
    unanswered actors (counted i b ns) j ≡ unanswered actors ns j
unanswered_other actors i j b ns h = ap (λ n. first_unanswered (slice_get actors j) n) (counted_other i j b ns h)

-- the operations of an actor that are answered
abbrev pub done_ops : (actors : List (List Op)) → (answers : List ℕ) → (actor : ℕ) → List Op
done_ops actors answers i = take (get_or answers i 0) (get_or actors i [])

pub done_other : (actors : List (List Op)) (i j : ℕ) (b : Bool) (ns : List ℕ) → (j ≡ i → ⊥) →
    done_ops actors (counted i b ns) j ≡ done_ops actors ns j
done_other actors i j b ns h = ap (λ n. take n (get_or actors j [])) (counted_other i j b ns h)

pub done_more : (actors : List (List Op)) (i : ℕ) (op : Op) (ns : List ℕ) → unanswered actors ns i ≡ Some op → i < length ns →
    done_ops actors (counted i true ns) i ≡ done_ops actors ns i ++ op ∷ []
done_more actors i op ns h within =
    let n = nth_of actors ns i op h in
    let ops = get_or actors i [] in
    let m = get_or ns i 0 in
    ap (λ z. take z ops) (counted_same i ns within)
    ∙ (ap (λ z. take z ops) (add-one m)
    ∙ (take-suc ops m op n.below ∙ ap (λ z. take m ops ++ z ∷ []) (get_or_from_slice_get ops m op op n.op_is)))

fold_push : {A B : Type 0} (f : B → A → B) (b : B) (xs : List A) (x : A) → fold f b (xs ++ x ∷ []) ≡ f (fold f b xs) x
fold_push f b [] x = refl
fold_push f b (y ∷ xs) x = fold_push f (f b y) xs x

pub is_locked_push : (ops : List Op) (op : Op) → is_locked (ops ++ op ∷ []) ≡ lock_step (is_locked ops) op
is_locked_push ops op = fold_push lock_step false ops op

pub within_more : (actors : List (List Op)) (i j : ℕ) (b : Bool) (op : Op) (ns : List ℕ) → unanswered actors ns i ≡ Some op →
    i < length ns → get_or ns j 0 ≤ length (get_or actors j []) → get_or (counted i b ns) j 0 ≤ length (get_or actors j [])
within_more actors i j false op ns h within l = l
within_more actors i j true op ns h within l = go (eqb j i) refl
  where
    go : (b : Bool) → eqb j i ≡ b → get_or (counted i true ns) j 0 ≤ length (get_or actors j [])
    go true e =
        let s = eqb-true j i e in
        let n = nth_of actors ns i op h in
        let c = counted_same i ns within in
        rw s (omega (arith, c, n.below))
    go false e = let c = counted_other i j true ns (λ s. true≢false (sym (eq-eqb j i s) ∙ e)) in omega (arith, c, l)

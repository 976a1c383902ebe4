-- What is in a list, and what is found in it.
use Rattle.std.proofs.Common.{◌≡◌, ℕ, ◌+◌, Bool, true, false, cond, eqb, ltb, Option, Some, None, List, [], ◌∷◌, ◌++◌, refl, ap, sym, ◌∙◌, inl, inr, ◌⊎◌, arith}
use Rattle.std.specs.Prelude.{find, filter_map, option_to_list}
use Rattle.std.proofs.lemmas.Bool.{true≢false, false≢true, eqb-true}
use Rattle.hp_states.proofs.Basics.{none_some, same_some}
use Rattle.hp_event.specs.declared.event.Event.{Event}
use Rattle.hp_model.specs.Lists.{occurs, among}

abbrev pub Has : {X : Type 0} → List X → X → Type 0
Has [] x = ⊥
Has (y ∷ ys) x = (y ≡ x) ⊎ Has ys x

pub has_left : {X : Type 0} (xs ys : List X) (x : X) → Has xs x → Has (xs ++ ys) x
has_left [] ys x h = elim h [ ]
has_left (z ∷ xs) ys x (inl e) = inl e
has_left (z ∷ xs) ys x (inr h) = inr (has_left xs ys x h)

pub has_right : {X : Type 0} (xs ys : List X) (x : X) → Has ys x → Has (xs ++ ys) x
has_right [] ys x h = h
has_right (z ∷ xs) ys x h = inr (has_right xs ys x h)

pub has_either : {X : Type 0} (xs ys : List X) (x : X) → Has (xs ++ ys) x → Has xs x ⊎ Has ys x
has_either [] ys x h = inr h
has_either (z ∷ xs) ys x (inl e) = inl (inl e)
has_either (z ∷ xs) ys x (inr h) = go (has_either xs ys x h)
  where
    go : Has xs x ⊎ Has ys x → ((z ≡ x) ⊎ Has xs x) ⊎ Has ys x
    go (inl a) = inl (inr a)
    go (inr b) = inr b

-- what a map gives of a number that is among some
pub has_map : (f : ℕ → Option Event) (cs : List ℕ) (c : ℕ) (e : Event) → among c cs ≡ true → f c ≡ Some e → Has (filter_map f cs) e
has_map f [] c e a h = absurd (false≢true a)
has_map f (x ∷ cs) c e a h = go (eqb x c) refl (f x) refl (λ q. has_map f cs c e (more (occurs c cs) (eqb x c) q a) h)
  where
    more : (n : ℕ) (b : Bool) → b ≡ false → ltb 0 (cond b 1 0 + n) ≡ true → ltb 0 n ≡ true
    more n b e h = let k : cond b 1 0 + n ≡ n = rw e (omega arith) in rw k at h

    go : (b : Bool) → eqb x c ≡ b → (o : Option Event) → f x ≡ o → (eqb x c ≡ false → Has (filter_map f cs) e) →
        Has (filter_map f (x ∷ cs)) e
    go true q o g r = let same : f x ≡ Some e = ap f (eqb-true x c q) ∙ h in rw same (inl refl)
    go false q None g r = rw g (r q)
    go false q (Some y) g r = rw g (inr (r q))

pub of_map : (f : ℕ → Option Event) (cs : List ℕ) (e : Event) → Has (filter_map f cs) e → (c : ℕ) × (f c ≡ Some e)
of_map f [] e h = elim h [ ]
of_map f (x ∷ cs) e h = go (f x) refl h (λ k. of_map f cs e k)
  where
    either : (y : Event) → f x ≡ Some y → (y ≡ e) ⊎ Has (filter_map f cs) e →
        (Has (filter_map f cs) e → (c : ℕ) × (f c ≡ Some e)) → (c : ℕ) × (f c ≡ Some e)
    either y g (inl s) r = (x, g ∙ ap Some s)
    either y g (inr k) r = r k

    go : (o : Option Event) → f x ≡ o → Has (filter_map f (x ∷ cs)) e →
        (Has (filter_map f cs) e → (c : ℕ) × (f c ≡ Some e)) → (c : ℕ) × (f c ≡ Some e)
    go None g k r = r (rw g at k)
    go (Some y) g k r = either y g (rw g at k) r

pub of_listed : (o : Option Event) (e : Event) → Has (option_to_list o) e → o ≡ Some e
of_listed None e h = elim h [ ]
of_listed (Some x) e (inl s) = ap Some s
of_listed (Some x) e (inr h) = elim h [ ]

pub has_listed : (o : Option Event) (e : Event) → o ≡ Some e → Has (option_to_list o) e
has_listed o e h = rw h (inl refl)

-- the first that passes a test
pub found : (p : Event → Bool) (xs : List Event) (e : Event) → find p xs ≡ Some e → (p e ≡ true) × Has xs e
found p [] e h = absurd (none_some e h)
found p (x ∷ xs) e h = go (p x) refl h (found p xs e)
  where
    go : (b : Bool) → p x ≡ b → cond b (Some x) (find p xs) ≡ Some e → (find p xs ≡ Some e → (p e ≡ true) × Has xs e) →
        (p e ≡ true) × ((x ≡ e) ⊎ Has xs e)
    go true q k r = let s = same_some x e k in (rw s at q, inl s)
    go false q k r = let t = r k in (t.0, inr t.1)

pub not_found : (p : Event → Bool) (xs : List Event) (e : Event) → find p xs ≡ None → Has xs e → p e ≡ true → ⊥
not_found p [] e h k t = k
not_found p (x ∷ xs) e h k t = go (p x) refl h k (λ f m. not_found p xs e f m t)
  where
    some_none : (y : Event) → Some y ≡ None → ⊥
    some_none y q = none_some y (sym q)

    go : (b : Bool) → p x ≡ b → cond b (Some x) (find p xs) ≡ None → (x ≡ e) ⊎ Has xs e →
        (find p xs ≡ None → Has xs e → ⊥) → ⊥
    go true q f m r = some_none x f
    go false q f (inl s) r = true≢false (sym t ∙ (rw s at q))
    go false q f (inr m) r = r f m

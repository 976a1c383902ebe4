-- The last of a list, changed in its place.
use Rattle.std.proofs.Common.{◌≡◌, ℕ, zero, suc, ◌+◌, ◌-◌, ◌<◌, List, [], ◌∷◌, length, get_or, set, map, refl, sym, ap, ◌∙◌, arith}
use Rattle.hp_event.specs.declared.head.Sub.{Sub}
use Rattle.hp_script.specs.Drafts.{with_last, last_rules}

at_place : {A : Type 0} (f : A → A) (xs : List A) (n : ℕ) (x y : A) → n + 1 ≡ length xs → x ≡ get_or xs n x → y ≡ f x → set xs n y ≡ with_last f xs
at_place f [] n x y last is made = absurd (omega (arith, last))
at_place f (a ∷ []) zero x y last is made = ap (λ z. z ∷ []) (made ∙ ap f is)
at_place f (a ∷ []) (suc n) x y last is made = absurd (omega (arith, last))
at_place f (a ∷ b ∷ bs) zero x y last is made = absurd (omega (arith, last))
at_place f (a ∷ b ∷ bs) (suc n) x y last is made = ap (λ zs. a ∷ zs) (at_place f (b ∷ bs) n x y (omega (arith, last)) is made)

pub changed_last : {A : Type 0} (f : A → A) (xs : List A) (n : ℕ) (x y : A) → n ≡ length xs → 0 < n → x ≡ get_or xs (n - 1) x → y ≡ f x → set xs (n - 1) y ≡ with_last f xs
changed_last f xs n x y count some is made = at_place f xs (n - 1) x y (omega (arith, count, some)) is made

rules_at_place : (subs : List Sub) (n : ℕ) (sub : Sub) → n + 1 ≡ length subs → sub ≡ get_or subs n sub → last_rules subs ≡ length sub.plan
rules_at_place [] n sub last is = absurd (omega (arith, last))
rules_at_place (a ∷ []) zero sub last is = ap (λ (s : Sub). length s.plan) (sym is)
rules_at_place (a ∷ []) (suc n) sub last is = absurd (omega (arith, last))
rules_at_place (a ∷ b ∷ bs) zero sub last is = absurd (omega (arith, last))
rules_at_place (a ∷ b ∷ bs) (suc n) sub last is = rules_at_place (b ∷ bs) n sub (omega (arith, last)) is

pub rules_of_last : (subs : List Sub) (n : ℕ) (sub : Sub) → n ≡ length subs → 0 < n → sub ≡ get_or subs (n - 1) sub → last_rules subs ≡ length sub.plan
rules_of_last subs n sub count some is = rules_at_place subs (n - 1) sub (omega (arith, count, some)) is

-- seen through a function
pub mapped_last : {A B : Type 0} (g : A → B) (f : A → A) (h : B → B) (xs : List A) → ((x : A) → g (f x) ≡ h (g x)) → map g (with_last f xs) ≡ with_last h (map g xs)
mapped_last g f h [] same = refl
mapped_last g f h (x ∷ []) same = ap (λ y. y ∷ []) (same x)
mapped_last g f h (x ∷ y ∷ ys) same = ap (λ zs. g x ∷ zs) (mapped_last g f h (y ∷ ys) same)

pub unchanged_last : {A : Type 0} (f : A → A) (xs : List A) → ((x : A) → f x ≡ x) → with_last f xs ≡ xs
unchanged_last f [] same = refl
unchanged_last f (x ∷ []) same = ap (λ y. y ∷ []) (same x)
unchanged_last f (x ∷ y ∷ ys) same = ap (λ zs. x ∷ zs) (unchanged_last f (y ∷ ys) same)

map_set : {A B : Type 0} (g : A → B) (xs : List A) (n : ℕ) (y : A) → map g (set xs n y) ≡ set (map g xs) n (g y)
map_set g [] n y = refl
map_set g (x ∷ xs) zero y = refl
map_set g (x ∷ xs) (suc n) y = ap (λ zs. g x ∷ zs) (map_set g xs n y)

map_get : {A B : Type 0} (g : A → B) (xs : List A) (n : ℕ) (d : A) → get_or (map g xs) n (g d) ≡ g (get_or xs n d)
map_get g [] n d = refl
map_get g (x ∷ xs) zero d = refl
map_get g (x ∷ xs) (suc n) d = map_get g xs n d

pub map_length : {A B : Type 0} (g : A → B) (xs : List A) → length (map g xs) ≡ length xs
map_length g [] = refl
map_length g (x ∷ xs) = omega (arith, map_length g xs)

pub changed_seen : {A B : Type 0} (g : A → B) (h : B → B) (xs : List A) (n : ℕ) (x y : A) → n ≡ length xs → 0 < n → x ≡ get_or xs (n - 1) x → g y ≡ h (g x) → map g (set xs (n - 1) y) ≡ with_last h (map g xs)
changed_seen g h xs n x y count some is made =
    map_set g xs (n - 1) y
    ∙ at_place h (map g xs) (n - 1) (g x) (g y) (omega (arith, count, some, map_length g xs)) (ap g is ∙ sym (map_get g xs (n - 1) x)) made

pub as_many : {A : Type 0} (f : A → A) (xs : List A) → length (with_last f xs) ≡ length xs
as_many f [] = refl
as_many f (x ∷ []) = refl
as_many f (x ∷ y ∷ ys) = omega (arith, as_many f (y ∷ ys))

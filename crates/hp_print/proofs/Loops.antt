-- One round more of a loop: what it makes behind what the rounds before did.
use Rattle.std.proofs.Common.{◌≡◌, ℕ, zero, suc, ◌+◌, ◌<◌, List, [], ◌∷◌, ◌++◌, map, length, take, get_or, replicate, refl, ap, sym, ◌∙◌, add-one}
use Rattle.std.specs.List.{flat_map}
use Rattle.std.proofs.lemmas.List.{flat_map_more, take_more, map_more, map-append, replicate_more}
use Rattle.serde_json.specs.Data.{Data}
use Rattle.serde_json.specs.View.{view}
use Rattle.serde_json.specs.declared.value.Value.{Value}
use Rattle.hp_model.specs.Lists.{numbers}

-- of a loop over a list: the text of the item x, which the list has at i
pub one_more_text : {X : Type 0} (f : X → List ℕ) (old now new : List ℕ) (xs : List X) (i : ℕ) (d x : X) → x ≡ get_or xs i d →
    i < length xs → now ≡ old ++ flat_map f (take i xs) → new ≡ now ++ f x → new ≡ old ++ flat_map f (take (i + 1) xs)
one_more_text f old now new xs i d x is h before then =
    rw (take_more xs i d h, ← is) (then ∙ ap (λ ys. ys ++ f x) before ∙ flat_map_more f old (take i xs) x)

-- of a loop over the numbers below one: the text of the number
pub one_number_more : (f : ℕ → List ℕ) (old now new : List ℕ) (n : ℕ) → now ≡ old ++ flat_map f (numbers n) →
    new ≡ now ++ f n → new ≡ old ++ flat_map f (numbers (n + 1))
one_number_more f old now new n before then =
    rw (add-one n) (then ∙ ap (λ ys. ys ++ f n) before ∙ flat_map_more f old (numbers n) n)

-- of a loop over a list: the value of the item x, which the list has at i
pub one_more_value : {X : Type 0} (f : X → Data) (now new : List Value) (v : Value) (xs : List X) (i : ℕ) (d x : X) →
    x ≡ get_or xs i d → i < length xs → map view now ≡ map f (take i xs) → new ≡ now ++ v ∷ [] → view v ≡ f x →
    map view new ≡ map f (take (i + 1) xs)
one_more_value f now new v xs i d x is h before then made =
    ap (map view) then
    ∙ map-append view now (v ∷ [])
    ∙ ap (λ ys. ys ++ view v ∷ []) before
    ∙ ap (λ y. map f (take i xs) ++ y ∷ []) (made ∙ ap f is)
    ∙ sym (map_more f xs i d h)

-- of a loop that pushes one thing again and again
pub one_more_same : {X : Type 0} (x y : X) (n : ℕ) (now new : List X) → now ≡ replicate n x → new ≡ now ++ y ∷ [] → y ≡ x →
    new ≡ replicate (n + 1) x
one_more_same x y n now new before then is =
    then ∙ ap (λ xs. xs ++ y ∷ []) before ∙ ap (λ z. replicate n x ++ z ∷ []) is ∙ replicate_more n x

-- a number 0 more at the end of a list, beyond which 0 is read anyway
pub zero_more : (xs : List ℕ) (k : ℕ) → get_or (xs ++ 0 ∷ []) k 0 ≡ get_or xs k 0
zero_more [] zero = refl
zero_more [] (suc k) = refl
zero_more (x ∷ xs) zero = refl
zero_more (x ∷ xs) (suc k) = zero_more xs k

-- of a loop over the numbers below one: the value of the number
pub one_number_value : (f : ℕ → Data) (now new : List Value) (v : Value) (n : ℕ) → map view now ≡ map f (numbers n) →
    new ≡ now ++ v ∷ [] → view v ≡ f n → map view new ≡ map f (numbers (n + 1))
one_number_value f now new v n before then made =
    rw (add-one n)
    (ap (map view) then
    ∙ map-append view now (v ∷ [])
    ∙ ap (λ ys. ys ++ view v ∷ []) before
    ∙ ap (λ y. map f (numbers n) ++ y ∷ []) made
    ∙ sym (map-append f (numbers n) (n ∷ [])))

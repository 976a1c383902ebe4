-- Small facts on options, tests, numbers and lists, for this crate and those above: what the library has by the names used here, and
-- what it hasn't.
use Rattle.std.proofs.Common.{
  ◌≡◌,
  ◌+◌,
  ◌<◌,
  ◌≤◌,
  ◌∷◌,
  ◌++◌,
  ℕ,
  suc,
  Bool,
  true,
  false,
  not,
  ◌&&◌,
  ◌||◌,
  cond,
  Option,
  Some,
  None,
  List,
  [],
  is_some,
  IsSome,
  IfNone,
  ltb,
  eqb,
  length,
  get_or,
  take,
  drop,
  add-one,
  refl,
  sym,
  subst,
  arith,
}
use Rattle.std.specs.Option.{option_map}
use Rattle.std.proofs.lemmas.Bool.Decides.{nat_tests}
use Rattle.std.proofs.lemmas.Bool.{true≢false, false≢true, ltb-true, ltb-false}
use Rattle.std.proofs.Math.Seq.{drop-cons, take-suc}
pub use Rattle.std.proofs.lemmas.Option.{same_Some as same_some, none-some as none_some}
pub use Rattle.std.proofs.lemmas.Bool.{not-false as not_false, not-true as not_true, eqb-false as not_equal, and_parts, cases_Bool as cases_bool}

pub some_none : {A : Type 0} (a : A) → Some a ≡ None → ⊥
some_none a e = none_some a (sym e)

pub none_of : {A : Type 0} (o : Option A) → is_some o ≡ false → o ≡ None
none_of None e = refl
none_of (Some a) e = absurd (true≢false e)

pub map_some : {A B : Type 0} (f : A → B) (o : Option A) (y : B) → option_map f o ≡ Some y → (x : A) × (o ≡ Some x) × (f x ≡ y)
map_some f (Some x) y e = (x, refl, same_some (f x) y e)
map_some f None y e = absurd cc

pub passed : {A : Type 0} (b : Bool) (x : Option A) (y : A) → cond b x None ≡ Some y → (b ≡ true) × (x ≡ Some y)
passed true x y e = (refl, e)
passed false x y e = absurd cc

pub and_false : (b : Bool) → (b && false) ≡ false
and_false true = refl
and_false false = refl

pub and_true : (b : Bool) → (b && true) ≡ b
and_true true = refl
and_true false = refl

pub or_true : (b : Bool) → (b || true) ≡ true
or_true true = refl
or_true false = refl

pub or_false : (b : Bool) → (b || false) ≡ b
or_false true = refl
or_false false = refl

pub not_not : (b : Bool) → b ≡ not (not b)
not_not true = refl
not_not false = refl

pub not_below : (c n : ℕ) → n ≤ c → ltb c n ≡ false
not_below c n h = grind (arith, nat_tests)

pub unequal_turned : (a b : ℕ) → eqb a b ≡ false → eqb b a ≡ false
unequal_turned a b h = grind (arith, nat_tests)

pub drop_at : {A : Type 0} (xs : List A) (i : ℕ) (d : A) → i < length xs → drop i xs ≡ get_or xs i d ∷ drop (i + 1) xs
drop_at xs i d below = rw (add-one, drop-cons xs i d) refl

pub take_at : {A : Type 0} (xs : List A) (i : ℕ) (d : A) → i < length xs → take (i + 1) xs ≡ take i xs ++ get_or xs i d ∷ []
take_at xs i d below = rw add-one (take-suc xs i d below)

pub less_apart : (m n : ℕ) → m ≤ n → (m ≡ n → ⊥) → m < n
less_apart m n few other = by (ltb m n) refl
  where
    by : (t : Bool) → ltb m n ≡ t → m < n
    by true e = ltb-true m n e
    by false e = let past = ltb-false m n e in absurd (other (omega (arith, few, past)))

pub less_or : (a b : ℕ) → a < suc b → (a ≡ b → ⊥) → a < b
less_or a b below other = less_apart a b (omega (arith, below)) other

pub on_none : {A : Type 0} (o : Option A) (P : Type 0) → P → IfNone o P
on_none None P p = p
on_none (Some a) P p = tt

pub none_there : {A : Type 0} (o : Option A) → o ≡ None → IsSome o → ⊥
none_there o none some = false≢true (subst (λ o. IsSome o) none some)

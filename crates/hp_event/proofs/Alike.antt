-- Two events, and two operations, are one where the derived `==` says so. `==` goes by the variants, and in each by its
-- fields: so it says so where it does for each field's type.
use Rattle.std.proofs.Common.{◌≡◌, ◌↔◌, ℕ, Bool, true, false, ◌&&◌, List, [], ◌∷◌, IsTrue, refl, sym, ap, subst, rules}
use Rattle.std.specs.Prelude.{◌==◌}
use Rattle.std.specs.Cmp.{IsEquivalence}
use Rattle.std.specs.Ordering.{int_eq}
use Rattle.std.proofs.lemmas.Bool.Decides.{Decides-eqb, Decides-int_eq}
use Rattle.hp_states.proofs.Basics.{and_parts}
use Rattle.hp_states.specs.contracts.dir.DirPartialEq.TheImpl.{eq-value as dir_eq}
use Rattle.hp_states.specs.contracts.cpu_set.CpuSetPartialEq.TheImpl.{eq-value as cpu_set_eq}
use Rattle.hp_event.specs.contracts.answer.AnswerPartialEq.TheImpl.{eq-value as answer_eq}
use Rattle.hp_event.specs.contracts.how.HowPartialEq.TheImpl.{eq-value as how_eq}
use Rattle.hp_event.specs.contracts.op.FormPartialEq.TheImpl.{eq-value as form_eq}
use Rattle.hp_event.specs.declared.op.Op.{Op}
use Rattle.hp_event.specs.contracts.op.Op.{enum as op_enum}
use Rattle.hp_event.specs.contracts.op.OpPartialEq.TheImpl.{eq-value as op_eq}
use Rattle.hp_event.specs.contracts.op.OpEq.TheImpl.Laws.{laws-law as op_law}
use Rattle.hp_event.specs.contracts.event.FilePartialEq.TheImpl.{eq-value as file_eq}
use Rattle.hp_event.specs.contracts.event.RolePartialEq.TheImpl.{eq-value as role_eq}
use Rattle.hp_event.specs.declared.event.Event.{Event}
use Rattle.hp_event.specs.contracts.event.Event.{enum as event_enum}
use Rattle.hp_event.specs.contracts.event.EventPartialEq.TheImpl.{eq-value as event_eq}
use Rattle.hp_event.specs.contracts.event.EventEq.TheImpl.Laws.{laws-law as event_law}
use mathlib.Core.Logic.{inl, inr}
use mathlib.Core.Bool.{true≢false}
use denote.Struct.Field.{Field}
use denote.Enum.Declared.{Record, values_one}
use denote.Enum.Compared.{Each, by}

-- what this `==` takes for one is one
abbrev Alike : {A : Type 0} → (A → A → Bool) → Type 0
Alike {A} E = (x y : A) → E x y ≡ true → x ≡ y

-- ---- the fields of a variant, one behind another

single : (x y : Unit {0}) → true ≡ true → x ≡ y
single x y h = refl

last : {A : Type 0} {E : A → A → Bool} → Alike E → (x y : A × Unit {0}) → E x.0 y.0 ≡ true → x ≡ y
last alike x y h = λ i. (alike x.0 y.0 h i, tt)

then : {A B : Type 0} {E : A → A → Bool} {F : B → B → Bool} → Alike E → Alike F → (x y : A × B) → (E x.0 y.0 && F x.1 y.1) ≡ true → x ≡ y
then {A} {B} {E} {F} first rest x y h = let b = and_parts (E x.0 y.0) (F x.1 y.1) h in λ i. (first x.0 y.0 b.0 i, rest x.1 y.1 b.1 i)

-- ---- the variants of an enum

abbrev All : (Fss : List (List Field)) → Each Bool Fss → Type 0
All [] es = Unit {0}
All (Fs ∷ Fss) es = Alike es.0 × All Fss es.1

infixr 4 ◌next◌
◌next◌ : {A B : Type 0} → A → B → A × B
first next rest = (first, rest)

choices : (Fss : List (List Field)) (es : Each Bool Fss) → All Fss es → Alike (by false false Fss es)
choices [] es all c d h = absurd c
choices (Fs ∷ Fss) es all (inl x) (inl y) h = ap inl (all.0 x y h)
choices (Fs ∷ Fss) es all (inl x) (inr y) h = absurd (true≢false (sym h))
choices (Fs ∷ Fss) es all (inr x) (inl y) h = absurd (true≢false (sym h))
choices (Fs ∷ Fss) es all (inr x) (inr y) h = ap inr (choices Fss es.1 all.1 x y h)

values : (N : Record) (es : Each Bool N.parts) → All N.parts es → (a b : N.D) → by false false N.parts es (N.as_values a) (N.as_values b) ≡ true → a ≡ b
values N es all a b h = values_one N a b (choices N.parts es all (N.as_values a) (N.as_values b) h)

-- both ways, for a type whose `==` is an equivalence
decided : {A : Type 0} (E : A → A → Bool) → IsEquivalence E → Alike E → (a b : A) → IsTrue (E a b) ↔ (a ≡ b)
decided E law alike a b = (λ h. alike a b h, λ e. subst (λ x. E a x ≡ true) e (law.refl a))

-- ---- the types of the fields

numbers : Alike (λ (x y : ℕ). x == y)
numbers x y h = (Decides-eqb x y).0 h

integers : Alike int_eq
integers x y h = (Decides-int_eq x y).0 h

dirs : Alike dir_eq.it
dirs a b h = search (rules, h)

answers : Alike answer_eq.it
answers a b h = search (rules, h)

hows : Alike how_eq.it
hows a b h = search (rules, h)

files : Alike file_eq.it
files a b h = search (rules, h)

roles : Alike role_eq.it
roles a b h = search (rules, h)

forms : Alike form_eq.it
forms a b h = search (rules, h)

cpu_sets : Alike cpu_set_eq.it
cpu_sets a b h = search (rules, h)

-- ---- operations and events

ops : Alike op_eq.it
ops a b h = values op_enum _ (
    last numbers
    next last numbers
    next then numbers (last integers)
    next then numbers (last integers)
    next last numbers
    next last numbers
    next last numbers
    next single
    next then numbers (then numbers (last forms))
    next then numbers (last forms)
    next then numbers (then numbers (last forms))
    next then numbers (then numbers (last forms))
    next single
    next single
    next last numbers
    next single
    next single
    next last integers
    next single
    next single
    next last cpu_sets
    next tt
    ) a b h

events : Alike event_eq.it
events a b h = values event_enum _ (
    then numbers (last roles)
    next last numbers
    next then numbers (last ops)
    next then numbers (then numbers (last ops))
    next then numbers (then numbers (then numbers (last numbers)))
    next then numbers (then numbers (then numbers (then numbers (then dirs (last hows)))))
    next then numbers (then numbers (last answers))
    next then numbers (last answers)
    next then numbers (then numbers (last ops))
    next then numbers (last answers)
    next last numbers
    next last numbers
    next then numbers (then numbers (last integers))
    next then numbers (then files (then numbers (last integers)))
    next last numbers
    next tt
    ) a b h

pub same_events : (a b : Event) → IsTrue (event_eq.it a b) ↔ (a ≡ b)
same_events a b = decided event_eq.it event_law events a b

pub same_ops : (a b : Op) → IsTrue (op_eq.it a b) ↔ (a ≡ b)
same_ops a b = decided op_eq.it op_law ops a b

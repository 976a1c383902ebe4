-- The lowest entry that is due in an upmany is the lower one of its threads' lowest and of its seat's own.
use Rattle.std.proofs.Common.{◌≡◌, ℕ, ◌<◌, ◌≤◌, Bool, true, false, ◌&&◌, cond, leb, ltb, ◌↔◌, Option, Some, None, IfSome, IfNone, List, ◌⊎◌, inl, inr, refl, subst, arith}
use Rattle.std.proofs.lemmas.Bool.{leb-true, leb-false, ltb-true, ltb-false}
use Rattle.hp_states.proofs.Basics.{none_some, same_some}
use Rattle.hp_event.specs.declared.head.Head.{Head}
use Rattle.hp_event.specs.declared.event.Event.{Event}
use Rattle.hp_account.specs.UnderWay.{IsDueOn, NoneDue, IsThreadDue, NoThreadDue}
use Rattle.hp_machine.specs.Upmany.{lower}

-- what is due is a thread's, and of a possible processor, or the seat's own, which is of this processor
pub record AreDue (head : Head) (es : List Event) (holder : ℕ) (own : Option ℕ) : Type 0 where
  pub either : (c k : ℕ) → IsDueOn head es c k → IsThreadDue head es c k ⊎ (k ≡ holder)
  pub possible : (c k : ℕ) → IsThreadDue head es c k → c < head.possible
  pub own_is : (c : ℕ) → IsDueOn head es c holder ↔ (own ≡ Some c)

-- the lowest is found, or there is none
abbrev IsFound : Head → List Event → (from : ℕ) → (ℕ × ℕ) → Type 0
IsFound head es from due = (from ≤ due.0) × IsDueOn head es due.0 due.1 × NoneDue head es from due.0

abbrev IsThreadFound : Head → List Event → (from : ℕ) → (ℕ × ℕ) → Type 0
IsThreadFound head es from due = (from ≤ due.0) × IsThreadDue head es due.0 due.1 × NoThreadDue head es from due.0

none_found : (head : Head) (es : List Event) (k : ℕ) (own : Option ℕ) (from to : ℕ) → AreDue head es k own → NoThreadDue head es from to →
    ((c : ℕ) → own ≡ Some c → from ≤ c → c < to → ⊥) → NoneDue head es from to
none_found head es k own from to are none other c seat low high d = go (are.either c seat d)
  where
    go : IsThreadDue head es c seat ⊎ (seat ≡ k) → ⊥
    go (inl t) = none c seat low high t
    go (inr e) = other c ((are.own_is c).0 (subst (IsDueOn head es c) e d)) low high

own_lowest : (head : Head) (es : List Event) (from k c : ℕ) → AreDue head es k (Some c) → from ≤ c → NoThreadDue head es from c →
    IsFound head es from (c, k)
own_lowest head es from k c are low none = (
  low,
  (are.own_is c).1 refl,
  none_found head es k (Some c) from c are none (λ d e l h. let same = same_some c d e in omega (arith, same, h)),
)

threads_lowest : (head : Head) (es : List Event) (from k : ℕ) (own : Option ℕ) (due : ℕ × ℕ) → AreDue head es k own →
    IsThreadFound head es from due → ((c : ℕ) → own ≡ Some c → from ≤ c → c < due.0 → ⊥) → IsFound head es from due
threads_lowest head es from k own due are t other = (t.0, t.1.due, none_found head es k own from due.0 are t.2 other)

pub lower_some : (head : Head) (es : List Event) (own : Option ℕ) (from k : ℕ) (due : Option (ℕ × ℕ)) → AreDue head es k own →
    IfSome due (IsThreadFound head es from) → IfNone due (NoThreadDue head es from head.possible) →
    IfSome (lower own from k due) (IsFound head es from)
lower_some head es None from k None are s n = tt
lower_some head es None from k (Some d) are s n = threads_lowest head es from k None d are s (λ c e low high. none_some c e)
lower_some head es (Some own) from k None are s n = go (leb from own) refl
  where
    go : (b : Bool) → leb from own ≡ b → IfSome {T = ℕ × ℕ} (cond b (Some (own, k)) None) (IsFound head es from)
    go true e = own_lowest head es from k own are (leb-true from own e) (λ c j low high t. n c j low (are.possible c j t) t)
    go false e = tt
lower_some head es (Some own) from k (Some d) are s n = go (leb from own) (ltb own d.0) refl refl
  where
    go : (a b : Bool) → leb from own ≡ a → ltb own d.0 ≡ b →
        IfSome {T = ℕ × ℕ} (cond (a && b) (Some (own, k)) (Some d)) (IsFound head es from)
    go true true e f =
        let below = ltb-true own d.0 f in
        own_lowest head es from k own are (leb-true from own e) (λ c j low high. s.2 c j low (omega (arith, high, below)))
    go true false e f =
        let above = ltb-false own d.0 f in
        threads_lowest head es from k (Some own) d are s (λ c is low high. let same = same_some own c is in omega (arith, same, above, high))
    go false b e f =
        let under = leb-false from own e in
        threads_lowest head es from k (Some own) d are s (λ c is low high. let same = same_some own c is in omega (arith, same, under, low))

pub lower_none : (head : Head) (es : List Event) (own : Option ℕ) (from k : ℕ) (due : Option (ℕ × ℕ)) → AreDue head es k own →
    IfNone due (NoThreadDue head es from head.possible) → IfNone (lower own from k due) (NoneDue head es from head.possible)
lower_none head es None from k None are n = none_found head es k None from head.possible are n (λ c e low high. none_some c e)
lower_none head es None from k (Some d) are n = tt
lower_none head es (Some own) from k None are n = go (leb from own) refl
  where
    go : (b : Bool) → leb from own ≡ b → IfNone {T = ℕ × ℕ} (cond b (Some (own, k)) None) (NoneDue head es from head.possible)
    go true e = tt
    go false e =
        let under = leb-false from own e in
        none_found head es k (Some own) from head.possible are n
        (λ c is low high. let same = same_some own c is in omega (arith, same, under, low))
lower_none head es (Some own) from k (Some d) are n = go (leb from own && ltb own d.0)
  where
    go : (b : Bool) → IfNone {T = ℕ × ℕ} (cond b (Some (own, k)) (Some d)) (NoneDue head es from head.possible)
    go true = tt
    go false = tt

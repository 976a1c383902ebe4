-- What a board tells the lock of its loans is what is lent to each seat.
use Rattle.std.proofs.Common.{◌≡◌, ◌≢◌, ℕ, zero, suc, ◌<◌, ◌≤◌, Bool, true, false, cond, eqb, ltb, ltb-true, ltb-false, Option, Some, None, List, [], ◌∷◌, ◌++◌, refl, sym, ap, ◌∙◌, arith}
use Rattle.std.specs.List.{flat_map}
use Rattle.std.proofs.lemmas.Bool.{eq-eqb, eqb-true, ne_eqb, true≢false}
use Rattle.std.proofs.lemmas.List.{flat_map_more}
use Rattle.hp_states.proofs.Basics.{less_or}
use Rattle.hp_event.specs.declared.aside.Aside.{Aside}
use Rattle.hp_event.specs.declared.event.Event.{Event}
use Rattle.hp_model.specs.Events.{seat_of}
use Rattle.hp_model.specs.Lawful.{IsLawful}
use Rattle.hp_model.specs.Lists.{numbers}
use Rattle.hp_model.specs.NextEvent.{due_entry}
use Rattle.hp_model.specs.Seats.{admits}
use Rattle.hp_model.proofs.DueGives.{due_stands}
use Rattle.hp_model.proofs.OneNext.{owners}
use Rattle.hp_turn.specs.Asides.{aside_of}
use Rattle.hp_board.specs.Contents.{Contents}
use Rattle.hp_board.specs.Loans.{loan, loan_of}
use Rattle.hp_live.specs.Lending.{pair_of, lent_pairs}
use Rattle.hp_live.proofs.Gone.{call_in}

abbrev first_of : Option Aside → Option Aside → Option Aside
first_of None b = b
first_of (Some a) b = Some a

join_by : (k : ℕ) (b : Bool) (a : Aside) (ps ys : List (ℕ × Aside)) →
    aside_of k (ps ++ ys) ≡ first_of (aside_of k ps) (aside_of k ys) →
    cond b (Some a) (aside_of k (ps ++ ys)) ≡ first_of (cond b (Some a) (aside_of k ps)) (aside_of k ys)
join_by k true a ps ys later = refl
join_by k false a ps ys later = later

aside_join : (k : ℕ) (xs ys : List (ℕ × Aside)) → aside_of k (xs ++ ys) ≡ first_of (aside_of k xs) (aside_of k ys)
aside_join k [] ys = refl
aside_join k (p ∷ ps) ys = join_by k (eqb p.0 k) p.1 ps ys (aside_join k ps ys)

pair_other : (k n : ℕ) (o : Option Aside) → n ≢ k → aside_of k (pair_of n o) ≡ None
pair_other k n None apart = refl
pair_other k n (Some a) apart = let no = ne_eqb n k apart in rw no refl

pair_own : (k n : ℕ) (o : Option Aside) → n ≡ k → aside_of k (pair_of n o) ≡ o
pair_own k n None is = refl
pair_own k n (Some a) is = let own = eq-eqb n k is in rw own refl

abbrev pairs_of : (ℕ → Option Aside) → ℕ → List (ℕ × Aside)
pairs_of f n = flat_map (λ j. pair_of j (f j)) (numbers n)

pairs_more : (f : ℕ → Option Aside) (k n : ℕ) →
    aside_of k (pairs_of f (suc n)) ≡ first_of (aside_of k (pairs_of f n)) (aside_of k (pair_of n (f n)))
pairs_more f k n =
    ap (aside_of k) (sym (flat_map_more (λ j. pair_of j (f j)) [] (numbers n) n)) ∙ aside_join k (pairs_of f n) (pair_of n (f n))

pairs_above : (f : ℕ → Option Aside) (k n : ℕ) → n ≤ k → aside_of k (pairs_of f n) ≡ None
pairs_above f k zero low = refl
pairs_above f k (suc n) low =
    let before = pairs_above f k n (omega arith) in
    let other = pair_other k n (f n) (λ (is : n ≡ k). omega arith) in
    pairs_more f k n ∙ ap (λ (o : Option Aside). first_of o (aside_of k (pair_of n (f n)))) before ∙ other

first_none : (o p : Option Aside) → p ≡ None → first_of o p ≡ o
first_none None p none = none
first_none (Some a) p none = refl

below_by : (f : ℕ → Option Aside) (k n : ℕ) (b : Bool) → eqb n k ≡ b → k < suc n →
    (k < n → aside_of k (pairs_of f n) ≡ f k) →
    first_of (aside_of k (pairs_of f n)) (aside_of k (pair_of n (f n))) ≡ f k
below_by f k n true e low earlier =
    let is = eqb-true n k e in
    ap (λ (o : Option Aside). first_of o (aside_of k (pair_of n (f n)))) (pairs_above f k n (omega arith))
    ∙ pair_own k n (f n) is ∙ ap f is
below_by f k n false e low earlier =
    let apart : n ≢ k = λ is. true≢false (sym (eq-eqb n k is) ∙ e) in
    let less = less_or k n low (λ is. apart (sym is)) in
    first_none (aside_of k (pairs_of f n)) (aside_of k (pair_of n (f n))) (pair_other k n (f n) apart) ∙ earlier less

pairs_below : (f : ℕ → Option Aside) (k n : ℕ) → k < n → aside_of k (pairs_of f n) ≡ f k
pairs_below f k zero low = absurd (omega arith)
pairs_below f k (suc n) low = pairs_more f k n ∙ below_by f k n (eqb n k) refl low (pairs_below f k n)

-- nothing is lent to a seat that wasn't admitted
pub loan_above : (b : Contents) (k : ℕ) → IsLawful b.head b.events → admits b.events ≤ k → loan b k ≡ None
loan_above b k lawful above = go (due_entry b.head b.events k) refl
  where
    go : (o : Option Event) → due_entry b.head b.events k ≡ o → loan_of o b.lent b.places ≡ None
    go None is = refl
    go (Some e) is =
        let s = due_stands b.head b.events k e is in
        let there = call_in b.head b.events e s.1 s.0.0 (owners b.head b.events lawful) in
        let low = (owners b.head b.events lawful).seats_below (seat_of e) there.0 there.1 in
        let own = s.2 in
        absurd (omega arith)

-- what is lent to a seat by the board is what is lent to it by the pairs
pub aside_pairs : (b : Contents) (k : ℕ) → IsLawful b.head b.events → aside_of k (lent_pairs b) ≡ loan b k
aside_pairs b k lawful = go (ltb k (admits b.events)) refl
  where
    go : (c : Bool) → ltb k (admits b.events) ≡ c → aside_of k (lent_pairs b) ≡ loan b k
    go true is = pairs_below (loan b) k (admits b.events) (ltb-true k (admits b.events) is)
    go false is =
        let above = ltb-false k (admits b.events) is in
        pairs_above (loan b) k (admits b.events) above ∙ sym (loan_above b k lawful above)

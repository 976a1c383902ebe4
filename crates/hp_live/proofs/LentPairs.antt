-- What pairs of seats and entries tell of a board: which hooks are away, what it lends, and what waits for a hook that is lent.
use Rattle.std.proofs.Common.{◌≡◌, ◌≢◌, ℕ, zero, suc, ◌<◌, Bool, true, false, not, ◌&&◌, ◌||◌, eqb, ltb, ltb-true, ltb-false, is_some, All, Option, Some, None, List, [], ◌∷◌, ◌++◌, inl, inr, refl, sym, ap, ◌∙◌, subst, append_assoc, arith}
use mathlib.Core.Logic.{dite}
use native.Mathlib.Decide.{ℕ_discrete}
use Rattle.std.specs.List.{flat_map, list_any}
use Rattle.std.proofs.lemmas.Bool.{eq-eqb, eqb-true, ne_eqb, true≢false, false≢true, and_parts}
use Rattle.std.proofs.lemmas.List.{append-nil, flat_map_more}
use Rattle.std.proofs.lemmas.List.Elements.{All-head, All-tail, filter-append}
use Rattle.std.proofs.lemmas.List.Folds.{list_any-append}
use Rattle.hp_states.proofs.Basics.{none_some, or_true, same_some}
use Rattle.hp_event.specs.declared.aside.Aside.{Aside}
use Rattle.hp_event.specs.declared.event.Event.{Event}
use Rattle.hp_event.specs.declared.event.Event.TheVariants.{Admit, Call}
use Rattle.hp_event.specs.declared.op.Op.{Op}
use Rattle.hp_event.specs.Hows.{is_called}
use Rattle.hp_locks.specs.declared.why.Why.{Why}
use Rattle.hp_locks.specs.declared.why.Why.TheVariants.{ApTurn, HookOut}
use Rattle.hp_model.specs.Lent.{arms}
use Rattle.hp_model.specs.Lists.{numbers}
use Rattle.hp_model.specs.NextEvent.{due_entry}
use Rattle.hp_model.specs.Seats.{admits, admits_step}
use Rattle.hp_model.specs.Walks.{walk}
use Rattle.hp_model.proofs.Laws.{admits_push}
use Rattle.hp_table.specs.Step.{step_at, is_home}
use Rattle.hp_turn.specs.Story.{IsOwn, is_admit}
use Rattle.hp_board.specs.Contents.{Contents}
use Rattle.hp_board.specs.Loans.{loan, can_lend, IsOutFor, CallsAway, WaitsForThread, WaitsToArm}
use Rattle.hp_board.specs.Turns.{IsHookOut, IsNotYet}
use Rattle.hp_board.proofs.Loans.{IsLent, lent_to, not_mine, out_of, state_in}
use Rattle.hp_live.specs.Lending.{pair_of, lent_pairs}
use Rattle.hp_live.specs.Steps.{IsBoard}
use Rattle.hp_live.specs.Tries.{lent_beside, is_away, can_lend_by, lends_over, WaitsForThreadBy, WaitsToArmBy, IsHookOutBy, IsNotYetBy, CallsLent}
use Rattle.hp_live.proofs.Finding.{Puts}
use Rattle.hp_live.proofs.Pairs.{loan_above}

abbrev pairs_of : (ℕ → Option Aside) → ℕ → List (ℕ × Aside)
pairs_of f n = flat_map (λ j. pair_of j (f j)) (numbers n)

pairs_more : (f : ℕ → Option Aside) (n : ℕ) → pairs_of f (suc n) ≡ pairs_of f n ++ pair_of n (f n)
pairs_more f n = sym (flat_map_more (λ j. pair_of j (f j)) [] (numbers n) n)

-- ---- what is lent to others

beside_other : (k n : ℕ) (o : Option Aside) → n ≢ k → lent_beside k (pair_of n o) ≡ pair_of n o
beside_other k n None apart = refl
beside_other k n (Some a) apart = let no = ne_eqb n k apart in rw no refl

beside_own : (k n : ℕ) (o : Option Aside) → n ≡ k → lent_beside k (pair_of n o) ≡ []
beside_own k n None is = refl
beside_own k n (Some a) is = let own = eq-eqb n k is in rw own refl

beside_more : (f : ℕ → Option Aside) (k n : ℕ) →
    lent_beside k (pairs_of f (suc n)) ≡ lent_beside k (pairs_of f n) ++ lent_beside k (pair_of n (f n))
beside_more f k n =
    ap (lent_beside k) (pairs_more f n) ∙ filter-append (λ (p : ℕ × Aside). not (eqb p.0 k)) (pairs_of f n) (pair_of n (f n))

beside_same : (f g : ℕ → Option Aside) (k n : ℕ) → ((j : ℕ) → j ≢ k → f j ≡ g j) →
    lent_beside k (pairs_of f n) ≡ lent_beside k (pairs_of g n)
beside_same f g k zero same = refl
beside_same f g k (suc n) same =
    beside_more f k n ∙ ap (λ (w : List (ℕ × Aside)). w ++ lent_beside k (pair_of n (f n))) (beside_same f g k n same)
    ∙ ap (λ (w : List (ℕ × Aside)). lent_beside k (pairs_of g n) ++ w) one ∙ sym (beside_more g k n)
  where
    one : lent_beside k (pair_of n (f n)) ≡ lent_beside k (pair_of n (g n))
    one =
        dite (ℕ_discrete n k) (λ is. beside_own k n (f n) is ∙ sym (beside_own k n (g n) is))
        (λ apart. ap (λ (o : Option Aside). lent_beside k (pair_of n o)) (same n apart))

beside_all : (f : ℕ → Option Aside) (k n : ℕ) → f k ≡ None → lent_beside k (pairs_of f n) ≡ pairs_of f n
beside_all f k zero none = refl
beside_all f k (suc n) none =
    beside_more f k n ∙ ap (λ (w : List (ℕ × Aside)). w ++ lent_beside k (pair_of n (f n))) (beside_all f k n none)
    ∙ ap (λ (w : List (ℕ × Aside)). pairs_of f n ++ w) one ∙ sym (pairs_more f n)
  where
    one : lent_beside k (pair_of n (f n)) ≡ pair_of n (f n)
    one =
        dite (ℕ_discrete n k)
        (λ is. let no : f n ≡ None = ap f is ∙ none in
        ap (λ (o : Option Aside). lent_beside k (pair_of n o)) no ∙ sym (ap (pair_of n) no))
        (λ apart. beside_other k n (f n) apart)

-- events that admit nobody
admits_one : (n : ℕ) (xs : List Event) (e : Event) → is_admit e ≡ false → admits_step n xs e ≡ n
admits_one n xs (Admit seat role) none = absurd (true≢false none)
admits_one n xs e none = refl

admits_kept : (k : ℕ) (xs added : List Event) → All (IsOwn (Some k)) added → admits (xs ++ added) ≡ admits xs
admits_kept k xs [] own = ap admits (append-nil xs)
admits_kept k xs (e ∷ es) own =
    ap admits (sym (append_assoc xs (e ∷ []) es)) ∙ admits_kept k (xs ++ e ∷ []) es (All-tail (IsOwn (Some k)) e es own)
    ∙ admits_push xs e ∙ admits_one (admits xs) xs e (All-head (IsOwn (Some k)) e es own).1

-- a seat's section leaves what is lent to others
pub others_kept : (k : ℕ) (old new : Contents) → Puts k old.events new.events → ((j : ℕ) → j ≢ k → loan new j ≡ loan old j) →
    loan old k ≡ None → lent_beside k (lent_pairs new) ≡ lent_pairs old
others_kept k old new puts others none =
    let same : admits new.events ≡ admits old.events =
    ap admits (sym puts.whole) ∙ admits_kept k old.events puts.added puts.own in
    ap (λ (n : ℕ). lent_beside k (pairs_of (loan new) n)) same ∙ beside_same (loan new) (loan old) k (admits old.events) others
    ∙ beside_all (loan old) k (admits old.events) none

-- ---- what is lent to anybody

any_more : (test : ℕ × Aside → Bool) (f : ℕ → Option Aside) (n : ℕ) →
    list_any test (pairs_of f (suc n)) ≡ (list_any test (pairs_of f n) || list_any test (pair_of n (f n)))
any_more test f n = ap (list_any test) (pairs_more f n) ∙ list_any-append test (pairs_of f n) (pair_of n (f n))

any_here : (test : ℕ × Aside → Bool) (n : ℕ) (o : Option Aside) (a : Aside) → o ≡ Some a → test (n, a) ≡ true →
    list_any test (pair_of n o) ≡ true
any_here test n None a is passed = absurd (none_some a is)
any_here test n (Some c) a is passed = ap (λ (x : Aside). test (n, x) || false) (same_some c a is) ∙ ap (λ b. b || false) passed

any_some : (test : ℕ × Aside → Bool) (f : ℕ → Option Aside) (n j : ℕ) (a : Aside) → j < n → f j ≡ Some a → test (j, a) ≡ true →
    list_any test (pairs_of f n) ≡ true
any_some test f zero j a low is passed = absurd (omega arith)
any_some test f (suc n) j a low is passed =
    any_more test f n
    ∙ dite (ℕ_discrete j n)
    (λ (last : j ≡ n).
    ap (λ b. list_any test (pairs_of f n) || b)
    (any_here test n (f n) a (ap f (sym last) ∙ is) (ap (λ (z : ℕ). test (z, a)) (sym last) ∙ passed))
    ∙ or_true (list_any test (pairs_of f n)))
    (λ (apart : j ≢ n).
    ap (λ b. b || list_any test (pair_of n (f n))) (any_some test f n j a (below apart) is passed))
  where
    below : j ≢ n → j < n
    below apart = omega arith

-- a pair that passes a test is of something that is lent
record IsAmong (test : ℕ × Aside → Bool) (f : ℕ → Option Aside) : Type 0 where
  seat : ℕ
  loan : Aside
  lent : f seat ≡ Some loan
  passes : test (seat, loan) ≡ true

found_here : (test : ℕ × Aside → Bool) (f : ℕ → Option Aside) (n : ℕ) (o : Option Aside) → f n ≡ o →
    list_any test (pair_of n o) ≡ true → IsAmong test f
found_here test f n None is passed = absurd (false≢true passed)
found_here test f n (Some a) is passed = record { seat = n; loan = a; lent = is; passes = sym (or_none (test (n, a))) ∙ passed }
  where
    or_none : (b : Bool) → (b || false) ≡ b
    or_none true = refl
    or_none false = refl

any_found : (test : ℕ × Aside → Bool) (f : ℕ → Option Aside) (n : ℕ) → list_any test (pairs_of f n) ≡ true → IsAmong test f
any_found test f zero passed = absurd (false≢true passed)
any_found test f (suc n) passed = go (list_any test (pairs_of f n)) refl (sym (any_more test f n) ∙ passed) (any_found test f n)
  where
    go : (b : Bool) → list_any test (pairs_of f n) ≡ b → (b || list_any test (pair_of n (f n))) ≡ true →
        (list_any test (pairs_of f n) ≡ true → IsAmong test f) → IsAmong test f
    go true is one earlier = earlier is
    go false is one earlier = found_here test f n (f n) refl one

-- ---- a hook that is away is lent to a seat

lent_below : (b : Contents) (k : ℕ) (a : Aside) → IsBoard b → loan b k ≡ Some a → k < admits b.events
lent_below b k a board is = go (ltb k (admits b.events)) refl
  where
    go : (c : Bool) → ltb k (admits b.events) ≡ c → k < admits b.events
    go true low = ltb-true k (admits b.events) low
    go false low = absurd (none_some a (sym (loan_above b k board.lawful (ltb-false k (admits b.events) low)) ∙ is))

abbrev cpu_in : Event → ℕ
cpu_in (Call seat cpu state inst dir how) = cpu
cpu_in _ = 0

state_lent : (b : Contents) (k : ℕ) (a : Aside) (l : IsLent b k a) → a.key.state ≡ l.state
state_lent b k a l = ap (λ (x : Aside). x.key.state) l.aside_is

-- what is lent for the entry of a hook that is away
record IsPaired (b : Contents) (state : ℕ) (o : IsOutFor b state) : Type 0 where
  loan_is : Aside
  lent : loan b o.seat ≡ Some loan_is
  low : o.seat < admits b.events
  state_is : loan_is.key.state ≡ state
  cpu_is : loan_is.cpu ≡ o.cpu

paired : (b : Contents) (s : ℕ) → IsBoard b → (o : IsOutFor b s) → IsPaired b s o
paired b s board o = go (loan b o.seat) refl
  where
    go : (x : Option Aside) → loan b o.seat ≡ x → IsPaired b s o
    go None none = absurd (not_mine b o.seat s o none refl)
    go (Some a) is =
        let l = lent_to b o.seat a is in
        let same =
        same_some (Call o.seat a.cpu l.state l.inst a.dir l.how) (Call o.seat o.cpu s o.inst o.dir o.how) (sym l.due ∙ o.due) in
        record {
          loan_is = a;
          lent = is;
          low = lent_below b o.seat a board is;
          state_is = state_lent b o.seat a l ∙ ap state_in same;
          cpu_is = ap cpu_in same;
        }

-- and the hook of what is lent is away
record IsOutBy (b : Contents) (a : Aside) : Type 0 where
  state : ℕ
  state_is : a.key.state ≡ state
  out : IsOutFor b state
  cpu_is : out.cpu ≡ a.cpu

out_by : (b : Contents) (k : ℕ) (a : Aside) → IsBoard b → loan b k ≡ Some a → IsOutBy b a
out_by b k a board is =
    let l = lent_to b k a is in
    record { state = l.state; state_is = state_lent b k a l; out = out_of b k a l board.lawful board.out; cpu_is = refl }

not_away : (b : Contents) (s : ℕ) → IsBoard b → is_home (step_at b.places s) ≡ true → is_away s (lent_pairs b) ≡ true → ⊥
not_away b s board home passed =
    let f = any_found (λ p. eqb p.1.key.state s) (loan b) (admits b.events) passed in
    let o = out_by b f.seat f.loan board f.lent in
    let same : o.state ≡ s = sym o.state_is ∙ eqb-true f.loan.key.state s f.passes in
    true≢false (sym home ∙ (ap (λ (z : ℕ). is_home (step_at b.places z)) (sym same) ∙ o.out.away))

pub away_pairs : (b : Contents) (s : ℕ) → IsBoard b → is_away s (lent_pairs b) ≡ not (is_home (step_at b.places s))
away_pairs b s board = go (is_home (step_at b.places s)) refl
  where
    none : (c : Bool) → is_away s (lent_pairs b) ≡ c → is_home (step_at b.places s) ≡ true → c ≡ false
    none true passed home = absurd (not_away b s board home passed)
    none false out home = refl

    go : (c : Bool) → is_home (step_at b.places s) ≡ c → is_away s (lent_pairs b) ≡ not c
    go true home = none (is_away s (lent_pairs b)) refl home
    go false away =
        let o = board.out.only s away in
        let p = paired b s board o in
        any_some (λ q. eqb q.1.key.state s) (loan b) (admits b.events) o.seat p.loan_is p.low p.lent
        (eq-eqb p.loan_is.key.state s p.state_is)

-- a hook is away
away_by : (b : Contents) (s : ℕ) → IsBoard b → is_home (step_at b.places s) ≡ false → is_away s (lent_pairs b) ≡ true
away_by b s board away = away_pairs b s board ∙ ap not away

by_away : (b : Contents) (s : ℕ) → IsBoard b → is_away s (lent_pairs b) ≡ true → is_home (step_at b.places s) ≡ false
by_away b s board is = go (is_home (step_at b.places s)) (sym (away_pairs b s board) ∙ is)
  where
    go : (c : Bool) → not c ≡ true → c ≡ false
    go true out = absurd (false≢true out)
    go false out = refl

-- ---- what a board lends, and what waits for it

pub lends_is : (b : Contents) (k : ℕ) → IsBoard b →
    lends_over b.head b.events (lent_pairs b) k ≡ can_lend (due_entry b.head b.events k) b.places
lends_is b k board = go (due_entry b.head b.events k)
  where
    twice : (c : Bool) → not (not c) ≡ c
    twice true = refl
    twice false = refl

    go : (o : Option Event) → can_lend_by o (lent_pairs b) ≡ can_lend o b.places
    go (Some (Call seat cpu state inst dir how)) =
        ap (λ c. is_called how && c) (ap not (away_pairs b state board) ∙ twice (is_home (step_at b.places state)))
    go (Some e) = refl
    go None = refl

thread_by : (b : Contents) (s k : ℕ) (op : Op) → IsBoard b → WaitsForThread b s k op → WaitsForThreadBy b.head b.events (lent_pairs b) s k op
thread_by b s k op board w = record { cpu = w.cpu; kept = w.kept; asks = w.asks; away = away_by b s board w.away }

by_thread : (b : Contents) (s k : ℕ) (op : Op) → IsBoard b → WaitsForThreadBy b.head b.events (lent_pairs b) s k op → WaitsForThread b s k op
by_thread b s k op board w = record { cpu = w.cpu; kept = w.kept; asks = w.asks; away = by_away b s board w.away }

abbrev arms_test : List Event → (state : ℕ) → Event → ℕ × Aside → Bool
arms_test events s e p = eqb p.1.key.state s && (is_some (walk p.1.cpu events) && arms p.1.cpu e)

arm_by : (b : Contents) (s k : ℕ) (op : Op) → IsBoard b → WaitsToArm b s k op → WaitsToArmBy b.head b.events (lent_pairs b) s k op
arm_by b s k op board w =
    let o = w.out in
    let p = paired b s board o in
    let state = eq-eqb p.loan_is.key.state s p.state_is in
    let arms_it : (is_some (walk p.loan_is.cpu b.events) && arms p.loan_is.cpu w.event) ≡ true =
    ap (λ (c : ℕ). is_some (walk c b.events) && arms c w.event) p.cpu_is ∙ w.arms in
    record {
      event = w.event;
      next_is = w.next_is;
      arms =
          any_some (arms_test b.events s w.event) (loan b) (admits b.events) o.seat p.loan_is p.low p.lent
          (ap (λ c. c && (is_some (walk p.loan_is.cpu b.events) && arms p.loan_is.cpu w.event)) state ∙ arms_it);
    }

by_arm : (b : Contents) (s k : ℕ) (op : Op) → IsBoard b → WaitsToArmBy b.head b.events (lent_pairs b) s k op → WaitsToArm b s k op
by_arm b s k op board w =
    let f = any_found (arms_test b.events s w.event) (loan b) (admits b.events) w.arms in
    let parts = and_parts (eqb f.loan.key.state s) (is_some (walk f.loan.cpu b.events) && arms f.loan.cpu w.event) f.passes in
    let o = out_by b f.seat f.loan board f.lent in
    let same : o.state ≡ s = sym o.state_is ∙ eqb-true f.loan.key.state s parts.0 in
    subst (λ (z : ℕ). WaitsToArm b z k op) same
    (record {
      event = w.event;
      next_is = w.next_is;
      out = o.out;
      arms = ap (λ (c : ℕ). is_some (walk c b.events) && arms c w.event) o.cpu_is ∙ parts.1;
    })

pub hook_out_by : (b : Contents) (s k : ℕ) (op : Op) → IsBoard b → IsHookOut s k op b → IsHookOutBy b.head b.events (lent_pairs b) s k op
hook_out_by b s k op board (inl w) = inl (thread_by b s k op board w)
hook_out_by b s k op board (inr w) = inr (arm_by b s k op board w)

pub by_hook_out : (b : Contents) (s k : ℕ) (op : Op) → IsBoard b → IsHookOutBy b.head b.events (lent_pairs b) s k op → IsHookOut s k op b
by_hook_out b s k op board (inl w) = inl (by_thread b s k op board w)
by_hook_out b s k op board (inr w) = inr (by_arm b s k op board w)

pub not_yet_by : (b : Contents) (k : ℕ) (op : Op) (why : Why) → IsBoard b → IsNotYet k op b why →
    IsNotYetBy b.head b.events (lent_pairs b) k op why
not_yet_by b k op (HookOut s) board h = hook_out_by b s k op board h
not_yet_by b k op (ApTurn cpu) board h = (h.0, λ s w. h.1 s (by_thread b s k op board w))
not_yet_by b k op why board h = h

pub by_not_yet : (b : Contents) (k : ℕ) (op : Op) (why : Why) → IsBoard b → IsNotYetBy b.head b.events (lent_pairs b) k op why →
    IsNotYet k op b why
by_not_yet b k op (HookOut s) board h = by_hook_out b s k op board h
by_not_yet b k op (ApTurn cpu) board h = (h.0, λ s w. h.1 s (thread_by b s k op board w))
by_not_yet b k op why board h = h

pub calls_by : (b : Contents) (s k : ℕ) → IsBoard b → CallsAway b s (due_entry b.head b.events k) →
    CallsLent b.head b.events (lent_pairs b) s k
calls_by b s k board c = record { event = c.event; due = c.next_is; calls = c.calls; away = away_by b s board c.away }

pub by_calls : (b : Contents) (s k : ℕ) → IsBoard b → CallsLent b.head b.events (lent_pairs b) s k →
    CallsAway b s (due_entry b.head b.events k)
by_calls b s k board c = record { event = c.event; next_is = c.due; calls = c.calls; away = by_away b s board c.away }

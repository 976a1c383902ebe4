-- The turns of a schedule, as what is left of them is made.
use Rattle.std.proofs.Common.{◌≡◌, Result, OnOk, ℕ, zero, suc, ◌+◌, ◌-◌, ◌<◌, ◌≤◌, List, [], ◌∷◌, ◌++◌, length, length-append, drop, get_or, add-one, refl, ap, sym, subst, ◌∙◌, arith}
use Rattle.std.proofs.Math.Seq.{drop-cons}
use Rattle.hp_event.specs.declared.op.Op.{Op}
use Rattle.hp_event.specs.declared.head.Head.{Head}
use Rattle.hp_event.specs.declared.event.Event.{Event}
use Rattle.hp_model.specs.Draws.{draws, draw_of, state_after}
use Rattle.hp_model.specs.Heads.{IsHead}
use Rattle.hp_model.specs.Processors.{present}
use Rattle.hp_model.specs.ScriptRun.{start, IsRun}
use Rattle.hp_model.specs.ScriptTurns.{RunState, turn, after_turns}
use Rattle.hp_actors.specs.Positions.{Position}
use Rattle.hp_actors.proofs.Admissions.{present_below, present_split}
use Rattle.hp_actors.proofs.Progressing.{turns_none}

turns_cons : (head : Head) (actors : List (List Op)) (at : RunState) (k : ℕ) (seats : List ℕ) →
    after_turns head actors at (k ∷ seats) ≡ after_turns head actors (turn head actors at k) seats
unfolding after_turns
turns_cons head actors at k seats = refl

-- one turn is made of those that are left
pub turn_left : (old now after : Position) (k : ℕ) (rest : List ℕ) (whole : RunState) → now.head ≡ old.head → now.actors ≡ old.actors →
    after_turns old.head old.actors now.progress (k ∷ rest) ≡ whole →
    after.progress ≡ turn now.head now.actors now.progress k →
    after_turns old.head old.actors after.progress rest ≡ whole
turn_left old now after k rest whole head actors left is =
    ap (λ q. after_turns old.head old.actors q rest)
    (is ∙ (ap (λ h. turn h now.actors now.progress k) head ∙ ap (λ a. turn old.head a now.progress k) actors))
    ∙ (sym (turns_cons old.head old.actors now.progress k rest) ∙ left)

pub seats_left : (seats : List ℕ) (i k : ℕ) → i < length seats → k ≡ get_or seats i 0 → drop i seats ≡ k ∷ drop (i + 1) seats
seats_left seats i k below is = rw (add-one, drop-cons seats i 0) (ap (λ z. z ∷ drop (suc i) seats) (sym is))

pub none_left : (seats : List ℕ) (i : ℕ) → length seats ≤ i → drop i seats ≡ []
none_left [] zero past = refl
none_left [] (suc i) past = refl
none_left (s ∷ ss) zero past = absurd (omega (arith, past))
none_left (s ∷ ss) (suc i) past = none_left ss i (omega (arith, past))

pub draws_left : (m x n a : ℕ) → a < n → draws m x (n - a) ≡ draw_of m (state_after x) ∷ draws m (state_after x) (n - (a + 1))
draws_left m x n a below = let e : n - a ≡ suc (n - (a + 1)) = omega (arith, below) in ap (draws m x) e

pub no_draws : (m x n a : ℕ) → n ≤ a → draws m x (n - a) ≡ []
no_draws m x n a past = let e : n - a ≡ 0 = omega (arith, past) in ap (draws m x) e

pub all_made : (head : Head) (actors : List (List Op)) (at whole : RunState) (left : List ℕ) → left ≡ [] →
    after_turns head actors at left ≡ whole → at ≡ whole
all_made head actors at whole left none is =
    sym (ap (after_turns head actors at) none ∙ turns_none head actors at) ∙ is

-- a machine has a processor that is there
pub some_present : (head : Head) → IsHead head → 0 < length (present head)
some_present head h =
    let r = present_split head 0 h.some_possible h.first_present in
    let n : length (present head) ≡ length (present_below head 0 ++ 0 ∷ r.0) = ap length r.1 in
    let l = length-append (present_below head 0) (0 ∷ r.0) in
    omega (arith, n, l)

-- rounds after a schedule's turns from the start make the run
pub schedule_ran : {E F : Type 0} (r : Result E F) (old mid : Position) (seats : List ℕ) (events : List Event) →
    mid.head ≡ old.head → mid.actors ≡ old.actors → mid.progress ≡ after_turns old.head old.actors old.progress seats →
    old.progress ≡ start old.head old.actors →
    ((s : List ℕ) → mid.progress ≡ after_turns mid.head mid.actors (start mid.head mid.actors) s → OnOk r (IsRun mid.head mid.actors s events)) →
    OnOk r (IsRun old.head old.actors seats events)
schedule_ran r old mid seats events head actors is first ran =
    subst (λ (h : Head).
    ((s : List ℕ) → mid.progress ≡ after_turns h old.actors (start h old.actors) s → OnOk r (IsRun h old.actors s events)) →
    OnOk r (IsRun old.head old.actors seats events)) (sym head)
    (λ f. f seats (is ∙ ap (λ q. after_turns old.head old.actors q seats) first))
    (subst (λ (a : List (List Op)).
    (s : List ℕ) → mid.progress ≡ after_turns mid.head a (start mid.head a) s → OnOk r (IsRun mid.head a s events)) actors ran)

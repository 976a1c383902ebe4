-- Whose turn it is in a run under SMT control; and that a seat whose turn gets further beside the client as an actor more gets further.
use Rattle.std.proofs.Common.{◌≡◌, ℕ, ◌+◌, ◌-◌, ◌<◌, Bool, true, false, cond, eqb, ltb, Option, Some, None, List, [], ◌∷◌, ◌++◌, length, refl, ap, sym, ◌∙◌, subst, inl, inr, ◌⊎◌, arith}
use Rattle.std.specs.Prelude.{slice_get, option_to_list}
use Rattle.std.proofs.lemmas.Bool.{eqb-true, eqb-false, eq-eqb, ltb-false, lt-ltb}
use Rattle.std.proofs.lemmas.List.Sums.{sum_by-append, sum_by-cons}
use Rattle.hp_states.proofs.Basics.{not_below, less_or}
use Rattle.hp_event.specs.declared.op.Op.{Op}
use Rattle.hp_event.specs.declared.head.Head.{Head}
use Rattle.hp_event.specs.declared.event.Event.{Event}
use Rattle.hp_model.specs.Distance.{distance}
use Rattle.hp_model.specs.NextEvent.{due_entry, next_event, is_full}
use Rattle.hp_model.specs.Processors.{present}
use Rattle.hp_model.specs.ScriptRun.{is_over as all_answered}
use Rattle.hp_model.specs.ScriptTurns.{RunState, unanswered, counted, after_entry, after_event, turn}
use Rattle.hp_model.specs.ScriptTurns as plain
use Rattle.hp_model.specs.Scripts.{IsScript}
use Rattle.hp_model.specs.TurnMakes.{CanTake, LacksRoom, task, Stays}
use Rattle.hp_model.proofs.Going.{Going, IsGoing}
use Rattle.hp_model.proofs.MovesOn.{Moves, moves}
use Rattle.hp_model.proofs.RoundsEnd.{goes_on}
use Rattle.hp_model.proofs.TurnsMake.{turn_makes}
use Rattle.hp_smt.specs.Run.{SmtState, with_run, without, after_asking, after_writing, writes, smt_turn}
use Rattle.hp_smt.specs.Turns.{is_denied_by}
use Rattle.hp_smt.specs.declared.mode.Control.{Control}
use Rattle.hp_smt_run.proofs.Beside.{beside, with_none, long_beside, un_last, asking_beside}
use Rattle.hp_smt_run.proofs.Further.{reach}

-- a seat whose turn gets further
pub record GetsFurther (head : Head) (n : ℕ) (ops : List (List Op)) (want : Control) (at : SmtState) : Type 0 where
  pub seat : ℕ
  pub is_seat : seat < length (present head) + length ops + 1
  pub up : reach at < reach (smt_turn head n ops want at seat)

-- ---- whose turn it is

pub thread_is : (head : Head) (n : ℕ) (ops : List (List Op)) (want : Control) (at : SmtState) (k : ℕ) → k < length (present head) →
    smt_turn head n ops want at k ≡ with_run at (after_entry (due_entry head at.run.events k) at.run)
thread_is head n ops want at k below = rw (lt-ltb k (length (present head)) below) refl

pub actor_is : (head : Head) (n : ℕ) (ops : List (List Op)) (want : Control) (at : SmtState) (k i : ℕ) → k ≡ length (present head) + i →
    i < length ops → smt_turn head n ops want at k ≡ after_asking head n k i (unanswered ops at.run.answers i) at
actor_is head n ops want at k i is below =
    let P : ℕ = length (present head) in
    let past : ltb k P ≡ false = not_below k P (omega (arith, is)) in
    let within : ltb k (P + length ops) ≡ true = lt-ltb k (P + length ops) (omega (arith, is, below)) in
    let place : k - P ≡ i = omega (arith, is) in
    rw (past, within, place) refl

pub writer_is : (head : Head) (n : ℕ) (ops : List (List Op)) (want : Control) (at : SmtState) (k : ℕ) →
    k ≡ length (present head) + length ops →
    smt_turn head n ops want at k ≡ after_writing head n k (slice_get (writes want) (length at.written)) at
writer_is head n ops want at k is =
    let P : ℕ = length (present head) in
    let past : ltb k P ≡ false = not_below k P (omega (arith, is)) in
    let beyond : ltb k (P + length ops) ≡ false = not_below k (P + length ops) (omega (arith, is)) in
    rw (past, beyond, eq-eqb k (P + length ops) is) refl

-- ---- beside the client

none_far : (at : RunState) → distance (with_none at) ≡ distance at
none_far at =
    let s = sum_by-append (λ x. x) at.answers (0 ∷ []) in let z = sum_by-cons (λ x. x) 0 [] in omega (arith, s, z)

turn_beside : (head : Head) (ops : List (List Op)) (own : Option Op) (k : ℕ) (at : RunState) → length at.answers ≡ length ops →
    k < length (present head) + length ops → turn head (beside ops own) (with_none at) k ≡ with_none (turn head ops at k)
turn_beside head ops own k at long below = go (ltb k P) refl
  where
    P : ℕ
    P = length (present head)

    entry : (o : Option Event) → after_entry o (with_none at) ≡ with_none (after_entry o at)
    entry None = refl
    entry (Some e) = refl

    go : (b : Bool) → ltb k P ≡ b →
        cond b (after_entry (due_entry head at.events k) (with_none at))
        (plain.after_asking head k (k - P) (unanswered (beside ops own) (with_none at).answers (k - P)) (with_none at))
        ≡ with_none
        (cond b (after_entry (due_entry head at.events k) at) (plain.after_asking head k (k - P) (unanswered ops at.answers (k - P)) at))
    go true e = entry (due_entry head at.events k)
    go false e = let l = ltb-false k P e in asking_beside head ops own k (k - P) at long (omega (arith, l, below))

abbrev pub NoneDenied : Head → (threads : ℕ) → (ops : List (List Op)) → SmtState → (below : ℕ) → Type 0
NoneDenied head n ops at m =
    (i : ℕ) (op : Op) → i < m → unanswered ops at.run.answers i ≡ Some op →
    is_denied_by at.run.events n at.setting.mode (length (present head) + i) op ≡ false

-- where nothing is denied a turn is that of a run without SMT control
turn_is : (head : Head) (n : ℕ) (ops : List (List Op)) (want : Control) (k : ℕ) (at : SmtState) → NoneDenied head n ops at (length ops) →
    k < length (present head) + length ops → smt_turn head n ops want at k ≡ with_run at (turn head ops at.run k)
turn_is head n ops want k at none below = go (ltb k P) refl
  where
    P : ℕ
    P = length (present head)

    go : (b : Bool) → ltb k P ≡ b → smt_turn head n ops want at k ≡ with_run at (turn head ops at.run k)
    go true e = rw e refl
    go false e =
        let l = ltb-false k P e in
        let i : k ≡ P + (k - P) = omega (arith, l) in
        actor_is head n ops want at k (k - P) i (omega (arith, l, below)) ∙ (asked i (unanswered ops at.run.answers (k - P)) refl ∙ rw e refl)
      where
        asked : k ≡ P + (k - P) → (o : Option Op) → unanswered ops at.run.answers (k - P) ≡ o →
            after_asking head n k (k - P) o at ≡ with_run at (plain.after_asking head k (k - P) o at.run)
        asked i None u = refl
        asked i (Some op) u =
            ap (λ b.
            cond b (without k (k - P) at)
            (with_run at (after_event (k - P) (next_event head at.run.events k op) (is_full head at.run.events k op) at.run)))
            (ap (λ z. is_denied_by at.run.events n at.setting.mode z op) i ∙ none (k - P) op (omega (arith, i, below)) u)

others_up : (head : Head) (n : ℕ) (ops : List (List Op)) (want : Control) (own : Option Op) (k : ℕ) (at : SmtState) →
    length at.run.answers ≡ length ops → NoneDenied head n ops at (length ops) → k < length (present head) + length ops →
    distance (with_none at.run) < distance (turn head (beside ops own) (with_none at.run) k) →
    reach at < reach (smt_turn head n ops want at k)
others_up head n ops want own k at long none below up =
    let a = none_far at.run in
    let b : distance (turn head (beside ops own) (with_none at.run) k) ≡ distance (turn head ops at.run k) =
    ap distance (turn_beside head ops own k at.run long below) ∙ none_far (turn head ops at.run k) in
    subst (λ z. reach at < reach z) (sym (turn_is head n ops want k at none below)) (omega (arith, a, b, up))

-- a seat that can move, moves
moved : (head : Head) (actors : List (List Op)) (at : RunState) → IsScript head actors → IsGoing head actors at →
    (m : Moves head actors at) → distance at < distance (turn head actors at m.seat)
moved head actors at s g m =
    go (goes_on head actors at (turn head actors at m.seat) m.seat g (turn_makes head actors at m.seat s g)) m.does
  where
    go : (distance at < distance (turn head actors at m.seat)) ⊎ Stays head actors at m.seat (turn head actors at m.seat) →
        ((e : Event) × CanTake head actors at m.seat e) ⊎ LacksRoom head at m.seat (task head actors at m.seat) →
        distance at < distance (turn head actors at m.seat)
    go (inl h) d = h
    go (inr h) (inl c) = absurd (h.0 c.0 c.1)
    go (inr h) (inr l) = absurd (h.1 l)

-- some seat gets further, where the client's does as soon as its turn beside the actors does
pub further_by : (head : Head) (n : ℕ) (ops : List (List Op)) (want : Control) (own : Option Op) (at : SmtState) →
    length at.run.answers ≡ length ops → NoneDenied head n ops at (length ops) → IsScript head (beside ops own) →
    Going head (beside ops own) at.run.events (at.run.answers ++ 0 ∷ []) → all_answered (beside ops own) (with_none at.run) ≡ false →
    ((k : ℕ) → k ≡ length (present head) + length ops →
    distance (with_none at.run) < distance (turn head (beside ops own) (with_none at.run) k) →
    GetsFurther head n ops want at) →
    GetsFurther head n ops want at
further_by head n ops want own at long none script g over client = go (eqb m.seat (P + length ops)) refl
  where
    P : ℕ
    P = length (present head)

    m : Moves head (beside ops own) (with_none at.run)
    m = moves head (beside ops own) (with_none at.run) script g over

    up : distance (with_none at.run) < distance (turn head (beside ops own) (with_none at.run) m.seat)
    up = moved head (beside ops own) (with_none at.run) script g m

    go : (b : Bool) → eqb m.seat (P + length ops) ≡ b → GetsFurther head n ops want at
    go true e = client m.seat (eqb-true m.seat (P + length ops) e) up
    go false e =
        let l = long_beside ops (option_to_list own) in
        let s = m.is_seat in
        let below = less_or m.seat (P + length ops) (omega (arith, l, s)) (eqb-false m.seat (P + length ops) e) in
        record {
          seat = m.seat;
          is_seat = omega (arith, below);
          up = others_up head n ops want own m.seat at long none below up;
        }

-- the client's turn beside the actors
pub client_turn : (head : Head) (ops : List (List Op)) (own : Option Op) (k : ℕ) (at : RunState) → length at.answers ≡ length ops →
    k ≡ length (present head) + length ops →
    turn head (beside ops own) (with_none at) k
    ≡ plain.after_asking head k (length ops) (slice_get (option_to_list own) 0) (with_none at)
client_turn head ops own k at long is =
    let P : ℕ = length (present head) in
    let past : ltb k P ≡ false = not_below k P (omega (arith, is)) in
    let place : k - P ≡ length ops = omega (arith, is) in
    rw (past, place) (ap (λ o. plain.after_asking head k (length ops) o (with_none at)) (un_last ops (option_to_list own) at.answers 0 long))

pub idle_client : (head : Head) (n : ℕ) (ops : List (List Op)) (want : Control) (at : SmtState) → length at.run.answers ≡ length ops →
    (k : ℕ) → k ≡ length (present head) + length ops →
    distance (with_none at.run) < distance (turn head (beside ops None) (with_none at.run) k) → GetsFurther head n ops want at
idle_client head n ops want at long k is up =
    let same = ap distance (client_turn head ops None k at.run long is) in absurd (omega (arith, same, up))

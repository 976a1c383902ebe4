-- Where every operation is answered nothing is in flight, and no turn does anything.
use Rattle.std.proofs.Common.{◌≡◌, ℕ, zero, suc, ◌+◌, ◌<◌, Bool, true, false, is_none, eqb, Option, Some, None, List, length, refl, subst, inl, inr, arith}
use Rattle.std.proofs.lemmas.Bool.{false≢true, eqb-true, and_parts}
use Rattle.std.proofs.lemmas.Bool.Decides.{nat_tests}
use Rattle.hp_states.proofs.Basics.{none_some}
use Rattle.hp_event.specs.declared.op.Op.{Op}
use Rattle.hp_event.specs.declared.event.Role.TheVariants.{Client}
use Rattle.hp_event.specs.declared.head.Head.{Head}
use Rattle.hp_event.specs.declared.event.Event.{Event}
use Rattle.hp_model.specs.Events.{is_call}
use Rattle.hp_model.specs.Processors.{present}
use Rattle.hp_model.specs.Seats.{role_of}
use Rattle.hp_model.specs.Lawful.{Stands}
use Rattle.hp_model.specs.Pending.{Pending, IsInFlight}
use Rattle.hp_model.specs.Tasks.{Task, entries, operation, nothing, IsFor}
use Rattle.hp_model.specs.Scripts.{IsScript}
use Rattle.hp_model.specs.ScriptTurns.{RunState, unanswered, turn, after_turns}
use Rattle.hp_model.specs.ScriptRun.{start, answered_below, is_over}
use Rattle.hp_model.specs.TurnMakes.{task, LacksRoom, TurnMakes}
use Rattle.hp_model.proofs.OneNext.{owners}
use Rattle.hp_model.proofs.DueGives.{UnderWay, of_walk, of_registration, under_comes, entry_under}
use Rattle.hp_model.proofs.AnswerCounts.{nth_of}
use Rattle.hp_model.proofs.Going.{IsGoing, turns_going, start_going}
use Rattle.hp_model.proofs.RoundsEnd.{asked_by}
use Rattle.hp_model.proofs.TurnsMake.{turn_makes}

none_unanswered : (actors : List (List Op)) (ns : List ℕ) (n i : ℕ) (op : Op) → answered_below actors ns n ≡ true → i < n →
    unanswered actors ns i ≡ Some op → ⊥
none_unanswered actors ns zero i op h l u = absurd (omega (arith, l))
none_unanswered actors ns (suc n) i op h l u =
    let p = and_parts (answered_below actors ns n) (is_none (unanswered actors ns n)) h in
    go (eqb i n) refl p.1 (λ m. none_unanswered actors ns n i op p.0 m u)
  where
    some_not : (o : Option Op) → o ≡ Some op → is_none o ≡ true → ⊥
    some_not None e q = none_some op e
    some_not (Some x) e q = false≢true q

    go : (b : Bool) → eqb i n ≡ b → is_none (unanswered actors ns n) ≡ true → (i < n → ⊥) → ⊥
    go true e q r = some_not (unanswered actors ns n) (subst (λ z. unanswered actors ns z ≡ Some op) (eqb-true i n e) u) q
    go false e q r = r (grind (arith, nat_tests))

all_answered : (actors : List (List Op)) (at : RunState) (i : ℕ) (op : Op) → is_over actors at ≡ true →
    unanswered actors at.answers i ≡ Some op → ⊥
all_answered actors at i op h u =
    let n = nth_of actors at.answers i op u in none_unanswered actors at.answers (length actors) i op h n.within u

-- nothing is in flight
none_in_flight : (head : Head) (actors : List (List Op)) (at : RunState) (p : Pending) → IsGoing head actors at →
    is_over actors at ≡ true → IsInFlight at.events p → ⊥
none_in_flight head actors at p g h f =
    let o = owners head at.events g.lawful in
    go (g.roster.only p.seat (client f))
  where
    client : IsInFlight at.events p → role_of p.seat at.events ≡ Some Client
    client (inl q) =
        let o = owners head at.events g.lawful in subst (λ z. role_of z at.events ≡ Some Client) q.2 (o.op_client q.0 q.1)
    client (inr q) =
        let o = owners head at.events g.lawful in subst (λ z. role_of z at.events ≡ Some Client) q.2 (o.reg_client q.0 q.1)

    go : (i : ℕ) × (i < length actors) × (p.seat ≡ length (present head) + i) → ⊥
    go a =
        all_answered actors at a.0 p.op h
        (g.asked a.0 p.op (subst (λ z. IsInFlight at.events (record { seat = z; op = p.op })) a.2 f))

none_due : (head : Head) (actors : List (List Op)) (at : RunState) (e : Event) → IsGoing head actors at → is_over actors at ≡ true →
    Stands head at.events e → is_call e ≡ true → ⊥
none_due head actors at e g h s c = go (under_comes head at.events e (entry_under head at.events e s c))
  where
    go : UnderWay head at.events e → ⊥
    go (of_walk cpu w f given) =
        let o = owners head at.events g.lawful in
        let q = o.walk_op cpu w f in
        none_in_flight head actors at (record { seat = q.0.seat; op = q.0.op }) g h (inl (q.0, q.1, refl, refl))
    go (of_registration r f given) =
        none_in_flight head actors at (record { seat = r.seat; op = r.op }) g h (inr (r, f, refl, refl))

pub over_stays : (head : Head) (actors : List (List Op)) (at : RunState) (k : ℕ) → IsScript head actors → IsGoing head actors at →
    is_over actors at ≡ true → turn head actors at k ≡ at
over_stays head actors at k s g h = go (turn_makes head actors at k s g)
  where
    no_event : (e : Event) → Stands head at.events e → (t : Task) → task head actors at k ≡ t → IsFor t e → ⊥
    no_event e st entries f c = none_due head actors at e g h st c
    no_event e st (operation op) f c = all_answered actors at _ op h (asked_by head actors at k op f)
    no_event e st nothing f c = elim c [ ]

    no_answer : (t : Task) → task head actors at k ≡ t → LacksRoom head at k t → ⊥
    no_answer entries f l = elim l [ ]
    no_answer (operation op) f l = all_answered actors at _ op h (asked_by head actors at k op f)
    no_answer nothing f l = elim l [ ]

    go : TurnMakes head actors at k (turn head actors at k) → turn head actors at k ≡ at
    go (inl m) = absurd (no_event m.0 m.1.stands (task head actors at k) refl m.1.is_for)
    go (inr (inl m)) = absurd (no_answer (task head actors at k) refl m.0)
    go (inr (inr m)) = m.2

pub turns_stay : (head : Head) (actors : List (List Op)) (seats : List ℕ) (k : ℕ) → IsScript head actors →
    is_over actors (after_turns head actors (start head actors) seats) ≡ true →
    turn head actors (after_turns head actors (start head actors) seats) k ≡ after_turns head actors (start head actors) seats
turns_stay head actors seats k s h =
    over_stays head actors (after_turns head actors (start head actors) seats) k s
    (turns_going head actors seats (start head actors) s (start_going head actors s)) h

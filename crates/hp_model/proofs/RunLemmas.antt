-- The admissions of a script are a lawful journal, where its head is one that a machine can be started with and its seats aren't too many.
use Rattle.std.proofs.Common.{◌≡◌, ℕ, ◌+◌, ◌<◌, ◌≤◌, Bool, true, false, cond, eqb, ltb, Some, None, List, [], ◌∷◌, ◌++◌, ◌*◌, length, refl, sym, ◌∙◌, append_assoc, arith, length-append}
use Rattle.std.proofs.lemmas.List.{append-nil}
use Rattle.std.proofs.lemmas.Bool.{le-leb}
use Rattle.hp_states.specs.declared.limits.TheConstants.{MAX_SEATS, MAX_EVENTS}
use Rattle.hp_event.specs.declared.op.Op.{Op}
use Rattle.hp_event.specs.declared.event.Role.{Role}
use Rattle.hp_event.specs.declared.event.Role.TheVariants.{Client, Ap}
use Rattle.hp_event.specs.declared.head.Head.{Head}
use Rattle.hp_event.specs.declared.event.Event.{Event}
use Rattle.hp_event.specs.declared.event.Event.TheVariants.{Admit}
use Rattle.hp_model.specs.Journal.{EachAfter}
use Rattle.hp_model.specs.Lists.{occurs, numbers}
use Rattle.hp_model.specs.Processors.{is_present, present}
use Rattle.hp_model.specs.Seats.{admits, ap_seat}
use Rattle.hp_model.specs.Heads.{IsHead}
use Rattle.hp_model.specs.Promised.{promised}
use Rattle.hp_model.specs.Room.{has_room}
use Rattle.hp_model.specs.Lawful.{Stands, IsLawful}
use Rattle.hp_model.specs.Admissions.{ap_admits, client_admits, admissions}
use Rattle.hp_model.proofs.Laws.{admits_push, ap_push}
use Rattle.hp_model.proofs.Promises.{admit_at_most, promised_none}
use Rattle.hp_model.proofs.ListLemmas.{occurs-filter, occurs-numbers, once_in}

EachAfter-append : (Rule : List Event → Event → Type 0) (before xs ys : List Event) → EachAfter Rule before xs →
    EachAfter Rule (before ++ xs) ys → EachAfter Rule before (xs ++ ys)
EachAfter-append Rule before [] ys h k = rw append-nil at k
EachAfter-append Rule before (x ∷ xs) ys h k =
    (h.0, EachAfter-append Rule (before ++ x ∷ []) xs ys h.1 (rw (append_assoc before (x ∷ []) xs) k))

-- present processors, each once, without a seat
record CanBeAdmitted (head : Head) (before : List Event) (cpus : List ℕ) : Type 0 where
  there : (c : ℕ) → 0 < occurs c cpus → is_present head c ≡ true
  free : (c : ℕ) → 0 < occurs c cpus → ap_seat c before ≡ None
  once : (c : ℕ) → occurs c cpus ≤ 1

admitted_one : (head : Head) (before : List Event) (k c : ℕ) (cs : List ℕ) → CanBeAdmitted head before (c ∷ cs) →
    CanBeAdmitted head (before ++ Admit k (Ap c) ∷ []) cs
admitted_one head before k c cs h = record {
  there = λ d i. h.there d (omega (arith, i));
  free = λ d i. rw (ap_push d before (Admit k (Ap c))) (go d i (eqb c d) refl);
  once = λ d. let o = h.once d in omega arith;
}
  where
    go : (d : ℕ) → 0 < occurs d cs → (b : Bool) → eqb c d ≡ b → cond b (Some k) (ap_seat d before) ≡ None
    go d i true e = let o = rw e at (h.once d) in absurd (omega arith)
    go d i false e = h.free d (omega (arith, i))

-- a seat that comes in leaves at most two more to a journal: its admission and its leave
room_one : (head : Head) (before : List Event) (k : ℕ) (role : Role) → k < MAX_SEATS →
    length before + promised head before ≤ 2 * k →
    (has_room head before (Admit k role) ≡ true)
    × (length (before ++ Admit k role ∷ []) + promised head (before ++ Admit k role ∷ []) ≤ 2 * (k + 1))
room_one head before k role below few =
    let u = admit_at_most head before k role in
    let l = length-append before (Admit k role ∷ []) in
    (le-leb (length before + promised head before + 2) MAX_EVENTS (omega arith), omega arith)

aps_stand : (head : Head) (before : List Event) (k : ℕ) (cs : List ℕ) → admits before ≡ k → k + length cs ≤ MAX_SEATS →
    length before + promised head before ≤ 2 * k → CanBeAdmitted head before cs →
    EachAfter (Stands head) before (ap_admits k cs) × (admits (before ++ ap_admits k cs) ≡ k + length cs)
    × (length (before ++ ap_admits k cs) + promised head (before ++ ap_admits k cs) ≤ 2 * (k + length cs))
aps_stand head before k [] e few room h = (tt, rw append-nil (omega (arith, e)), rw append-nil (omega (arith, room)))
aps_stand head before k (c ∷ cs) e few room h =
    let next : admits (before ++ Admit k (Ap c) ∷ []) ≡ k + 1 = admits_push before (Admit k (Ap c)) ∙ omega (arith, e) in
    let one = room_one head before k (Ap c) (omega arith) room in
    let r = aps_stand head (before ++ Admit k (Ap c) ∷ []) (k + 1) cs next (omega arith) one.1 (admitted_one head before k c cs h) in
    let n = rw (append_assoc before (Admit k (Ap c) ∷ []) (ap_admits (k + 1) cs)) at r.1 in
    let m = rw (append_assoc before (Admit k (Ap c) ∷ []) (ap_admits (k + 1) cs)) at r.2 in (
      (
        (
          record {
            seat_is = sym e;
            below = omega arith;
            can_sit = (h.there c (once_in c cs), h.free c (once_in c cs));
          },
          one.0,
        ),
        r.0,
      ),
      n ∙ omega arith,
      omega (arith, m),
    )

clients_stand : (head : Head) (before : List Event) (k : ℕ) (actors : List (List Op)) → admits before ≡ k →
    k + length actors ≤ MAX_SEATS → length before + promised head before ≤ 2 * k →
    EachAfter (Stands head) before (client_admits k actors)
clients_stand head before k [] e few room = tt
clients_stand head before k (ops ∷ more) e few room =
    let next : admits (before ++ Admit k Client ∷ []) ≡ k + 1 = admits_push before (Admit k Client) ∙ omega (arith, e) in
    let one = room_one head before k Client (omega arith) room in (
      (record { seat_is = sym e; below = omega arith; can_sit = tt }, one.0),
      clients_stand head (before ++ Admit k Client ∷ []) (k + 1) more next (omega arith) one.1,
    )

none_admitted : admits [] ≡ 0
unfolding admits
none_admitted = refl

no_seat : (c : ℕ) → ap_seat c [] ≡ None
unfolding ap_seat
no_seat c = refl

present_once : (head : Head) → CanBeAdmitted head [] (present head)
present_once head = record {
  there = λ c i. there c (is_present head c) (rw (occurs-filter (λ c. is_present head c) c (numbers head.possible)) at i);
  free = λ c i. no_seat c;
  once = λ c.
      rw (occurs-filter (λ c. is_present head c) c (numbers head.possible), occurs-numbers c head.possible)
      (at_most (is_present head c) (ltb c head.possible));
}
  where
    there : (c : ℕ) (b : Bool) → 0 < cond b (occurs c (numbers head.possible)) 0 → b ≡ true
    there c true h = refl
    there c false h = absurd (omega arith)

    at_most : (b d : Bool) → cond b (cond d 1 0) 0 ≤ 1
    at_most true true = omega arith
    at_most true false = omega arith
    at_most false d = omega arith

pub admissions_lawful : (head : Head) (actors : List (List Op)) → IsHead head →
    length (present head) + length actors ≤ MAX_SEATS → IsLawful head (admissions head actors)
admissions_lawful head actors h few =
    let none = promised_none head in
    let a = aps_stand head [] 0 (present head) none_admitted (omega (arith, few)) (omega arith) (present_once head) in
    let n : admits (ap_admits 0 (present head)) ≡ length (present head) = a.1 ∙ omega arith in (
      h,
      EachAfter-append (Stands head) [] (ap_admits 0 (present head)) (client_admits (length (present head)) actors) a.0
          (clients_stand head (ap_admits 0 (present head)) (length (present head)) actors n few (omega (arith, a.2))),
    )

-- A client beside the actors of a script: as an actor more, whose only operation is the one that the client has in flight.
use Rattle.std.proofs.Common.{◌≡◌, ℕ, zero, suc, ◌+◌, ◌<◌, ◌≤◌, Bool, true, false, eqb, ltb, Option, Some, None, List, [], ◌∷◌, ◌++◌, length, length-append, get_or, take, set, replicate, refl, ap, sym, ◌∙◌, subst, arith}
use Rattle.std.specs.Prelude.{All, slice_get, option_to_list}
use Rattle.std.proofs.lemmas.Bool.{true≢false, eqb-true, ltb-true, ltb-false}
use Rattle.std.proofs.lemmas.Bool.Decides.{nat_tests}
use Rattle.std.proofs.lemmas.List.{get_or_append_left, set-append_left, replicate-append-replicate}
use Rattle.std.proofs.lemmas.List.Elements.{All-append}
use Rattle.std.proofs.Math.Seq.{get_or-append_seam, set-append_seam}
use Rattle.std.proofs.lemmas.Option.{slice_get_past}
use Rattle.hp_states.proofs.Basics.{none_some, not_equal}
use Rattle.hp_states.specs.declared.limits.TheConstants.{MAX_SEATS}
use Rattle.hp_event.specs.declared.op.Op.{Op}
use Rattle.hp_event.specs.declared.head.Head.{Head}
use Rattle.hp_event.specs.declared.event.Event.{Event}
use Rattle.hp_model.specs.Admissions.{admissions}
use Rattle.hp_model.specs.Events.{is_answer}
use Rattle.hp_model.specs.Processors.{present}
use Rattle.hp_model.specs.Subsystems.{names_sub}
use Rattle.hp_model.specs.Readers.{is_reading}
use Rattle.hp_model.specs.Pending.{IsInFlight}
use Rattle.hp_model.specs.NextEvent.{next_event, is_full}
use Rattle.hp_model.specs.Scripts.{IsScript, lock_step, is_locked}
use Rattle.hp_model.specs.ScriptTurns.{RunState, unanswered, counted, after_event, after_asking}
use Rattle.hp_model.specs.Seats.{IsFree}
use Rattle.hp_model.specs.Tasks.{first_unanswered}
use Rattle.hp_model.proofs.AnswerCounts.{IsNth, nth_of, counted_long, unanswered_other, done_ops, done_other, done_more, is_locked_push, within_more}
use Rattle.hp_model.proofs.FlightSteps.{free_not}
use Rattle.hp_model.proofs.Going.{Going, start_going}
use Rattle.hp_model.proofs.Roster.{Roster}

abbrev pub beside : List (List Op) → (own : Option Op) → List (List Op)
beside ops own = ops ++ option_to_list own ∷ []

abbrev pub with_none : RunState → RunState
with_none at = record { events = at.events; answers = at.answers ++ 0 ∷ [] }

-- ---- the lists

at_left : {X : Type 0} (xs ys : List X) (i : ℕ) → i < length xs → slice_get (xs ++ ys) i ≡ slice_get xs i
at_left [] ys i h = absurd (omega (arith, h))
at_left (x ∷ xs) ys zero h = refl
at_left (x ∷ xs) ys (suc i) h = at_left xs ys i (omega (arith, h))

at_last : {X : Type 0} (xs : List X) (y : X) → slice_get (xs ++ y ∷ []) (length xs) ≡ Some y
at_last [] y = refl
at_last (x ∷ xs) y = at_last xs y

pub long_beside : (ops : List (List Op)) (own : List Op) → length (ops ++ own ∷ []) ≡ length ops + 1
long_beside ops own = length-append ops (own ∷ [])

pub un_left : (ops : List (List Op)) (own : List Op) (ns : List ℕ) (m i : ℕ) → length ns ≡ length ops → i < length ops →
    unanswered (ops ++ own ∷ []) (ns ++ m ∷ []) i ≡ unanswered ops ns i
un_left ops own ns m i long below =
    ap (λ o. first_unanswered o (get_or (ns ++ m ∷ []) i 0)) (at_left ops (own ∷ []) i below)
    ∙ ap (first_unanswered (slice_get ops i)) (get_or_append_left ns (m ∷ []) 0 i (omega (arith, long, below)))

pub un_last : (ops : List (List Op)) (own : List Op) (ns : List ℕ) (m : ℕ) → length ns ≡ length ops →
    unanswered (ops ++ own ∷ []) (ns ++ m ∷ []) (length ops) ≡ slice_get own m
un_last ops own ns m long =
    ap (λ o. first_unanswered o (get_or (ns ++ m ∷ []) (length ops) 0)) (at_last ops own)
    ∙ ap (slice_get own)
    (ap (λ i. get_or (ns ++ m ∷ []) i 0) (sym long) ∙ get_or-append_seam ns m [] 0)

un_past : (ops : List (List Op)) (own : List Op) (ns : List ℕ) (i : ℕ) → length ops < i →
    unanswered (ops ++ own ∷ []) ns i ≡ None
un_past ops own ns i past =
    let l = long_beside ops own in
    ap (λ o. first_unanswered o (get_or ns i 0)) (slice_get_past (ops ++ own ∷ []) i (omega (arith, l, past)))

done_left : (ops : List (List Op)) (own : List Op) (ns : List ℕ) (m i : ℕ) → length ns ≡ length ops → i < length ops →
    done_ops (ops ++ own ∷ []) (ns ++ m ∷ []) i ≡ done_ops ops ns i
done_left ops own ns m i long below =
    ap (λ n. take n (get_or (ops ++ own ∷ []) i [])) (get_or_append_left ns (m ∷ []) 0 i (omega (arith, long, below)))
    ∙ ap (take (get_or ns i 0)) (get_or_append_left ops (own ∷ []) [] i below)

done_last : (ops : List (List Op)) (own : List Op) (ns : List ℕ) (m : ℕ) → length ns ≡ length ops →
    done_ops (ops ++ own ∷ []) (ns ++ m ∷ []) (length ops) ≡ take m own
done_last ops own ns m long =
    ap (λ n. take n (get_or (ops ++ own ∷ []) (length ops) []))
    (ap (λ i. get_or (ns ++ m ∷ []) i 0) (sym long) ∙ get_or-append_seam ns m [] 0)
    ∙ ap (take m) (get_or-append_seam ops own [] [])

pub counted_left : (i : ℕ) (b : Bool) (ns ms : List ℕ) → i < length ns → counted i b (ns ++ ms) ≡ counted i b ns ++ ms
counted_left i true ns ms below =
    ap (λ n. set (ns ++ ms) i (n + 1)) (get_or_append_left ns ms 0 i below) ∙ set-append_left ns ms i (get_or ns i 0 + 1) below
counted_left i false ns ms below = refl

pub counted_last : (ns : List ℕ) (a : ℕ) → length ns ≡ a → counted a true (ns ++ 0 ∷ []) ≡ ns ++ 1 ∷ []
counted_last ns a long =
    subst (λ i. counted i true (ns ++ 0 ∷ []) ≡ ns ++ 1 ∷ []) long
    (ap (λ n. set (ns ++ 0 ∷ []) (length ns) (n + 1)) (get_or-append_seam ns 0 [] 0) ∙ set-append_seam ns 0 [] 1)

-- ---- the client's operation may be another, or none

same_roster : (head : Head) (ops : List (List Op)) (own other : List Op) (xs : List Event) → Roster head (ops ++ own ∷ []) xs →
    Roster head (ops ++ other ∷ []) xs
same_roster head ops own other xs r =
    let a = long_beside ops own in
    let b = long_beside ops other in
    record {
      clients = λ i h. r.clients i (omega (arith, a, b, h));
      only = λ k h. let o = r.only k h in (o.0, omega (arith, a, b, o.1), o.2);
      threads = r.threads;
      below = r.below;
    }

pub another : (head : Head) (ops : List (List Op)) (own other : List Op) (xs : List Event) (ns : List ℕ) (m : ℕ) → length ns ≡ length ops →
    is_locked (take m own) ≡ false → Going head (ops ++ own ∷ []) xs (ns ++ m ∷ []) →
    ((op : Op) → IsInFlight xs (record { seat = length (present head) + length ops; op = op }) → slice_get own m ≡ Some op →
    slice_get other 0 ≡ Some op) →
    Going head (ops ++ other ∷ []) xs (ns ++ 0 ∷ [])
another head ops own other xs ns m long plain g still = record {
  lawful = g.lawful;
  long = let a = length-append ns (0 ∷ []) in let b = long_beside ops other in omega (arith, a, b, long);
  roster = same_roster head ops own other xs g.roster;
  asked = λ i op f. asked i op f (g.asked i op f) (ltb i A) refl (eqb i A) refl;
  reads = λ i r. reads i r (g.reads i r) (ltb i A) refl;
  within = λ i. within i (g.within i) (ltb i A) refl (eqb i A) refl;
  readers = λ k r. readers k r (g.readers k r);
}
  where
    A : ℕ
    A = length ops

    P : ℕ
    P = length (present head)

    past : (i : ℕ) → ltb i A ≡ false → eqb i A ≡ false → A < i
    past i a b = grind (arith, nat_tests)

    asked : (i : ℕ) (op : Op) → IsInFlight xs (record { seat = P + i; op = op }) →
        unanswered (ops ++ own ∷ []) (ns ++ m ∷ []) i ≡ Some op → (b : Bool) → ltb i A ≡ b → (c : Bool) → eqb i A ≡ c →
        unanswered (ops ++ other ∷ []) (ns ++ 0 ∷ []) i ≡ Some op
    asked i op f u true e c d =
        let l = ltb-true i A e in
        un_left ops other ns 0 i long l ∙ (sym (un_left ops own ns m i long l) ∙ u)
    asked i op f u false e true d =
        let same : i ≡ A = eqb-true i A d in
        let at = sym (un_last ops own ns m long) ∙ (ap (unanswered (ops ++ own ∷ []) (ns ++ m ∷ [])) (sym same) ∙ u) in
        ap (unanswered (ops ++ other ∷ []) (ns ++ 0 ∷ [])) same
        ∙ (un_last ops other ns 0 long ∙ still op (subst (λ z. IsInFlight xs (record { seat = P + z; op = op })) same f) at)
    asked i op f u false e false d =
        absurd (none_some op (sym (un_past ops own (ns ++ m ∷ []) i (past i e d)) ∙ u))

    none_past : (i : ℕ) → is_reading (P + i) xs ≡ true → ltb i A ≡ false → ⊥
    none_past i r e =
        let k = g.readers (P + i) r in
        let s = k.2 in
        let l = k.1 in
        let w = long_beside ops own in
        let q = ltb-false i A e in
        let same : i ≡ A = omega (arith, s, l, w, q) in
        true≢false
        (sym (g.reads i r)
        ∙ (ap (λ z. is_locked (done_ops (ops ++ own ∷ []) (ns ++ m ∷ []) z)) same
        ∙ (ap is_locked (done_last ops own ns m long) ∙ plain)))

    reads : (i : ℕ) → is_reading (P + i) xs ≡ true → is_locked (done_ops (ops ++ own ∷ []) (ns ++ m ∷ []) i) ≡ true →
        (b : Bool) → ltb i A ≡ b → is_locked (done_ops (ops ++ other ∷ []) (ns ++ 0 ∷ []) i) ≡ true
    reads i r h true e =
        let l = ltb-true i A e in
        ap is_locked (done_left ops other ns 0 i long l ∙ sym (done_left ops own ns m i long l)) ∙ h
    reads i r h false e = absurd (none_past i r e)

    within : (i : ℕ) → get_or (ns ++ m ∷ []) i 0 ≤ length (get_or (ops ++ own ∷ []) i []) → (b : Bool) → ltb i A ≡ b → (c : Bool) →
        eqb i A ≡ c → get_or (ns ++ 0 ∷ []) i 0 ≤ length (get_or (ops ++ other ∷ []) i [])
    within i h true e c d =
        let l = ltb-true i A e in
        let n = get_or_append_left ns (m ∷ []) 0 i (omega (arith, long, l)) in
        let o = get_or_append_left ns (0 ∷ []) 0 i (omega (arith, long, l)) in
        let p = ap (λ z. length z) (get_or_append_left ops (own ∷ []) [] i l) in
        let q = ap (λ z. length z) (get_or_append_left ops (other ∷ []) [] i l) in
        omega (arith, h, n, o, p, q)
    within i h false e true d =
        let same : i ≡ length ns = eqb-true i A d ∙ sym long in
        let z = ap (λ j. get_or (ns ++ 0 ∷ []) j 0) same ∙ get_or-append_seam ns 0 [] 0 in
        omega (arith, z)
    within i h false e false d =
        let z : get_or (ns ++ 0 ∷ []) i 0 ≡ 0 = none_at ns i (let p = past i e d in omega (arith, p, long)) in
        omega (arith, z)
      where
        none_at : (ns : List ℕ) (i : ℕ) → length ns < i → get_or (ns ++ 0 ∷ []) i 0 ≡ 0
        none_at [] zero h = refl
        none_at [] (suc i) h = refl
        none_at (n ∷ ns) zero h = absurd (omega (arith, h))
        none_at (n ∷ ns) (suc i) h = none_at ns i (omega (arith, h))

    readers : (k : ℕ) → is_reading k xs ≡ true → (i : ℕ) × (i < length (ops ++ own ∷ [])) × (k ≡ P + i) →
        (i : ℕ) × (i < length (ops ++ other ∷ [])) × (k ≡ P + i)
    readers k r o =
        let a = long_beside ops own in
        let b = long_beside ops other in
        let l = o.1 in
        (o.0, omega (arith, a, b, l), o.2)

-- ---- turns

-- an actor's turn, beside the client
pub asking_beside : (head : Head) (ops : List (List Op)) (own : Option Op) (k i : ℕ) (at : RunState) → length at.answers ≡ length ops →
    i < length ops →
    after_asking head k i (unanswered (beside ops own) (with_none at).answers i) (with_none at)
    ≡ with_none (after_asking head k i (unanswered ops at.answers i) at)
asking_beside head ops own k i at long below =
    ap (λ o. after_asking head k i o (with_none at)) (un_left ops (option_to_list own) at.answers 0 i long below)
    ∙ go (unanswered ops at.answers i)
  where
    few : i < length at.answers
    few = omega (arith, long, below)

    by_event : (o : Option Event) (full : Bool) → after_event i o full (with_none at) ≡ with_none (after_event i o full at)
    by_event None full =
        ap (λ ns. record { events = at.events; answers = ns }) (counted_left i full at.answers (0 ∷ []) few)
    by_event (Some e) full =
        ap (λ ns. record { events = at.events ++ e ∷ []; answers = ns }) (counted_left i (is_answer e) at.answers (0 ∷ []) few)

    go : (o : Option Op) → after_asking head k i o (with_none at) ≡ with_none (after_asking head k i o at)
    go None = refl
    go (Some op) = by_event (next_event head at.events k op) (is_full head at.events k op)

-- an operation that locks nothing is answered without an event
pub going_without : (head : Head) (actors : List (List Op)) (xs : List Event) (ns : List ℕ) (i : ℕ) (op : Op) →
    Going head actors xs ns → unanswered actors ns i ≡ Some op → IsFree xs (length (present head) + i) →
    ((b : Bool) → lock_step b op ≡ b) → Going head actors xs (counted i true ns)
going_without head actors xs ns i op g u free plain = record {
  lawful = g.lawful;
  long = counted_long i true ns ∙ g.long;
  roster = g.roster;
  asked = λ j other f. asked j other f (eqb j i) refl;
  reads = λ j r. reads j (eqb j i) refl r;
  within = λ j. within_more actors i j true op ns u long (g.within j);
  readers = g.readers;
}
  where
    P : ℕ
    P = length (present head)

    n : IsNth actors ns i op
    n = nth_of actors ns i op u

    long : i < length ns
    long = let l = g.long in let w = n.within in omega (arith, l, w)

    asked : (j : ℕ) (other : Op) → IsInFlight xs (record { seat = P + j; op = other }) → (m : Bool) → eqb j i ≡ m →
        unanswered actors (counted i true ns) j ≡ Some other
    asked j other f false m = unanswered_other actors i j true ns (not_equal j i m) ∙ g.asked j other f
    asked j other f true m =
        let same : j ≡ i = eqb-true j i m in
        absurd (free_not xs (record { seat = P + j; op = other }) (P + i) f free (ap (λ z. P + z) (sym same)))

    reads : (j : ℕ) (m : Bool) → eqb j i ≡ m → is_reading (P + j) xs ≡ true → is_locked (done_ops actors (counted i true ns) j) ≡ true
    reads j false m r = ap is_locked (done_other actors i j true ns (not_equal j i m)) ∙ g.reads j r
    reads j true m r =
        let same : j ≡ i = eqb-true j i m in
        let before : is_locked (done_ops actors ns i) ≡ true = ap (λ z. is_locked (done_ops actors ns z)) (sym same) ∙ g.reads j r in
        ap (λ z. is_locked (done_ops actors (counted i true ns) z)) same
        ∙ (ap is_locked (done_more actors i op ns u long)
        ∙ (is_locked_push (done_ops actors ns i) op ∙ (plain (is_locked (done_ops actors ns i)) ∙ before)))

-- ---- scripts

pub all_none : {X : Type 0} (Is : X → Type 0) → All Is []
all_none Is i d below = absurd (omega (arith, below))

pub all_one : {X : Type 0} (Is : X → Type 0) (x : X) → Is x → All Is (x ∷ [])
all_one Is x h zero d below = h
all_one Is x h (suc i) d below = absurd (omega (arith, below))

-- with an operation that a client may ask for, and which locks nothing
pub script_beside : (head : Head) (ops : List (List Op)) (own : Option Op) → IsScript head ops →
    length (present head) + length ops + 1 ≤ MAX_SEATS → All (λ op. names_sub head op ≡ true) (option_to_list own) →
    is_locked (option_to_list own) ≡ false → IsScript head (beside ops own)
script_beside head ops own s few subs plain = record {
  head_is = s.head_is;
  few_seats = let l = long_beside ops (option_to_list own) in omega (arith, few, l);
  has_subs =
      All-append (λ (a : List Op). All (λ op. names_sub head op ≡ true) a) ops (option_to_list own ∷ []) s.has_subs
      (all_one (λ (a : List Op). All (λ op. names_sub head op ≡ true) a) (option_to_list own) subs);
  end_unlocked =
      All-append (λ (a : List Op). is_locked a ≡ false) ops (option_to_list own ∷ []) s.end_unlocked
      (all_one (λ (a : List Op). is_locked a ≡ false) (option_to_list own) plain);
}

pub start_beside : (head : Head) (ops : List (List Op)) → IsScript head ops → length (present head) + length ops + 1 ≤ MAX_SEATS →
    Going head (beside ops None) (admissions head (ops ++ [] ∷ [])) (replicate (length ops) 0 ++ 0 ∷ [])
start_beside head ops s few =
    let n : length (ops ++ [] ∷ []) ≡ length ops + 1 = long_beside ops [] in
    let r : replicate (length (ops ++ [] ∷ [])) 0 ≡ replicate (length ops) 0 ++ 0 ∷ [] =
    ap (λ z. replicate z 0) n ∙ sym (replicate-append-replicate (length ops) 1 0) in
    subst (λ ns. Going head (ops ++ [] ∷ []) (admissions head (ops ++ [] ∷ [])) ns) r
    (start_going head (ops ++ [] ∷ []) (script_beside head ops None s few (all_none (λ op. names_sub head op ≡ true)) refl))

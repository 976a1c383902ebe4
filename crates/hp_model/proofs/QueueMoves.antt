-- What one event more makes of the queue of an upmany.
use Rattle.std.proofs.Common.{◌≡◌, ℕ, zero, suc, ◌+◌, ◌<◌, ◌≤◌, Bool, true, false, ◌&&◌, cond, eqb, ltb, not, is_some, Option, Some, None, List, [], ◌∷◌, ◌++◌, length, refl, ap, sym, ◌∙◌, subst, inl, inr, ◌⊎◌, arith}
use Rattle.std.specs.List.{filter}
use Rattle.std.proofs.lemmas.Bool.{true≢false, false≢true, eqb-true, eqb-false, eq-eqb, lt-ltb, ltb-true, ltb-false, and_parts}
use Rattle.hp_states.proofs.Basics.{none_some, same_some}
use Rattle.hp_event.specs.declared.head.Head.{Head}
use Rattle.hp_event.specs.declared.event.Event.{Event}
use Rattle.hp_event.specs.declared.event.Event.TheVariants.{WalkBegin, Call, WalkEnd}
use Rattle.hp_model.specs.Batch.{is_upmany}
use Rattle.hp_model.specs.BatchQueue.{RiseBy, IsQueue, first, is_own, from_front, at_end, queue_after}
use Rattle.hp_model.specs.BatchTurn.{last_event, last_step, is_by, own_walks, turn_of, has_turn}
use Rattle.hp_model.specs.Lawful.{Comes, IsLawful}
use Rattle.hp_model.specs.Lists.{occurs, among, without}
use Rattle.hp_model.specs.MapLock.{Operation, operation}
use Rattle.hp_model.specs.NextInWalk.{next_of_walk}
use Rattle.hp_model.specs.StandsCalls.{InWalk, InRegistration}
use Rattle.hp_model.specs.Walks.{Walk, walk, walk_step, walk_entries, entries_step, walking}
use Rattle.hp_model.proofs.BatchLemmas.{begins_still, walking_begun}
use Rattle.hp_model.proofs.InFlight.{walking_is}
use Rattle.hp_model.proofs.Laws.{walk_push, walk_entries_push}
use Rattle.hp_model.proofs.ListLemmas.{occurs-filter, is_among, occurs_among, once_in, occurs-without}
use Rattle.hp_model.proofs.SumLemmas.{length-without}
use Rattle.hp_model.proofs.Induction.{kept}
use Rattle.hp_model.proofs.Kept.{WalkKept}
use Rattle.hp_model.proofs.Counts.{occurs-append}
use Rattle.hp_model.proofs.Owners.{Owners, owners_step}
use Rattle.hp_model.proofs.Stages.{ap_no_client}
use Rattle.hp_model.proofs.TurnLemmas.{turn_is, turn_own}
use Rattle.hp_model.proofs.TurnQueue.{queue_turn}
use Rattle.hp_model.proofs.TurnStays.{IsNoThread, owned, last_push, last_before}
use Rattle.hp_model.proofs.WalkGives as by_walk

pub among_filter : (p : ℕ → Bool) (c : ℕ) (xs : List ℕ) → among c (filter p xs) ≡ (p c && among c xs)
among_filter p c xs = ap (ltb 0) (occurs-filter p c xs) ∙ go (p c)
  where
    go : (b : Bool) → ltb 0 (cond b (occurs c xs) 0) ≡ (b && among c xs)
    go true = refl
    go false = refl

-- a processor is in the queue exactly where the next event of its walk is the seat's
pub own_among : (head : Head) (xs : List Event) (k c : ℕ) → among c (own_walks head xs k) ≡ is_own head xs k c
own_among head xs k c =
    among_filter (λ d. is_own head xs k d) c (walking xs)
    ∙ (ap (λ b. is_own head xs k c && b) (walking_is c xs) ∙ go (walk c xs))
  where
    and_true : (b : Bool) → (b && true) ≡ b
    and_true true = refl
    and_true false = refl

    go : (v : Option Walk) → (is_by k (next_of_walk head xs c v) && is_some v) ≡ is_by k (next_of_walk head xs c v)
    go None = refl
    go (Some w) = and_true (is_by k (next_of_walk head xs c (Some w)))

-- ---- lists that rise

rise_same : (p q : ℕ → ℕ) (cs : List ℕ) → ((d : ℕ) → 0 < occurs d cs → q d ≡ p d) → RiseBy p cs → RiseBy q cs
rise_same p q [] h r = tt
rise_same p q (c ∷ cs) h r = (
  λ d i.
      let a = h c (once_in c cs) in
      let b = h d (omega (arith, i)) in
      let l = r.0 d i in
      omega arith,
  rise_same p q cs (λ d i. h d (omega (arith, i))) r.1,
)

rise_last : (p : ℕ → ℕ) (c : ℕ) (cs : List ℕ) → ((d : ℕ) → 0 < occurs d cs → p d < p c) → RiseBy p cs → RiseBy p (cs ++ c ∷ [])
rise_last p c [] h r = (λ d i. absurd (omega (arith, i)), tt)
  where
    only : (d : ℕ) → 0 < occurs d (c ∷ []) → c ≡ d
    only d i = one (eqb c d) refl i
      where
        one : (b : Bool) → eqb c d ≡ b → 0 < cond b 1 0 + 0 → c ≡ d
        one true e j = eqb-true c d e
        one false e j = absurd (omega (arith, j))
rise_last p c (x ∷ xs) h r =
    (λ d i. go d (eqb c d) refl (rw (occurs-append d xs (c ∷ [])) at i), rise_last p c xs (λ d i. h d (omega (arith, i))) r.1)
  where
    go : (d : ℕ) (b : Bool) → eqb c d ≡ b → 0 < occurs d xs + (cond b 1 0 + 0) → p x < p d
    go d true e i = let l = h x (once_in x xs) in let s = ap p (eqb-true c d e) in omega arith
    go d false e i = r.0 d (omega (arith, i))

-- what is left of the queue without a processor, which is its first or isn't in it
pub record Rest (place : ℕ → ℕ) (c : ℕ) (queue : List ℕ) : Type 0 where
  pub rises : RiseBy place (from_front c queue)
  pub same : (d : ℕ) → among d (from_front c queue) ≡ cond (eqb c d) false (among d queue)

rest_absent : (place : ℕ → ℕ) (c : ℕ) (queue : List ℕ) → RiseBy place queue → among c queue ≡ false → Rest place c queue
rest_absent place c queue r h =
    record { rises = rw (stays queue h) r; same = λ d. ap (among d) (stays queue h) ∙ go d (eqb c d) refl }
  where
    stays : (cs : List ℕ) → among c cs ≡ false → from_front c cs ≡ cs
    stays [] n = refl
    stays (x ∷ xs) n = one (eqb x c) refl
      where
        one : (b : Bool) → eqb x c ≡ b → cond b xs (x ∷ xs) ≡ x ∷ xs
        one true e =
            absurd (true≢false (sym (is_among c (x ∷ xs) (subst (λ z. 0 < occurs z (x ∷ xs)) (eqb-true x c e) (once_in x xs))) ∙ n))
        one false e = refl

    go : (d : ℕ) (b : Bool) → eqb c d ≡ b → among d queue ≡ cond b false (among d queue)
    go d true e = subst (λ z. among z queue ≡ false) (eqb-true c d e) h
    go d false e = refl

rest_first : (place : ℕ → ℕ) (c : ℕ) (queue : List ℕ) → RiseBy place queue → first queue ≡ Some c → Rest place c queue
rest_first place c [] r h = absurd (none_some c h)
rest_first place c (x ∷ xs) r h =
    let s : x ≡ c = same_some x c h in
    let e : eqb x c ≡ true = eq-eqb x c s in
    record { rises = rw e r.1; same = λ d. rw e (go d s (eqb c d) refl) }
  where
    alone : x ≡ c → (d : ℕ) → c ≡ d → among d xs ≡ false
    alone s d t = none (among d xs) refl
      where
        none : (b : Bool) → among d xs ≡ b → b ≡ false
        none false e = refl
        none true e =
            let l = r.0 d (occurs_among d xs e) in
            let u = ap place (s ∙ t) in
            absurd (omega arith)

    go : (d : ℕ) → x ≡ c → (b : Bool) → eqb c d ≡ b → among d xs ≡ cond b false (among d (x ∷ xs))
    go d s true e = alone s d (eqb-true c d e)
    go d s false e = let f : eqb x d ≡ false = rw s e in rw f (ap (ltb 0) (zero_more (occurs d xs)))
      where
        zero_more : (n : ℕ) → n ≡ 0 + n
        zero_more n = omega arith

-- ---- one event of a walk

-- what it changes: the walk of one processor
pub record Changes (head : Head) (xs ys : List Event) (k c : ℕ) : Type 0 where
  pub others : (d : ℕ) → eqb c d ≡ false → is_own head ys k d ≡ is_own head xs k d
  pub places : (d : ℕ) → eqb c d ≡ false → last_event d ys ≡ last_event d xs
  pub here : is_own head ys k c ≡ true → last_event c ys ≡ length xs

own_before : (head : Head) (xs : List Event) (k d : ℕ) → is_own head xs k d ≡ true → last_event d xs < length xs
own_before head xs k d h = go (walk d xs) refl
  where
    go : (v : Option Walk) → walk d xs ≡ v → last_event d xs < length xs
    go None e = absurd (false≢true (sym (ap (λ v. is_by k (next_of_walk head xs d v)) e) ∙ h))
    go (Some w) e = last_before d w xs e

changed : (head : Head) (xs ys : List Event) (k c : ℕ) (queue : List ℕ) → IsQueue head xs k queue → Changes head xs ys k c →
    Rest (λ d. last_event d xs) c queue → IsQueue head ys k (at_end (is_own head ys k c) c (from_front c queue))
changed head xs ys k c queue q ch r = go (is_own head ys k c) refl
  where
    -- what is left is of others
    apart : (d : ℕ) → 0 < occurs d (from_front c queue) → (eqb c d ≡ false) × (is_own head xs k d ≡ true)
    apart d i = pick (eqb c d) refl (sym (r.same d) ∙ is_among d (from_front c queue) i)
      where
        pick : (b : Bool) → eqb c d ≡ b → cond b false (among d queue) ≡ true → (eqb c d ≡ false) × (is_own head xs k d ≡ true)
        pick true e h = absurd (false≢true h)
        pick false e h = (e, sym (own_among head xs k d) ∙ (sym (q.same d) ∙ h))

    rises : RiseBy (λ d. last_event d ys) (from_front c queue)
    rises =
        rise_same (λ d. last_event d xs) (λ d. last_event d ys) (from_front c queue) (λ d i. ch.places d (apart d i).0) r.rises

    below : is_own head ys k c ≡ true → (d : ℕ) → 0 < occurs d (from_front c queue) → last_event d ys < last_event c ys
    below o d i =
        let a = apart d i in
        let l = own_before head xs k d a.1 in
        let p = ch.places d a.0 in
        let h = ch.here o in
        omega arith

    with_own : (d : ℕ) (b : Bool) → is_own head ys k c ≡ b → (s : Bool) → eqb c d ≡ s →
        cond s b (among d queue) ≡ among d (own_walks head ys k)
    with_own d b o true e = sym (own_among head ys k d ∙ subst (λ z. is_own head ys k z ≡ b) (eqb-true c d e) o)
    with_own d b o false e =
        q.same d ∙ (own_among head xs k d ∙ (sym (ch.others d e) ∙ sym (own_among head ys k d)))

    put : (d : ℕ) → among d (from_front c queue ++ c ∷ []) ≡ cond (eqb c d) true (among d queue)
    put d =
        ap (ltb 0) (occurs-append d (from_front c queue) (c ∷ []))
        ∙ more (eqb c d) (r.same d)
      where
        more : (s : Bool) → among d (from_front c queue) ≡ cond s false (among d queue) →
            ltb 0 (occurs d (from_front c queue) + (cond s 1 0 + 0)) ≡ cond s true (among d queue)
        more true h = lt-ltb 0 (occurs d (from_front c queue) + (1 + 0)) (omega arith)
        more false h = ap (ltb 0) (no_more (occurs d (from_front c queue))) ∙ h
          where
            no_more : (n : ℕ) → n + (0 + 0) ≡ n
            no_more n = omega arith

    go : (b : Bool) → is_own head ys k c ≡ b → IsQueue head ys k (at_end b c (from_front c queue))
    go true o =
        record {
          rises = rise_last (λ d. last_event d ys) c (from_front c queue) (below o) rises;
          same = λ d. put d ∙ with_own d true o (eqb c d) refl;
        }
    go false o = record { rises = rises; same = λ d. r.same d ∙ with_own d false o (eqb c d) refl }

-- an event that is none of a walk
kept_queue : (head : Head) (xs : List Event) (e : Event) (k : ℕ) (queue : List ℕ) → IsNoThread xs k → IsNoThread (xs ++ e ∷ []) k →
    ((f : ℕ) (w : Option Walk) → walk_step f w xs e ≡ w) → ((f : ℕ) (es : List Event) → entries_step f es xs e ≡ es) →
    ((f n : ℕ) → last_step f n xs e ≡ n) → IsQueue head xs k queue → IsQueue head (xs ++ e ∷ []) k queue
kept_queue head xs e k queue none none' w es l q =
    let ys : List Event = xs ++ e ∷ [] in
    let own : (f : ℕ) → is_own head ys k f ≡ is_own head xs k f =
    λ f.
    owned head ys k f none'
    ∙ (rw (walk_push f xs e, walk_entries_push f xs e, w f (walk f xs), es f (walk_entries f xs)) (sym (owned head xs k f none)))
    in
    record {
      rises =
          rise_same (λ d. last_event d xs) (λ d. last_event d ys) queue (λ d i. last_push d xs e ∙ l d (last_event d xs)) q.rises;
      same = λ c. q.same c ∙ (own_among head xs k c ∙ (sym (own c) ∙ sym (own_among head ys k c)));
    }

none_own : (head : Head) (xs : List Event) (k c : ℕ) → walk c xs ≡ None → is_own head xs k c ≡ false
none_own head xs k c h = ap (λ v. is_by k (next_of_walk head xs c v)) h

absent : (head : Head) (xs : List Event) (k c : ℕ) (queue : List ℕ) → IsQueue head xs k queue → is_own head xs k c ≡ false →
    among c queue ≡ false
absent head xs k c queue q h = q.same c ∙ (own_among head xs k c ∙ h)

-- whose turn it is is the first
in_turn : (head : Head) (xs : List Event) (k c : ℕ) (queue : List ℕ) → IsQueue head xs k queue → turn_of head xs k ≡ Some c →
    first queue ≡ Some c
in_turn head xs k c queue q t = sym (queue_turn head xs k queue (turn_own head xs k c t).none_left q) ∙ t

pub queue_moves : (head : Head) (xs : List Event) (e : Event) (o : Operation) (queue : List ℕ) → Owners xs → Comes head xs e →
    operation xs ≡ Some o → is_upmany o.op ≡ true → operation (xs ++ e ∷ []) ≡ Some o → IsQueue head xs o.seat queue →
    IsQueue head (xs ++ e ∷ []) o.seat (queue_after (is_own head (xs ++ e ∷ []) o.seat) queue e)
queue_moves head xs (WalkBegin seat c from to) o queue own h held u then q =
    changed head xs ys k c queue q
    (record {
      others = λ d f. owned head ys k d none' ∙ (rw (walk_push d xs e, walk_entries_push d xs e, f) (sym (owned head xs k d none)));
      places = λ d f. last_push d xs e ∙ rw f refl;
      here = λ t. let self = eq-eqb c c refl in last_push c xs e ∙ rw self refl;
    })
    (rest_absent (λ d. last_event d xs) c queue q.rises (absent head xs k c queue q (none_own head xs k c (begins_still head xs seat c from to own h))))
  where
    k : ℕ
    k = o.seat

    e : Event
    e = WalkBegin seat c from to

    ys : List Event
    ys = xs ++ e ∷ []

    none : IsNoThread xs k
    none d a = ap_no_client xs d k own a (own.op_client o held)

    none' : IsNoThread ys k
    none' d a = let later = owners_step head xs e h own in ap_no_client ys d k later a (later.op_client o then)
queue_moves head xs (WalkEnd seat c answer) o queue own h held u then q =
    changed head xs ys k c queue q
    (record {
      others = λ d f. owned head ys k d none' ∙ (rw (walk_push d xs e, walk_entries_push d xs e, f) (sym (owned head xs k d none)));
      places = λ d f. last_push d xs e;
      here = λ t. absurd (true≢false (sym t ∙ none_own head ys k c over));
    })
    (rest_first (λ d. last_event d xs) c queue q.rises
    (in_turn head xs k c queue q (turn_is head xs o k c held refl u (subst (λ z. has_turn head xs z c ≡ true) mine h.turn))))
  where
    k : ℕ
    k = o.seat

    e : Event
    e = WalkEnd seat c answer

    ys : List Event
    ys = xs ++ e ∷ []

    mine : seat ≡ k
    mine =
        let p = own.walk_op c h.of h.in_flight in
        let same : p.0 ≡ o = same_some p.0 o (sym p.1 ∙ held) in
        sym h.seat_is ∙ (sym p.2 ∙ ap (λ z. z.seat) same)

    over : walk c ys ≡ None
    over = let self = eq-eqb c c refl in walk_push c xs e ∙ rw self refl

    none : IsNoThread xs k
    none d a = ap_no_client xs d k own a (own.op_client o held)

    none' : IsNoThread ys k
    none' d a = let later = owners_step head xs e h own in ap_no_client ys d k later a (later.op_client o then)
queue_moves head xs (Call seat c state inst dir how) o queue own h held u then q =
    changed head xs ys k c queue q
    (record {
      others = λ d f. owned head ys k d none' ∙ (rw (walk_push d xs e, walk_entries_push d xs e, f) (sym (owned head xs k d none)));
      places = λ d f. last_push d xs e ∙ rw f refl;
      here = λ t. let self = eq-eqb c c refl in last_push c xs e ∙ rw self refl;
    })
    (rest h)
  where
    k : ℕ
    k = o.seat

    e : Event
    e = Call seat c state inst dir how

    ys : List Event
    ys = xs ++ e ∷ []

    none : IsNoThread xs k
    none d a = ap_no_client xs d k own a (own.op_client o held)

    none' : IsNoThread ys k
    none' d a = let later = owners_step head xs e h own in ap_no_client ys d k later a (later.op_client o then)

    by : InWalk head xs seat c state inst dir how → (b : Bool) → eqb seat k ≡ b → Rest (λ d. last_event d xs) c queue
    by i true s =
        rest_first (λ d. last_event d xs) c queue q.rises
        (in_turn head xs k c queue q
        (turn_is head xs o k c held refl u (subst (λ z. has_turn head xs z c ≡ true) (eqb-true seat k s) i.turn)))
    by i false s =
        rest_absent (λ d. last_event d xs) c queue q.rises
        (absent head xs k c queue q (ap (is_by k) (by_walk.gives_entry head xs seat c state inst dir how i) ∙ s))

    no_walk : InRegistration head xs seat c state inst dir how → (v : Option Walk) → walk c xs ≡ v → walk c xs ≡ None
    no_walk r None at = at
    no_walk r (Some w) at =
        let alone = own.batch_alone (walking_begun xs o c w own held u at) in
        let f = r.entry.in_flight in
        absurd (true≢false (rw f at alone.1))

    rest : InWalk head xs seat c state inst dir how ⊎ InRegistration head xs seat c state inst dir how →
        Rest (λ d. last_event d xs) c queue
    rest (inl i) = by i (eqb seat k) refl
    rest (inr r) =
        rest_absent (λ d. last_event d xs) c queue q.rises
        (absent head xs k c queue q (none_own head xs k c (no_walk r (walk c xs) refl)))
queue_moves head xs e o queue own h held u then q =
    kept_queue head xs e o.seat queue (λ d a. ap_no_client xs d o.seat own a (own.op_client o held))
    (λ d a.
    let later = owners_step head xs e h own in ap_no_client (xs ++ e ∷ []) d o.seat later a (later.op_client o then))
    (λ f w. refl) (λ f es. refl) (λ f n. refl) q

-- before any walk nobody is in it
pub queue_none : (head : Head) (xs : List Event) (k : ℕ) → ((c : ℕ) → walk c xs ≡ None) → IsQueue head xs k []
queue_none head xs k h =
    record { rises = tt; same = λ c. sym (own_among head xs k c ∙ none_own head xs k c (h c)) }

-- ---- its length

once_rising : (place : ℕ → ℕ) (cs : List ℕ) → RiseBy place cs → (d : ℕ) → occurs d cs ≤ 1
once_rising place [] r d = omega arith
once_rising place (c ∷ cs) r d = go (eqb c d) refl (once_rising place cs r.1 d)
  where
    go : (b : Bool) → eqb c d ≡ b → occurs d cs ≤ 1 → cond b 1 0 + occurs d cs ≤ 1
    go true e h = none (ltb 0 (occurs d cs)) refl
      where
        none : (t : Bool) → ltb 0 (occurs d cs) ≡ t → 1 + occurs d cs ≤ 1
        none true q =
            let l = r.0 d (ltb-true 0 (occurs d cs) q) in let s = ap place (eqb-true c d e) in absurd (omega (arith, l, s))
        none false q = let z = ltb-false 0 (occurs d cs) q in omega (arith, z)
    go false e h = omega (arith, h)

short : (n : ℕ) (cs : List ℕ) → ((d : ℕ) → occurs d cs ≤ 1) → ((d : ℕ) → 0 < occurs d cs → d < n) → length cs ≤ n
short zero [] once below = omega arith
short zero (c ∷ cs) once below = let l = below c (once_in c cs) in absurd (omega (arith, l))
short (suc n) cs once below =
    let less = short n (without n cs) less_once less_below in
    let w = length-without n cs in
    let o = once n in
    omega (arith, less, w, o)
  where
    less_once : (d : ℕ) → occurs d (without n cs) ≤ 1
    less_once d = go (eqb d n) (occurs-without n d cs) (once d)
      where
        go : (b : Bool) → occurs d (without n cs) ≡ cond b 0 (occurs d cs) → occurs d cs ≤ 1 → occurs d (without n cs) ≤ 1
        go true e h = omega (arith, e)
        go false e h = omega (arith, e, h)

    less_below : (d : ℕ) → 0 < occurs d (without n cs) → d < n
    less_below d i = go (eqb d n) refl (occurs-without n d cs)
      where
        go : (b : Bool) → eqb d n ≡ b → occurs d (without n cs) ≡ cond b 0 (occurs d cs) → d < n
        go true e h = absurd (omega (arith, h, i))
        go false e h =
            let l = below d (omega (arith, h, i)) in
            let s = eqb-false d n e in
            apart l s
          where
            apart : d < suc n → (d ≡ n → ⊥) → d < n
            apart l s = split (ltb d n) refl
              where
                split : (t : Bool) → ltb d n ≡ t → d < n
                split true q = ltb-true d n q
                split false q = let z = ltb-false d n q in absurd (s (omega (arith, z, l)))

-- no more processors are in it than there are
pub queue_fits : (head : Head) (xs : List Event) (k : ℕ) (queue : List ℕ) → IsLawful head xs → IsQueue head xs k queue →
    length queue ≤ head.possible
queue_fits head xs k queue lawful q = short head.possible queue (once_rising (λ d. last_event d xs) queue q.rises) below
  where
    walks : (d : ℕ) → is_own head xs k d ≡ true → (v : Option Walk) → walk d xs ≡ v → d < head.possible
    walks d h None e = absurd (false≢true (sym (none_own head xs k d e) ∙ h))
    walks d h (Some w) e =
        let p : WalkKept head d w xs = rw e at ((kept head xs lawful).at d).kept in
        ltb-true d head.possible (and_parts (ltb d head.possible) (not (among d head.absent)) p.present).0

    below : (d : ℕ) → 0 < occurs d queue → d < head.possible
    below d i = walks d (sym (own_among head xs k d) ∙ (sym (q.same d) ∙ is_among d queue i)) (walk d xs) refl

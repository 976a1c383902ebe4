-- The walk whose turn it is in an upmany keeps it, whatever other seats do: its last event stays where it is, and each walk that
-- another seat goes on with has its last event later from there on.
use Rattle.std.proofs.Common.{◌≡◌, ◌≢◌, ℕ, zero, suc, ◌<◌, Bool, true, false, not, ◌&&◌, cond, eqb, ltb, is_some, Option, Some, None, List, [], ◌∷◌, ◌++◌, length, refl, ap, sym, ◌∙◌, inl, inr, ◌⊎◌, subst, arith, append_assoc, length-append}
use Rattle.std.specs.List.{filter}
use Rattle.std.specs.Prelude.{option_map}
use Rattle.std.proofs.lemmas.List.{append-nil}
use Rattle.std.proofs.lemmas.Bool.{true≢false, false≢true, eqb-true, eq-eqb}
use Rattle.std.proofs.lemmas.Bool.Decides.{nat_tests}
use Rattle.hp_states.proofs.Basics.{none_some, same_some}
use Rattle.hp_states.specs.declared.dir.Dir.{Dir}
use Rattle.hp_states.specs.declared.place.Place.{Place}
use Rattle.hp_states.specs.Sections.{is_ap_state}
use Rattle.hp_event.specs.declared.how.How.{How}
use Rattle.hp_event.specs.declared.how.How.TheVariants.{Injected, Empty}
use Rattle.hp_event.specs.declared.answer.Answer.{Answer}
use Rattle.hp_event.specs.declared.head.Head.{Head}
use Rattle.hp_event.specs.declared.event.Event.{Event}
use Rattle.hp_event.specs.declared.event.Event.TheVariants.{Enter, WalkBegin, Call, WalkEnd, OpEnd}
use Rattle.hp_model.specs.Events.{seat_of}
use Rattle.hp_model.specs.Journal.{over_from}
use Rattle.hp_model.specs.Registered.{keys}
use Rattle.hp_model.specs.Walks.{Walk, walk, walk_step, walk_entries, entries_step, walking, walking_step}
use Rattle.hp_model.specs.MapLock.{Operation, operation, operation_step}
use Rattle.hp_model.specs.Seats.{ap_seat}
use Rattle.hp_model.specs.Plan.{direction, plan}
use Rattle.hp_model.specs.How.{takes_fault, answer_at, how_in_walk, how_answered}
use Rattle.hp_model.specs.Subsystems.{has_callback}
use Rattle.hp_model.specs.Calls.{sub_at}
use Rattle.hp_states.specs.Sections.{can_fail}
use Rattle.hp_model.specs.Caller.{is_presumed}
use Rattle.hp_model.specs.Faults.{Faulty, faults, walk_answer}
use Rattle.hp_model.specs.Trees.{Tree, stop, dead, step, walk_tree}
use Rattle.hp_model.specs.Remaining.{remaining}
use Rattle.hp_model.specs.StandsCalls.{InWalk, InRegistration}
use Rattle.hp_model.specs.StandsOperations.{IsOver, IsCut}
use Rattle.hp_model.specs.Lawful.{Comes}
use Rattle.hp_model.specs.Batch.{begun, begun_step, is_upmany, to_begin_of, to_begin}
use Rattle.hp_model.specs.Errands.{made_by}
use Rattle.hp_model.specs.NextInWalk.{walk_left, event_of_walk, next_of_walk}
use Rattle.hp_model.specs.BatchTurn.{last_step, last_event, is_by, own_walks, earlier, earliest, if_empty, turn_of}
use Rattle.hp_model.proofs.ListLemmas.{in_filter}
use Rattle.hp_model.proofs.Laws.{over_from_push, walk_push, walk_entries_push, walking_push, begun_push, operation_push}
use Rattle.hp_model.proofs.Owners.{Owners, owners_step, map_free}
use Rattle.hp_model.proofs.Stages.{ap_no_client}
use Rattle.hp_model.proofs.WalkGives as by_walk
use Rattle.hp_model.proofs.BatchLemmas.{walking_begun}
use Rattle.hp_model.proofs.PromisedParts.{left_same}
use Rattle.hp_model.proofs.TurnLemmas.{earliest_in, turn_own}
use Rattle.hp_model.proofs.Beside.{none_at_first}

-- ---- where last events stand

abbrev Within : ℕ → ℕ → Type 0
Within at n = (at ≡ 0) ⊎ (at < n)

last_from : (c at : ℕ) (before es : List Event) → Within at (length before) →
    Within (over_from (last_step c) at before es) (length (before ++ es))
last_from c at before [] h = rw append-nil h
last_from c at before (e ∷ es) h =
    let r = last_from c (last_step c at before e) (before ++ e ∷ []) es (one e) in
    rw (append_assoc before (e ∷ []) es) at r
  where
    more : Within at (length before) → Within at (length (before ++ e ∷ []))
    more (inl z) = inl z
    more (inr l) = let n = length-append before (e ∷ []) in inr (omega arith)

    here : Within (length before) (length (before ++ e ∷ []))
    here = let n = length-append before (e ∷ []) in inr (omega arith)

    either : (b : Bool) → Within (cond b (length before) at) (length (before ++ e ∷ []))
    either true = here
    either false = more h

    one : (x : Event) → Within (last_step c at before x) (length (before ++ e ∷ []))
    one (WalkBegin seat cpu from to) = either (eqb cpu c)
    one (Call seat cpu state inst dir how) = either (eqb cpu c)
    one x = more h

pub last_push : (c : ℕ) (xs : List Event) (e : Event) → last_event c (xs ++ e ∷ []) ≡ last_step c (last_event c xs) xs e
unfolding last_event
last_push c xs e = over_from_push (last_step c) 0 [] xs e

last_within : (c : ℕ) (xs : List Event) → Within (last_event c xs) (length xs)
unfolding last_event
last_within c xs = last_from c 0 [] xs (inl refl)

-- that of a walk in flight stands before what comes next
pub last_before : (c : ℕ) (w : Walk) (xs : List Event) → walk c xs ≡ Some w → last_event c xs < length xs
last_before c w [] h = absurd (none_some w (sym (none_at_first c) ∙ h))
last_before c w (x ∷ xs) h = go (last_within c (x ∷ xs))
  where
    go : Within (last_event c (x ∷ xs)) (length (x ∷ xs)) → last_event c (x ∷ xs) < length (x ∷ xs)
    go (inl z) = omega arith
    go (inr l) = l

-- ---- whose the next event of a walk is

pub not_presumed : (head : Head) (xs : List Event) (c s i : ℕ) (d : Dir) (p : Place) (first : Bool) →
    is_presumed (how_in_walk head xs c s i d p first) ≡ false
not_presumed head xs c s i d p first =
    called (has_callback (sub_at head s xs) d) (takes_fault xs c s d p first) (can_fail d s p) (answer_at head xs c s i d)
  where
    answered : (b : Bool) (n : ℕ) → is_presumed (how_answered b n) ≡ false
    answered b zero = refl
    answered true (suc n) = refl
    answered false (suc n) = refl

    called : (a t b : Bool) (n : ℕ) → is_presumed (cond a (cond t Injected (how_answered b n)) Empty) ≡ false
    called true true b n = refl
    called true false b n = answered b n
    called false t b n = refl

-- of a walk of which this is left, after these faults: the client's where it ends, and at a state that no thread serves
abbrev own_of : (seat k : ℕ) → Dir → List Faulty → Tree → Bool
own_of seat k d fs stop = is_some (walk_answer d fs) && eqb seat k
own_of seat k d fs dead = false
own_of seat k d fs (step x a b) = not (is_ap_state x.state) && eqb seat k

abbrev own_at : Head → (k c : ℕ) → Option Walk → List Event → Bool
own_at head k c None es = false
own_at head k c (Some w) es =
    own_of w.seat k (direction w.from w.to) (faults es)
    (remaining (walk_tree c (keys head w.before) (direction w.from w.to) [] (plan (keys head w.before) w.from w.to)) es)

-- a client's seat is no thread's
abbrev pub IsNoThread : List Event → ℕ → Type 0
IsNoThread xs k = (c : ℕ) → ap_seat c xs ≡ Some k → ⊥

owned_left : (head : Head) (xs : List Event) (k c : ℕ) (w : Walk) (t : Tree) → IsNoThread xs k →
    is_by k (event_of_walk head xs c w t) ≡ own_of w.seat k (direction w.from w.to) (faults (walk_entries c xs)) t
owned_left head xs k c w stop none = go (walk_answer (direction w.from w.to) (faults (walk_entries c xs)))
  where
    go : (v : Option Answer) → is_by k (option_map (λ answer. WalkEnd w.seat c answer) v) ≡ (is_some v && eqb w.seat k)
    go None = refl
    go (Some a) = refl
owned_left head xs k c w dead none = refl
owned_left head xs k c w (step x a b) none = rw p (go (is_ap_state x.state))
  where
    how : How
    how = how_in_walk head xs x.cpu x.state x.inst x.dir x.place x.first

    p : is_presumed how ≡ false
    p = not_presumed head xs x.cpu x.state x.inst x.dir x.place x.first

    thread : (v : Option ℕ) → ap_seat x.cpu xs ≡ v → is_by k (made_by x how v) ≡ false
    thread None e = refl
    thread (Some j) e = seat (eqb j k) refl
      where
        seat : (b : Bool) → eqb j k ≡ b → b ≡ false
        seat false q = refl
        seat true q = absurd (none x.cpu (e ∙ ap Some (eqb-true j k q)))

    go : (b : Bool) → is_by k (made_by x how (cond (b && true) (ap_seat x.cpu xs) (Some w.seat))) ≡ (not b && eqb w.seat k)
    go true = thread (ap_seat x.cpu xs) refl
    go false = refl

pub owned : (head : Head) (xs : List Event) (k c : ℕ) → IsNoThread xs k →
    is_by k (next_of_walk head xs c (walk c xs)) ≡ own_at head k c (walk c xs) (walk_entries c xs)
owned head xs k c none = go (walk c xs)
  where
    go : (v : Option Walk) → is_by k (next_of_walk head xs c v) ≡ own_at head k c v (walk_entries c xs)
    go None = refl
    go (Some w) = owned_left head xs k c w (walk_left head xs c w) none

-- ---- the earliest stays

-- where one more comes in whose place is later than all others'
abbrev Goes : (d : ℕ) → (was now : Option ℕ) → Type 0
Goes d None now = (now ≡ None) ⊎ (now ≡ Some d)
Goes d (Some c) now = now ≡ Some c

stays : (l m : ℕ → ℕ) (p q : ℕ → Bool) (d : ℕ) → p d ≡ false → ((c : ℕ) → eqb d c ≡ false → q c ≡ p c) →
    ((c : ℕ) → eqb d c ≡ false → m c ≡ l c) → ((c : ℕ) → p c ≡ true → m c < m d) → (cs : List ℕ) →
    Goes d (earliest l (filter p cs)) (earliest m (filter q cs))
stays l m p q d out same places below [] = inl refl
stays l m p q d out same places below (x ∷ cs) =
    here (eqb d x) refl (p x) refl (q x) refl (earliest l (filter p cs)) refl (earliest m (filter q cs)) refl
    (stays l m p q d out same places below cs)
  where
    later : (a b : ℕ) → a < b → ltb b a ≡ false
    later a b h = grind (arith, nat_tests)

    sooner : (a b : ℕ) → a < b → ltb a b ≡ true
    sooner a b h = grind (arith, nat_tests)

    -- one that was the earliest is another
    other : (c : ℕ) → earliest l (filter p cs) ≡ Some c → (p c ≡ true) × (eqb d c ≡ false)
    other c e =
        let i = in_filter p c cs (earliest_in l (filter p cs) c e) in (i.0, apart (eqb d c) refl i.0)
      where
        apart : (b : Bool) → eqb d c ≡ b → p c ≡ true → b ≡ false
        apart false f t = refl
        apart true f t = absurd (true≢false (sym t ∙ (ap p (sym (eqb-true d c f)) ∙ out)))

    joins : (v w : Option ℕ) → earliest l (filter p cs) ≡ v → Goes d v w → d ≡ x → Goes d v (Some (earlier m d w))
    joins None None e g f = inr refl
    joins None (Some y) e (inl g) f = absurd (none_some y (sym g))
    joins None (Some y) e (inr g) f = let s = same_some y d g in inr (ap Some (rw s (choose (ltb (m d) (m d)))))
      where
        choose : (b : Bool) → cond b d d ≡ d
        choose true = refl
        choose false = refl
    joins (Some c) w e g f =
        let o = other c e in rw (g, sooner (m c) (m d) (below c o.0)) refl

    keeps : (v w : Option ℕ) → earliest l (filter p cs) ≡ v → Goes d v w → eqb d x ≡ false → p x ≡ true →
        Some (earlier m x w) ≡ Some (earlier l x v)
    keeps None None e g f t = refl
    keeps None (Some y) e (inl g) f t = absurd (none_some y (sym g))
    keeps None (Some y) e (inr g) f t = let s = same_some y d g in rw (s, later (m x) (m d) (below x t)) refl
    keeps (Some c) w e g f t = let o = other c e in rw (g, places c o.1, places x f) refl

    here : (b : Bool) → eqb d x ≡ b → (r : Bool) → p x ≡ r → (s : Bool) → q x ≡ s → (v : Option ℕ) →
        earliest l (filter p cs) ≡ v → (w : Option ℕ) → earliest m (filter q cs) ≡ w → Goes d v w →
        Goes d (earliest l (cond r (x ∷ filter p cs) (filter p cs))) (earliest m (cond s (x ∷ filter q cs) (filter q cs)))
    here true f true t s u v e w h g = absurd (true≢false (sym t ∙ (ap p (sym (eqb-true d x f)) ∙ out)))
    here true f false t false u v e w h g = rw (e, h) g
    here true f false t true u v e w h g =
        rw (e, h) (subst (λ z. Goes d v (Some (earlier m z w))) (eqb-true d x f) (joins v w e g (eqb-true d x f)))
    here false f true t true u v e w h g = rw (e, h) (keeps v w e g f t)
    here false f true t false u v e w h g = absurd (true≢false (sym t ∙ (sym (same x f) ∙ u)))
    here false f false t true u v e w h g = absurd (true≢false (sym u ∙ (same x f ∙ t)))
    here false f false t false u v e w h g = rw (e, h) g

-- ---- an event of another seat

-- what the turn hangs on
turn_at : (head : Head) (xs : List Event) (k c : ℕ) → to_begin head xs ≡ [] →
    earliest (λ d. last_event d xs) (own_walks head xs k) ≡ Some c → turn_of head xs k ≡ Some c
unfolding turn_of
turn_at head xs k c n h = ap (λ z. if_empty z (earliest (λ d. last_event d xs) (own_walks head xs k))) n ∙ h

turn_was : (head : Head) (xs : List Event) (k c : ℕ) → to_begin head xs ≡ [] → turn_of head xs k ≡ Some c →
    earliest (λ d. last_event d xs) (own_walks head xs k) ≡ Some c
unfolding turn_of
turn_was head xs k c n h = sym (ap (λ z. if_empty z (earliest (λ d. last_event d xs) (own_walks head xs k))) n) ∙ h

-- an event that leaves the walks, their entries and the operation
pub turn_same : (head : Head) (xs : List Event) (e : Event) (k c : ℕ) → IsNoThread xs k → IsNoThread (xs ++ e ∷ []) k →
    ((f : ℕ) (w : Option Walk) → walk_step f w xs e ≡ w) → ((f : ℕ) (es : List Event) → entries_step f es xs e ≡ es) →
    ((cs : List ℕ) → walking_step cs xs e ≡ cs) → ((o : Option Operation) → operation_step o xs e ≡ o) →
    ((cs : List ℕ) → begun_step cs xs e ≡ cs) → ((f n : ℕ) → last_step f n xs e ≡ n) →
    turn_of head xs k ≡ Some c → turn_of head (xs ++ e ∷ []) k ≡ Some c
turn_same head xs e k c none none' w es cs o b l h =
    let ys : List Event = xs ++ e ∷ [] in
    let n = (turn_own head xs k c h).none_left in
    let op : operation ys ≡ operation xs = operation_push xs e ∙ o (operation xs) in
    let bg : begun ys ≡ begun xs = begun_push xs e ∙ b (begun xs) in
    let left : to_begin head ys ≡ [] =
    ap (λ z. to_begin_of head z ys) op ∙ (left_same head (operation xs) xs ys bg ∙ n)
    in
    let own : (f : ℕ) → is_by k (next_of_walk head ys f (walk f ys)) ≡ is_by k (next_of_walk head xs f (walk f xs)) =
    λ f.
    owned head ys k f none'
    ∙ (rw (walk_push f xs e, walk_entries_push f xs e, w f (walk f xs), es f (walk_entries f xs)) (sym (owned head xs k f none)))
    in
    let places : (f : ℕ) → last_event f ys ≡ last_event f xs = λ f. last_push f xs e ∙ l f (last_event f xs) in
    let walks : walking ys ≡ walking xs = walking_push xs e ∙ cs (walking xs) in
    turn_at head ys k c left
    ((λ i. earliest (λ d. places d i) (filter (λ f. own f i) (walks i))) ∙ turn_was head xs k c n h)

-- an entry of another walk, by its thread
turn_beside : (head : Head) (xs : List Event) (j d state inst : ℕ) (dir : Dir) (how : How) (k c : ℕ) → IsNoThread xs k →
    IsNoThread (xs ++ Call j d state inst dir how ∷ []) k → InWalk head xs j d state inst dir how → (j ≡ k → ⊥) →
    turn_of head xs k ≡ Some c → turn_of head (xs ++ Call j d state inst dir how ∷ []) k ≡ Some c
turn_beside head xs j d state inst dir how k c none none' i apart h =
    let e : Event = Call j d state inst dir how in
    let ys : List Event = xs ++ e ∷ [] in
    let n = (turn_own head xs k c h).none_left in
    let left : to_begin head ys ≡ [] =
    ap (λ z. to_begin_of head z ys) (operation_push xs e) ∙ (left_same head (operation xs) xs ys (begun_push xs e) ∙ n)
    in
    let was = turn_was head xs k c n h in
    let now = stays (λ f. last_event f xs) (λ f. last_event f ys) (λ f. is_by k (next_of_walk head xs f (walk f xs)))
    (λ f. is_by k (next_of_walk head ys f (walk f ys))) d theirs others places below (walking xs)
    in
    turn_at head ys k c left
    (ap (λ z. earliest (λ f. last_event f ys) (filter (λ f. is_by k (next_of_walk head ys f (walk f ys))) z)) (walking_push xs e)
    ∙ subst (λ z. Goes d z (earliest (λ f. last_event f ys) (filter (λ f. is_by k (next_of_walk head ys f (walk f ys))) (walking xs)))) was now)
  where
    e1 : Event
    e1 = Call j d state inst dir how

    -- the entry is another seat's
    theirs : is_by k (next_of_walk head xs d (walk d xs)) ≡ false
    theirs = ap (is_by k) (by_walk.gives_entry head xs j d state inst dir how i) ∙ go (eqb j k) refl
      where
        go : (b : Bool) → eqb j k ≡ b → b ≡ false
        go false q = refl
        go true q = absurd (apart (eqb-true j k q))

    others : (f : ℕ) → eqb d f ≡ false →
        is_by k (next_of_walk head (xs ++ e1 ∷ []) f (walk f (xs ++ e1 ∷ []))) ≡ is_by k (next_of_walk head xs f (walk f xs))
    others f q =
        owned head (xs ++ e1 ∷ []) k f none'
        ∙ (rw (walk_push f xs e1, walk_entries_push f xs e1, q) (sym (owned head xs k f none)))

    places : (f : ℕ) → eqb d f ≡ false → last_event f (xs ++ e1 ∷ []) ≡ last_event f xs
    places f q = last_push f xs e1 ∙ rw q refl

    last_here : last_event d (xs ++ e1 ∷ []) ≡ length xs
    last_here = let self = eq-eqb d d refl in last_push d xs e1 ∙ rw self refl

    below : (f : ℕ) → is_by k (next_of_walk head xs f (walk f xs)) ≡ true →
        last_event f (xs ++ e1 ∷ []) < last_event d (xs ++ e1 ∷ [])
    below f t = go (walk f xs) refl (eqb d f) refl
      where
        go : (v : Option Walk) → walk f xs ≡ v → (b : Bool) → eqb d f ≡ b →
            last_event f (xs ++ e1 ∷ []) < last_event d (xs ++ e1 ∷ [])
        go None a b q = absurd (false≢true (sym (ap (λ z. is_by k (next_of_walk head xs f z)) a) ∙ t))
        go (Some w) a true q =
            absurd (true≢false (sym t ∙ subst (λ z. is_by k (next_of_walk head xs z (walk z xs)) ≡ false) (eqb-true d f q) theirs))
        go (Some w) a false q =
            let p = places f q in
            let l = last_before f w xs a in
            let m = last_here in
            omega arith

-- whatever comes next of another seat
pub turn_stays : (head : Head) (xs : List Event) (e : Event) (o : Operation) (c : ℕ) → Owners xs → Comes head xs e →
    operation xs ≡ Some o → is_upmany o.op ≡ true → seat_of e ≢ o.seat → turn_of head xs o.seat ≡ Some c →
    turn_of head (xs ++ e ∷ []) o.seat ≡ Some c
turn_stays head xs (Enter seat op) o c own h held u apart t =
    absurd (none_some o (sym (map_free xs op h.takes_map h.passes.not_waiting) ∙ held))
turn_stays head xs (WalkBegin seat cpu from to) o c own h held u apart t =
    let same : h.of ≡ o = same_some h.of o (sym h.held ∙ held) in absurd (apart (sym h.seat_is ∙ ap (λ z. z.seat) same))
turn_stays head xs (WalkEnd seat cpu answer) o c own h held u apart t =
    let q = own.walk_op cpu h.of h.in_flight in
    let same : q.0 ≡ o = same_some q.0 o (sym q.1 ∙ held) in
    absurd (apart (sym h.seat_is ∙ (sym q.2 ∙ ap (λ z. z.seat) same)))
turn_stays head xs (OpEnd seat answer) o c own h held u apart t = absurd (go h)
  where
    go : IsOver head xs seat answer ⊎ IsCut head xs seat answer → ⊥
    go (inl v) =
        let same : v.of ≡ o = same_some v.of o (sym v.held ∙ held) in apart (sym v.seat_is ∙ ap (λ z. z.seat) same)
    go (inr v) =
        let b = v.begins in
        let same : b.of ≡ o = same_some b.of o (sym b.held ∙ held) in apart (sym b.seat_is ∙ ap (λ z. z.seat) same)
turn_stays head xs (Call seat cpu state inst dir how) o c own h held u apart t = go h
  where
    none : IsNoThread xs o.seat
    none d a = ap_no_client xs d o.seat own a (own.op_client o held)

    ys : List Event
    ys = xs ++ Call seat cpu state inst dir how ∷ []

    none' : IsNoThread ys o.seat
    none' d a =
        let later = owners_step head xs (Call seat cpu state inst dir how) h own in
        ap_no_client ys d o.seat later a (later.op_client o (operation_push xs (Call seat cpu state inst dir how) ∙ held))

    go : InWalk head xs seat cpu state inst dir how ⊎ InRegistration head xs seat cpu state inst dir how →
        turn_of head ys o.seat ≡ Some c
    go (inl i) = turn_beside head xs seat cpu state inst dir how o.seat c none none' i apart t
    go (inr r) =
        let w = turn_own head xs o.seat c t in
        let alone = own.batch_alone (walking_begun xs o c w.of own held u w.in_flight) in
        let at = r.entry.in_flight in
        absurd (true≢false (rw at at alone.1))
turn_stays head xs e o c own h held u apart t =
    turn_same head xs e o.seat c (λ d a. ap_no_client xs d o.seat own a (own.op_client o held))
    (λ d a.
    let later = owners_step head xs e h own in
    ap_no_client (xs ++ e ∷ []) d o.seat later a (later.op_client o (operation_push xs e ∙ held)))
    (λ f w. refl) (λ f es. refl) (λ cs. refl) (λ v. refl) (λ cs. refl) (λ f n. refl) t

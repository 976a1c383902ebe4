-- The seat of a processor's thread: so many as there are present processors below. From a thread's seat nothing is due but of its own
-- processor.
use Rattle.std.proofs.Common.{◌≡◌, ℕ, zero, suc, ◌+◌, ◌-◌, ◌<◌, ◌≤◌, Bool, true, false, cond, eqb, ltb, IfSome, Option, Some, None, List, [], ◌∷◌, ◌++◌, length, length-append, refl, ap, sym, subst, ◌∙◌, inl, inr, ◌⊎◌, arith}
use Rattle.std.proofs.lemmas.Bool.{true≢false, false≢true, eqb-true, ltb-true, ltb-false}
use Rattle.std.below.core.specs.declared.int.u32.TheConstants as u32
use Rattle.hp_model.proofs.Roster.{threads_past, over_from_append}
use Rattle.hp_states.proofs.Basics.{none_some, same_some}
use Rattle.hp_states.specs.declared.dir.Dir.{Dir}
use Rattle.hp_event.specs.declared.how.How.{How}
use Rattle.hp_event.specs.declared.op.Op.{Op}
use Rattle.hp_event.specs.declared.event.Role.TheVariants.{Client, Ap}
use Rattle.hp_event.specs.declared.head.Head.{Head}
use Rattle.hp_event.specs.declared.event.Event.{Event}
use Rattle.hp_event.specs.declared.event.Event.TheVariants.{Admit, Leave, Call}
use Rattle.hp_account.specs.UnderWay.{IsDueOn, IsThreadDue, NoThreadDue}
use Rattle.hp_model.specs.Journal.{over_from}
use Rattle.hp_model.specs.Admissions.{admissions, ap_admits, client_admits}
use Rattle.hp_model.specs.Events.{seat_of, is_call, BelongsTo}
use Rattle.hp_model.specs.Lawful.{IsLawful, Stands}
use Rattle.hp_model.specs.Lent.{cpu_of}
use Rattle.hp_model.specs.NextEvent.{due_entry, next_event, is_full}
use Rattle.hp_model.specs.Processors.{is_present, present}
use Rattle.hp_model.specs.Caller.{is_made_by_ap}
use Rattle.hp_model.specs.Scripts.{IsScript}
use Rattle.hp_model.specs.ScriptRun.{start}
use Rattle.hp_model.specs.ScriptTurns.{RunState, unanswered, after_entry, after_event, after_asking, turn, after_turns}
use Rattle.hp_model.specs.Seats.{ap_seat, ap_step, role_of}
use Rattle.hp_model.specs.StandsCalls.{Calls}
use Rattle.hp_model.proofs.DueGives.{due_stands}
use Rattle.hp_model.proofs.Going.{IsGoing, asks_allowed, turn_going, turns_going, start_going}
use Rattle.hp_model.proofs.Laws.{ap_push}
use Rattle.hp_model.proofs.NextStands.{next_belongs}
use Rattle.hp_model.proofs.OneNext.{owners}
use Rattle.hp_model.proofs.Stages.{called_by}
use Rattle.hp_model.proofs.EntryProcessors.{call_present, present_below as there_possible}
use Rattle.hp_actors.specs.RunInvariant.{IsReached}
use Rattle.hp_actors.proofs.Admissions.{present_below, present_there, present_not, aps_append}

-- ---- how many present processors are below

present_more : (head : Head) (a d : ℕ) → length (present_below head a) ≤ length (present_below head (a + d))
present_more head a zero = let e : a + 0 ≡ a = omega arith in rw e (omega arith)
present_more head a (suc d) = go (is_present head (a + d)) refl (present_more head a d)
  where
    e : a + suc d ≡ (a + d) + 1
    e = omega arith

    go : (b : Bool) → is_present head (a + d) ≡ b → length (present_below head a) ≤ length (present_below head (a + d)) →
        length (present_below head a) ≤ length (present_below head (a + suc d))
    go true f le =
        let l = length-append (present_below head (a + d)) ((a + d) ∷ []) in
        let n : length (present_below head (a + suc d)) ≡ length (present_below head (a + d) ++ (a + d) ∷ []) =
        ap (λ z. length (present_below head z)) e ∙ ap length (present_there head (a + d) f) in
        omega (arith, le, l, n)
    go false f le =
        let n : length (present_below head (a + suc d)) ≡ length (present_below head (a + d)) =
        ap (λ z. length (present_below head z)) e ∙ ap length (present_not head (a + d) f) in
        omega (arith, le, n)

pub below_rises : (head : Head) (a b : ℕ) → a ≤ b → length (present_below head a) ≤ length (present_below head b)
below_rises head a b le =
    let e : a + (b - a) ≡ b = omega (arith, le) in
    subst (λ z. length (present_below head a) ≤ length (present_below head z)) e (present_more head a (b - a))

pub below_next : (head : Head) (c : ℕ) → is_present head c ≡ true →
    length (present_below head (c + 1)) ≡ length (present_below head c) + 1
below_next head c there =
    let l = length-append (present_below head c) (c ∷ []) in
    let n = ap length (present_there head c there) in
    omega (arith, l, n)

pub below_past : (head : Head) (a b : ℕ) → is_present head a ≡ true → a < b →
    length (present_below head a) < length (present_below head b)
below_past head a b there less =
    let n = below_next head a there in
    let m = below_rises head (a + 1) b (omega (arith, less)) in
    omega (arith, n, m)

-- ---- the seat of a thread

-- a processor that is present has the seat of its number among these
pub record IsSeatOf (head : Head) (cpu seat : ℕ) : Type 0 where
  pub there : is_present head cpu ≡ true
  pub seat_is : seat ≡ length (present_below head cpu)

-- one processor more
seat_step : (head : Head) (c n k : ℕ) → is_present head n ≡ true → (before : List Event) (found : Option ℕ) →
    (found ≡ Some k → IsSeatOf head c k) → ap_step c found before (Admit (0 + length (present_below head n)) (Ap n)) ≡ Some k →
    IsSeatOf head c k
seat_step head c n k there before found known at = go (eqb n c) refl at
  where
    go : (b : Bool) → eqb n c ≡ b → cond b (Some (0 + length (present_below head n))) found ≡ Some k → IsSeatOf head c k
    go true e h =
        let same : n ≡ c = eqb-true n c e in
        let s = same_some (0 + length (present_below head n)) k h in
        let l : length (present_below head n) ≡ length (present_below head c) = ap (λ z. length (present_below head z)) same in
        record { there = sym (ap (is_present head) same) ∙ there; seat_is = omega (arith, s, l) }
    go false e h = known h

threads_below : (head : Head) (c k n : ℕ) → over_from (ap_step c) None [] (ap_admits 0 (present_below head n)) ≡ Some k →
    IsSeatOf head c k
threads_below head c k zero h = absurd (none_some k h)
threads_below head c k (suc n) h = go (is_present head n) refl (λ at. threads_below head c k n at)
  where
    e : n + 1 ≡ suc n
    e = omega arith

    go : (b : Bool) → is_present head n ≡ b →
        (over_from (ap_step c) None [] (ap_admits 0 (present_below head n)) ≡ Some k → IsSeatOf head c k) → IsSeatOf head c k
    go true f known =
        let split =
        ap (λ z. ap_admits 0 (present_below head z)) (sym e)
        ∙ (ap (ap_admits 0) (present_there head n f) ∙ aps_append 0 (present_below head n) (n ∷ [])) in
        seat_step head c n k f (ap_admits 0 (present_below head n))
        (over_from (ap_step c) None [] (ap_admits 0 (present_below head n))) known
        (sym (ap (over_from (ap_step c) None []) split
        ∙ over_from_append (ap_step c) None [] (ap_admits 0 (present_below head n))
        (Admit (0 + length (present_below head n)) (Ap n) ∷ []))
        ∙ h)
    go false f known =
        known
        (sym (ap (λ z. over_from (ap_step c) None [] (ap_admits 0 z)) (ap (present_below head) (sym e) ∙ present_not head n f)) ∙ h)

first_seat : (head : Head) (actors : List (List Op)) (c k : ℕ) → ap_seat c (admissions head actors) ≡ Some k → IsSeatOf head c k
unfolding ap_seat
first_seat head actors c k h =
    threads_below head c k head.possible
    (sym (over_from_append (ap_step c) None [] (ap_admits 0 (present head)) (client_admits (length (present head)) actors)
    ∙ threads_past c (length (present head)) actors (ap_admits 0 (present head)) (over_from (ap_step c) None [] (ap_admits 0 (present head))))
    ∙ h)

-- no turn of a run changes it
seat_kept : (e : Event) (c : ℕ) (xs : List Event) → (is_call e ≡ true) ⊎ ((op : Op) × BelongsTo op e) →
    ap_seat c (xs ++ e ∷ []) ≡ ap_seat c xs
seat_kept e c xs t = ap_push c xs e ∙ go e (ap_seat c xs) t
  where
    go : (e : Event) (found : Option ℕ) → (is_call e ≡ true) ⊎ ((op : Op) × BelongsTo op e) → ap_step c found xs e ≡ found
    go (Admit seat role) found (inl h) = absurd (false≢true h)
    go (Admit seat role) found (inr h) = elim h.1 [ ]
    go (Leave seat) found (inl h) = absurd (false≢true h)
    go (Leave seat) found (inr h) = elim h.1 [ ]
    go e found h = refl

entry_keeps : (head : Head) (k c : ℕ) (at : RunState) (o : Option Event) → due_entry head at.events k ≡ o →
    ap_seat c (after_entry o at).events ≡ ap_seat c at.events
entry_keeps head k c at None f = refl
entry_keeps head k c at (Some e) f = seat_kept e c at.events (inl (due_stands head at.events k e f).1)

event_keeps : (head : Head) (actors : List (List Op)) (k i c : ℕ) (op : Op) (at : RunState) → IsScript head actors →
    IsGoing head actors at → k ≡ length (present head) + i → unanswered actors at.answers i ≡ Some op → (o : Option Event) →
    next_event head at.events k op ≡ o → (full : Bool) → ap_seat c (after_event i o full at).events ≡ ap_seat c at.events
event_keeps head actors k i c op at s g e u None f full = refl
event_keeps head actors k i c op at s g e u (Some x) f full =
    let a = asks_allowed head actors at.events at.answers k i op s g e u in
    seat_kept x c at.events (inr (op, next_belongs head at.events (record { seat = k; op = op }) x g.lawful a f))

asking_keeps : (head : Head) (actors : List (List Op)) (k i c : ℕ) (at : RunState) → IsScript head actors →
    IsGoing head actors at → k ≡ length (present head) + i → (o : Option Op) → unanswered actors at.answers i ≡ o →
    ap_seat c (after_asking head k i o at).events ≡ ap_seat c at.events
asking_keeps head actors k i c at s g e None u = refl
asking_keeps head actors k i c at s g e (Some op) u =
    event_keeps head actors k i c op at s g e u (next_event head at.events k op) refl (is_full head at.events k op)

turn_keeps : (head : Head) (actors : List (List Op)) (at : RunState) (k c : ℕ) → IsScript head actors → IsGoing head actors at →
    ap_seat c (turn head actors at k).events ≡ ap_seat c at.events
turn_keeps head actors at k c s g = go (ltb k P) refl
  where
    P : ℕ
    P = length (present head)

    go : (b : Bool) → ltb k P ≡ b →
        ap_seat c (cond b (after_entry (due_entry head at.events k) at) (after_asking head k (k - P) (unanswered actors at.answers (k - P)) at)).events
        ≡ ap_seat c at.events
    go true f = entry_keeps head k c at (due_entry head at.events k) refl
    go false f =
        let l = ltb-false k P f in
        asking_keeps head actors k (k - P) c at s g (omega (arith, l)) (unanswered actors at.answers (k - P)) refl

turns_keep : (head : Head) (actors : List (List Op)) (seats : List ℕ) (at : RunState) (c : ℕ) → IsScript head actors →
    IsGoing head actors at → ap_seat c (after_turns head actors at seats).events ≡ ap_seat c at.events
unfolding after_turns
turns_keep head actors [] at c s g = refl
turns_keep head actors (k ∷ ks) at c s g =
    turns_keep head actors ks (turn head actors at k) c s (turn_going head actors at k s g) ∙ turn_keeps head actors at k c s g

-- ---- what is due

-- what holds of a run that turns made
pub record IsSeated (head : Head) (xs : List Event) : Type 0 where
  pub lawful : IsLawful head xs
  pub clients : (k : ℕ) → role_of k xs ≡ Some Client → length (present head) ≤ k
  pub threads : (c k : ℕ) → ap_seat c xs ≡ Some k → IsSeatOf head c k

pub seated : (head : Head) (actors : List (List Op)) (at : RunState) → IsScript head actors → IsReached head actors at →
    IsSeated head at.events
seated head actors at s r =
    let first = start_going head actors s in
    let g : IsGoing head actors at =
    subst (λ z. IsGoing head actors z) (sym r.1) (turns_going head actors r.0 (start head actors) s first) in
    record {
      lawful = g.lawful;
      clients = λ k h. let o = g.roster.only k h in omega (arith, o.2);
      threads = λ c k h.
          first_seat head actors c k
          (sym (ap (λ (z : RunState). ap_seat c z.events) r.1 ∙ turns_keep head actors r.0 (start head actors) c s first) ∙ h);
    }

-- the entry of a thread's seat is of its processor
caller_thread : (head : Head) (xs : List Event) (seat cpu state inst : ℕ) (dir : Dir) (how : How) → IsSeated head xs →
    Calls head xs seat cpu state inst dir how → seat < length (present head) → ap_seat cpu xs ≡ Some seat
caller_thread head xs seat cpu state inst dir how s (inl w) below =
    go (called_by (is_made_by_ap state how) (ap_seat cpu xs) w.entry.of.seat seat w.caller_is)
  where
    go : (w.entry.of.seat ≡ seat) ⊎ (ap_seat cpu xs ≡ Some seat) → ap_seat cpu xs ≡ Some seat
    go (inl is) =
        let o = owners head xs s.lawful in
        let p = o.walk_op cpu w.entry.of w.entry.in_flight in
        let c = s.clients seat (subst (λ z. role_of z xs ≡ Some Client) (p.2 ∙ is) (o.op_client p.0 p.1)) in
        absurd (omega (arith, c, below))
    go (inr a) = a
caller_thread head xs seat cpu state inst dir how s (inr r) below =
    go (called_by (is_made_by_ap state how) (ap_seat cpu xs) r.entry.of.seat seat r.caller_is)
  where
    go : (r.entry.of.seat ≡ seat) ⊎ (ap_seat cpu xs ≡ Some seat) → ap_seat cpu xs ≡ Some seat
    go (inl is) =
        let o = owners head xs s.lawful in
        let c = s.clients seat (subst (λ z. role_of z xs ≡ Some Client) is (o.reg_client r.entry.of r.entry.in_flight)) in
        absurd (omega (arith, c, below))
    go (inr a) = a

by_call : (P : Event → Type 0) (head : Head) (xs : List Event) (k : ℕ) (e : Event) → due_entry head xs k ≡ Some e →
    ((cpu state inst : ℕ) (dir : Dir) (how : How) → Calls head xs k cpu state inst dir how → P (Call k cpu state inst dir how)) → P e
by_call P head xs k e due called = go e (due_stands head xs k e due)
  where
    go : (e : Event) → Stands head xs e × (is_call e ≡ true) × (seat_of e ≡ k) → P e
    go (Call j cpu state inst dir how) h =
        subst (λ z. P (Call z cpu state inst dir how)) (sym h.2)
        (called cpu state inst dir how (subst (λ z. Calls head xs z cpu state inst dir how) h.2 h.0.0))
    go e h = absurd (true≢false (sym h.1))

-- what is due from a thread's seat is due from the thread of its processor
by_thread : (head : Head) (xs : List Event) (k c : ℕ) → IsSeated head xs → IsDueOn head xs c k → k < length (present head) →
    ap_seat c xs ≡ Some k
by_thread head xs k c s d below =
    subst (λ z. ap_seat z xs ≡ Some k) d.cpu_is
    (by_call (λ e. ap_seat (cpu_of e) xs ≡ Some k) head xs k d.entry d.due
    (λ cpu state inst dir how h. caller_thread head xs k cpu state inst dir how s h below))

pub due_there : (head : Head) (xs : List Event) (k c : ℕ) → IsLawful head xs → IsDueOn head xs c k → is_present head c ≡ true
due_there head xs k c lawful d =
    subst (λ z. is_present head z ≡ true) d.cpu_is
    (by_call (λ e. is_present head (cpu_of e) ≡ true) head xs k d.entry d.due
    (λ cpu state inst dir how h. call_present head xs k cpu state inst dir how lawful h))

-- a thread's seat is below those of the clients
pub sits_below : (head : Head) (c k : ℕ) → IsSeatOf head c k → k < length (present head)
sits_below head c k t =
    let p = below_past head c head.possible t.there (there_possible head c t.there) in
    let i = t.seat_is in omega (arith, p, i)

-- ---- threads from which nothing is due

-- none of those of processors from one number on up to another
abbrev pub AreQuiet : Head → List Event → (from to : ℕ) → Type 0
AreQuiet head xs from to =
    (c k : ℕ) → from ≤ c → c < to → k < length (present head) → IsDueOn head xs c k → ⊥

pub quiet_before : (head : Head) (xs : List Event) (from to : ℕ) → IsSeated head xs → NoThreadDue head xs from to →
    AreQuiet head xs from to
quiet_before head xs from to s none = λ c k a b below d. none c k a b (record { thread_is = by_thread head xs k c s d below; due = d })

-- so nothing is due from these seats
pub seats_idle : (head : Head) (xs : List Event) (from to k : ℕ) → IsSeated head xs → AreQuiet head xs from to →
    length (present_below head from) ≤ k → k < length (present_below head to) → k < length (present head) → due_entry head xs k ≡ None
seats_idle head xs from to k s quiet low high below = go (due_entry head xs k) refl
  where
    go : (o : Option Event) → due_entry head xs k ≡ o → o ≡ None
    go None f = refl
    go (Some e) f =
        let d : IsDueOn head xs (cpu_of e) k = record { entry = e; due = f; cpu_is = refl } in
        let t = s.threads (cpu_of e) k (by_thread head xs k (cpu_of e) s d below) in
        absurd (quiet (cpu_of e) k (from_on (cpu_of e) t (ltb (cpu_of e) from) refl) (up_to (cpu_of e) t (ltb (cpu_of e) to) refl) below d)
      where
        from_on : (c : ℕ) → IsSeatOf head c k → (b : Bool) → ltb c from ≡ b → from ≤ c
        from_on c t true l =
            let p = below_past head c from t.there (ltb-true c from l) in
            let i = t.seat_is in absurd (omega (arith, p, i, low))
        from_on c t false l = ltb-false c from l

        up_to : (c : ℕ) → IsSeatOf head c k → (b : Bool) → ltb c to ≡ b → c < to
        up_to c t true l = ltb-true c to l
        up_to c t false l =
            let r = below_rises head to c (ltb-false c to l) in
            let i = t.seat_is in absurd (omega (arith, r, i, high))

-- a processor that is found has a number that a machine can have
pub due_possible : (head : Head) (xs : List Event) (from : ℕ) (found : Option (ℕ × ℕ)) → IsLawful head xs →
    IfSome found (λ due. (from ≤ due.0) × IsThreadDue head xs due.0 due.1 × NoThreadDue head xs from due.0) →
    IfSome found (λ due. due.0 < u32.MAX)
due_possible head xs from None lawful h = tt
due_possible head xs from (Some due) lawful h =
    let p = there_possible head due.0 (due_there head xs due.1 due.0 lawful h.1.due) in
    let few = lawful.0.few_possible in
    omega (arith, p, few)

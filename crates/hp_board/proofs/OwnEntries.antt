-- An entry that is a client's own to make calls no hook that is lent to another seat; and a client waits for one thread.
use Rattle.std.proofs.Common.{◌≡◌, ℕ, Bool, true, false, ◌&&◌, not, cond, Some, None, List, refl, ap, sym, ◌∙◌, subst, inl, inr, ◌⊎◌, ⊎_elim}
use Rattle.std.proofs.lemmas.Bool.{false≢true}
use Rattle.hp_states.proofs.Basics.{cases_bool, same_some, some_none}
use Rattle.hp_states.specs.declared.dir.Dir.{Dir}
use Rattle.hp_states.specs.Sections.{is_ap_state}
use Rattle.hp_event.specs.Hows.{is_called}
use Rattle.hp_event.specs.declared.how.How.{How}
use Rattle.hp_event.specs.declared.how.How.TheVariants.{RanOk, RanFault, Injected, Empty, Presumed, Overruled}
use Rattle.hp_event.specs.declared.event.Role.TheVariants.{Client}
use Rattle.hp_event.specs.declared.head.Head.{Head}
use Rattle.hp_event.specs.declared.event.Event.{Event}
use Rattle.hp_model.specs.ApTurn.{IsApTurn}
use Rattle.hp_model.specs.Caller.{is_presumed, is_made_by_ap}
use Rattle.hp_model.specs.How.{answer_at as answer_of_plan}
use Rattle.hp_model.specs.Lawful.{IsLawful}
use Rattle.hp_model.specs.MapLock.{Operation, operation}
use Rattle.hp_model.specs.NextEvent.{due_entry}
use Rattle.hp_model.specs.Registrations.{Registration, registration}
use Rattle.hp_model.specs.Seats.{ap_seat, role_of}
use Rattle.hp_model.specs.StandsCalls.{Calls, WalkEntry, RegistrationEntry}
use Rattle.hp_model.proofs.EntryStays.{due_calls}
use Rattle.hp_model.proofs.Induction.{kept}
use Rattle.hp_model.proofs.Kept.{WalkKept}
use Rattle.hp_model.proofs.OneNext.{owners}
use Rattle.hp_model.proofs.OneRegistration.{same_registration_entry}
use Rattle.hp_model.proofs.OneEntry.{SameEntry, one_walk_entry}
use Rattle.hp_model.proofs.Stages.{ap_no_client}
use Rattle.hp_table.specs.Step.{step_at, is_home}
use Rattle.hp_account.specs.declared.under_way.Entry.{Entry}
use Rattle.hp_account.specs.declared.under_way.MadeBy.TheVariants.{Hook}
use Rattle.hp_account.specs.Entries.{entry_event, how_by}
use Rattle.hp_account.specs.UnderWay.{hook_asked}
use Rattle.hp_board.specs.Contents.{Contents}
use Rattle.hp_board.specs.Loans.{is_hook, loan, AreOut}
use Rattle.hp_board.proofs.Loans.{asks_hook, not_mine}

-- an entry that its hook makes is no presumed one
not_presumed : (how : How) → is_called how ≡ true → is_presumed how ≡ false
not_presumed Presumed h = absurd (false≢true h)
not_presumed RanOk h = refl
not_presumed (RanFault code) h = refl
not_presumed Injected h = refl
not_presumed Empty h = refl
not_presumed (Overruled code) h = refl

by_section : (s : ℕ) (how : How) → is_called how ≡ true → is_made_by_ap s how ≡ is_ap_state s
by_section s how called = ap (λ p. is_ap_state s && not p) (not_presumed how called) ∙ go (is_ap_state s)
  where
    go : (b : Bool) → (b && true) ≡ b
    go true = refl
    go false = refl

-- whose operation or registration an entry is of
pub data IsOf (head : Head) (es : List Event) (k : ℕ) : Type 0 where
  of_walk : (o : Operation) → operation es ≡ Some o → o.seat ≡ k → registration es ≡ None → IsOf head es k
  of_registration : (r : Registration) → registration es ≡ Some r → r.seat ≡ k → IsOf head es k

one_of : (head : Head) (es : List Event) (k j : ℕ) → IsOf head es k → IsOf head es j → k ≡ j
one_of head es k j (of_walk o at s none) (of_walk p to t also) =
    sym s ∙ (ap (λ (x : Operation). x.seat) (same_some o p (sym at ∙ to)) ∙ t)
one_of head es k j (of_walk o at s none) (of_registration r to t) = absurd (some_none r (sym to ∙ none))
one_of head es k j (of_registration r at s) (of_walk p to t none) = absurd (some_none r (sym at ∙ none))
one_of head es k j (of_registration r at s) (of_registration q to t) =
    sym s ∙ (ap (λ (x : Registration). x.seat) (same_some r q (sym at ∙ to)) ∙ t)

-- an entry at a state that no thread serves is made by the seat of its operation
own_seat : (head : Head) (es : List Event) (k c s i : ℕ) (d : Dir) (how : How) → IsLawful head es → is_made_by_ap s how ≡ false →
    Calls head es k c s i d how → IsOf head es k
own_seat head es k c s i d how lawful unmade (inl w) =
    let at = w.entry.in_flight in
    let p = (owners head es lawful).walk_op c w.entry.of at in
    let q : WalkKept head c w.entry.of es = rw at at ((kept head es lawful).at c).kept in
    let mine = same_some w.entry.of.seat k (sym (ap (λ b. cond b (ap_seat c es) (Some w.entry.of.seat)) unmade) ∙ w.caller_is) in
    of_walk p.0 p.1 (p.2 ∙ mine) q.no_registration
own_seat head es k c s i d how lawful unmade (inr r) =
    let mine = same_some r.entry.of.seat k (sym (ap (λ b. cond b (ap_seat c es) (Some r.entry.of.seat)) unmade) ∙ r.caller_is) in
    of_registration r.entry.of r.entry.in_flight mine

-- a client makes no entry of a thread
not_by_thread : (head : Head) (es : List Event) (k c s i : ℕ) (d : Dir) (how : How) → IsLawful head es → role_of k es ≡ Some Client →
    Calls head es k c s i d how → is_made_by_ap s how ≡ false
not_by_thread head es k c s i d how lawful client calls = go (is_made_by_ap s how) refl
  where
    of_thread : is_made_by_ap s how ≡ true → Calls head es k c s i d how → ap_seat c es ≡ Some k
    of_thread is (inl w) = sym (ap (λ b. cond b (ap_seat c es) (Some w.entry.of.seat)) is) ∙ w.caller_is
    of_thread is (inr r) = sym (ap (λ b. cond b (ap_seat c es) (Some r.entry.of.seat)) is) ∙ r.caller_is

    go : (b : Bool) → is_made_by_ap s how ≡ b → b ≡ false
    go true is = absurd (ap_no_client es c k (owners head es lawful) (of_thread is calls) client)
    go false is = refl

-- so the hook of a client's own entry is home, where nothing is lent to its seat
pub own_home : (b : Contents) (by : ℕ) (x : Entry) → IsLawful b.head b.events → AreOut b → role_of by b.events ≡ Some Client →
    due_entry b.head b.events by ≡ Some (entry_event b.head b.events x) → loan b by ≡ None → x.made_by ≡ Hook →
    is_home (step_at b.places x.key.state) ≡ true
own_home b by x lawful out client due nothing made_by = ⊎_elim (λ is. is) (λ away. absurd (never away)) (cases_bool (is_home (step_at b.places x.key.state)))
  where
    never : is_home (step_at b.places x.key.state) ≡ false → ⊥
    never away =
        let head = b.head in
        let es = b.events in
        let s = x.key.state in
        let how = how_by x (answer_of_plan head es x.cpu s x.key.inst x.dir) in
        let called : is_called how ≡ true = asks_hook head es x ∙ ap is_hook made_by in
        let o = out.only s away in
        let mine = due_calls head es by x.seat x.cpu s x.key.inst x.dir how due in
        let theirs = due_calls head es o.seat o.seat o.cpu s o.inst o.dir o.how o.due in
        let role : role_of x.seat es ≡ Some Client = ap (λ k. role_of k es) mine.1 ∙ client in
        let own = not_by_thread head es x.seat x.cpu s x.key.inst x.dir how lawful role mine.0 in
        let also : is_made_by_ap s o.how ≡ false = by_section s o.how o.called ∙ (sym (by_section s how called) ∙ own) in
        let same = one_of head es o.seat x.seat (own_seat head es o.seat o.cpu s o.inst o.dir o.how lawful also theirs.0)
        (own_seat head es x.seat x.cpu s x.key.inst x.dir how lawful own mine.0) in
        not_mine b by s o nothing (same ∙ mine.1)

not_both : (head : Head) (es : List Event) (x y s i t j : ℕ) (d e : Dir) (how h : How) → IsLawful head es →
    WalkEntry head es x s i d how → RegistrationEntry head es y t j e h → ⊥
not_both head es x y s i t j d e how h lawful w r =
    let at = w.in_flight in
    let q : WalkKept head x w.of es = rw at at ((kept head es lawful).at x).kept in
    some_none r.of (sym r.in_flight ∙ q.no_registration)

-- whose next entry calls one hook
pub one_asked : (head : Head) (es : List Event) (k c d : ℕ) (a : IsApTurn head es k c) (b : IsApTurn head es k d) → IsLawful head es → c ≡ d →
    hook_asked a.state a.how ≡ hook_asked b.state b.how
one_asked head es k c d a b lawful same = go a.entry b.entry
  where
    alike : (m n : ℕ) → SameEntry a.state b.state a.inst b.inst a.dir b.dir a.how b.how m n →
        hook_asked a.state a.how ≡ hook_asked b.state b.how
    alike m n e = ap (λ s. hook_asked s a.how) e.state_same ∙ ap (hook_asked b.state) e.how_same

    go : ((e : WalkEntry head es c a.state a.inst a.dir a.how) × (e.of.seat ≡ k))
        ⊎ ((e : RegistrationEntry head es c a.state a.inst a.dir a.how) × (e.of.seat ≡ k)) →
        ((e : WalkEntry head es d b.state b.inst b.dir b.how) × (e.of.seat ≡ k))
        ⊎ ((e : RegistrationEntry head es d b.state b.inst b.dir b.how) × (e.of.seat ≡ k)) →
        hook_asked a.state a.how ≡ hook_asked b.state b.how
    go (inl w) (inl v) =
        let moved = subst (λ z. WalkEntry head es z a.state a.inst a.dir a.how) same w.0 in
        alike moved.of.seat v.0.of.seat (one_walk_entry head es d a.state b.state a.inst b.inst a.dir b.dir a.how b.how moved v.0)
    go (inl w) (inr r) = absurd (not_both head es c d a.state a.inst b.state b.inst a.dir b.dir a.how b.how lawful w.0 r.0)
    go (inr r) (inl w) = absurd (not_both head es d c b.state b.inst a.state a.inst b.dir a.dir b.how a.how lawful w.0 r.0)
    go (inr r) (inr q) =
        alike r.0.of.seat q.0.of.seat
        (same_registration_entry head es c d a.state b.state a.inst b.inst a.dir b.dir a.how b.how r.0 q.0).1

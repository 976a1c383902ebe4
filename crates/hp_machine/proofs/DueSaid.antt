-- The entry that is due from a seat is the one that is under way and the seat's to make.
use Rattle.std.proofs.Common.{◌≡◌, ℕ, ◌≤◌, Bool, true, false, not, cond, eqb, leb, ◌&&◌, Some, None, List, [], ◌∷◌, find, IfSome, IfNone, ◌⊎◌, inl, inr, refl, ap, sym, subst, ◌∙◌, arith}
use Rattle.std.proofs.lemmas.Bool.{true≢false, eqb-true, eq-eqb, leb-true, leb-false}
use Rattle.hp_states.proofs.Basics.{none_some, same_some}
use Rattle.hp_event.specs.declared.head.Head.{Head}
use Rattle.hp_event.specs.declared.event.Event.{Event}
use Rattle.hp_event.specs.declared.event.Role.TheVariants.{Client}
use Rattle.hp_model.specs.Events.{seat_of, is_call}
use Rattle.hp_model.specs.Lawful.{IsLawful}
use Rattle.hp_model.specs.Lent.{cpu_of}
use Rattle.hp_model.specs.NextEvent.{due_entry}
use Rattle.hp_model.specs.Seats.{ap_seat, role_of}
use Rattle.hp_model.specs.UnderWay.{under_way}
use Rattle.hp_model.proofs.OneNext.{owners}
use Rattle.hp_model.proofs.Stages.{ap_no_client}
use Rattle.hp_account.specs.declared.under_way.NextStep.{NextStep}
use Rattle.hp_account.specs.declared.under_way.NextStep.TheVariants as coming
use Rattle.hp_account.specs.declared.under_way.Entry.{Entry}
use Rattle.hp_account.specs.Entries.{entry_event}
use Rattle.hp_machine.specs.Next.{IsDue}
use Rattle.hp_account.specs.NextStep.{IsComing, IsByThread, IsInFlightOf, due_beyond, thread_due_beyond, end_event}
use Rattle.hp_account.specs.UnderWay.{entry_of, due_by, IsDueOn, NoneDue, IsThreadDue, NoThreadDue}

due_of : (head : Head) (events : List Event) (k : ℕ) (es : List Event) → under_way head events ≡ es →
    due_entry head events k ≡ find (λ e. is_call e && eqb (seat_of e) k) es
unfolding due_entry
due_of head events k es is = ap (find (λ e. is_call e && eqb (seat_of e) k)) is

-- an event that is no entry is due from nobody
no_entry : (k : ℕ) (e : Event) → is_call e ≡ false → find (λ x. is_call x && eqb (seat_of x) k) (e ∷ []) ≡ None
no_entry k e h = rw h refl

by_seat : (head : Head) (events : List Event) (k : ℕ) (x : Entry) →
    find (λ e. is_call e && eqb (seat_of e) k) (entry_event head events x ∷ []) ≡ cond (eqb x.seat k) (Some (entry_event head events x)) None
by_seat head events k x = refl

made : (head : Head) (events : List Event) (k : ℕ) (x : Entry) → under_way head events ≡ entry_event head events x ∷ [] →
    IsDue head events k (entry_of k (Some x))
made head events k x only = go (eqb x.seat k) (due_of head events k (entry_event head events x ∷ []) only ∙ by_seat head events k x)
  where
    go : (b : Bool) → due_entry head events k ≡ cond b (Some (entry_event head events x)) None → IsDue head events k (cond b (Some x) None)
    go true h = h
    go false h = h

pub due_is : (head : Head) (events : List Event) (k : ℕ) (what : NextStep) → IsComing head events what →
    IsDue head events k (due_by k (Some what))
due_is head events k (coming.Entry client cpu None) is = due_of head events k [] is.none
due_is head events k (coming.Entry client cpu (Some x)) is = made head events k x is.only
due_is head events k (coming.End e) is = due_of head events k (end_event e ∷ []) is.only ∙ no_entry k (end_event e) is.no_entry

-- where nothing is under way none is
pub due_none : (head : Head) (events : List Event) (k : ℕ) → under_way head events ≡ [] → due_entry head events k ≡ None
due_none head events k none = due_of head events k [] none

-- it is of its processor
due_here : (head : Head) (events : List Event) (client cpu : ℕ) (x : Entry) →
    IsComing head events (coming.Entry client cpu (Some x)) → IsDueOn head events x.cpu x.seat
due_here head events client cpu x is =
    let own = eq-eqb x.seat x.seat refl in
    record {
      entry = entry_event head events x;
      due = due_of head events x.seat (entry_event head events x ∷ []) is.only ∙ (by_seat head events x.seat x ∙ rw own refl);
      cpu_is = refl;
    }

-- and of no other
abbrev IsOf : NextStep → (cpu : ℕ) → Type 0
IsOf (coming.Entry client on (Some x)) c = x.cpu ≡ c
IsOf what c = ⊥

due_only : (head : Head) (events : List Event) (what : NextStep) (c k : ℕ) → IsComing head events what → IsDueOn head events c k →
    IsOf what c
due_only head events (coming.Entry client cpu None) c k is d =
    absurd (none_some d.entry (sym (due_of head events k [] is.none) ∙ d.due))
due_only head events (coming.Entry client cpu (Some x)) c k is d =
    go (eqb x.seat k) (sym (due_of head events k (entry_event head events x ∷ []) is.only ∙ by_seat head events k x) ∙ d.due)
  where
    go : (b : Bool) → cond b (Some (entry_event head events x)) None ≡ Some d.entry → x.cpu ≡ c
    go true h = ap cpu_of (same_some (entry_event head events x) d.entry h) ∙ d.cpu_is
    go false h = absurd (none_some d.entry h)
due_only head events (coming.End e) c k is d =
    absurd (none_some d.entry (sym (due_of head events k (end_event e ∷ []) is.only ∙ no_entry k (end_event e) is.no_entry) ∙ d.due))

-- the lowest from one on
pub beyond_some : (head : Head) (events : List Event) (from : ℕ) (what : NextStep) → IsComing head events what →
    IfSome (due_beyond from what) (λ due. (from ≤ due.0) × IsDueOn head events due.0 due.1 × NoneDue head events from due.0)
beyond_some head events from (coming.Entry client cpu None) is = tt
beyond_some head events from (coming.Entry client cpu (Some x)) is = go (leb from x.cpu) refl
  where
    go : (b : Bool) → leb from x.cpu ≡ b →
        IfSome {T = ℕ × ℕ} (cond b (Some (x.cpu, x.seat)) None)
        (λ due. (from ≤ due.0) × IsDueOn head events due.0 due.1 × NoneDue head events from due.0)
    go true e = (
      leb-true from x.cpu e,
      due_here head events client cpu x is,
      λ c k low high d.
          let same : x.cpu ≡ c = due_only head events (coming.Entry client cpu (Some x)) c k is d in omega (arith, same, high),
    )
    go false e = tt
beyond_some head events from (coming.End e) is = tt

pub beyond_none : (head : Head) (events : List Event) (from to : ℕ) (what : NextStep) → IsComing head events what →
    IfNone (due_beyond from what) (NoneDue head events from to)
beyond_none head events from to (coming.Entry client cpu None) is = λ c k low high d. due_only head events (coming.Entry client cpu None) c k is d
beyond_none head events from to (coming.Entry client cpu (Some x)) is = go (leb from x.cpu) refl
  where
    go : (b : Bool) → leb from x.cpu ≡ b → IfNone {T = ℕ × ℕ} (cond b (Some (x.cpu, x.seat)) None) (NoneDue head events from to)
    go true e = tt
    go false e = λ c k low high d.
        let same : x.cpu ≡ c = due_only head events (coming.Entry client cpu (Some x)) c k is d in
        let below = leb-false from x.cpu e in
        omega (arith, same, low, below)
beyond_none head events from to (coming.End e) is = λ c k low high d. due_only head events (coming.End e) c k is d

-- the lowest whose thread makes it, from one on
client_role : (head : Head) (events : List Event) (client : ℕ) → IsLawful head events → IsInFlightOf events client →
    role_of client events ≡ Some Client
client_role head events client lawful (inl f) =
    let o = owners head events lawful in
    let p = o.walk_op f.0 f.1 f.2 in
    subst (λ k. role_of k events ≡ Some Client) (p.2 ∙ f.3) (o.op_client p.0 p.1)
client_role head events client lawful (inr f) =
    subst (λ k. role_of k events ≡ Some Client) f.2 ((owners head events lawful).reg_client f.0 f.1)

-- what is due from the client is due from no thread
clients_own : (head : Head) (events : List Event) (client cpu : ℕ) (x : Entry) (c k : ℕ) → IsLawful head events →
    IsComing head events (coming.Entry client cpu (Some x)) → x.seat ≡ client → IsThreadDue head events c k → ⊥
clients_own head events client cpu x c k lawful is own t =
    let d = t.due in
    let same : x.seat ≡ k = go (eqb x.seat k) refl (sym (due_of head events k (entry_event head events x ∷ []) is.only ∙ by_seat head events k x) ∙ d.due) in
    ap_no_client events c k (owners head events lawful) t.thread_is
    (subst (λ z. role_of z events ≡ Some Client) (sym own ∙ same) (client_role head events client lawful is.of_client))
  where
    go : (b : Bool) → eqb x.seat k ≡ b → cond b (Some (entry_event head events x)) None ≡ Some t.due.entry → x.seat ≡ k
    go true e h = eqb-true x.seat k e
    go false e h = absurd (none_some t.due.entry h)

made_by_thread : (head : Head) (events : List Event) (client cpu : ℕ) (x : Entry) → IsComing head events (coming.Entry client cpu (Some x)) →
    eqb x.seat client ≡ false → IsThreadDue head events x.cpu x.seat
made_by_thread head events client cpu x is other = record { thread_is = go is.made_by; due = due_here head events client cpu x is }
  where
    go : (x.seat ≡ client) ⊎ IsByThread head events client cpu x.seat → ap_seat x.cpu events ≡ Some x.seat
    go (inl own) = absurd (true≢false (sym (eq-eqb x.seat client own) ∙ other))
    go (inr t) = subst (λ z. ap_seat z events ≡ Some x.seat) (sym is.cpu_is) t.thread_is

pub thread_beyond_some : (head : Head) (events : List Event) (from : ℕ) (what : NextStep) → IsLawful head events → IsComing head events what →
    IfSome (thread_due_beyond from what)
    (λ due. (from ≤ due.0) × IsThreadDue head events due.0 due.1 × NoThreadDue head events from due.0)
thread_beyond_some head events from (coming.Entry client cpu None) lawful is = tt
thread_beyond_some head events from (coming.Entry client cpu (Some x)) lawful is = go (eqb x.seat client) (leb from x.cpu) refl refl
  where
    go : (a b : Bool) → eqb x.seat client ≡ a → leb from x.cpu ≡ b →
        IfSome {T = ℕ × ℕ} (cond (not a && b) (Some (x.cpu, x.seat)) None)
        (λ due. (from ≤ due.0) × IsThreadDue head events due.0 due.1 × NoThreadDue head events from due.0)
    go true b o e = tt
    go false false o e = tt
    go false true o e = (
      leb-true from x.cpu e,
      made_by_thread head events client cpu x is o,
      λ c k low high t.
          let same : x.cpu ≡ c = due_only head events (coming.Entry client cpu (Some x)) c k is t.due in omega (arith, same, high),
    )
thread_beyond_some head events from (coming.End e) lawful is = tt

pub thread_beyond_none : (head : Head) (events : List Event) (from to : ℕ) (what : NextStep) → IsLawful head events → IsComing head events what →
    IfNone (thread_due_beyond from what) (NoThreadDue head events from to)
thread_beyond_none head events from to (coming.Entry client cpu None) lawful is =
    λ c k low high t. due_only head events (coming.Entry client cpu None) c k is t.due
thread_beyond_none head events from to (coming.Entry client cpu (Some x)) lawful is = go (eqb x.seat client) (leb from x.cpu) refl refl
  where
    go : (a b : Bool) → eqb x.seat client ≡ a → leb from x.cpu ≡ b →
        IfNone {T = ℕ × ℕ} (cond (not a && b) (Some (x.cpu, x.seat)) None) (NoThreadDue head events from to)
    go true b o e = λ c k low high t. clients_own head events client cpu x c k lawful is (eqb-true x.seat client o) t
    go false true o e = tt
    go false false o e = λ c k low high t.
        let same : x.cpu ≡ c = due_only head events (coming.Entry client cpu (Some x)) c k is t.due in
        let below = leb-false from x.cpu e in
        omega (arith, same, low, below)
thread_beyond_none head events from to (coming.End e) lawful is =
    λ c k low high t. due_only head events (coming.End e) c k is t.due

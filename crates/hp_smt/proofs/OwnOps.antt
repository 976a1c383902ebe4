-- A write's own operation: its seat may ask for it, it is in flight after its events until it is answered, no event of another seat
-- changes that, and an `up` that answers Ok(0) has brought its processor up.
use Rattle.std.proofs.Common.{◌≡◌, ◌≢◌, ℕ, ◌<◌, ◌≤◌, Bool, true, false, cond, ◌&&◌, ◌||◌, is_some, Option, Some, None, List, [], ◌∷◌, ◌++◌, length, append_assoc, refl, sym, ap, ◌∙◌, subst, inl, inr, ◌⊎◌}
use Rattle.std.specs.Prelude.{pos}
use Rattle.std.proofs.lemmas.Bool.{false≢true}
use Rattle.hp_states.proofs.Basics.{none_some, same_some, not_equal}
use Rattle.hp_event.specs.declared.answer.Answer.{Answer}
use Rattle.hp_event.specs.declared.answer.Answer.TheVariants.{Ok, Refused as refused}
use Rattle.hp_event.specs.declared.head.Head.{Head}
use Rattle.hp_event.specs.declared.event.Event.{Event}
use Rattle.hp_event.specs.declared.event.Event.TheVariants.{Enter, Refused, Call, OpEnd, RegEnd, ReadLock, ReadUnlock, Armed, Shown, Wakeup}
use Rattle.hp_event.specs.declared.event.Role.TheVariants.{Client}
use Rattle.hp_event.specs.declared.op.Op.{Op}
use Rattle.hp_model.specs.Events.{seat_of, answer_by, is_call}
use Rattle.hp_model.specs.FirstEvent.{first_event, begin_of, is_client, refused_or_begun}
use Rattle.hp_model.specs.Lawful.{Comes, Stands, IsLawful}
use Rattle.hp_model.specs.MapLock.{Operation, operation}
use Rattle.hp_model.specs.NextEvent.{next_event, next_in_flight, if_room}
use Rattle.hp_model.specs.Pending.{IsInFlight, IsAllowed}
use Rattle.hp_model.specs.Refusals.{refusal}
use Rattle.hp_model.specs.Registrations.{registration}
use Rattle.hp_model.specs.Room.{has_room}
use Rattle.hp_model.specs.Seats.{is_busy, role_of, holds_map, registers}
use Rattle.hp_model.specs.Subsystems.{names_sub}
use Rattle.hp_model.specs.Waits.{is_waiting}
use Rattle.hp_model.proofs.Laws.{operation_push, registration_push}
use Rattle.hp_model.proofs.NextStands.{next_stands}
use Rattle.hp_model.proofs.OneNext.{owners}
use Rattle.hp_model.proofs.Owners.{Owners, idle_op, idle_reg, map_free}
use Rattle.hp_board.proofs.Busy.{others_keep}
use Rattle.hp_board.proofs.GoesOn.{answer_frees}
use Rattle.hp_smt.specs.Brought.{IsBroughtUp}
use Rattle.hp_smt.specs.Modes.{own_op}
use Rattle.hp_smt.specs.Sound.{IsOwnFlight, OwnFlight}
use Rattle.hp_smt.specs.declared.mode.Control.{Control}
use Rattle.hp_smt.specs.declared.mode.Control.TheVariants.{On, Off, ForceOff}
use Rattle.hp_smt.specs.declared.setting.Write.{Write}

-- before a turn of it for a processor: nothing of the seat is in flight, or that operation
abbrev pub MayGoOn : List Event → Write → (cpu : ℕ) → Type 0
MayGoOn xs w c = (is_busy w.seat xs ≡ false) ⊎ IsOwnFlight xs w c

has_sub : (head : Head) (want : Control) (c : ℕ) → names_sub head (own_op want c) ≡ true
has_sub head On c = refl
has_sub head Off c = refl
has_sub head ForceOff c = refl

pub not_busy_none : (xs : List Event) (k : ℕ) (op : Op) → is_busy k xs ≡ false → IsInFlight xs (record { seat = k; op = op }) → ⊥
not_busy_none xs k op idle (inl f) = not_equal f.0.seat k (idle_op xs k f.0 idle f.1) f.2
not_busy_none xs k op idle (inr f) = not_equal f.0.seat k (idle_reg xs k f.0 idle f.1) f.2

-- its seat may ask for it
pub own_allowed : (head : Head) (xs : List Event) (w : Write) (c : ℕ) → IsLawful head xs → role_of w.seat xs ≡ Some Client →
    MayGoOn xs w c → IsAllowed head xs (record { seat = w.seat; op = own_op w.want c })
own_allowed head xs w c lawful client may = record {
  client = client;
  same = λ op flies. go op may flies;
  has_sub = has_sub head w.want c;
}
  where
    go : (op : Op) → MayGoOn xs w c → IsInFlight xs (record { seat = w.seat; op = op }) → op ≡ own_op w.want c
    go op (inl idle) flies = absurd (not_busy_none xs w.seat op idle flies)
    go op (inr own) (inl f) =
        let same : f.0 ≡ own.of = same_some f.0 own.of (sym f.1 ∙ own.held) in
        sym f.3 ∙ (ap (λ (o : Operation). o.op) same ∙ own.op_is)
    go op (inr own) (inr f) =
        absurd ((owners head xs lawful).apart own.of f.0 own.held f.1 (own.seat_is ∙ sym f.2))

-- ---- its first event

begin_own : (head : Head) (xs : List Event) (k : ℕ) (want : Control) (c : ℕ) → begin_of head xs k (own_op want c) ≡ Some (Enter k (own_op want c))
begin_own head xs k On c = refl
begin_own head xs k Off c = refl
begin_own head xs k ForceOff c = refl

with_room : (head : Head) (xs : List Event) (o : Option Event) (e : Event) → if_room head xs o ≡ Some e → o ≡ Some e
with_room head xs None e is = is
with_room head xs (Some f) e is = go (has_room head xs f) is
  where
    go : (b : Bool) → cond b (Some f) None ≡ Some e → Some f ≡ Some e
    go true is = is
    go false is = absurd (none_some e is)

where_so : (b : Bool) (o : Option Event) (e : Event) → cond b o None ≡ Some e → o ≡ Some e
where_so true o e is = is
where_so false o e is = absurd (none_some e is)

unless : (b : Bool) (o : Option Event) (e : Event) → cond b None o ≡ Some e → o ≡ Some e
unless true o e is = absurd (none_some e is)
unless false o e is = is

abbrev BeginsSo : (seat : ℕ) → Op → Event → Type 0
BeginsSo k op e = (e ≡ Enter k op) ⊎ ((n : ℕ) × (e ≡ Refused k n op))

begins_by : (head : Head) (xs : List Event) (k : ℕ) (want : Control) (c : ℕ) (r : Option ℕ) (e : Event) →
    refused_or_begun head xs k (own_op want c) r ≡ Some e → BeginsSo k (own_op want c) e
begins_by head xs k want c (Some n) e is = inr (n, sym (same_some (Refused k n (own_op want c)) e is))
begins_by head xs k want c None e is =
    let b = unless (is_waiting xs (own_op want c)) (begin_of head xs k (own_op want c)) e is in
    inl (sym (same_some (Enter k (own_op want c)) e (sym (begin_own head xs k want c) ∙ b)))

begins_so : (head : Head) (xs : List Event) (k : ℕ) (want : Control) (c : ℕ) (e : Event) → is_busy k xs ≡ false →
    next_event head xs k (own_op want c) ≡ Some e → BeginsSo k (own_op want c) e
unfolding next_event
begins_so head xs k want c e idle next =
    let step : if_room head xs (first_event head xs k (own_op want c)) ≡ Some e =
    sym (ap (λ b. cond b (next_in_flight head xs k) (if_room head xs (first_event head xs k (own_op want c)))) idle) ∙ next in
    begins_by head xs k want c (refusal head xs k (own_op want c)) e
    (where_so (is_client (role_of k xs) && names_sub head (own_op want c)) _ e
    (with_room head xs (first_event head xs k (own_op want c)) e step))

-- ---- after an event of it

-- an event of a seat whose operation holds the map lock leaves it held, unless it answers
stays_held : (head : Head) (xs : List Event) (e : Event) (o : Operation) → Comes head xs e → operation xs ≡ Some o → o.seat ≡ seat_of e →
    answer_by e ≡ None → operation (xs ++ e ∷ []) ≡ Some o
stays_held head xs (Enter seat op) o h held by none =
    absurd (not_equal o.seat seat (idle_op xs seat o h.free.idle held) by)
stays_held head xs (OpEnd seat answer) o h held by none = absurd (none_some answer (sym none))
stays_held head xs e o h held by none = operation_push xs e ∙ held

-- so does every event of another seat
stays_beside : (head : Head) (xs : List Event) (e : Event) (o : Operation) → Comes head xs e → operation xs ≡ Some o →
    (o.seat ≡ seat_of e → ⊥) → operation (xs ++ e ∷ []) ≡ Some o
stays_beside head xs (Enter seat op) o h held other =
    absurd (none_some o (sym (map_free xs op h.takes_map h.passes.not_waiting) ∙ held))
stays_beside head xs (OpEnd seat answer) o (inl h) held other =
    absurd (other (ap (λ (p : Operation). p.seat) (same_some o h.of (sym held ∙ h.held)) ∙ h.seat_is))
stays_beside head xs (OpEnd seat answer) o (inr h) held other =
    absurd (other (ap (λ (p : Operation). p.seat) (same_some o h.begins.of (sym held ∙ h.begins.held)) ∙ h.begins.seat_is))
stays_beside head xs e o h held other = operation_push xs e ∙ held

-- one that doesn't answer leaves it in flight
pub own_goes_on : (head : Head) (xs : List Event) (w : Write) (c : ℕ) (e : Event) → MayGoOn xs w c → w.since ≤ length xs → c < 256 →
    next_event head xs w.seat (own_op w.want c) ≡ Some e → answer_by e ≡ None → IsOwnFlight (xs ++ e ∷ []) w c
own_goes_on head xs w c e (inr own) since fits next none =
    let s = next_stands head xs w.seat (own_op w.want c) e next in
    record {
      of = own.of;
      held = stays_held head xs e own.of s.0.0 own.held (own.seat_is ∙ sym s.1) none;
      seat_is = own.seat_is;
      op_is = own.op_is;
      since_is = own.since_is;
      fits = fits;
    }
own_goes_on head xs w c e (inl idle) since fits next none = go (begins_so head xs w.seat w.want c e idle next)
  where
    go : BeginsSo w.seat (own_op w.want c) e → IsOwnFlight (xs ++ e ∷ []) w c
    go (inl is) = record {
      of = record { seat = w.seat; op = own_op w.want c; before = xs };
      held =
          subst (λ (z : Event). operation (xs ++ z ∷ []) ≡ Some (record { seat = w.seat; op = own_op w.want c; before = xs })) (sym is)
          (operation_push xs (Enter w.seat (own_op w.want c)));
      seat_is = refl;
      op_is = refl;
      since_is = since;
      fits = fits;
    }
    go (inr is) = absurd (none_some (refused is.0) (sym none ∙ ap answer_by is.1))

-- one that answers leaves nothing
pub own_answered : (head : Head) (xs : List Event) (k : ℕ) (op : Op) (e : Event) (a : Answer) → IsLawful head xs →
    next_event head xs k op ≡ Some e → answer_by e ≡ Some a → is_busy k (xs ++ e ∷ []) ≡ false
own_answered head xs k op e a lawful next is =
    let s = next_stands head xs k op e next in
    subst (λ (z : ℕ). is_busy z (xs ++ e ∷ []) ≡ false) s.1 (answer_frees head xs e lawful s.0.0 (ap is_some is))

-- an event that ends an operation in flight with an answer
ends_so : (head : Head) (xs : List Event) (e : Event) (o : Operation) (a : Answer) → Comes head xs e → operation xs ≡ Some o →
    Owners xs → o.seat ≡ seat_of e → answer_by e ≡ Some a → e ≡ OpEnd (seat_of e) a
ends_so head xs (Refused seat n op) o a h held own by is =
    absurd (not_equal o.seat seat (idle_op xs seat o h.free.idle held) by)
ends_so head xs (OpEnd seat answer) o a h held own by is = ap (OpEnd seat) (same_some answer a is)
ends_so head xs (RegEnd seat answer) o a h held own by is =
    absurd (own.apart o h.of held h.in_flight (by ∙ sym h.seat_is))
ends_so head xs (ReadLock seat) o a h held own by is = absurd (not_equal o.seat seat (idle_op xs seat o h.free.idle held) by)
ends_so head xs (ReadUnlock seat) o a h held own by is = absurd (not_equal o.seat seat (idle_op xs seat o h.free.idle held) by)
ends_so head xs (Armed seat cpu value) o a h held own by is = absurd (not_equal o.seat seat (idle_op xs seat o h.free.idle held) by)
ends_so head xs (Shown seat file cpu value) o a h held own by is = absurd (not_equal o.seat seat (idle_op xs seat o h.free.idle held) by)
ends_so head xs (Wakeup seat) o a h held own by is = absurd (not_equal o.seat seat (idle_op xs seat o h.free.idle held) by)
ends_so head xs e o a h held own by is = absurd (none_some a is)

not_refused : (n : ℕ) → Some (refused n) ≡ Some (Ok (pos 0)) → ⊥
not_refused n is = cc

-- an `up` of its own that answers Ok(0) has brought the processor up
pub own_brought : (head : Head) (xs : List Event) (w : Write) (c : ℕ) (e : Event) → IsLawful head xs → MayGoOn xs w c → w.want ≡ On →
    next_event head xs w.seat (own_op w.want c) ≡ Some e → answer_by e ≡ Some (Ok (pos 0)) → IsBroughtUp (xs ++ e ∷ []) w.since w.seat c
own_brought head xs w c e lawful (inr own) on next is =
    let s = next_stands head xs w.seat (own_op w.want c) e next in
    let ends : e ≡ OpEnd w.seat (Ok (pos 0)) =
    ends_so head xs e own.of (Ok (pos 0)) s.0.0 own.held (owners head xs lawful) (own.seat_is ∙ sym s.1) is
    ∙ ap (λ (z : ℕ). OpEnd z (Ok (pos 0))) s.1 in
    record {
      before = xs;
      rest = [];
      of = own.of;
      events_are = ap (λ (z : Event). xs ++ z ∷ []) ends;
      held = own.held;
      seat_is = own.seat_is;
      op_is = own.op_is ∙ ap (λ (z : Control). own_op z c) on;
      since_is = own.since_is;
    }
own_brought head xs w c e lawful (inl idle) on next is = go (begins_so head xs w.seat w.want c e idle next)
  where
    go : BeginsSo w.seat (own_op w.want c) e → IsBroughtUp (xs ++ e ∷ []) w.since w.seat c
    go (inl enters) = absurd (none_some (Ok (pos 0)) (sym (ap answer_by enters) ∙ is))
    go (inr refuses) = absurd (not_refused refuses.0 (sym (ap answer_by refuses.1) ∙ is))

-- and so it is of every longer journal
pub brought_more : (xs : List Event) (e : Event) (since k c : ℕ) → IsBroughtUp xs since k c → IsBroughtUp (xs ++ e ∷ []) since k c
brought_more xs e since k c b = record {
  before = b.before;
  rest = b.rest ++ e ∷ [];
  of = b.of;
  events_are =
      ap (λ (z : List Event). z ++ e ∷ []) b.events_are
      ∙ append_assoc b.before (OpEnd k (Ok (pos 0)) ∷ b.rest) (e ∷ []);
  held = b.held;
  seat_is = b.seat_is;
  op_is = b.op_is;
  since_is = b.since_is;
}

-- ---- after an event of another seat

call_keeps : (xs : List Event) (e : Event) (w : Write) (c : Option ℕ) → is_call e ≡ true → OwnFlight xs w c → OwnFlight (xs ++ e ∷ []) w c
call_keeps xs (Call seat cpu state inst dir how) w None is idle =
    ap (λ (o : Option Operation). holds_map w.seat o || registers w.seat (registration (xs ++ Call seat cpu state inst dir how ∷ [])))
    (operation_push xs (Call seat cpu state inst dir how))
    ∙ (ap (λ r. holds_map w.seat (operation xs) || registers w.seat r) (registration_push xs (Call seat cpu state inst dir how)) ∙ idle)
call_keeps xs (Call seat cpu state inst dir how) w (Some c) is own = record {
  of = own.of;
  held = operation_push xs (Call seat cpu state inst dir how) ∙ own.held;
  seat_is = own.seat_is;
  op_is = own.op_is;
  since_is = own.since_is;
  fits = own.fits;
}
call_keeps xs e w c is own = absurd (false≢true is)

-- an entry, whoever makes it
pub own_past_call : (xs : List Event) (e : Event) (w : Write) → is_call e ≡ true → OwnFlight xs w w.taking → OwnFlight (xs ++ e ∷ []) w w.taking
own_past_call xs e w is own = call_keeps xs e w w.taking is own

other_keeps : (head : Head) (xs : List Event) (e : Event) (w : Write) (c : Option ℕ) → Stands head xs e → seat_of e ≢ w.seat →
    OwnFlight xs w c → OwnFlight (xs ++ e ∷ []) w c
other_keeps head xs e w None stands other idle = others_keep head xs e w.seat stands other ∙ idle
other_keeps head xs e w (Some c) stands other own = record {
  of = own.of;
  held = stays_beside head xs e own.of stands.0 own.held (λ is. other (sym is ∙ own.seat_is));
  seat_is = own.seat_is;
  op_is = own.op_is;
  since_is = own.since_is;
  fits = own.fits;
}

pub own_past_other : (head : Head) (xs : List Event) (e : Event) (w : Write) → Stands head xs e → seat_of e ≢ w.seat →
    OwnFlight xs w w.taking → OwnFlight (xs ++ e ∷ []) w w.taking
own_past_other head xs e w stands other own = other_keeps head xs e w w.taking stands other own

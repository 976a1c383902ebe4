-- Whether a seat is busy after one event more, and the hook of the ask that comes next.
use Rattle.std.proofs.Common.{◌≡◌, ◌≢◌, ℕ, Bool, true, false, cond, not, ◌&&◌, ◌||◌, Option, Some, None, List, [], ◌∷◌, ◌++◌, refl, sym, ap, ◌∙◌, subst}
use Rattle.std.proofs.lemmas.Bool.{true≢false, eq-eqb, ne_eqb}
use Rattle.hp_model.proofs.CompletesProof.{holder}
use Rattle.hp_states.proofs.Basics.{or_true, none_of, none_some, same_some}
use Rattle.hp_event.specs.declared.answer.Answer.{Answer}
use Rattle.hp_event.specs.declared.op.Op.{Op}
use Rattle.hp_event.specs.declared.op.Op.TheVariants.{Setup}
use Rattle.hp_event.specs.declared.op.Form.{Form}
use Rattle.hp_event.specs.declared.head.Head.{Head}
use Rattle.hp_event.specs.declared.event.Event.{Event}
use Rattle.hp_event.specs.declared.event.Event.TheVariants.{Enter, OpEnd, Refused, RegBegin, RegEnd}
use Rattle.hp_model.specs.Events.{seat_of, answer_by}
use Rattle.hp_model.specs.FirstEvent.{first_event, is_client, refused_or_begun, reg_begin}
use Rattle.hp_model.specs.Lawful.{Comes, Stands}
use Rattle.hp_model.specs.MapLock.{operation, operation_step}
use Rattle.hp_model.specs.NextEvent.{next_event, next_in_flight, if_room}
use Rattle.hp_model.specs.Refusals.{refusal}
use Rattle.hp_model.specs.Registrations.{registration, registration_step}
use Rattle.hp_model.specs.Resolved.{resolved}
use Rattle.hp_model.specs.Room.{has_room}
use Rattle.hp_model.specs.Seats.{is_busy, holds_map, registers, role_of}
use Rattle.hp_model.specs.Subsystems.{names_sub}
use Rattle.hp_model.specs.Waits.{is_waiting}
use Rattle.hp_model.proofs.Laws.{operation_push, registration_push}
use Rattle.hp_model.proofs.NextStands.{next_stands}
use Rattle.hp_model.proofs.Owners.{map_free}
use Rattle.hp_model.proofs.Passing.{begins_alone}
use Rattle.hp_account.specs.TableChanges.{is_setup, brings_hook, hands_hook}
use Rattle.hp_board.specs.Hooks.{has_hook, has_hook_after}

abbrev busy_after : (k : ℕ) → List Event → Event → Bool
busy_after k xs e = holds_map k (operation_step (operation xs) xs e) || registers k (registration_step (registration xs) xs e)

pub busy_push : (k : ℕ) (xs : List Event) (e : Event) → is_busy k (xs ++ e ∷ []) ≡ busy_after k xs e
busy_push k xs e = rw (operation_push xs e, registration_push xs e) refl

keeps : (head : Head) (xs : List Event) (e : Event) (k : ℕ) → Comes head xs e → seat_of e ≢ k → busy_after k xs e ≡ is_busy k xs
keeps head xs (Enter seat op) k h other =
    let free = map_free xs op h.takes_map h.passes.not_waiting in
    let apart = ne_eqb seat k other in
    rw (free, apart) refl
keeps head xs (OpEnd seat answer) k h other =
    let o = holder head xs seat answer h in
    let apart = ne_eqb o.0.seat k (λ is. other (sym o.2 ∙ is)) in
    rw (o.1, apart) refl
keeps head xs (RegBegin seat state op) k h other =
    let free = none_of (registration xs) (begins_alone head xs op state h.state_is h.passes.not_waiting).1 in
    let apart = ne_eqb seat k other in
    rw (free, apart) refl
keeps head xs (RegEnd seat answer) k h other =
    let flies = h.in_flight in
    let apart = ne_eqb h.of.seat k (λ is. other (sym h.seat_is ∙ is)) in
    rw (flies, apart) refl
keeps head xs e k h other = refl

pub others_keep : (head : Head) (xs : List Event) (e : Event) (k : ℕ) → Stands head xs e → seat_of e ≢ k →
    is_busy k (xs ++ e ∷ []) ≡ is_busy k xs
others_keep head xs e k stands other = busy_push k xs e ∙ keeps head xs e k stands.0 other

stays : (xs : List Event) (e : Event) (k : ℕ) → seat_of e ≡ k → answer_by e ≡ None → is_busy k xs ≡ true →
    busy_after k xs e ≡ true
stays xs (Enter seat op) k by none busy = let own = eq-eqb seat k by in rw own refl
stays xs (RegBegin seat state op) k by none busy =
    let own = eq-eqb seat k by in rw own (or_true (holds_map k (operation xs)))
stays xs (OpEnd seat answer) k by none busy = absurd (none_some answer (sym none))
stays xs (RegEnd seat answer) k by none busy = absurd (none_some answer (sym none))
stays xs e k by none busy = busy

-- a seat that is busy is busy after an event of its own that is no answer
pub stays_busy : (xs : List Event) (e : Event) (k : ℕ) → seat_of e ≡ k → answer_by e ≡ None → is_busy k xs ≡ true →
    is_busy k (xs ++ e ∷ []) ≡ true
stays_busy xs e k by none busy = busy_push k xs e ∙ stays xs e k by none busy

-- the first event of a setup that isn't refused is its begin
begins : (k : ℕ) (op : Op) (state : Option ℕ) (e : Event) → reg_begin k op state ≡ Some e → (s : ℕ) × (e ≡ RegBegin k s op)
begins k op None e h = absurd (none_some e h)
begins k op (Some s) e h = (s, sym (same_some (RegBegin k s op) e h))

pub unless : (b : Bool) (o : Option Event) (e : Event) → cond b None o ≡ Some e → o ≡ Some e
unless true o e h = absurd (none_some e h)
unless false o e h = h

pub where_so : (b : Bool) (o : Option Event) (e : Event) → cond b o None ≡ Some e → o ≡ Some e
where_so true o e h = h
where_so false o e h = absurd (none_some e h)

begun : (head : Head) (xs : List Event) (k s sub : ℕ) (form : Form) (r : Option ℕ) (e : Event) →
    refused_or_begun head xs k (Setup s sub form) r ≡ Some e → answer_by e ≡ None → (t : ℕ) × (e ≡ RegBegin k t (Setup s sub form))
begun head xs k s sub form (Some errno) e h none =
    absurd (none_some (Answer.Refused errno) (sym none ∙ ap answer_by (sym (same_some (Refused k errno (Setup s sub form)) e h))))
begun head xs k s sub form None e h none =
    begins k (Setup s sub form) (resolved head xs (Setup s sub form)) e (unless (is_waiting xs (Setup s sub form)) _ e h)

pub with_room : (head : Head) (xs : List Event) (o : Option Event) (e : Event) → if_room head xs o ≡ Some e → o ≡ Some e
with_room head xs None e h = h
with_room head xs (Some x) e h = where_so (has_room head xs x) (Some x) e h

first_begins : (head : Head) (xs : List Event) (k s sub : ℕ) (form : Form) (e : Event) → is_busy k xs ≡ false →
    next_event head xs k (Setup s sub form) ≡ Some e → answer_by e ≡ None → (t : ℕ) × (e ≡ RegBegin k t (Setup s sub form))
unfolding next_event
first_begins head xs k s sub form e idle next none =
    let op : Op = Setup s sub form in
    let first : if_room head xs (first_event head xs k op) ≡ Some e =
    sym (ap (λ b. cond b (next_in_flight head xs k) (if_room head xs (first_event head xs k op))) idle) ∙ next in
    begun head xs k s sub form (refusal head xs k op) e
    (where_so (is_client (role_of k xs) && names_sub head op) _ e (with_room head xs (first_event head xs k op) e first)) none

hands_none : (xs : List Event) (e : Event) → answer_by e ≡ None → hands_hook xs e ≡ false
hands_none xs (RegEnd seat answer) none = absurd (none_some answer (sym none))
hands_none xs e none = refl

-- where a setup's turn answers nothing, its seat is busy, and the ask has no hook any more
setup_after : (head : Head) (xs : List Event) (k s sub : ℕ) (form : Form) (e : Event) →
    next_event head xs k (Setup s sub form) ≡ Some e → answer_by e ≡ None → (b : Bool) → is_busy k xs ≡ b →
    (is_busy k (xs ++ e ∷ []) ≡ true) × ((not b && not (brings_hook e)) ≡ false)
setup_after head xs k s sub form e next none true busy =
    (stays_busy xs e k (next_stands head xs k (Setup s sub form) e next).1 none busy, refl)
setup_after head xs k s sub form e next none false idle =
    let first = first_begins head xs k s sub form e idle next none in
    let own = eq-eqb k k refl in
    subst (λ x. (is_busy k (xs ++ x ∷ []) ≡ true) × ((true && not (brings_hook x)) ≡ false)) (sym first.1)
    (busy_push k xs (RegBegin k first.0 (Setup s sub form)) ∙ rw own (or_true (holds_map k (operation xs))), refl)

pub setup_goes_on : (head : Head) (xs : List Event) (e : Event) (k : ℕ) (op : Op) → is_setup op ≡ true →
    next_event head xs k op ≡ Some e → answer_by e ≡ None → is_busy k (xs ++ e ∷ []) ≡ true
setup_goes_on head xs e k (Setup s sub form) setup next none =
    (setup_after head xs k s sub form e next none (is_busy k xs) refl).0
setup_goes_on head xs e k op setup next none = absurd (true≢false (sym setup))

pub others_hook : (head : Head) (xs : List Event) (e : Event) (k : ℕ) (op : Op) → Stands head xs e → seat_of e ≢ k →
    has_hook (xs ++ e ∷ []) k op ≡ has_hook xs k op
others_hook head xs e k op stands other = ap (λ b. is_setup op && not b) (others_keep head xs e k stands other)

-- the hook that the next ask has after an event that is no answer
pub hook_again : (head : Head) (xs : List Event) (k : ℕ) (op : Op) (e : Event) → next_event head xs k op ≡ Some e →
    answer_by e ≡ None → has_hook_after xs (Some e) (has_hook xs k op) ≡ has_hook (xs ++ e ∷ []) k op
hook_again head xs k (Setup s sub form) e next none =
    let after = setup_after head xs k s sub form e next none (is_busy k xs) refl in
    let no = after.1 in
    let hands = hands_none xs e none in
    let busy = after.0 in
    rw (no, hands, busy) refl
hook_again head xs k op e next none = let hands = hands_none xs e none in rw hands refl

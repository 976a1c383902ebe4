-- What an operation begins with, as the parts of the account and the table say it.
use Rattle.std.proofs.Common.{◌≡◌, ℕ, zero, suc, ◌+◌, ◌<◌, ◌≤◌, Bool, true, false, ◌&&◌, cond, leb, is_some, is_none, Option, Some, None, List, [], ◌∷◌, length, get_or, refl, sym, ap, ◌∙◌, subst, arith}
use Rattle.std.specs.Prelude.{option_map, Result, Ok, Err, IfOk, IfErr, IsErrOf, ◌↔◌, take, min}
use Rattle.std.specs.Option.{unwrap_or}
use Rattle.std.specs.Result.{result_ok}
use Rattle.std.specs.List.{count_by}
use Rattle.std.proofs.lemmas.Bool.{true≢false}
use Rattle.std.proofs.lemmas.Bool.Decides.{nat_tests}
use Rattle.std.proofs.lemmas.List.Sums.{length-filter}
use Rattle.hp_model.proofs.ListLemmas.{filter_agree}
use Rattle.hp_states.proofs.Basics.{none_some}
use Rattle.hp_states.specs.declared.limits.TheConstants.{MAX_EVENTS, MAX_CPUS}
use Rattle.hp_states.specs.declared.section.Range.{Range}
use Rattle.hp_states.specs.Sections.{is_dynamic, range_asked_by}
use Rattle.hp_event.specs.declared.event.Role.TheVariants.{Client}
use Rattle.hp_event.specs.declared.head.Head.{Head}
use Rattle.hp_event.specs.declared.op.Form.{Form}
use Rattle.hp_event.specs.declared.op.Op.{Op}
use Rattle.hp_event.specs.declared.op.Op.TheVariants.{Setup, Remove, Add, Del}
use Rattle.hp_event.specs.declared.event.Event.{Event}
use Rattle.hp_event.specs.declared.event.Event.TheVariants.{Refused, RegBegin, WalkBegin, Call}
use Rattle.hp_locks.specs.declared.why.Why.{Why}
use Rattle.hp_model.specs.Events.{is_registration_op, is_call}
use Rattle.hp_model.specs.FirstEvent.{begin_of, first_event}
use Rattle.hp_model.specs.Heads.{IsHead}
use Rattle.hp_model.specs.Needs.{need, taken}
use Rattle.hp_model.specs.NextEvent.{next_event, is_full}
use Rattle.hp_model.specs.Processors.{present, is_present}
use Rattle.hp_model.specs.Promised.{promised}
use Rattle.hp_model.specs.Refusals.{refusal, refusals_after_waits, Passes}
use Rattle.hp_model.specs.Registrations.{registration}
use Rattle.hp_model.specs.Resolved.{lowest_free, resolved}
use Rattle.hp_model.specs.Room.{is_room, has_room}
use Rattle.hp_model.specs.Seats.{is_busy, role_of}
use Rattle.hp_model.specs.SeatWaits.{wait}
use Rattle.hp_model.specs.Subsystems.{names_sub}
use Rattle.hp_model.specs.Waits.{Wait, maps_held, readers_in, reg_in, writer_in, is_waiting, wait_to_begin}
use Rattle.hp_model.proofs.Passing.{passed, none_holds}
use Rattle.hp_suspend.proofs.Places.{count_places, passing}
use Rattle.hp_table.specs.declared.error.TableError.{TableError}
use Rattle.hp_table.specs.declared.error.TableError.TheVariants.{NoSpace}
use Rattle.hp_table.specs.Slots.{IsLowestFree, IsFull}
use Rattle.hp_table.specs.Step.{Step}
use Rattle.hp_machine.specs.Room.{CountsKeys}
use Rattle.hp_machine.specs.Blocked.{IsKeptBack}
use Rattle.hp_machine.specs.First.{IsFirst}
use Rattle.hp_account.specs.Locks.{why_of}
use Rattle.hp_machine.specs.Next.{IsKept, IsWhy}
use Rattle.hp_account.specs.Processors.{ProcessorsView, IsStanding}
use Rattle.hp_account.specs.Table.{IsTableOf}
use Rattle.hp_machine.proofs.RefusalsSaid.{none_registers}
use Rattle.hp_account.proofs.TableSays.{asks_first, lowest_alike, full_alike}

-- the slot of a range is the resolved state
pub slot_said : (head : Head) (es : List Event) (places : List (Option Step)) (range : Range) (asked sub : ℕ) (form : Form)
    (r : Result ℕ TableError) → registration es ≡ None → IsTableOf head es places → range_asked_by asked ≡ Some range →
    IfOk r (IsLowestFree places range) → (IsErrOf r NoSpace ↔ IsFull places range) → IfErr r (λ error. error ≡ NoSpace) →
    result_ok r ≡ resolved head es (Setup asked sub form)
slot_said head es places range asked sub form (Ok s) idle t is free full other =
    let first = asks_first asked range is in
    rw (first.0) (sym (lowest_alike head es places range asked s idle t first.1 free))
slot_said head es places range asked sub form (Err e) idle t is free full other =
    let first = asks_first asked range is in
    rw (first.0) (sym (full_alike head es places range asked idle t first.1 (full.0 (ap Err other))))

-- a registration that waits for nothing finds no other
pub alone_said : (es : List Event) (op : Op) → is_registration_op op ≡ true → is_waiting es op ≡ false → registration es ≡ None
alone_said es (Setup asked sub form) reg ready = none_registers es ready
alone_said es (Remove s form) reg ready = none_registers es ready
alone_said es (Add s inst form) reg ready = none_registers es ready
alone_said es (Del s inst form) reg ready = none_registers es ready
alone_said es op reg ready = absurd (true≢false (sym reg))

-- it begins at its resolved state
setup_begins : (k d s : ℕ) (op : Op) (b : Bool) (o : Option ℕ) → (b && is_none o) ≡ false →
    Some (RegBegin k (unwrap_or (cond b o (Some s)) d) op) ≡ option_map (λ n. RegBegin k n op) (cond b o (Some s))
setup_begins k d s op true None h = absurd (true≢false h)
setup_begins k d s op true (Some n) h = refl
setup_begins k d s op false o h = refl

pub register_said : (head : Head) (es : List Event) (k d : ℕ) (op : Op) → is_registration_op op ≡ true → is_busy k es ≡ false →
    Passes head es k op → Some (RegBegin k (unwrap_or (resolved head es op) d) op) ≡ begin_of head es k op
register_said head es k d (Setup asked sub form) reg idle p =
    let late =
    none_holds (refusals_after_waits head es (Setup asked sub form))
    (passed head es k (Setup asked sub form) idle p.not_waiting p.not_refused).1
    in
    setup_begins k d asked (Setup asked sub form) (is_dynamic asked) (lowest_free head asked es) late.1.0
register_said head es k d (Remove s form) reg idle p = refl
register_said head es k d (Add s inst form) reg idle p = refl
register_said head es k d (Del s inst form) reg idle p = refl
register_said head es k d op reg idle p = absurd (true≢false (sym reg))

-- as many processors are present as the head says
take_all : (xs : List Bool) (n : ℕ) → length xs ≤ n → take n xs ≡ xs
take_all [] zero h = refl
take_all [] (suc n) h = refl
take_all (x ∷ xs) zero h = absurd (omega arith)
take_all (x ∷ xs) (suc n) h = ap (λ ys. x ∷ ys) (take_all xs n (omega arith))

pub present_said : (head : Head) (es : List Event) (p : ProcessorsView) (n : ℕ) → IsHead head → IsStanding head es p →
    n ≡ min (length p.present) MAX_CPUS → count_by (λ b. b) (take n p.present) ≡ length (present head)
present_said head es p n h is all =
    let few = h.few_possible in
    let places = is.present_is.places in
    let most : length p.present ≤ n = omega (arith, few, places, all) in
    ap (count_by (λ b. b)) (take_all p.present n most) ∙ sym (length-filter (λ b. b) p.present)
    ∙ count_places p.present ∙ ap (passing (λ c. get_or p.present c false)) places
    ∙ ap length (filter_agree (λ c. get_or p.present c false) (λ c. is_present head c) head.possible is.present_is.each)

-- the first event of a client's seat that has nothing in flight
pub first_refused : (head : Head) (es : List Event) (k n : ℕ) (op : Op) → role_of k es ≡ Some Client → names_sub head op ≡ true →
    refusal head es k op ≡ Some n → first_event head es k op ≡ Some (Refused k n op)
first_refused head es k n op client names refused = rw (client, names, refused) refl

pub first_begun : (head : Head) (es : List Event) (k : ℕ) (op : Op) (e : Event) → role_of k es ≡ Some Client → names_sub head op ≡ true →
    Passes head es k op → Some e ≡ begin_of head es k op → first_event head es k op ≡ Some e
first_begun head es k op e client names p begins = rw (client, names, p.not_refused, p.not_waiting) (sym begins)

first_none : (head : Head) (es : List Event) (k : ℕ) (op : Op) → role_of k es ≡ Some Client → names_sub head op ≡ true →
    refusal head es k op ≡ None → is_waiting es op ≡ true → first_event head es k op ≡ None
first_none head es k op client names passes waits = rw (client, names, passes, waits) refl

-- whether there is room for it
pub room_said : (head : Head) (es : List Event) (n : Option ℕ) (room : ℕ) → room + length es + promised head es ≡ MAX_EVENTS →
    taken n ≤ room → is_room head es n ≡ true
room_said head es None room is few = refl
room_said head es (Some n) room is few = fits (length es + promised head es + n) (omega (arith, is, few))
  where
    fits : (m : ℕ) → m ≤ MAX_EVENTS → leb m MAX_EVENTS ≡ true
    fits m h = grind (arith, nat_tests)

pub no_room_said : (head : Head) (es : List Event) (n : Option ℕ) (room : ℕ) → room + length es + promised head es ≡ MAX_EVENTS →
    room < taken n → is_room head es n ≡ false
no_room_said head es None room is many = absurd (omega arith)
no_room_said head es (Some n) room is many = past (length es + promised head es + n) (omega (arith, is, many))
  where
    past : (m : ℕ) → MAX_EVENTS < m → leb m MAX_EVENTS ≡ false
    past m h = grind (arith, nat_tests)

pub event_said : (head : Head) (es : List Event) (k : ℕ) (op : Op) (e : Event) (room takes : ℕ) →
    room + length es + promised head es ≡ MAX_EVENTS → is_busy k es ≡ false → first_event head es k op ≡ Some e →
    takes ≡ taken (need head es e) → takes ≤ room → next_event head es k op ≡ Some e
unfolding next_event
event_said head es k op e room takes is idle first at few =
    let fits : has_room head es e ≡ true = room_said head es (need head es e) room is (omega (arith, at, few)) in
    rw (first, idle, fits) refl

pub full_said : (head : Head) (es : List Event) (k : ℕ) (op : Op) (e : Event) (room takes : ℕ) →
    room + length es + promised head es ≡ MAX_EVENTS → is_busy k es ≡ false → first_event head es k op ≡ Some e →
    takes ≡ taken (need head es e) → room < takes → is_full head es k op ≡ true
unfolding is_full
full_said head es k op e room takes is idle first at many =
    let none : has_room head es e ≡ false = no_room_said head es (need head es e) room is (omega (arith, at, many)) in
    rw (first, idle, none) refl

-- what it waits for
same_why : (x y : Why) → Some x ≡ Some y → x ≡ y
same_why x y h = cc

pub why_said : (head : Head) (es : List Event) (k : ℕ) (op : Op) (why : Why) (w : Option Wait) → refusal head es k op ≡ None →
    wait head es k op ≡ w → Some why ≡ option_map why_of w → IsWhy head es k op why
why_said head es k op why None passes is h = absurd (none_some why (sym h))
why_said head es k op why (Some w) passes is h = subst (IsWhy head es k op) (sym (same_why why (why_of w) h)) (says w is)
  where
    says : (w : Wait) → wait head es k op ≡ Some w → IsWhy head es k op (why_of w)
    says (maps_held n) h = record { not_refused = passes; wait_is = h }
    says (readers_in n) h = record { not_refused = passes; wait_is = h }
    says (reg_in n) h = record { not_refused = passes; wait_is = h }
    says (writer_in n) h = record { not_refused = passes; wait_is = h }

pub kept_said : (head : Head) (es : List Event) (k : ℕ) (op : Op) (why : Why) → role_of k es ≡ Some Client → is_busy k es ≡ false →
    names_sub head op ≡ true → IsKeptBack head es k op why → IsKept head es k op why
unfolding next_event is_full
kept_said head es k op why client idle names b =
    let none = first_none head es k op client names b.not_refused (waits (wait_to_begin es op) b.why_is) in
    record {
      no_event = rw (none, idle) refl;
      not_full = rw (none, idle) refl;
      why_is = why_said head es k op why (wait_to_begin es op) b.not_refused (rw idle refl) b.why_is;
    }
  where
    waits : (w : Option Wait) → Some why ≡ option_map why_of w → is_some w ≡ true
    waits None h = absurd (none_some why (sym h))
    waits (Some w) h = refl

-- a first event begins no walk
pub first_counts : (head : Head) (es : List Event) (places : List (Option Step)) (e : Event) → IsFirst e → CountsKeys head es places e
first_counts head es places (WalkBegin seat cpu from to) h = elim h [ ]
first_counts head es places e h = tt

-- and is no entry
pub first_no_entry : (e : Event) → IsFirst e → is_call e ≡ false
first_no_entry (Call seat cpu state inst dir how) h = elim h [ ]
first_no_entry e h = refl

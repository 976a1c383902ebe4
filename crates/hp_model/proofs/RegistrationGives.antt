-- What comes next in a registration, as a function gives it: each entry of it that can come, and its end, and nothing else.
use Rattle.std.proofs.Common.{◌≡◌, ℕ, Some, List, refl, ap, sym, ◌∙◌, subst, inl, inr, ◌⊎◌}
use Rattle.std.specs.Prelude.{option_map}
use Rattle.hp_states.specs.declared.dir.Dir.{Dir}
use Rattle.hp_event.specs.declared.how.How.{How}
use Rattle.hp_event.specs.declared.answer.Answer.{Answer}
use Rattle.hp_event.specs.declared.head.Head.{Head}
use Rattle.hp_event.specs.declared.event.Event.{Event}
use Rattle.hp_event.specs.declared.event.Event.TheVariants.{Call, RegEnd}
use Rattle.hp_model.specs.Events.{is_registration_op}
use Rattle.hp_model.specs.Registrations.{Registration, registration, registration_entries}
use Rattle.hp_model.specs.Processors.{processors}
use Rattle.hp_model.specs.Caller.{caller}
use Rattle.hp_model.specs.StandsCalls.{RegistrationEntry, InRegistration}
use Rattle.hp_model.specs.StandsRegistrations.{RegEnds}
use Rattle.hp_model.specs.RegistrationShape.{key_of, is_adding, IsWholeRegistration}
use Rattle.hp_model.specs.How.{how_in_registration}
use Rattle.hp_model.specs.Crossing.{Slot}
use Rattle.hp_model.specs.Trees.{Tree, stop, step, registration_tree}
use Rattle.hp_model.specs.Errands.{how_at}
use Rattle.hp_model.specs.UnderWay.{registration_errand, registration_left, next_of_registration}
use Rattle.hp_model.proofs.NextRegistration.{registration_follows}
use Rattle.hp_model.proofs.Cursor.{Runs}
use Rattle.hp_model.proofs.RegistrationEnd.{whole_registration, registration_answered}
use Rattle.hp_model.proofs.Errands.{IsEntry, is_entry, is_over, Given, entry_by, entry_next, end_next, IsEnd, IsMade, given_by}
use Rattle.hp_model.proofs.NextOfRegistration.{registration_entry}
use Rattle.hp_model.proofs.Stages.{RegistrationEvent}
use Rattle.hp_model.proofs.Remains.{runs_of}

-- each entry that comes next is given, by who makes it
pub registration_is_entry : (head : Head) (xs : List Event) (c state inst : ℕ) (dir : Dir) (how : How)
    (h : RegistrationEntry head xs c state inst dir how) → IsEntry (registration_errand head xs h.of) c state inst dir how
registration_is_entry head xs c state inst dir how h =
    let r = h.of in
    is_entry (registration_errand head xs r) h.slots h.slot c state inst dir how
    (registration_follows (is_adding r.op) r.state (key_of head r) (processors head r.state r.before) h.slots h.outcome h.shape)
    h.is_next h.fits h.how_is

pub gives_by_caller : (head : Head) (xs : List Event) (c state inst : ℕ) (dir : Dir) (how : How)
    (h : RegistrationEntry head xs c state inst dir how) →
    next_of_registration head xs (registration xs)
    ≡ option_map (λ k. Call k c state inst dir how) (caller xs c state how h.of.seat)
gives_by_caller head xs c state inst dir how h =
    ap (next_of_registration head xs) h.in_flight
    ∙ entry_next xs (registration_errand head xs h.of) c state inst dir how (registration_is_entry head xs c state inst dir how h)

pub gives_entry : (head : Head) (xs : List Event) (k c state inst : ℕ) (dir : Dir) (how : How) →
    InRegistration head xs k c state inst dir how →
    next_of_registration head xs (registration xs) ≡ Some (Call k c state inst dir how)
gives_entry head xs k c state inst dir how h =
    gives_by_caller head xs c state inst dir how h.entry ∙ ap (option_map (λ j. Call j c state inst dir how)) h.caller_is

-- and so is the end
pub registration_is_over : (head : Head) (xs : List Event) (r : Registration) (answer : Answer) →
    IsWholeRegistration head r (registration_entries xs) answer → registration_left head xs r ≡ stop
registration_is_over head xs r answer h =
    is_over (registration_errand head xs r) h.slots
    (registration_follows (is_adding r.op) r.state (key_of head r) (processors head r.state r.before) h.slots h.outcome h.shape) h.filled

pub gives_end : (head : Head) (xs : List Event) (k : ℕ) (answer : Answer) → RegEnds head xs k answer →
    next_of_registration head xs (registration xs) ≡ Some (RegEnd k answer)
gives_end head xs k answer h =
    ap (next_of_registration head xs) h.in_flight
    ∙ (end_next xs (registration_errand head xs h.of) answer (registration_is_over head xs h.of answer h.whole)
    (registration_answered head h.of (registration_entries xs) answer h.whole)
    ∙ ap (λ z. Some (RegEnd z answer)) h.seat_is)

pub gives : (head : Head) (xs : List Event) (k : ℕ) (e : Event) → RegistrationEvent head xs k e →
    next_of_registration head xs (registration xs) ≡ Some e
gives head xs k (Call seat cpu state inst dir how) h = rw h.0 (gives_entry head xs k cpu state inst dir how h.1)
gives head xs k (RegEnd seat answer) h = rw h.0 (gives_end head xs k answer h.1)
gives head xs k e h = elim h [ ]

-- what is given can come
entry_comes : (head : Head) (xs : List Event) (r : Registration) (s : Slot) (a b : Tree) → registration xs ≡ Some r →
    Runs (registration_tree (is_adding r.op) r.state (key_of head r) (processors head r.state r.before)) (registration_entries xs) (step s a b) →
    (k : ℕ) → caller xs s.cpu s.state (how_in_registration head xs r.op s.cpu s.state s.inst s.dir s.place) r.seat ≡ Some k →
    InRegistration head xs k s.cpu s.state s.inst s.dir (how_in_registration head xs r.op s.cpu s.state s.inst s.dir s.place)
entry_comes head xs r s a b at runs k by =
    let e = registration_entry head xs r s a b at runs in record { entry = e.1; caller_is = rw e.2 by }

pub registration_given : (head : Head) (xs : List Event) (r : Registration) (e : Event) → registration xs ≡ Some r →
    next_of_registration head xs (Some r) ≡ Some e → Given head xs r.seat is_registration_op e
registration_given head xs r e at h = go (given_by xs (registration_errand head xs r) e h)
  where
    tree : Tree
    tree = registration_tree (is_adding r.op) r.state (key_of head r) (processors head r.state r.before)

    go : IsEnd (registration_errand head xs r) e ⊎ IsMade xs (registration_errand head xs r) e → Given head xs r.seat is_registration_op e
    go (inl n) =
        let runs = runs_of tree (registration_entries xs) stop n.left_is tt in
        let whole = whole_registration head r (registration_entries xs) n.answer runs n.answer_is in
        subst (λ z. Given head xs r.seat is_registration_op z) (sym n.event_is)
        (record {
          comes = record { of = r; in_flight = at; seat_is = refl; whole = whole };
          takes_none = refl;
          by = inl (refl, λ op m. m);
        })
    go (inr n) =
        let x = n.slot in
        let runs = runs_of tree (registration_entries xs) (step x n.done_tree n.fault_tree) n.left_is tt in
        subst (λ z. Given head xs r.seat is_registration_op z) (sym n.event_is)
        (entry_by head xs r.seat is_registration_op n.seat x.cpu x.state x.inst x.dir (how_at (registration_errand head xs r) x)
        (inr (entry_comes head xs r x n.done_tree n.fault_tree at runs n.seat n.caller_is)) n.caller_is)

-- While a registration is in flight an event of it can come next: an entry, or its end.
use Rattle.std.proofs.Common.{◌≡◌, ℕ, ◌<◌, ◌≤◌, true, not, ◌&&◌, leb, Some, List, [], ◌∷◌, length, refl, ap, ◌∙◌, inl, inr, ◌⊎◌, arith}
use Rattle.std.proofs.lemmas.Bool.{and_parts}
use Rattle.std.proofs.lemmas.List.{length-map}
use Rattle.hp_states.proofs.Basics.{not_not}
use Rattle.hp_states.specs.declared.dir.Dir.{Dir}
use Rattle.hp_event.specs.declared.how.How.{How}
use Rattle.hp_event.specs.declared.answer.Answer.{Answer}
use Rattle.hp_event.specs.declared.head.Head.{Head}
use Rattle.hp_event.specs.declared.event.Event.{Event}
use Rattle.hp_model.specs.Lists.{occurs, numbers}
use Rattle.hp_model.specs.Registrations.{Registration, registration, registration_entries}
use Rattle.hp_model.specs.Processors.{is_present, processors}
use Rattle.hp_model.specs.Settled.{settled}
use Rattle.hp_model.specs.Seats.{ap_seat}
use Rattle.hp_model.specs.Entries.{is_done}
use Rattle.hp_model.specs.StandsCalls.{RegistrationEntry}
use Rattle.hp_model.specs.StandsRegistrations.{RegEnds}
use Rattle.hp_model.specs.How.{how_in_registration}
use Rattle.hp_model.specs.Faults.{Faulty, faults, registration_answer}
use Rattle.hp_model.specs.Crossing.{Slot}
use Rattle.hp_model.specs.RegistrationShape.{key_of, is_adding, ok_value}
use Rattle.hp_model.specs.UnderWay.{registration_errand, next_of_registration}
use Rattle.hp_model.proofs.NextSlot.{with_fails, Tree, stop, step}
use Rattle.hp_model.proofs.NextRegistration.{registration_tree, registration_follows}
use Rattle.hp_model.proofs.Cursor.{Runs}
use Rattle.hp_model.proofs.RegistrationCursor.{registration_shape, sound_registration, shape_outcome, end_of_registration}
use Rattle.hp_model.proofs.RegistrationEnd.{whole_registration}
use Rattle.hp_model.proofs.WalkEnd.{fill_faults}
use Rattle.hp_model.proofs.Operations.{in_filter}
use Rattle.hp_model.proofs.Kept.{RegistrationKept}
use Rattle.hp_model.proofs.TreeSteps.{IsAmong, steps_registration}
use Rattle.hp_model.proofs.Remains.{IsAt, at_end, at_step, at_tree}
use Rattle.hp_model.proofs.Errands.{IsSound, entry_at, goes}
use Rattle.hp_model.proofs.HowLemmas.{registration_fails}

-- a registration has at most one fault
answer_of_few : (value : ℕ) (fs : List Faulty) → length fs ≤ 1 → (answer : Answer) × (registration_answer value fs ≡ Some answer)
answer_of_few value [] h = (_, refl)
answer_of_few value (f ∷ []) h = (_, refl)
answer_of_few value (f ∷ (g ∷ gs)) h = absurd (omega (arith, h))

-- what comes next in a registration: its end, or an entry
pub record EndsNext (head : Head) (xs : List Event) (r : Registration) : Type 0 where
  pub answer : Answer
  pub ends : RegEnds head xs r.seat answer

pub record EntryNext (head : Head) (xs : List Event) (r : Registration) : Type 0 where
  pub cpu : ℕ
  pub state : ℕ
  pub inst : ℕ
  pub dir : Dir
  pub how : How
  pub entry : RegistrationEntry head xs cpu state inst dir how
  pub client_is : entry.of.seat ≡ r.seat
  pub present : is_present head cpu ≡ true

registration_answers : (head : Head) (xs : List Event) (r : Registration) →
    Runs (registration_tree (is_adding r.op) r.state (key_of head r) (processors head r.state r.before)) (registration_entries xs) stop →
    (answer : Answer) × (registration_answer (ok_value r.op r.state) (faults (registration_entries xs)) ≡ Some answer)
registration_answers head xs r runs =
    let cs = processors head r.state r.before in
    let e = end_of_registration (is_adding r.op) r.state (key_of head r) cs (registration_entries xs) runs in
    let few = (shape_outcome (is_adding r.op) r.state (key_of head r) cs e.slots e.outcome e.shape).1 in
    let f = ap length (fill_faults e.slots (registration_entries xs) e.filled).0
    ∙ length-map (faults (registration_entries xs)) (λ (z : Faulty). z.state) in
    answer_of_few (ok_value r.op r.state) (faults (registration_entries xs)) (omega arith)

-- the processors of a registration are present
pub processor_present : (head : Head) (s : ℕ) (xs : List Event) (c : ℕ) → 0 < occurs c (processors head s xs) → is_present head c ≡ true
processor_present head s xs c h =
    let p = in_filter (λ x. is_present head x && leb s (settled x xs)) c (numbers head.possible) h in
    (and_parts (is_present head c) (leb s (settled c xs)) p.0).0

registration_sound : (head : Head) (xs : List Event) (r : Registration) →
    IsSound (IsAmong (processors head r.state r.before)) (registration_errand head xs r)
registration_sound head xs r =
    let cs = processors head r.state r.before in
    record {
      sound = sound_registration (is_adding r.op) r.state (key_of head r) cs;
      steps = steps_registration (is_adding r.op) r.state (key_of head r) cs;
      fails = λ c s i d place first. registration_fails head xs r.op c s i d place;
    }

-- the entry at which the entries of a registration stand
pub registration_entry : (head : Head) (xs : List Event) (r : Registration) (s : Slot) (a b : Tree) → registration xs ≡ Some r →
    Runs (registration_tree (is_adding r.op) r.state (key_of head r) (processors head r.state r.before)) (registration_entries xs) (step s a b) →
    (is_present head s.cpu ≡ true)
    × (e : RegistrationEntry head xs s.cpu s.state s.inst s.dir (how_in_registration head xs r.op s.cpu s.state s.inst s.dir s.place))
    × (e.of.seat ≡ r.seat)
registration_entry head xs r s a b at runs =
    let cs = processors head r.state r.before in
    let n = entry_at (IsAmong cs) (registration_errand head xs r) s a b (registration_sound head xs r) runs in
    let g = registration_shape (is_adding r.op) r.state (key_of head r) cs n.1.slots n.1.follows in
    let fails = not (is_done (how_in_registration head xs r.op s.cpu s.state s.inst s.dir s.place)) in (
      processor_present head r.state r.before s.cpu n.0,
      record {
        of = r;
        in_flight = at;
        outcome = g.outcome;
        slots = n.1.slots;
        shape = g.shape;
        slot = with_fails s fails;
        is_next = n.1.is_next;
        fits = (refl, refl, refl, refl, not_not (is_done (how_in_registration head xs r.op s.cpu s.state s.inst s.dir s.place)));
        how_is = refl;
      },
      refl,
    )

registration_at : (head : Head) (xs : List Event) (r : Registration) → RegistrationKept head r xs →
    IsAt (registration_tree (is_adding r.op) r.state (key_of head r) (processors head r.state r.before)) (registration_entries xs)
registration_at head xs r kept =
    let cs = processors head r.state r.before in
    let f = kept.so_far in
    at_tree (registration_tree (is_adding r.op) r.state (key_of head r) cs) f.slots (registration_entries xs)
    (registration_follows (is_adding r.op) r.state (key_of head r) cs f.slots f.outcome f.shape) f.begun

pub registration_next : (head : Head) (xs : List Event) (r : Registration) → registration xs ≡ Some r → RegistrationKept head r xs →
    EndsNext head xs r ⊎ EntryNext head xs r
registration_next head xs r at kept = go (registration_at head xs r kept)
  where
    go : IsAt (registration_tree (is_adding r.op) r.state (key_of head r) (processors head r.state r.before)) (registration_entries xs) →
        EndsNext head xs r ⊎ EntryNext head xs r
    go (at_end runs) =
        let a = registration_answers head xs r runs in
        let whole = whole_registration head r (registration_entries xs) a.0 runs a.1 in
        inl (record { answer = a.0; ends = record { of = r; in_flight = at; seat_is = refl; whole = whole } })
    go (at_step s a b runs) =
        let e = registration_entry head xs r s a b at runs in
        inr (record {
          cpu = s.cpu;
          state = s.state;
          inst = s.inst;
          dir = s.dir;
          how = how_in_registration head xs r.op s.cpu s.state s.inst s.dir s.place;
          entry = e.1;
          client_is = e.2;
          present = e.0;
        })

-- so something does, where the threads of the present processors are in
pub registration_goes : (head : Head) (xs : List Event) (r : Registration) → RegistrationKept head r xs →
    ((c : ℕ) → is_present head c ≡ true → (k : ℕ) × (ap_seat c xs ≡ Some k)) →
    (e : Event) × (next_of_registration head xs (Some r) ≡ Some e)
registration_goes head xs r kept threads =
    goes xs (IsAmong (processors head r.state r.before)) (registration_errand head xs r) (registration_sound head xs r)
    (registration_at head xs r kept) (registration_answers head xs r)
    (λ x on. threads x.cpu (processor_present head r.state r.before x.cpu on))

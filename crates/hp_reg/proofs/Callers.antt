-- For callers that keep a journal: what the table, the settled states and the absent processors say is what the events
-- say, and the steps of a registration are the rows of its entries and of its end.
use Rattle.std.proofs.Common.{◌≡◌, ℕ, zero, suc, ◌+◌, ◌<◌, ◌≤◌, Bool, true, false, cond, ◌&&◌, leb, Option, Some, List, [], ◌∷◌, filter, length, length-append, refl, arith}
use Rattle.std.specs.Prelude.{AllPairs, slice_index}
use Rattle.std.proofs.lemmas.Bool.{lt-ltb}
use Rattle.std.proofs.lemmas.List.Elements.{filter-append}
use Rattle.hp_model.proofs.ListLemmas.{filter_agree}
use Rattle.hp_states.specs.declared.dir.Dir.{Dir}
use Rattle.hp_states.specs.declared.place.Place.{Place}
use Rattle.hp_event.specs.declared.op.Op.{Op}
use Rattle.hp_event.specs.declared.op.Op.TheVariants.{Setup, Remove, Add, Del}
use Rattle.hp_event.specs.declared.answer.Answer.{Answer}
use Rattle.hp_event.specs.declared.how.How.{How}
use Rattle.hp_event.specs.declared.head.Head.{Head}
use Rattle.hp_event.specs.declared.event.Event.{Event}
use Rattle.hp_event.specs.declared.event.Event.TheVariants.{Call}
use Rattle.hp_model.specs.Lists.{numbers}
use Rattle.hp_model.specs.Settled.{settled}
use Rattle.hp_model.specs.Processors.{is_present, processors}
use Rattle.hp_model.specs.Registered.{Registered}
use Rattle.hp_model.specs.Registrations.{Registration, registration, registration_entries}
use Rattle.hp_model.specs.RegistrationShape.{key_of_op, key_of}
use Rattle.hp_model.specs.How.{how_in_registration}
use Rattle.hp_model.specs.Caller.{caller}
use Rattle.hp_model.specs.StandsCalls.{InRegistration}
use Rattle.hp_model.specs.StandsRegistrations.{RegEnds}
use Rattle.hp_table.specs.Step.{Step}
use Rattle.hp_reg.specs.Concerned.{is_concerned, concerned, key_in}
pub use Rattle.hp_reg.specs.Known.{IsKnown}
use Rattle.hp_reg.specs.Progress.{Progress}
use Rattle.hp_reg.specs.Asked.{asked}
use Rattle.hp_reg.specs.After.{IsNextEntry, IsWhole}
use Rattle.hp_reg.specs.declared.step.RegStep.{RegStep}
use Rattle.hp_reg.proofs.Lowest.{filter_rises}

-- the processors concerned are those of the events, where the settled states are and all possible processors have one
pub concerned_processors : (head : Head) (s : ℕ) (before : List Event) (stands : List ℕ) → length stands ≡ head.possible →
    ((c : ℕ) → c < head.possible → settled c before ≡ slice_index stands c) →
    processors head s before ≡ concerned s stands head.absent
concerned_processors head s before stands e h =
    rw e
    (filter_agree (λ c. is_present head c && leb s (settled c before)) (is_concerned s stands head.absent) head.possible
    (λ c b. rw (lt-ltb c head.possible b, h c b) refl))

-- they are in rising number, by either account
pub concerned_rise : (s : ℕ) (stands absent : List ℕ) → AllPairs (λ c d. c < d) (concerned s stands absent)
concerned_rise s stands absent = filter_rises (is_concerned s stands absent) (length stands)

pub processors_rise : (head : Head) (s : ℕ) (before : List Event) → AllPairs (λ c d. c < d) (processors head s before)
processors_rise head s before = filter_rises (λ c. is_present head c && leb s (settled c before)) head.possible

-- there are at most as many as processors are possible
pub concerned_few : (s : ℕ) (stands absent : List ℕ) → length (concerned s stands absent) ≤ length stands
concerned_few s stands absent = few (is_concerned s stands absent) (length stands)
  where
    few : (p : ℕ → Bool) (n : ℕ) → length (filter p (numbers n)) ≤ n
    few p zero = omega arith
    few p (suc n) =
        let h : length (filter p (numbers n)) ≤ n = few p n in
        rw (filter-append p (numbers n) (n ∷ []), length-append (filter p (numbers n)) (filter p (n ∷ []))) (last (p n) h)
      where
        last : (b : Bool) → length (filter p (numbers n)) ≤ n → length (filter p (numbers n)) + length (cond b (n ∷ []) []) ≤ suc n
        last true h = omega arith
        last false h = omega arith

pub key_known : (head : Head) (op : Op) (found : Option Registered) (place : Option Step) → IsKnown head op found place →
    key_of_op head op found ≡ key_in op place
key_known head (Setup state sub form) found place h = h
key_known head (Remove state form) found place h = h
key_known head (Add state inst form) found place h = refl
key_known head (Del state inst form) found place h = refl
key_known head op found place h = refl

-- what is asked for, by another account of the key and the processors
pub asked_with : (key known : Option ℕ) (cpus known_cpus : List ℕ) (p : Progress) (next : RegStep) → key ≡ known → cpus ≡ known_cpus →
    next ≡ asked key cpus p → next ≡ asked known known_cpus p
asked_with key known cpus known_cpus p next e f h = rw (← e, ← f) h

-- an entry that goes on with the registration in flight stands
pub in_registration : (head : Head) (before : List Event) (of : Registration) (p : Progress) (seat cpu state inst : ℕ) (dir : Dir)
    (how : How) (place : Place) → registration before ≡ Some of → p.op ≡ of.op → p.state ≡ of.state →
    IsNextEntry (key_of head of) (processors head of.state of.before) (registration_entries before) p place (Call seat cpu state inst dir how) →
    how ≡ how_in_registration head before of.op cpu state inst dir place → caller before cpu state how of.seat ≡ Some seat →
    InRegistration head before seat cpu state inst dir how
in_registration head before of p seat cpu state inst dir how place f o s n h c = record {
  entry = record {
    of = of;
    in_flight = f;
    outcome = n.outcome;
    slots = n.slots;
    shape = rw (o, s) at n.shape;
    slot = n.slot;
    is_next = n.is_next;
    fits = n.fits;
    how_is = rw n.place_is h;
  };
  caller_is = c;
}

-- the end of the registration in flight stands
pub reg_ends : (head : Head) (before : List Event) (of : Registration) (p : Progress) (seat : ℕ) (answer : Answer) →
    registration before ≡ Some of → of.seat ≡ seat → p.op ≡ of.op → p.state ≡ of.state →
    IsWhole (key_of head of) (processors head of.state of.before) (registration_entries before) p answer →
    RegEnds head before seat answer
reg_ends head before of p seat answer f i o s w = record {
  of = of;
  in_flight = f;
  seat_is = i;
  whole = record {
    outcome = w.outcome;
    slots = w.slots;
    shape = rw (o, s) at w.shape;
    filled = w.filled;
    answered = rw (o, s) at w.answered;
  };
}

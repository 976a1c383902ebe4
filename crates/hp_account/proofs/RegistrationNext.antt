-- What comes next of a registration in flight is what its cursor asks for.
use Rattle.std.proofs.Common.{◌≡◌, ℕ, Option, Some, None, List, [], ◌∷◌, refl, sym, ap, ◌∙◌, subst}
use Rattle.std.specs.Prelude.{option_map}
use Rattle.hp_states.specs.declared.dir.Dir.{Dir}
use Rattle.hp_states.specs.declared.place.Place.{Place}
use Rattle.hp_event.specs.declared.key.Key.{Key}
use Rattle.hp_event.specs.declared.op.Op.{Op}
use Rattle.hp_event.specs.declared.answer.Answer.{Answer}
use Rattle.hp_event.specs.declared.head.Head.{Head}
use Rattle.hp_event.specs.declared.event.Event.{Event}
use Rattle.hp_event.specs.declared.event.Event.TheVariants as event
use Rattle.hp_model.specs.Registrations.{Registration, registration, registration_entries}
use Rattle.hp_model.specs.RegistrationShape.{key_of, is_adding}
use Rattle.hp_model.specs.Processors.{processors}
use Rattle.hp_model.specs.How.{how_in_registration}
use Rattle.hp_model.specs.Caller.{caller}
use Rattle.hp_model.specs.StandsRegistrations.{RegEnds}
use Rattle.hp_model.specs.StandsCalls.{RegistrationEntry}
use Rattle.hp_model.specs.Trees.{Tree, step, registration_tree}
use Rattle.hp_model.specs.Runs.{Runs}
use Rattle.hp_model.specs.UnderWay.{next_of_registration, event_of_registration, registration_left}
use Rattle.hp_model.proofs.Remains.{remains}
use Rattle.hp_model.proofs.NextOfRegistration.{registration_entry}
use Rattle.hp_model.proofs.RegistrationGives.{gives_end}
use Rattle.hp_reg.specs.Progress.{cpus_left}
use Rattle.hp_reg.specs.Asked.{asked, call_or_end}
use Rattle.hp_reg.specs.After.{tree_left}
use Rattle.hp_reg.specs.declared.step.RegStep.{RegStep}
use Rattle.hp_reg.specs.declared.step.RegStep.TheVariants.{Call, Ended}
use Rattle.hp_reg.proofs.Steps.{at_step, slot_on, goes_on_by}
use Rattle.hp_reg.proofs.Rising.{rises_of}
use Rattle.hp_reg.proofs.Callers.{reg_ends}
use Rattle.hp_account.specs.declared.registering.Registering.{Registering}
use Rattle.hp_account.specs.Registering.{IsRegistering}

-- the key and the processors of the registration in flight, by the journal
abbrev pub key_in_flight : Head → Registration → Option ℕ
key_in_flight head r = key_of head r

abbrev pub cpus_in_flight : Head → Registration → List ℕ
cpus_in_flight head r = processors head r.state r.before

-- the entry that comes next, whoever makes it
pub record EntryNext (head : Head) (es : List Event) (r : Registration) (cpu : ℕ) (key : Key) (d : Dir) (place : Place) : Type 0 where
  pub entry : RegistrationEntry head es cpu key.state key.inst d (how_in_registration head es r.op cpu key.state key.inst d place)
  pub seat_is : entry.of.seat ≡ r.seat
  pub next :
      next_of_registration head es (registration es)
      ≡ option_map (λ k. event.Call k cpu key.state key.inst d (how_in_registration head es r.op cpu key.state key.inst d place))
      (caller es cpu key.state (how_in_registration head es r.op cpu key.state key.inst d place) r.seat)

abbrev NextBy : Head → List Event → Registration → RegStep → Type 0
NextBy head es r (Call cpu key d place) = EntryNext head es r cpu key d place
NextBy head es r (Ended answer) = Unit {0}

pub entry_next : (head : Head) (es : List Event) (g : Registering) (r : IsRegistering head es g) (cpu : ℕ) (key : Key) (d : Dir)
    (place : Place) → asked (key_in_flight head r.of) (cpus_in_flight head r.of) g.reg ≡ Call cpu key d place →
    EntryNext head es r.of cpu key d place
entry_next head es g r cpu key d place asks = go (key_of head r.of) refl asks
  where
    cpus : List ℕ
    cpus = processors head r.of.state r.of.before

    es_so_far : List Event
    es_so_far = registration_entries es

    -- the tree of the registration, by its operation and state
    tree : (op : Op) (state i : ℕ) → Tree
    tree op state i = registration_tree (is_adding op) state (Some i) cpus

    left : (i : ℕ) (cs : List ℕ) → key_of head r.of ≡ Some i → cpus_left g.reg.phase cpus ≡ cs →
        call_or_end g.reg i cs ≡ Call cpu key d place → EntryNext head es r.of cpu key d place
    left i [] is e h = absurd (cc)
    left i (c ∷ others) is e h =
        let s = at_step g.reg.phase (is_adding g.reg.op) g.reg.state i cpus c others (rises_of cpus r.after.rising) e in
        let slot = slot_on g.reg.phase (is_adding g.reg.op) g.reg.state i c in
        let whole : Runs (tree g.reg.op g.reg.state i) es_so_far (tree_left (Some i) cpus g.reg) = rw is at r.after.leads in
        let below : Runs (tree g.reg.op g.reg.state i) es_so_far (step slot s.done_tree s.fault_tree) =
        subst (λ t. Runs (tree g.reg.op g.reg.state i) es_so_far t) s.tree_is whole in
        let by_op : Runs (tree r.of.op g.reg.state i) es_so_far (step slot s.done_tree s.fault_tree) =
        subst (λ o. Runs (tree o g.reg.state i) es_so_far (step slot s.done_tree s.fault_tree)) r.op_is below in
        let by_state : Runs (tree r.of.op r.of.state i) es_so_far (step slot s.done_tree s.fault_tree) =
        subst (λ n. Runs (tree r.of.op n i) es_so_far (step slot s.done_tree s.fault_tree)) r.state_is by_op in
        let runs : Runs (registration_tree (is_adding r.of.op) r.of.state (key_of head r.of) cpus) es_so_far (step slot s.done_tree s.fault_tree) =
        rw is by_state in
        let there = registration_entry head es r.of slot s.done_tree s.fault_tree r.in_flight runs in
        let is_left : registration_left head es r.of ≡ step slot s.done_tree s.fault_tree =
        remains (registration_tree (is_adding r.of.op) r.of.state (key_of head r.of) cpus) es_so_far (step slot s.done_tree s.fault_tree) runs
        in
        subst (NextBy head es r.of) h
        (record {
          entry = there.1;
          seat_is = there.2;
          next =
              ap (λ z. next_of_registration head es z) r.in_flight
              ∙ ap (λ t. event_of_registration head es r.of t) is_left;
        })

    go : (k : Option ℕ) → key_of head r.of ≡ k → asked k cpus g.reg ≡ Call cpu key d place → EntryNext head es r.of cpu key d place
    go None is h = absurd (cc)
    go (Some i) is h = left i (cpus_left g.reg.phase cpus) is refl h

-- the end stands
pub end_stands : (head : Head) (es : List Event) (g : Registering) (r : IsRegistering head es g) (answer : Answer) →
    asked (key_in_flight head r.of) (cpus_in_flight head r.of) g.reg ≡ Ended answer → RegEnds head es g.seat answer
end_stands head es g r answer asks =
    reg_ends head es r.of g.reg g.seat answer r.in_flight (sym r.seat_is) r.op_is r.state_is
    (goes_on_by (key_of head r.of) (processors head r.of.state r.of.before) (registration_entries es) g.reg (Ended answer) (sym asks) r.after)

-- and is what comes next
pub end_next : (head : Head) (es : List Event) (g : Registering) (r : IsRegistering head es g) (answer : Answer) →
    asked (key_in_flight head r.of) (cpus_in_flight head r.of) g.reg ≡ Ended answer →
    next_of_registration head es (registration es) ≡ Some (event.RegEnd g.seat answer)
end_next head es g r answer asks = gives_end head es g.seat answer (end_stands head es g r answer asks)

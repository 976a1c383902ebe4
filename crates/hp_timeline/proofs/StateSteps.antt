-- One event more, for what is registered. What hp_print proves of a tally that counts calls holds of one that doesn't.
use Rattle.std.proofs.Common.{◌≡◌, ℕ, ◌<◌, ◌^◌, Bool, true, false, if◌then◌else◌, List, [], ◌∷◌, ◌++◌, length, map, get_or, set, refl, sym, ap, ◌∙◌, arith}
use Rattle.std.proofs.lemmas.List.{length-map, length-set, get_or-map}
use Rattle.hp_event.specs.declared.op.Op.TheVariants.{Setup}
use Rattle.hp_event.specs.declared.how.How.{How}
use Rattle.hp_event.specs.declared.head.Head.{Head}
use Rattle.hp_event.specs.declared.event.Event.{Event}
use Rattle.hp_event.specs.declared.event.Event.TheVariants.{RegBegin, Call}
use Rattle.hp_model.specs.Calls.{is_called, sites}
use Rattle.hp_model.specs.Lists.{numbers}
use Rattle.hp_model.specs.Summary.{is_hook_fault, hook_faults}
use Rattle.hp_model.proofs.SumLemmas.{length-numbers}
use Rattle.hp_print.specs.declared.state_tally.StateTally.{StateTally}
use Rattle.hp_print.specs.Counts.{one_more}
use Rattle.hp_print.specs.Steps.{asked_after, subs_after, all_insts_after, calls_after}
use Rattle.hp_print.specs.Tallies.{IsStateTally}
use Rattle.hp_print.proofs.StateTallyStep.{states_step}
use Rattle.hp_timeline.specs.Scenes.{KnowsStates}
use Rattle.hp_timeline.proofs.Numbers.{number_at}

pub knows_of : (head : Head) (xs : List Event) (t : StateTally) → IsStateTally head 201 xs t → KnowsStates head xs t
knows_of head xs t h = record {
  many_subs = h.as_many_subs;
  many_insts = h.as_many_insts;
  asked_is = h.asked;
  sub_is = h.sub_is;
  insts_is = h.insts_is;
}

-- ---- a tally that counts calls

-- it with a count for each state
abbrev with_counts : (t : StateTally) (made faults : List ℕ) → length made ≡ 201 → length faults ≡ 201 → StateTally
with_counts t made faults m f = record t {
  made = record t.made { len = 201; cap = 201; items = made; ok = (sym m, omega arith); small = omega arith };
  faults = record t.faults { len = 201; cap = 201; items = faults; ok = (sym f, omega arith); small = omega arith };
}

each_state : (f : ℕ → ℕ) → List ℕ
each_state f = map f (numbers 201)

as_many : (f : ℕ → ℕ) → length (each_state f) ≡ 201
unfolding each_state
as_many f = length-map (numbers 201) f ∙ length-numbers 201

at_state : (f : ℕ → ℕ) (s : ℕ) → s < 201 → get_or (each_state f) s 0 ≡ f s
unfolding each_state
at_state f s h = get_or-map f (numbers 201) s 0 0 (rw length-numbers h) ∙ ap f (number_at 201 s h)

abbrev made_by : List Event → (state : ℕ) → ℕ
made_by xs s = length (sites s xs)

abbrev faults_by : List Event → (state : ℕ) → ℕ
faults_by xs s = hook_faults s xs

abbrev whole : List Event → StateTally → StateTally
whole xs t =
    with_counts t (each_state (made_by xs)) (each_state (faults_by xs)) (as_many (made_by xs)) (as_many (faults_by xs))

whole_is : (head : Head) (xs : List Event) (t : StateTally) → KnowsStates head xs t → IsStateTally head 201 xs (whole xs t)
whole_is head xs t h = record {
  as_many_subs = h.many_subs;
  as_many_insts = h.many_insts;
  as_many_made = as_many (made_by xs);
  as_many_faults = as_many (faults_by xs);
  asked = h.asked_is;
  sub_is = h.sub_is;
  insts_is = h.insts_is;
  made_is = λ s b. at_state (made_by xs) s b;
  faults_is = λ s b. at_state (faults_by xs) s b;
}

calls_many : (test : How → Bool) (ns : List ℕ) (e : Event) → length (calls_after test ns e) ≡ length ns
calls_many test ns (RegBegin seat state (Setup asked sub form)) = length-set ns state 0
calls_many test ns (RegBegin seat state op) = refl
calls_many test ns (Call seat cpu state inst dir how) = go (test how)
  where
    go : (b : Bool) → length (if b then set ns state (one_more (get_or ns state 0)) else ns) ≡ length ns
    go true = length-set ns state (one_more (get_or ns state 0))
    go false = refl
calls_many test ns e = refl

-- ---- one event more

pub states_go : (head : Head) (xs : List Event) (e : Event) (t u : StateTally) → length xs < 2 ^ 63 → KnowsStates head xs t →
    u.asked ≡ asked_after t.asked e → u.subs.items ≡ subs_after t.asked t.subs.items e →
    u.insts.items ≡ all_insts_after t.asked t.subs.items t.insts.items e → KnowsStates head (xs ++ e ∷ []) u
states_go head xs e t u few h asked subs insts =
    let made : List ℕ = each_state (made_by xs) in
    let faults : List ℕ = each_state (faults_by xs) in
    let next : StateTally =
    with_counts u (calls_after is_called made e) (calls_after is_hook_fault faults e)
    (calls_many is_called made e ∙ as_many (made_by xs)) (calls_many is_hook_fault faults e ∙ as_many (faults_by xs)) in
    let k : IsStateTally head 201 (xs ++ e ∷ []) next =
    states_step head 201 xs e (whole xs t) next few (whole_is head xs t h) asked subs insts refl refl in
    record {
      many_subs = k.as_many_subs;
      many_insts = k.as_many_insts;
      asked_is = k.asked;
      sub_is = k.sub_is;
      insts_is = k.insts_is;
    }

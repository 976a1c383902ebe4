-- Where no upmany is in flight, what was defined with several walks in mind says what it says of one.
use Rattle.std.proofs.Common.{◌≡◌, ℕ, Bool, true, false, ◌&&◌, cond, eqb, Option, Some, None, List, [], ◌∷◌, ◌++◌, refl, ap, ◌∙◌, arith, append_assoc}
use Rattle.std.specs.Prelude.{option_to_list, filter_map, All}
use Rattle.std.proofs.lemmas.List.{append-nil}
use Rattle.std.proofs.lemmas.List.Elements.{All-head, All-tail}
use Rattle.hp_states.proofs.Basics.{none_of}
use Rattle.hp_event.specs.declared.head.Head.{Head}
use Rattle.hp_event.specs.declared.event.Event.{Event}
use Rattle.hp_event.specs.declared.event.Event.TheVariants.{Enter, OpEnd}
use Rattle.hp_model.specs.Lists.{numbers}
use Rattle.hp_model.specs.Events.{seat_of}
use Rattle.hp_model.specs.Walks.{walk, walking}
use Rattle.hp_model.specs.Registrations.{registration}
use Rattle.hp_model.specs.MapLock.{Operation, operation}
use Rattle.hp_model.specs.Suspend.{held_by}
use Rattle.hp_model.specs.Batch.{begun, is_upmany}
use Rattle.hp_model.specs.BatchTurn.{turn_of, is_it, brings_up, has_turn}
use Rattle.hp_model.specs.Waits.{wait_for_batch}
use Rattle.hp_model.specs.Promised.{promised_to_walks}
use Rattle.hp_model.specs.UnderWay.{next_of_walk, next_of_registration, in_turn, under_way}
use Rattle.hp_model.specs.NoUpmany.{IsPlain, IsNoUpmany}
use Rattle.hp_model.proofs.WaitLemmas.{batch_waits}
use Rattle.hp_model.proofs.Laws.{operation_push}
use Rattle.hp_model.proofs.SumLemmas.{sum_same}
use Rattle.hp_model.proofs.PromisedParts.{part, in_flight, come_none}
use Rattle.hp_model.proofs.TurnLemmas.{single_held_up}

-- no seat brings anything up
pub none_brings : (xs : List Event) (k : ℕ) → held_by is_upmany (operation xs) ≡ false → brings_up k (operation xs) ≡ false
none_brings xs k h = go (operation xs) h
  where
    and_false : (b : Bool) → (b && false) ≡ false
    and_false true = refl
    and_false false = refl

    go : (v : Option Operation) → held_by is_upmany v ≡ false → brings_up k v ≡ false
    go None e = refl
    go (Some o) e = rw e (and_false (eqb o.seat k))

turned : (head : Head) (xs : List Event) (k c : ℕ) → held_by is_upmany (operation xs) ≡ false → has_turn head xs k c ≡ true
turned head xs k c h = ap (λ b. cond b (is_it c (turn_of head xs k)) true) (none_brings xs k h)

in_turn_is : (head : Head) (xs : List Event) (c : ℕ) (e : Option Event) → held_by is_upmany (operation xs) ≡ false → in_turn head xs c e ≡ e
in_turn_is head xs c None h = refl
in_turn_is head xs c (Some e) h = ap (λ b. cond b (Some e) None) (turned head xs (seat_of e) c h)

pub is_plain : (head : Head) (xs : List Event) → held_by is_upmany (operation xs) ≡ false → IsPlain head xs
unfolding promised_to_walks under_way
is_plain head xs h = record {
  at_rest = λ o at. rw (rw at at h) refl;
  writing = (none_of (wait_for_batch (begun xs) (operation xs)) (batch_waits (begun xs) (operation xs) ∙ rw h refl), rw h refl);
  walk_waits = rw h refl;
  turns = λ k c. turned head xs k c h;
  threads = λ k c. single_held_up head xs k c (none_brings xs k h);
  needs = λ k c from to. rw h refl;
  promises =
      sum_same (part head xs) (in_flight head xs) (numbers head.possible)
      (λ c. let n = come_none head xs c (rw h refl) in omega arith);
  under_way_is =
      ap (λ f. filter_map f (walking xs) ++ option_to_list (next_of_registration head xs (registration xs)))
      (λ i c. in_turn_is head xs c (next_of_walk head xs c (walk c xs)) h i);
}

-- and none is in flight where none enters
held_step : (xs : List Event) (e : Event) → IsNoUpmany e → held_by is_upmany (operation xs) ≡ false →
    held_by is_upmany (operation (xs ++ e ∷ [])) ≡ false
held_step xs (Enter seat op) n h = rw (operation_push xs (Enter seat op)) n
held_step xs (OpEnd seat answer) n h = rw (operation_push xs (OpEnd seat answer)) refl
held_step xs e n h = rw (operation_push xs e) h

held_from : (before es : List Event) → held_by is_upmany (operation before) ≡ false → All IsNoUpmany es →
    held_by is_upmany (operation (before ++ es)) ≡ false
held_from before [] h n = rw append-nil h
held_from before (e ∷ es) h n =
    let r = held_from (before ++ e ∷ []) es (held_step before e (All-head IsNoUpmany e es n) h) (All-tail IsNoUpmany e es n) in rw (append_assoc before (e ∷ []) es) at r

pub none_held : (xs : List Event) → All IsNoUpmany xs → held_by is_upmany (operation xs) ≡ false
unfolding operation
none_held xs n = held_from [] xs refl n

-- Where no upmany is in flight, what was defined with several walks in mind says what it says of one. This project's own.
use Rattle.std.specs.Prelude.{◌≡◌, ℕ, true, false, not, Some, None, option_to_list, List, [], ◌++◌, filter_map, sum_by}
use Rattle.hp_event.specs.declared.head.Head.{Head}
use Rattle.hp_event.specs.declared.event.Event.{Event}
use Rattle.hp_event.specs.declared.event.Event.TheVariants.{Enter, WalkBegin}
use Rattle.hp_model.specs.Lists.{numbers}
use Rattle.hp_model.specs.Walks.{walk, walk_entries, walking, is_walking}
use Rattle.hp_model.specs.Registrations.{registration}
use Rattle.hp_model.specs.MapLock.{Operation, operation}
use Rattle.hp_model.specs.Readers.{readers}
use Rattle.hp_model.specs.Sequence.{is_between}
use Rattle.hp_model.specs.Batch.{is_upmany, is_batch_begun}
use Rattle.hp_model.specs.BatchTurn.{has_turn}
use Rattle.hp_model.specs.ApTurn.{is_held_up}
use Rattle.hp_model.specs.Waits.{first_wait, wait_for_readers, wait_for_registration, wait_for_writer, wait_to_walk}
use Rattle.hp_model.specs.Needs.{walk_need, need}
use Rattle.hp_model.specs.Promised.{promised_to_walk, promised_to_walks}
use Rattle.hp_model.specs.UnderWay.{next_of_walk, next_of_registration, under_way}

-- an operation begins a walk or ends where none is in flight
abbrev pub GoesOnAtRest : List Event → Type 0
GoesOnAtRest events = (o : Operation) → operation events ≡ Some o → is_between o.op events ≡ not (is_walking events)

-- the write side is held by a walk in flight alone
abbrev pub IsWritingByWalks : List Event → Type 0
IsWritingByWalks events = (wait_for_writer [] events ≡ None) × (is_batch_begun events ≡ false)

pub record IsPlain (head : Head) (events : List Event) : Type 0 where
  pub at_rest : GoesOnAtRest events
  pub writing : IsWritingByWalks events
  pub walk_waits :
      wait_to_walk events ≡ first_wait (wait_for_readers (readers events)) (wait_for_registration (registration events))
  pub turns : (seat cpu : ℕ) → has_turn head events seat cpu ≡ true
  pub threads : (seat cpu : ℕ) → is_held_up head events seat cpu ≡ true
  pub needs : (seat cpu from to : ℕ) → need head events (WalkBegin seat cpu from to) ≡ Some (walk_need head events from to)
  pub promises :
      promised_to_walks head events
      ≡ sum_by (λ c. promised_to_walk head (walk c events) (walk_entries c events)) (numbers head.possible)
  pub under_way_is :
      under_way head events
      ≡ filter_map (λ c. next_of_walk head events c (walk c events)) (walking events)
      ++ option_to_list (next_of_registration head events (registration events))

-- no upmany enters
abbrev pub IsNoUpmany : Event → Type 0
IsNoUpmany (Enter seat op) = is_upmany op ≡ false
IsNoUpmany _ = Unit {0}

-- Walks cross as many keys of the table as are registered, while no registration is in flight.
use Rattle.std.proofs.Common.{◌≡◌, ℕ, Option, List, sym}
use Rattle.hp_event.specs.declared.head.Head.{Head}
use Rattle.hp_event.specs.declared.event.Event.{Event}
use Rattle.hp_event.specs.declared.event.Event.TheVariants.{WalkBegin}
use Rattle.hp_model.specs.Lawful.{Comes, IsLawful}
use Rattle.hp_model.specs.Plan.{keys_on}
use Rattle.hp_model.specs.Registered.{keys}
use Rattle.hp_table.specs.Step.{Step}
use Rattle.hp_walk.specs.Keys.{keys_by}
use Rattle.hp_machine.specs.Room.{CountsKeys}
use Rattle.hp_account.specs.Table.{IsTableOf}
use Rattle.hp_account.proofs.FlightSteps.{HasKeys, has_keys, begin_idle}

keys_counted : (head : Head) (es : List Event) (places : List (Option Step)) → HasKeys head es places → (low high : ℕ) →
    keys_on (keys_by places) low high ≡ keys_on (keys head es) low high
keys_counted head es places has low high = λ i. keys_on (λ s. sym (has s) i) low high

-- so it is where a walk can begin
pub event_counts : (head : Head) (es : List Event) (places : List (Option Step)) (e : Event) → IsLawful head es →
    IsTableOf head es places → Comes head es e → CountsKeys head es places e
event_counts head es places (WalkBegin seat cpu from to) lawful t comes =
    keys_counted head es places (has_keys head es places t (begin_idle head es seat cpu from to lawful comes))
event_counts head es places e lawful t comes = tt

-- What the room of a walk is counted by: that it crosses as many keys of the table as are registered. This project's own.
use Rattle.std.specs.Prelude.{◌≡◌, ℕ, Option, List}
use Rattle.hp_event.specs.declared.head.Head.{Head}
use Rattle.hp_event.specs.declared.event.Event.{Event}
use Rattle.hp_event.specs.declared.event.Event.TheVariants.{WalkBegin}
use Rattle.hp_model.specs.Plan.{keys_on}
use Rattle.hp_model.specs.Registered.{keys}
use Rattle.hp_table.specs.Keys.{keys_by}
use Rattle.hp_table.specs.Step.{Step}

-- walks cross as many keys of the table as are registered
abbrev pub CountsKeys : Head → List Event → (places : List (Option Step)) → Event → Type 0
CountsKeys head events places (WalkBegin seat cpu from to) =
    (low high : ℕ) → keys_on (keys_by places) low high ≡ keys_on (keys head events) low high
CountsKeys head events places _ = Unit {0}

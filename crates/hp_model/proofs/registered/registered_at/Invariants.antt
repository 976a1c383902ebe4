use Rattle.std.proofs.Common.{◌≡◌, take, option_map}
use Rattle.hp_model.specs.Registrations.{registration}
use Rattle.hp_model.specs.Registered.{registered}
use Rattle.hp_model.specs.Found.{registered_by, asked_by}
use Rattle.hp_model.proofs.registered.registered_at.Given as goal

abbrev pub invariant-loop-event : goal.invariant-loop-event
invariant-loop-event l =
    (option_map registered_by l.found ≡ registered l.head l.state (take l.event-index l.events))
    × (l.asked ≡ option_map asked_by (registration (take l.event-index l.events)))

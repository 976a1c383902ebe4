use Rattle.std.proofs.Common.{◌≡◌, take, option_map}
use Rattle.hp_model.specs.Walks.{walk}
use Rattle.hp_model.specs.Settled.{settled}
use Rattle.hp_model.proofs.settled.settled_after.Given as goal

abbrev pub invariant-loop-event : goal.invariant-loop-event
invariant-loop-event l =
    (l.standing.at ≡ settled l.cpu (take l.event-index l.events))
    × (l.standing.to ≡ option_map (λ w. w.to) (walk l.cpu (take l.event-index l.events)))

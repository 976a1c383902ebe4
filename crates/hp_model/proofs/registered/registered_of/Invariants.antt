use Rattle.std.proofs.Common.{◌≡◌}
use Rattle.std.specs.Prelude.{flat_map}
use Rattle.hp_model.specs.Lists.{numbers}
use Rattle.hp_model.specs.Net.{keys_at}
use Rattle.hp_model.proofs.registered.registered_of.Given as goal

abbrev pub invariant-loop-state : goal.invariant-loop-state
invariant-loop-state l = l.keys.items ≡ flat_map (keys_at l.head l.events) (numbers l.state)

use Rattle.std.proofs.Common.{◌≡◌, take, filter}
use Rattle.hp_model.specs.Net.{is_key_in_force}
use Rattle.hp_model.proofs.net.net_of.Given as goal

abbrev pub invariant-loop-key : goal.invariant-loop-key
invariant-loop-key l = l.found.items ≡ filter (is_key_in_force l.cpu l.events) (take l.key-index l.key-items)

use Rattle.std.proofs.Common.{◌≡◌, ◌++◌, take, map}
use Rattle.hp_model.proofs.registered.push_keys.Given as goal

abbrev pub invariant-loop-inst : goal.invariant-loop-inst
invariant-loop-inst l =
    l.keys.items ≡ l.initial.keys.items ++ map (λ i. record { state = l.state; inst = i }) (take l.inst-index l.insts)

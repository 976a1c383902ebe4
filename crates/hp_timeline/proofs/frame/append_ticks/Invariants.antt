use Rattle.std.proofs.Common.{◌≡◌, ◌++◌}
use Rattle.std.specs.List.{flat_map}
use Rattle.hp_model.specs.Lists.{numbers}
use Rattle.hp_timeline.specs.Frame.{tick_at}
use Rattle.hp_timeline.proofs.frame.append_ticks.Given as goal

abbrev pub invariant-loop-index : goal.invariant-loop-index
invariant-loop-index l = l.out.items ≡ l.initial.out.items ++ flat_map (tick_at l.sheet) (numbers l.index)

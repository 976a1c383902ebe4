use Rattle.std.proofs.Common.{◌≡◌, ◌-◌, ◌++◌}
use Rattle.std.specs.List.{flat_map}
use Rattle.hp_model.specs.Words.{line}
use Rattle.hp_script.specs.Generated.{actors_from, actors}
use Rattle.hp_script.proofs.generator.append_actors.Given as goal

-- what is written, in front of the actors that are left, is all
abbrev pub invariant-loop-number : goal.invariant-loop-number
invariant-loop-number l =
    l.fn.out.items ++ flat_map line (actors l.size l.fn.draws.state)
    ≡ l.out.items ++ flat_map line (actors_from (7 - l.number) l.number l.size l.draws.state)

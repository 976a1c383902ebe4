use Rattle.std.proofs.Common.{◌≡◌, ◌-◌, ◌++◌}
use Rattle.std.specs.List.{flat_map}
use Rattle.hp_model.specs.Words.{line}
use Rattle.hp_script.specs.Generated.{state_behind_all, drawn_lines}
use Rattle.hp_script.proofs.generator.append_all_drawn.Given as goal

-- what is written, in front of what is left, is all
abbrev pub invariant-loop : goal.invariant-loop
invariant-loop l =
    (l.fn.out.items ++ flat_map line (drawn_lines l.size l.fn.draws.state)
    ≡ l.out.items ++ flat_map line (drawn_lines (l.size - l.counter) l.draws.state))
    × (state_behind_all l.size l.fn.draws.state ≡ state_behind_all (l.size - l.counter) l.draws.state)

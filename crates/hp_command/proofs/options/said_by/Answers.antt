use Rattle.std.proofs.Common.{option_map, arith}
use Rattle.hp_command.proofs.OptionLaws.{size_is}
use Rattle.hp_command.proofs.options.said_by.Goals as goal
use Rattle.hp_command.proofs.options.said_by.Goals.{then-size-eq0-via-then-size-eq0, then-size-eq0-via-else-size-eq0+then-size}

pub returns-then-size-eq0-clause-none : goal.returns-then-size-eq0-clause-none
returns-then-size-eq0-clause-none c options h =
    let within = size_is (option_map (λ t. t.now) c.args.texts.now.seed) (option_map (λ t. t.now) c.args.texts.now.size) c.in_ok-size.size options (omega arith) c.in_ok-size.ensures.some h in
    elim c.then-size-eq0.branch [
      | then-size-eq0-via-then-size-eq0 w ↦ omega (arith, within.0)
      | then-size-eq0-via-else-size-eq0+then-size w ↦ omega (arith, within.1)
    ]

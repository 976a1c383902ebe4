-- The options are in their ranges, and a generated script is refused for want of hooks alone.
use Rattle.std.proofs.Common.{IfErr, length, sym, subst, ◌∙◌}
use Rattle.hp_command.specs.declared.command.Command.{Command}
use Rattle.hp_play.specs.Stops.{HasRanges, Stops, Refuses}
use Rattle.hp_play.proofs.Scripts.{bench_stops}
use Rattle.hp_play.proofs.commands.output_of.Goals as goal

pub generate-requires-clause-some : goal.generate-requires-clause-some
generate-requires-clause-some g c = (subst HasRanges c.in-Gen.is c.requires.ranges).1

pub generate-requires-clause-few : goal.generate-requires-clause-few
generate-requires-clause-few g c = (subst HasRanges c.in-Gen.is c.requires.ranges).2

pub generate-requires-in-Bench-clause-some : goal.generate-requires-in-Bench-clause-some
generate-requires-in-Bench-clause-some g c = (subst HasRanges c.in-Bench.is c.requires.ranges).1

pub generate-requires-in-Bench-clause-few : goal.generate-requires-in-Bench-clause-few
generate-requires-in-Bench-clause-few g c = (subst HasRanges c.in-Bench.is c.requires.ranges).2

pub returns-in_ok-script-in-Bench-clause-stop : goal.returns-in_ok-script-in-Bench-clause-stop
returns-in_ok-script-in-Bench-clause-stop g c =
    subst (λ (command : Command).
    IfErr c.text_of_script.result
    (Stops command (length c.args.rack.now.hooks.items) (g.S.Source.left c.args.source.now) (g.S.Source.left c.args.source.now)
    (g.S.Source.faults c.args.source.now) (g.S.Source.faults c.args.source.now))) (sym c.in-Bench.is)
    (bench_stops c.in-Bench.options (length c.args.rack.now.hooks.items) (g.S.Source.left c.args.source.now)
    (g.S.Source.faults c.args.source.now) c.text_of_script.result (subst HasRanges c.in-Bench.is c.requires.ranges)
    (subst (λ bytes. IfErr c.text_of_script.result (Refuses (length c.args.rack.now.hooks.items) bytes))
    (c.deref.ensures.value ∙ c.in_ok-script-in-Bench.ensures) c.text_of_script.ensures.stop))

-- What was read is a script, or is refused.
use Rattle.hp_edge.proofs.Stopping.{read_is, read_stops}
use Rattle.hp_edge.proofs.script.read_script.Goals as goal

pub returns-in-Ok-clause-read : goal.returns-in-Ok-clause-read
returns-in-Ok-clause-read g c =
    read_is (λ script. script) c.args.hooks (g.S.Source.left c.args.source.now) (g.S.Source.left c.read_input.new.source)
    c.deref.result.now c.in-Ok.bytes.items c.script_of.result c.in-Ok.ensures.read c.deref.ensures.value c.script_of.ensures.script

pub returns-in-Ok-clause-none : goal.returns-in-Ok-clause-none
returns-in-Ok-clause-none g c =
    read_stops c.args.hooks (g.S.Source.left c.args.source.now) (g.S.Source.left c.read_input.new.source)
    c.deref.result.now c.in-Ok.bytes.items (g.S.Source.faults c.args.source.now) (g.S.Source.faults c.read_input.new.source)
    c.script_of.result c.in-Ok.ensures.read c.deref.ensures.value c.in-Ok.ensures.faults c.script_of.ensures.none

-- A script that was read can be played, and leaves a seat for the client that writes.
use Rattle.std.proofs.Common.{◌≡◌, length, subst, ◌∙◌}
use Rattle.hp_script.specs.Judged.{IsRead}
use Rattle.hp_edge.specs.Scripts.{counted_hooks}
use Rattle.hp_edge.specs.Scripts as edge
use Rattle.hp_edge.proofs.Holding.{plays, enough}
use Rattle.hp_play.proofs.Scripts.{stops_script, seat_more}
use Rattle.hp_play.proofs.commands.script_controlled.Goals as goal

pub text_controlled-requires-clause-script : goal.text_controlled-requires-clause-script
text_controlled-requires-clause-script g c = plays _ _ _ c.in-Ok.ensures.read.is_script

pub text_controlled-requires-clause-seat : goal.text_controlled-requires-clause-seat
text_controlled-requires-clause-seat g c = seat_more _ _ _ c.in-Ok.ensures.read.is_script

pub text_controlled-requires-clause-hooks : goal.text_controlled-requires-clause-hooks
text_controlled-requires-clause-hooks g c =
    let same : c.len.result ≡ length c.args.rack.now.hooks.items = c.len.ensures ∙ c.args.rack.now.hooks.ok.0 in
    enough (length c.args.rack.now.hooks.items) c.in-Ok.ensures.read.bytes c.in-Ok.script
    (subst (λ n. IsRead (counted_hooks n) c.in-Ok.ensures.read.bytes c.in-Ok.script) same c.in-Ok.ensures.read.is_script)

pub returns-in-Err-clause-stop : goal.returns-in-Err-clause-stop
returns-in-Err-clause-stop g c =
    let same : c.len.result ≡ length c.args.rack.now.hooks.items = c.len.ensures ∙ c.args.rack.now.hooks.ok.0 in
    stops_script (length c.args.rack.now.hooks.items) (g.S.Source.left c.args.source.now) (g.S.Source.left c.read_script.new.source)
    (g.S.Source.faults c.args.source.now) (g.S.Source.faults c.read_script.new.source) c.in-Err.error c.of_script.result
    c.of_script.ensures (subst (λ n. edge.Stops n (g.S.Source.left c.args.source.now) (g.S.Source.left c.read_script.new.source)
    (g.S.Source.faults c.args.source.now) (g.S.Source.faults c.read_script.new.source) c.in-Err.error) same c.in-Err.ensures.none)

-- A script that was read can be played.
use Rattle.std.proofs.Common.{◌≡◌, length, subst, ◌∙◌}
use Rattle.hp_script.specs.Judged.{IsRead}
use Rattle.hp_edge.specs.Scripts.{counted_hooks}
use Rattle.hp_edge.specs.Scripts as edge
use Rattle.hp_edge.proofs.Holding.{plays, enough}
use Rattle.hp_play.proofs.Scripts.{refuses_stop}
use Rattle.hp_play.proofs.commands.text_of_script.Goals as goal

pub text_played-requires-clause-script : goal.text_played-requires-clause-script
text_played-requires-clause-script g c = plays _ _ _ c.in-Ok.ensures.script

pub text_played-requires-clause-hooks : goal.text_played-requires-clause-hooks
text_played-requires-clause-hooks g c =
    let same : c.len.result ≡ length c.args.rack.now.hooks.items = c.len.ensures ∙ c.args.rack.now.hooks.ok.0 in
    enough (length c.args.rack.now.hooks.items) c.args.bytes.now c.in-Ok.script
    (subst (λ n. IsRead (counted_hooks n) c.args.bytes.now c.in-Ok.script) same c.in-Ok.ensures.script)

pub returns-in-Err-clause-stop : goal.returns-in-Err-clause-stop
returns-in-Err-clause-stop g c =
    let same : c.len.result ≡ length c.args.rack.now.hooks.items = c.len.ensures ∙ c.args.rack.now.hooks.ok.0 in
    refuses_stop (length c.args.rack.now.hooks.items) c.args.bytes.now c.in-Err.error c.of_script.result c.of_script.ensures
    (subst (λ n. edge.Refuses n c.args.bytes.now c.in-Err.error) same c.in-Err.ensures.none)

-- A script that was read can be run with the hooks of the rack.
use Rattle.std.proofs.Common.{◌≡◌, length, subst, ◌∙◌}
use Rattle.hp_edge.specs.Scripts.{counted_hooks}
use Rattle.hp_edge.proofs.Holding.{plays, enough}
use Rattle.hp_script.specs.Judged.{IsRead}
use Rattle.hp_run.proofs.run.text_of_command.Goals as goal

pub text_of_script-requires-clause-script : goal.text_of_script-requires-clause-script
text_of_script-requires-clause-script g c κs within = plays _ _ _ c.in_ok-script.ensures.read.is_script

pub text_of_script-requires-clause-hooks : goal.text_of_script-requires-clause-hooks
text_of_script-requires-clause-hooks g c κs within =
    let same : c.len.result ≡ length c.args.rack.hooks.items = c.len.ensures ∙ c.args.rack.hooks.ok.0 in
    enough (length c.args.rack.hooks.items) c.in_ok-script.ensures.read.bytes c.in_ok-script.script
    (subst (λ n. IsRead (counted_hooks n) c.in_ok-script.ensures.read.bytes c.in_ok-script.script) same
    c.in_ok-script.ensures.read.is_script)

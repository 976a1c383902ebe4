-- A script that was read can be played with the hooks of the rack.
use Rattle.std.proofs.Common.{arith}
use Rattle.hp_script.proofs.PlayableScripts.{read_scripts_play}
use Rattle.hp_actors_tests.proofs.in_force.play.Goals as goal

pub start-requires-clause-script : goal.start-requires-clause-script
start-requires-clause-script g c = (read_scripts_play _ _ _ c.in-Ok.ensures.found).plays

pub start-requires-clause-hooks : goal.start-requires-clause-hooks
start-requires-clause-hooks g c =
    let h = (read_scripts_play _ _ _ c.in-Ok.ensures.found).hooks_for_all in
    omega (arith, h, c.min-hooks.ensures, c.len.ensures)

-- A script that was read can be played with the hooks of the rack.
use Rattle.std.proofs.Common.{arith}
use Rattle.hp_script.proofs.PlayableScripts.{read_scripts_play}
use Rattle.hp_actors_tests.proofs.runs.played.Goals as goal

pub play-requires-clause-script : goal.play-requires-clause-script
play-requires-clause-script g c = (read_scripts_play _ _ _ c.in-Ok.ensures.found).plays

pub play-requires-clause-hooks : goal.play-requires-clause-hooks
play-requires-clause-hooks g c =
    let h = (read_scripts_play _ _ _ c.in-Ok.ensures.found).hooks_for_all in
    omega (arith, h, c.min-hooks.ensures, c.len.ensures)

-- What is written is of the run, and its hooks are back.
use Rattle.std.proofs.Common.{ap, sym, ◌∙◌}
use Rattle.hp_board.specs.Contents.{Contents}
use Rattle.hp_smt.specs.Run.{smt_start}
use Rattle.hp_smt_run.specs.Playing.{Setup, setup}
use Rattle.hp_play.specs.Controlled.{setup_under}
use Rattle.hp_play.proofs.ControlledRuns.{IsPlayedTo, over, played_to, dealt, controlled, text_is}
use Rattle.hp_play.proofs.controlled.text_controlled.Goals as goal

pub play-requires-clause-start : goal.play-requires-clause-start
play-requires-clause-start g c =
    c.in_ok-run.ensures.started
    ∙ ap (λ (s : Setup). smt_start s.head s.actors) (sym c.in_ok-run.ensures.of_script)

pub rests-requires-clause-over : goal.rests-requires-clause-over
rests-requires-clause-over g c = over c.in_ok-run.run' c.play.new.self c.in_ok-play.ensures.played

pub finish-requires-clause-over : goal.finish-requires-clause-over
finish-requires-clause-over g c = over c.in_ok-run.run' c.play.new.self c.in_ok-play.ensures.played

pub returns : goal.returns
returns g c =
    let script = c.args.script.now in
    let words = c.args.controlling in
    let run = c.play.new.self in
    let played : IsPlayedTo words script run =
    played_to words script c.in_ok-run.run' run (setup script.head words.threads script.actors c.control_of-want.result)
    c.in_ok-play.ensures.played c.in_ok-run.ensures.of_script
    (ap (λ want. setup script.head words.threads script.actors want) c.control_of-want.ensures) c.sound.ensures.lawful
    c.rests.ensures.operation c.rests.ensures.registration in
    controlled g.H.Hook.counts c.args.rack.now.hooks.items c.start.new.rack.hooks.items c.finish.new.rack.hooks.items words script run
    c.append_control_text.new.out.items played c.in_ok-run.ensures.rack
    (dealt g.H.Hook.counts c.args.rack.now.hooks.items c.start.new.rack.hooks.items (setup_under words script) c.in_ok-run.run' run
    (c.in_ok-run.ensures.of_script ∙ ap (λ want. setup script.head words.threads script.actors want) c.control_of-want.ensures)
    c.in_ok-run.ensures.started c.in_ok-run.ensures.loaded c.in_ok-run.ensures.hooks c.in_ok-play.ensures.made)
    c.in_ok-finish.ensures.rack c.in_ok-finish.ensures.all
    (text_is words script run c.journal.result.now.head c.journal.result.now.events c.in_ok-text.text.items
    c.append_control_text.new.out.items c.deref.result.now c.len.result played
    (c.journal.ensures.head ∙ ap (λ (b : Contents). b.head) c.board.ensures)
    (c.journal.ensures.events ∙ ap (λ (b : Contents). b.events) c.board.ensures) c.in_ok-text.ensures c.in_ok-append_control_text.ensures
    c.deref.ensures.value (c.len.ensures ∙ run.denied.ok.0))

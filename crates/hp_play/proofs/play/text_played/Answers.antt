-- The text is of the run's journal, and its hooks are back.
use Rattle.std.proofs.Common.{ap, ◌∙◌}
use Rattle.hp_model.specs.Registrations.{registration}
use Rattle.hp_play.specs.Outputs.{output}
use Rattle.hp_play.proofs.RackLaws.{rack_after}
use Rattle.hp_play.proofs.play.text_played.Goals as goal

pub text_of-requires-clause-lawful : goal.text_of-requires-clause-lawful
text_of-requires-clause-lawful g c =
    let is = c.in_ok-run.ensures in
    rw (c.board.ensures.head ∙ is.head_is, c.board.ensures.events) is.journal.laws.lawful

pub text_of-requires-clause-quiet : goal.text_of-requires-clause-quiet
text_of-requires-clause-quiet g c = ap registration c.board.ensures.events ∙ c.in_ok-run.ensures.journal.laws.no_registration

pub returns : goal.returns
returns g c =
    let script = c.args.script.now in
    let run = c.in_ok-run.run' in
    let is = c.in_ok-run.ensures in
    record {
      events = run.progress.events;
      journal = is.journal;
      rack_is =
          rack_after g.H.Hook.counts c.args.rack.now.hooks.items c.play.new.rack.hooks.items c.finish.new.rack.hooks.items script run is
          c.in_ok-finish.ensures.hooks c.in_ok-finish.ensures.all;
      written_is =
          c.in_ok-text.ensures
          ∙ (ap (λ h. output c.args.of h c.board.result.now.events) (c.board.ensures.head ∙ is.head_is)
          ∙ ap (output c.args.of script.head) c.board.ensures.events);
    }

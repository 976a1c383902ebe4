-- The run is at its start.
use Rattle.std.proofs.Common.{[], length, map, replicate, ap, ◌∙◌}
use Rattle.hp_account.specs.TableChanges.{is_setup}
use Rattle.hp_model.specs.Processors.{present}
use Rattle.hp_model.specs.Admissions.{admissions}
use Rattle.hp_board.proofs.Homes.{none_home}
use Rattle.hp_actors.proofs.PassedOverStay.{none_known}
use Rattle.hp_actors.proofs.Loading.{actors_loaded}
use Rattle.hp_actors.proofs.Opening.{Opened, opened_position, opened_playing}
use Rattle.hp_actors.proofs.run.Run.start.Goals as goal

pub invariant_of-result : goal.invariant_of-result
invariant_of-result g c =
    let o : Opened c.in_ok-board.board c.present_count-threads.result c.in_ok-actors.actors.items c.args.script.now.head c.args.script.now.actors =
    record {
      script = c.requires.script;
      head_is = c.in_ok-board.ensures.head ∙ c.head.ensures;
      events_are =
          c.in_ok-board.ensures.events
          ∙ (ap (λ h. admissions h (replicate c.actors.result [])) c.head.ensures
          ∙ ap (λ n. admissions c.args.script.now.head (replicate n [])) c.actors.ensures.count);
      threads_are = c.present_count-threads.ensures ∙ ap (λ h. length (present h)) c.head-2.ensures;
      ops_are = c.in_ok-actors.ensures.ops;
      fresh = c.in_ok-actors.ensures.fresh;
      none_yet = c.in_ok-board.ensures.none;
    } in
    record {
      playing =
          opened_playing c.in_ok-board.board c.present_count-threads.result c.in_ok-actors.actors.items c.args.script.now.head
          c.args.script.now.actors o;
      waits =
          none_known c.in_ok-board.board c.present_count-threads.result c.in_ok-actors.actors.items c.in_ok-actors.ensures.fresh;
      home = none_home c.in_ok-board.board.places c.in_ok-board.ensures.none;
    }

pub returns-clause-started : goal.returns-clause-started
returns-clause-started g c =
    let o : Opened c.in_ok-board.board c.present_count-threads.result c.in_ok-actors.actors.items c.args.script.now.head c.args.script.now.actors =
    record {
      script = c.requires.script;
      head_is = c.in_ok-board.ensures.head ∙ c.head.ensures;
      events_are =
          c.in_ok-board.ensures.events
          ∙ (ap (λ h. admissions h (replicate c.actors.result [])) c.head.ensures
          ∙ ap (λ n. admissions c.args.script.now.head (replicate n [])) c.actors.ensures.count);
      threads_are = c.present_count-threads.ensures ∙ ap (λ h. length (present h)) c.head-2.ensures;
      ops_are = c.in_ok-actors.ensures.ops;
      fresh = c.in_ok-actors.ensures.fresh;
      none_yet = c.in_ok-board.ensures.none;
    } in
    opened_position g.H.Hook.counts c.in_ok-board.board c.present_count-threads.result c.in_ok-actors.actors.items c.args.script.now.head c.args.script.now.actors o

pub returns-clause-loaded : goal.returns-clause-loaded
returns-clause-loaded g c =
    actors_loaded g.H.Hook.counts c.in_ok-actors.actors.items c.in_ok-actors.ensures.fresh
    ∙ ap (map (map is_setup)) c.in_ok-actors.ensures.ops

-- The run is at its start.
use Rattle.std.proofs.Common.{◌+◌, [], length, map, replicate, refl, ap, subst, ◌∙◌}
use Rattle.hp_account.specs.TableChanges.{is_setup}
use Rattle.hp_actors.proofs.Loading.{actors_loaded}
use Rattle.hp_model.specs.Admissions.{admissions}
use Rattle.hp_model.specs.MapLock.{operation}
use Rattle.hp_model.specs.Processors.{present}
use Rattle.hp_model.specs.Registrations.{registration}
use Rattle.hp_model.specs.SetOf.{IsSet}
use Rattle.hp_model.proofs.Roster.{operation_first, registration_first}
use Rattle.hp_board.specs.Contents.{Contents}
use Rattle.hp_board.specs.HookCount.{hook_count}
use Rattle.hp_smt_run.specs.declared.run.SmtRun.{SmtRun}
use Rattle.hp_smt_run.proofs.Started.{Started, started_playing, started_state}
use Rattle.hp_smt_run.proofs.run.SmtRun.start.Goals as goal

pub over-smt-requires-clause-no_operation : goal.over-smt-requires-clause-no_operation
over-smt-requires-clause-no_operation g c = ap operation c.in_ok-board.ensures.events ∙ operation_first c.head.result.now (replicate (c.actors.result + 1) [])

pub over-smt-requires-clause-no_registration : goal.over-smt-requires-clause-no_registration
over-smt-requires-clause-no_registration g c = ap registration c.in_ok-board.ensures.events ∙ registration_first c.head.result.now (replicate (c.actors.result + 1) [])

pub returns-clause-playing : goal.returns-clause-playing
returns-clause-playing g c =
    let head = c.args.script.now.head in
    let ops = c.args.script.now.actors in
    let run : SmtRun g.row.H.Denot = record {
      smt = c.over-smt.result;
      seats = c.present_count-seats.result;
      actors = c.in_ok-actors.actors;
      want = c.args.want;
      written = c.new.result;
      denied = c.new-2.result;
    } in
    let started : Started run head c.args.threads ops c.args.want = record {
      script = c.requires.script;
      room = c.requires.seats;
      head_is = ap (λ (b : Contents). b.head) c.over-smt.ensures.board ∙ (c.in_ok-board.ensures.head ∙ c.head.ensures);
      events_are =
          ap (λ (b : Contents). b.events) c.over-smt.ensures.board
          ∙ (c.in_ok-board.ensures.events
          ∙ (ap (λ h. admissions h (replicate (c.actors.result + 1) [])) c.head.ensures
          ∙ ap (λ n. admissions head (replicate (n + 1) [])) c.actors.ensures.count));
      threads_are = c.over-smt.ensures.threads;
      setting_is = c.over-smt.ensures.setting;
      recorded = c.over-smt.ensures.none;
      is_set = subst IsSet c.recorded.ensures c.set_is_of_its_numbers.ensures.words;
      seats_are = c.present_count-seats.ensures ∙ ap (λ h. length (present h)) c.head-2.ensures;
      ops_are = c.in_ok-actors.ensures.ops;
      fresh = c.in_ok-actors.ensures.fresh;
      want_is = refl;
      written_none = c.new.ensures.items;
      denied_none = c.new-2.ensures.items;
      none_yet = ap (λ (b : Contents). hook_count b.places) c.over-smt.ensures.board ∙ c.in_ok-board.ensures.none;
    } in
    started_playing run head c.args.threads ops c.args.want started

pub returns-clause-started : goal.returns-clause-started
returns-clause-started g c =
    let head = c.args.script.now.head in
    let ops = c.args.script.now.actors in
    let run : SmtRun g.row.H.Denot = record {
      smt = c.over-smt.result;
      seats = c.present_count-seats.result;
      actors = c.in_ok-actors.actors;
      want = c.args.want;
      written = c.new.result;
      denied = c.new-2.result;
    } in
    let started : Started run head c.args.threads ops c.args.want = record {
      script = c.requires.script;
      room = c.requires.seats;
      head_is = ap (λ (b : Contents). b.head) c.over-smt.ensures.board ∙ (c.in_ok-board.ensures.head ∙ c.head.ensures);
      events_are =
          ap (λ (b : Contents). b.events) c.over-smt.ensures.board
          ∙ (c.in_ok-board.ensures.events
          ∙ (ap (λ h. admissions h (replicate (c.actors.result + 1) [])) c.head.ensures
          ∙ ap (λ n. admissions head (replicate (n + 1) [])) c.actors.ensures.count));
      threads_are = c.over-smt.ensures.threads;
      setting_is = c.over-smt.ensures.setting;
      recorded = c.over-smt.ensures.none;
      is_set = subst IsSet c.recorded.ensures c.set_is_of_its_numbers.ensures.words;
      seats_are = c.present_count-seats.ensures ∙ ap (λ h. length (present h)) c.head-2.ensures;
      ops_are = c.in_ok-actors.ensures.ops;
      fresh = c.in_ok-actors.ensures.fresh;
      want_is = refl;
      written_none = c.new.ensures.items;
      denied_none = c.new-2.ensures.items;
      none_yet = ap (λ (b : Contents). hook_count b.places) c.over-smt.ensures.board ∙ c.in_ok-board.ensures.none;
    } in
    started_state run head c.args.threads ops c.args.want started

pub returns-clause-loaded : goal.returns-clause-loaded
returns-clause-loaded g c =
    actors_loaded g.H.Hook.counts c.in_ok-actors.actors.items c.in_ok-actors.ensures.fresh
    ∙ ap (map (map is_setup)) c.in_ok-actors.ensures.ops

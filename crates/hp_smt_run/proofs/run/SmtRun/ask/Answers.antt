-- An actor's turn is one of the run.
use Rattle.std.proofs.Common.{◌≡◌, Some, length, refl}
use Rattle.std.specs.Prelude.{slice_get}
use Rattle.std.proofs.lemmas.Option.{slice_get_read}
use Rattle.hp_smt_run.proofs.HooksTurned.{actor_under}
use Rattle.hp_smt_run.proofs.Stepped.{allowed_of, no_actor_writes}
use Rattle.hp_smt_run.proofs.Turned.{actor_turned}
use Rattle.hp_smt_run.proofs.run.SmtRun.ask.Goals as goal

pub step-requires-clause-allowed : goal.step-requires-clause-allowed
step-requires-clause-allowed g c =
    let run = c.args.self.now in
    let at : slice_get run.actors.items c.args.place ≡ Some c.index_mut.result.now =
    slice_get_read run.actors.items (length run.actors.items) c.args.place c.index_mut.result.now refl c.requires.actor c.index_mut.ensures.value in
    λ ask asks. allowed_of run c.args.place c.index_mut.result.now ask c.requires.playing at asks

pub step-requires-clause-hook : goal.step-requires-clause-hook
step-requires-clause-hook g c =
    let run = c.args.self.now in
    let at : slice_get run.actors.items c.args.place ≡ Some c.index_mut.result.now =
    slice_get_read run.actors.items (length run.actors.items) c.args.place c.index_mut.result.now refl c.requires.actor c.index_mut.ensures.value in
    c.requires.playing.hooks c.args.place c.index_mut.result.now at

pub step-requires-clause-no_write : goal.step-requires-clause-no_write
step-requires-clause-no_write g c = no_actor_writes c.args.self.now c.args.place c.requires.playing c.requires.actor

pub returns-clause-turned : goal.returns-clause-turned
returns-clause-turned g c =
    let run = c.args.self.now in
    let at : slice_get run.actors.items c.args.place ≡ Some c.index_mut.result.now =
    slice_get_read run.actors.items (length run.actors.items) c.args.place c.index_mut.result.now refl c.requires.actor c.index_mut.ensures.value in
    actor_turned c.args.place run _ c.index_mut.result.now c.step.new.actor c.requires.playing
    (record {
      at = at;
      actors_are = refl;
      seats_are = refl;
      want_is = refl;
      written_are = refl;
      stepped = c.in_ok-step.ensures.stepped;
    }) c.sound.ensures.primaries

pub returns-clause-hooks : goal.returns-clause-hooks
returns-clause-hooks g c =
    let run = c.args.self.now in
    let at : slice_get run.actors.items c.args.place ≡ Some c.index_mut.result.now =
    slice_get_read run.actors.items (length run.actors.items) c.args.place c.index_mut.result.now refl c.requires.actor c.index_mut.ensures.value in
    actor_under g.H.Hook.counts c.args.place run c.index_mut.result.now c.step.new.actor c.requires.playing at c.in_ok-step.ensures.hooks

-- The hooks of operations go back, and behind them those of the registered states.
use Rattle.std.proofs.Common.{length, ap, sym, subst, ◌∙◌, arith}
use Rattle.std.proofs.lemmas.List.{length-append}
use Rattle.hp_board.proofs.HooksCounted.{racked_counted}
use Rattle.hp_board.specs.Retired.{hooks_of}
use Rattle.hp_table.specs.Step.{AllHome}
use Rattle.hp_board.specs.Contents.{Contents}
use Rattle.hp_board.specs.Retired.{IsRacked, registered_hooks}
use Rattle.hp_model.specs.Registrations.{registration}
use Rattle.hp_actors.specs.Racks.{actors_hooks}
use Rattle.hp_actors.proofs.Giving.{racked_behind, actors_held}
use Rattle.hp_smt_run.proofs.run.SmtRun.finish.Goals as goal

pub retire-requires : goal.retire-requires
retire-requires g c = subst (λ (b : Contents). AllHome b.places) (sym c.into_board.ensures) c.sound.ensures.kept.home

pub returns-in-Ok-clause-rack : goal.returns-in-Ok-clause-rack
returns-in-Ok-clause-rack g c =
    let board = c.args.self.smt.board in
    let given = c.give_back.new.rack.hooks.items in
    let new = c.retire.new.rack.hooks.items in
    let free = ap (λ (b : Contents). registration b.events) c.into_board.ensures ∙ c.rests.ensures.registration in
    let last =
    subst (λ (b : Contents). IsRacked g.H.Hook.counts given new (registered_hooks b.head b.events)) c.into_board.ensures
    (c.in-Ok.ensures.registered free) in
    racked_behind g.H.Hook.counts c.args.rack.now.hooks.items given new c.args.self.actors.items
    (registered_hooks board.head board.events) c.in_ok-give_back.ensures last

pub returns-in-Ok-clause-all : goal.returns-in-Ok-clause-all
returns-in-Ok-clause-all g c =
    let actors = c.args.self.actors.items in
    let given = c.give_back.new.rack.hooks.items in
    let new = c.retire.new.rack.hooks.items in
    let last =
    subst (λ (b : Contents). IsRacked g.H.Hook.counts given new (hooks_of b.places)) c.into_board.ensures c.in-Ok.ensures.hooks in
    let retired = racked_counted g.H.Hook.counts given new c.args.self.smt.board.places last in
    let long = ap length c.in_ok-give_back.ensures ∙ length-append c.args.rack.now.hooks.items (actors_hooks actors) in
    let with_actors = actors_held actors in
    let held = c.requires.playing.held in
    omega (arith, retired, long, with_actors, held)

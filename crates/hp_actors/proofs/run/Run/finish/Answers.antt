-- The hooks of operations go back, behind them those of the registered states, and all are there.
use Rattle.std.proofs.Common.{◌≡◌, None, ◌++◌, length, ap, sym, subst, ◌∙◌, arith}
use Rattle.std.specs.List.{sum_by}
use Rattle.std.proofs.lemmas.List.{length-append}
use Rattle.std.proofs.lemmas.Result.{on_ok_weaker}
use Rattle.hp_board.proofs.HooksCounted.{racked_counted}
use Rattle.hp_board.specs.Retired.{IsRacked, registered_hooks}
use Rattle.hp_model.specs.Registrations.{registration}
use Rattle.hp_script.specs.Playable.{setups_in}
use Rattle.hp_actors.specs.Hooks.{hooks_there}
use Rattle.hp_actors.specs.Positions.{Position}
use Rattle.hp_actors.proofs.Giving.{racked_behind, actors_held}
use Rattle.hp_actors.proofs.run.Run.finish.Goals as goal

pub retire-requires : goal.retire-requires
retire-requires g c = c.self.invariant.home

pub returns-in-Ok : goal.returns-in-Ok
returns-in-Ok g c =
    let free =
    subst (λ (p : Position). registration p.progress.events ≡ None) (sym c.self.view_is) c.rests.ensures.registration in
    let r = c.in-Ok.ensures.registered free in
    let retired = racked_counted
    g.H.Hook.counts
    c.give_back-given.new.rack.hooks.items c.retire.new.rack.hooks.items c.self.inside.board.places c.in-Ok.ensures.hooks in
    let held = c.self.invariant.playing.held in
    let setups = ap (λ (p : Position). sum_by setups_in p.actors) c.self.view_is in
    let given = c.give_back-given in
    record {
      hooks =
          on_ok_weaker given.result (
          λ back.
          subst (λ (p : Position).
          IsRacked g.H.Hook.counts c.args.rack.now.hooks.items c.retire.new.rack.hooks.items
          (hooks_there p.hooks ++ registered_hooks p.head p.progress.events)) c.self.view_is
          (racked_behind g.H.Hook.counts c.args.rack.now.hooks.items given.new.rack.hooks.items c.retire.new.rack.hooks.items
          c.self.inside.actors.items
          (registered_hooks c.self.inside.board.head c.self.inside.board.events) back r)
          ) given.ensures;
      all =
          on_ok_weaker given.result (
          λ back.
          let all = actors_held c.self.inside.actors.items in
          let long = ap length back ∙ length-append c.args.rack.now.hooks.items _ in
          omega (arith, retired, long, all, held, setups)
          ) given.ensures;
    }

-- A turn of the run is the model's.
use Rattle.std.proofs.Common.{◌≡◌, ℕ, ◌<◌, ◌≤◌, ◌+◌, ◌-◌, OnOk, OnErr, map, set, refl, subst, arith, length, Some}
use Rattle.std.specs.Prelude.{slice_get}
use Rattle.std.proofs.lemmas.List.{length-map}
use Rattle.std.proofs.lemmas.Option.{slice_get_read}
use Rattle.hp_actors.proofs.HooksTurned.{none_stands, turn_keeps, turn_turned}
use Rattle.hp_actors.proofs.PassedOverStay.{turn_knows}
use Rattle.hp_actors.proofs.Playing.{lawful_of, allowed_of, turn_playing_at, turn_position_at, failed_position, no_seat}
use Rattle.hp_model.specs.Pending.{IsAllowed}
use Rattle.hp_model.specs.Processors.{present}
use Rattle.hp_actors.specs.RunInvariant.{HasHook}
use Rattle.hp_actors.specs.Hooks.{KeepsHooks, turned}
use Rattle.hp_actors.specs.Positions.{Position, position_of, ops_of}
use Rattle.hp_actors.proofs.run.Run.turn.Goals as goal

pub returns-then-place-len-clause-ok : goal.returns-then-place-len-clause-ok
returns-then-place-len-clause-ok g c =
    let b = c.self.inside.board in
    let threads : ℕ = c.self.inside.threads in
    let place : ℕ = c.args.seat - threads in
    let actors = c.self.inside.actors.items in
    let past : threads + length actors ≤ c.args.seat = omega arith in
    let here : c.args.seat ≡ length (present b.head) + place = omega (arith, past, c.self.invariant.playing.threads_are) in
    let beyond : length (map ops_of actors) ≤ place = omega (arith, past, length-map actors ops_of) in
    subst (λ (z : Position). z ≡ turned z c.args.seat) c.self.view_is
    (none_stands (position_of g.H.Hook.counts b actors) c.args.seat place here beyond
    (no_seat b threads actors c.args.seat c.self.invariant.playing past))

pub step-requires-clause-allowed : goal.step-requires-clause-allowed
step-requires-clause-allowed g c =
    let threads : ℕ = c.self.inside.threads in
    let place : ℕ = c.args.seat - threads in
    let actors = c.self.inside.actors.items in
    let below : place < length actors = omega arith in
    let here : threads + place ≡ c.args.seat = omega arith in
    let at : slice_get actors place ≡ Some c.index_mut.result.now =
    slice_get_read actors (length actors) place c.index_mut.result.now refl below c.index_mut.ensures.value in
    λ ask asks.
    subst (λ (k : ℕ). IsAllowed c.self.inside.board.head c.self.inside.board.events (record { seat = k; op = ask.op })) here
    (allowed_of c.self.inside.board threads actors place c.index_mut.result.now ask c.self.invariant.playing at asks)

pub step-requires-clause-hook : goal.step-requires-clause-hook
step-requires-clause-hook g c =
    let threads : ℕ = c.self.inside.threads in
    let place : ℕ = c.args.seat - threads in
    let actors = c.self.inside.actors.items in
    let below : place < length actors = omega arith in
    let here : threads + place ≡ c.args.seat = omega arith in
    let at : slice_get actors place ≡ Some c.index_mut.result.now =
    slice_get_read actors (length actors) place c.index_mut.result.now refl below c.index_mut.ensures.value in
    subst (λ (k : ℕ). HasHook c.self.inside.board.events k c.index_mut.result.now) here
    (c.self.invariant.playing.hooks place c.index_mut.result.now at)

pub step-requires-clause-lawful : goal.step-requires-clause-lawful
step-requires-clause-lawful g c = lawful_of c.self.inside.board c.self.inside.threads c.self.inside.actors.items c.self.invariant.playing

pub invariant_of-self : goal.invariant_of-self
invariant_of-self g c =
    let threads : ℕ = c.self.inside.threads in
    let place : ℕ = c.args.seat - threads in
    let actors = c.self.inside.actors.items in
    let below : place < length actors = omega arith in
    let here : threads + place ≡ c.args.seat = omega arith in
    let at : slice_get actors place ≡ Some c.index_mut.result.now =
    slice_get_read actors (length actors) place c.index_mut.result.now refl below c.index_mut.ensures.value in
    record {
      playing =
          turn_playing_at c.step.result c.self.inside.board c.step.new.board actors threads place c.args.seat c.index_mut.result.now
          c.step.new.actor here c.self.invariant.playing at c.step.ensures.head c.step.ensures.events c.step.ensures.answered c.step.ensures.ops
          c.step.ensures.hook c.step.ensures.kept c.step.ensures.err;
      waits =
          turn_knows c.step.result c.self.inside.board c.step.new.board actors threads c.self.inside.last_end c.step.new.last_end place
          c.args.seat c.index_mut.result.now c.step.new.actor here at c.step.ensures.head c.step.ensures.events c.step.ensures.err
          c.step.ensures.still c.step.ensures.last_end c.step.ensures.ends c.step.ensures.waits c.self.invariant.waits;
      home = c.step.ensures.home;
    }

pub returns-clause-ok : goal.returns-clause-ok
returns-clause-ok g c =
    let threads : ℕ = c.self.inside.threads in
    let place : ℕ = c.args.seat - threads in
    let actors = c.self.inside.actors.items in
    let below : place < length actors = omega arith in
    let here : threads + place ≡ c.args.seat = omega arith in
    let at : slice_get actors place ≡ Some c.index_mut.result.now =
    slice_get_read actors (length actors) place c.index_mut.result.now refl below c.index_mut.ensures.value in
    let b = c.self.inside.board in
    let seated : c.args.seat ≡ length (present b.head) + place = omega (arith, here, c.self.invariant.playing.threads_are) in
    subst (λ (z : Position).
    OnOk c.step.result (position_of g.H.Hook.counts c.step.new.board (set actors place c.step.new.actor) ≡ turned z c.args.seat)) c.self.view_is
    (turn_turned c.step.result g.H.Hook.counts b c.step.new.board actors c.args.seat place c.index_mut.result.now c.step.new.actor seated at
    c.step.ensures.own_hooks
    (turn_position_at c.step.result g.H.Hook.counts b c.step.new.board actors threads place c.args.seat c.index_mut.result.now
    c.step.new.actor here c.self.invariant.playing at c.step.ensures.head c.step.ensures.events c.step.ensures.answered c.step.ensures.ops
    c.step.ensures.hook c.step.ensures.kept))

pub returns-clause-kept : goal.returns-clause-kept
returns-clause-kept g c =
    let threads : ℕ = c.self.inside.threads in
    let place : ℕ = c.args.seat - threads in
    let actors = c.self.inside.actors.items in
    let below : place < length actors = omega arith in
    let at : slice_get actors place ≡ Some c.index_mut.result.now =
    slice_get_read actors (length actors) place c.index_mut.result.now refl below c.index_mut.ensures.value in
    let b = c.self.inside.board in
    subst (λ (z : Position).
    KeepsHooks z (position_of g.H.Hook.counts c.step.new.board (set actors place c.step.new.actor))) c.self.view_is
    (turn_keeps c.step.result g.H.Hook.counts b c.step.new.board actors c.args.seat place c.index_mut.result.now c.step.new.actor at
    c.step.ensures.answered c.step.ensures.own_hooks
    (failed_position c.step.result g.H.Hook.counts b c.step.new.board actors place c.index_mut.result.now c.step.new.actor at
    c.step.ensures.err))

pub returns-clause-err : goal.returns-clause-err
returns-clause-err g c =
    let threads : ℕ = c.self.inside.threads in
    let place : ℕ = c.args.seat - threads in
    let actors = c.self.inside.actors.items in
    let below : place < length actors = omega arith in
    let here : threads + place ≡ c.args.seat = omega arith in
    let at : slice_get actors place ≡ Some c.index_mut.result.now =
    slice_get_read actors (length actors) place c.index_mut.result.now refl below c.index_mut.ensures.value in
    subst (λ (z : Position). OnErr c.step.result (position_of g.H.Hook.counts c.step.new.board (set actors place c.step.new.actor) ≡ z)) c.self.view_is
    (failed_position c.step.result g.H.Hook.counts c.self.inside.board c.step.new.board actors place c.index_mut.result.now
    c.step.new.actor at c.step.ensures.err)

use Rattle.std.proofs.Common.{◌≢◌, ◌<◌, ◌≤◌, ◌∙◌, ap, sym, refl, [], length, arith}
use Rattle.std.proofs.lemmas.List.{append-nil}
use Rattle.hp_table.specs.Step.{is_home}
use Rattle.hp_board.proofs.HooksRetired.{racked_put}
use Rattle.hp_board.proofs.retiring.move_hooks.Goals as goal

pub take_hook-requires : goal.take_hook-requires
take_hook-requires g c =
    let k = c.loop-state.state in
    let here : k ≤ k = omega arith in
    ap is_home (c.loop-state.invariant.same k here) ∙ c.requires.home k

pub loop-state-preserved : goal.loop-state-preserved
loop-state-preserved g c =
    let k = c.loop-state.state in
    let here : k ≤ k = omega arith in
    let states = c.sound.ensures.states in
    let test = c.loop-state-test.true in
    let below : k < length c.args.table = omega (arith, test, states) in
    let room = c.loop-state.invariant.room in
    let more = c.put.ensures.length in
    let places = c.put.ensures.places in
    record {
      same = λ s from.
          let other : s ≢ k = λ is. absurd (omega (arith, is, from)) in
          let above : k ≤ s = omega (arith, from) in
          c.take_hook.ensures.others s other ∙ c.loop-state.invariant.same s above;
      room = omega (arith, room, more, places);
      racked =
          racked_put _ _ _ _ c.args.table k c.take_hook.result _ below (c.loop-state.invariant.same k here)
          c.loop-state.invariant.racked c.take_hook.ensures.hook c.take_hook.ensures.none
          c.put.ensures.some c.put.ensures.none;
    }

pub loop-state-init : goal.loop-state-init
loop-state-init g c =
    let room = c.requires.room in
    record {
      same = λ s from. refl;
      room = omega (arith, room);
      racked = record { added = []; behind = sym (append-nil c.args.hooks.now.items); are = refl };
    }

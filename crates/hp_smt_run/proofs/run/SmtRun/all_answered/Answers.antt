-- Each actor's operations are answered, or one's aren't.
use Rattle.std.proofs.Common.{◌≡◌, false, None, Some, is_none, map, refl, ap, sym, ◌∙◌, length, arith}
use Rattle.std.specs.Prelude.{option_map, slice_get}
use Rattle.std.proofs.lemmas.List.{length-map}
use Rattle.std.proofs.lemmas.Option.{slice_get_read}
use Rattle.hp_actors.specs.Positions.{op_of, ops_of, answered_of}
use Rattle.hp_actors.specs.ActorTurns.{asked}
use Rattle.hp_actors.proofs.Playing.{asked_is}
use Rattle.hp_actors.proofs.RoundLaws.{not_over, answered_more, pending}
use Rattle.hp_smt_run.specs.Playing.{ops_in}
use Rattle.hp_smt_run.proofs.run.SmtRun.all_answered.Goals as goal

pub loop-actor-init : goal.loop-actor-init
loop-actor-init g c = record { items = c.as_slice-actor-items.ensures.value; done = refl }

pub loop-actor-preserved : goal.loop-actor-preserved
loop-actor-preserved g c =
    let i = c.loop-actor.invariant in
    let self = c.args.self.now in
    let actors = c.as_slice-actor-items.result.now in
    let at : slice_get actors c.loop-actor.actor-index ≡ Some c.actor-item.result =
    slice_get_read actors (length actors) c.loop-actor.actor-index c.actor-item.result refl c.loop-actor-test.true c.actor-item.is in
    let here = ap (λ z. slice_get z c.loop-actor.actor-index) (sym i.items) ∙ at in
    let none : asked c.actor-item.result ≡ None = ap (option_map op_of) (c.is_done.ensures.0 c.if-not-is_done.false) in
    record {
      items = i.items;
      done =
          answered_more (ops_in self) (map answered_of self.actors.items) c.loop-actor.actor-index i.done
          (asked_is self.actors.items c.loop-actor.actor-index c.actor-item.result here ∙ none);
    }

pub returns-then-not-is_done : goal.returns-then-not-is_done
returns-then-not-is_done g c =
    let i = c.loop-actor.invariant in
    let self = c.args.self.now in
    let actors = c.as_slice-actor-items.result.now in
    let at : slice_get actors c.loop-actor.actor-index ≡ Some c.actor-item.result =
    slice_get_read actors (length actors) c.loop-actor.actor-index c.actor-item.result refl c.loop-actor-test.true c.actor-item.is in
    let here = ap (λ z. slice_get z c.loop-actor.actor-index) (sym i.items) ∙ at in
    let some : is_none (asked c.actor-item.result) ≡ false =
    pending (slice_get c.actor-item.result.asks c.actor-item.result.answered) c.is_done.result c.is_done.ensures.1 c.if-not-is_done.true in
    let many = length-map self.actors.items ops_of in
    let same = ap length i.items in
    sym (not_over (ops_in self) (map answered_of self.actors.items) c.loop-actor.actor-index (length (ops_in self))
    (omega (arith, many, same, c.loop-actor-test.true))
    (ap is_none (asked_is self.actors.items c.loop-actor.actor-index c.actor-item.result here) ∙ some))

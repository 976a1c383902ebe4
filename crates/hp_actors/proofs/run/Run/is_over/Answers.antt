-- Each actor's operations are answered, or one's aren't.
use Rattle.std.proofs.Common.{◌≡◌, false, None, Some, is_none, map, refl, ap, sym, ◌∙◌, length, arith}
use Rattle.std.specs.Prelude.{option_map, slice_get}
use Rattle.std.proofs.lemmas.List.{length-map}
use Rattle.std.proofs.lemmas.Option.{slice_get_read}
use Rattle.hp_model.specs.ScriptTurns.{unanswered}
use Rattle.hp_actors.specs.Positions.{op_of, ops_of, answered_of}
use Rattle.hp_actors.specs.ActorTurns.{asked}
use Rattle.hp_actors.proofs.Playing.{asked_is}
use Rattle.hp_actors.proofs.RoundLaws.{not_over, answered_more, pending}
use Rattle.hp_actors.proofs.run.Run.is_over.Goals as goal

pub loop-actor-init : goal.loop-actor-init
loop-actor-init g c = record {
  ops = ap (map ops_of) c.as_slice-actor-items.ensures.value ∙ ap (λ p. p.actors) c.self.view_is;
  answers = ap (map answered_of) c.as_slice-actor-items.ensures.value ∙ ap (λ p. p.progress.answers) c.self.view_is;
  done = refl;
}

pub loop-actor-preserved : goal.loop-actor-preserved
loop-actor-preserved g c =
    let i = c.loop-actor.invariant in
    let actors = c.as_slice-actor-items.result.now in
    let at : slice_get actors c.loop-actor.actor-index ≡ Some c.actor-item.result =
    slice_get_read actors (length actors) c.loop-actor.actor-index c.actor-item.result refl c.loop-actor-test.true c.actor-item.is in
    let none : asked c.actor-item.result ≡ None = ap (option_map op_of) (c.is_done.ensures.0 c.if-not-is_done.false) in
    record {
      ops = i.ops;
      answers = i.answers;
      done =
          answered_more c.args.self.now.actors c.args.self.now.progress.answers c.loop-actor.actor-index i.done
          (ap (λ a. unanswered a c.args.self.now.progress.answers c.loop-actor.actor-index) (sym i.ops)
          ∙ (ap (λ n. unanswered (map ops_of actors) n c.loop-actor.actor-index) (sym i.answers)
          ∙ (asked_is actors c.loop-actor.actor-index c.actor-item.result at ∙ none)));
    }

pub returns-then-not-is_done : goal.returns-then-not-is_done
returns-then-not-is_done g c =
    let i = c.loop-actor.invariant in
    let actors = c.as_slice-actor-items.result.now in
    let at : slice_get actors c.loop-actor.actor-index ≡ Some c.actor-item.result =
    slice_get_read actors (length actors) c.loop-actor.actor-index c.actor-item.result refl c.loop-actor-test.true c.actor-item.is in
    let some : is_none (asked c.actor-item.result) ≡ false =
    pending (slice_get c.actor-item.result.asks c.actor-item.result.answered) c.is_done.result c.is_done.ensures.1 c.if-not-is_done.true in
    let many : length c.args.self.now.actors ≡ length actors = ap length (sym i.ops) ∙ length-map actors ops_of in
    sym (not_over c.args.self.now.actors c.args.self.now.progress.answers c.loop-actor.actor-index (length c.args.self.now.actors)
    (omega (arith, many, c.loop-actor-test.true))
    (ap is_none
    (ap (λ a. unanswered a c.args.self.now.progress.answers c.loop-actor.actor-index) (sym i.ops)
    ∙ (ap (λ n. unanswered (map ops_of actors) n c.loop-actor.actor-index) (sym i.answers)
    ∙ asked_is actors c.loop-actor.actor-index c.actor-item.result at))
    ∙ some))

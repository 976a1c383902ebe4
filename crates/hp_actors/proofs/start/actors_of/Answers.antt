-- Each actor takes the hooks of its setups.
use Rattle.std.proofs.Common.{◌≡◌, ◌+◌, take, subst, [], ◌∷◌, ◌++◌, map, ap, sym, ◌∙◌, arith}
use Rattle.std.proofs.lemmas.List.{map-append}
use Rattle.std.proofs.lemmas.List.Elements.{All-push}
use Rattle.hp_actors.specs.Actors.{AreLoaded, agenda_at}
use Rattle.hp_actors.specs.Positions.{ops_of}
use Rattle.hp_actors.specs.Racks.{IsFresh, Takes}
use Rattle.hp_script.specs.Playable.{setups_in}
use Rattle.std.specs.List.{sum_by}
use Rattle.hp_actors.proofs.Loading.{actors_taken, dealt_counts, dealt_takes}
use Rattle.hp_actors.proofs.Taking.{actors_left, actors_met, take_next, takes_both, takes_length}
use Rattle.hp_actors.proofs.start.actors_of.Goals as goal

pub new-requires : goal.new-requires
new-requires g c =
    let left = actors_left c.args.script.now.actors c.loop-number.number c.ops.result.now c.ops.ensures in
    omega (arith, left, c.loop-number.invariant.left)

pub loop-number-preserved : goal.loop-number-preserved
loop-number-preserved g c =
    let i = c.loop-number.invariant in
    let e = c.in_ok-new.ensures in
    let actor = c.in_ok-new.field-0 in
    let pushed = c.in_ok-push.ensures.items in
    let takes =
    subst (λ ops. Takes c.loop-number.rack.hooks.items c.new.new.rack.hooks.items (setups_in ops)) e.ops
    (dealt_takes c.loop-number.rack.hooks.items c.new.new.rack.hooks.items actor.asks e.dealt e.loaded) in
    record {
      ops =
          ap (map ops_of) pushed
          ∙ (map-append ops_of c.loop-number.actors.items (actor ∷ [])
          ∙ (ap (λ z. z ++ ops_of actor ∷ []) i.ops
          ∙ (ap (λ z. take c.loop-number.number c.args.script.now.actors ++ z ∷ []) e.ops
          ∙ sym (take_next c.args.script.now.actors c.loop-number.number c.ops.result.now c.ops.ensures))));
      fresh =
          subst IsFresh (sym pushed)
          (All-push (λ actor. (actor ≡ agenda_at actor.asks 0) × AreLoaded actor.asks) c.loop-number.actors.items actor i.fresh
          (e.fresh, e.loaded));
      left =
          let left = actors_left c.args.script.now.actors c.loop-number.number c.ops.result.now c.ops.ensures in
          let r = takes_length c.loop-number.rack.hooks.items c.new.new.rack.hooks.items (setups_in c.ops.result.now) takes in
          omega (arith, left, r, i.left);
      taken =
          takes_both c.args.rack.now.hooks.items c.loop-number.rack.hooks.items c.new.new.rack.hooks.items
          (sum_by setups_in (take c.loop-number.number c.args.script.now.actors)) (setups_in c.ops.result.now)
          (sum_by setups_in (take (c.loop-number.number + 1) c.args.script.now.actors)) i.taken takes
          (actors_met c.args.script.now.actors c.loop-number.number c.ops.result.now c.ops.ensures);
      hooks =
          actors_taken g.H.Hook.counts c.args.rack.now.hooks.items c.loop-number.rack.hooks.items c.new.new.rack.hooks.items
          c.loop-number.actors.items c.push.new.self.items actor i.hooks
          (dealt_counts g.H.Hook.counts c.loop-number.rack.hooks.items c.new.new.rack.hooks.items actor e.dealt) pushed;
    }

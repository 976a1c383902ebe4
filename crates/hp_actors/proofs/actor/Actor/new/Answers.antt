-- Each setup takes the last hook.
use Rattle.std.proofs.Common.{◌≡◌, is_some, ap, sym, subst, length, ◌∙◌, [], ◌∷◌, ◌++◌, map, arith}
use Rattle.std.specs.Prelude.{slice_index_or}
use Rattle.std.proofs.lemmas.List.{map-append}
use Rattle.std.proofs.lemmas.List.Elements.{All-push}
use Rattle.hp_states.proofs.Basics.{take_at}
use Rattle.hp_event.specs.declared.op.Op.TheVariants.{Up}
use Rattle.hp_account.specs.TableChanges.{is_setup}
use Rattle.hp_actors.specs.Positions.{op_of}
use Rattle.hp_actors.specs.Actors.{AreLoaded, IsAgenda, agenda, wait_at}
use Rattle.hp_actors.proofs.Agendas.{later_behind, same_place}
use Rattle.hp_actors.proofs.Loading.{dealt_more}
use Rattle.hp_actors.proofs.Taking.{setups_left, rack_left, counted_one, counted_same}
use Rattle.hp_actors.proofs.actor.Actor.new.Goals as goal

pub hook_for-hook-requires : goal.hook_for-hook-requires
hook_for-hook-requires g c = λ setup.
    let left = setups_left c.args.ops.now c.loop-op.op-index (Up 0) c.loop-op-test.true in
    let one = counted_one (is_setup (slice_index_or c.args.ops.now c.loop-op.op-index (Up 0))) setup in
    omega (arith, left, one, c.loop-op.invariant.left)

pub loop-op-preserved : goal.loop-op-preserved
loop-op-preserved g c =
    let i = c.loop-op.invariant in
    let op = slice_index_or c.args.ops.now c.loop-op.op-index (Up 0) in
    let e = c.hook_for-hook.ensures in
    let pushed = c.in_ok-push.ensures.items in
    let count = counted_same (is_some c.hook_for-hook.result) (is_setup op) e.setup in
    record {
      ops =
          ap (map op_of) pushed
          ∙ (map-append op_of c.loop-op.asks.items (record { op = op; hook = c.hook_for-hook.result } ∷ [])
          ∙ (ap (λ z. z ++ op ∷ []) i.ops ∙ sym (take_at c.args.ops.now c.loop-op.op-index (Up 0) c.loop-op-test.true)));
      loaded =
          subst AreLoaded (sym pushed)
          (All-push (λ ask. is_some ask.hook ≡ is_setup ask.op) c.loop-op.asks.items (record { op = op; hook = c.hook_for-hook.result }) i.loaded e.setup);
      left =
          let left = setups_left c.args.ops.now c.loop-op.op-index (Up 0) c.loop-op-test.true in
          let r = rack_left c.loop-op.rack.hooks.items c.hook_for-hook.new.rack.hooks.items c.hook_for-hook.result e.last e.none in
          omega (arith, left, r, count, i.left);
      dealt =
          dealt_more c.args.rack.now.hooks.items c.loop-op.rack.hooks.items c.hook_for-hook.new.rack.hooks.items c.loop-op.asks.items
          c.push.new.self.items (record { op = op; hook = c.hook_for-hook.result }) i.dealt e.last e.none pushed;
    }

pub invariant_of-result : goal.invariant_of-result
invariant_of-result g c =
    let asks = c.loop-op.asks.items in
    let first = same_place asks 0 (omega arith) (later_behind asks c.loop-op.invariant.loaded) in
    let waits : c.first_wait-waits.result ≡ wait_at 0 (length asks) =
    c.first_wait-waits.ensures ∙ ap (wait_at 0) (c.len.ensures ∙ c.loop-op.asks.ok.0) in
    subst (λ w. IsAgenda (agenda asks 0 w)) (sym waits) first

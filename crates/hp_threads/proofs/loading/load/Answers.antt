-- Each setup takes the last hook.
use Rattle.std.proofs.Common.{◌≡◌, is_some, ap, sym, subst, ◌∙◌, [], ◌∷◌, ◌++◌, map, arith}
use Rattle.std.specs.Prelude.{slice_index_or}
use Rattle.std.proofs.lemmas.List.{map-append}
use Rattle.std.proofs.lemmas.List.Elements.{All-push}
use Rattle.hp_states.proofs.Basics.{take_at}
use Rattle.hp_account.specs.TableChanges.{is_setup}
use Rattle.hp_actors.specs.Actors.{AreLoaded}
use Rattle.hp_actors.specs.Positions.{op_of}
use Rattle.hp_event.specs.declared.op.Op.TheVariants.{Up}
use Rattle.hp_threads.proofs.Taking.{count_of, counted_one, rack_left, setups_left}
use Rattle.hp_threads.proofs.loading.load.Goals as goal

pub hook_for-hook-requires : goal.hook_for-hook-requires
hook_for-hook-requires g c = λ setup.
    let left = setups_left c.args.ops.now c.loop-op.op-index (Up 0) c.loop-op-test.true in
    let one = counted_one (is_setup (slice_index_or c.args.ops.now c.loop-op.op-index (Up 0))) setup in
    omega (arith, left, one, c.loop-op.invariant.left, c.requires)

pub loop-op-preserved : goal.loop-op-preserved
loop-op-preserved g c =
    let i = c.loop-op.invariant in
    let op = slice_index_or c.args.ops.now c.loop-op.op-index (Up 0) in
    let e = c.hook_for-hook.ensures in
    let pushed = c.in_ok-push.ensures.items in
    let count = ap count_of e.setup in
    record {
      ops =
          ap (map op_of) pushed
          ∙ (map-append op_of c.loop-op.asks.items (record { op = op; hook = c.hook_for-hook.result } ∷ [])
          ∙ (ap (λ z. z ++ op ∷ []) i.ops ∙ sym (take_at c.args.ops.now c.loop-op.op-index (Up 0) c.loop-op-test.true)));
      loaded =
          subst AreLoaded (sym pushed)
          (All-push (λ ask. is_some ask.hook ≡ is_setup ask.op) c.loop-op.asks.items (record { op = op; hook = c.hook_for-hook.result })
          i.loaded e.setup);
      left =
          let left = setups_left c.args.ops.now c.loop-op.op-index (Up 0) c.loop-op-test.true in
          let r = rack_left c.loop-op.rack.hooks.items c.hook_for-hook.new.rack.hooks.items c.hook_for-hook.result e.last e.none in
          omega (arith, left, r, count, i.left);
    }

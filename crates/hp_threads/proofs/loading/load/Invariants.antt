use Rattle.std.proofs.Common.{◌≡◌, ◌+◌, length, map, take, drop}
use Rattle.hp_actors.specs.Actors.{AreLoaded}
use Rattle.hp_actors.specs.Positions.{op_of}
use Rattle.hp_script.specs.Playable.{setups_in}
use Rattle.hp_threads.proofs.loading.load.Given as goal

abbrev pub invariant-loop-op : goal.invariant-loop-op
invariant-loop-op g l =
    record {
      ops : map op_of l.asks.items ≡ take l.op-index l.ops;
      loaded : AreLoaded l.asks.items;
      left : length l.fn.rack.hooks.items + setups_in (drop l.op-index l.ops) ≡ length l.rack.hooks.items + setups_in l.ops;
    }

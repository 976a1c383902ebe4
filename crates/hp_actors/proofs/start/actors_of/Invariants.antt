use Rattle.std.proofs.Common.{◌≡◌, ◌≤◌, length, map, take, drop}
use Rattle.std.specs.List.{sum_by}
use Rattle.hp_script.specs.Playable.{setups_in}
use Rattle.hp_actors.specs.Hooks.{AreFromRack, hooks_there}
use Rattle.hp_actors.specs.Positions.{ops_of, hooks_of}
use Rattle.hp_actors.specs.Racks.{IsFresh, Takes}
use Rattle.hp_actors.proofs.start.actors_of.Given as goal

abbrev pub invariant-loop-number : goal.invariant-loop-number
invariant-loop-number g l =
    record {
      ops : map ops_of l.actors.items ≡ take l.number l.fn.script.actors;
      fresh : IsFresh l.actors.items;
      left : sum_by setups_in (drop l.number l.fn.script.actors) ≤ length l.rack.hooks.items;
      taken : Takes l.fn.rack.hooks.items l.rack.hooks.items (sum_by setups_in (take l.number l.fn.script.actors));
      hooks : AreFromRack (map g.H.Hook.counts l.fn.rack.hooks.items) (map g.H.Hook.counts l.rack.hooks.items)
          (hooks_there (map (hooks_of g.H.Hook.counts) l.actors.items));
    }

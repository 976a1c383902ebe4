use Rattle.std.proofs.Common.{◌≡◌, ◌≤◌, All, length, map, take, drop}
use Rattle.std.specs.List.{sum_by}
use Rattle.hp_live.specs.Known.{IsOf}
use Rattle.hp_script.specs.Playable.{setups_in}
use Rattle.hp_threads.specs.Admitting.{HaveEntered, client_of, pass_in}
use Rattle.hp_threads.specs.Loaded.{IsLoaded, ops_in}
use Rattle.hp_threads.proofs.admitting.admit_actors.Given as goal

abbrev pub invariant-loop-number : goal.invariant-loop-number
invariant-loop-number g l =
    record {
      own : IsOf l.machine l.root.lock;
      entered : HaveEntered l.fn.root l.root (map client_of (take l.number l.fn.script.actors)) (map pass_in l.jobs.items);
      ops : map ops_in l.jobs.items ≡ take l.number l.fn.script.actors;
      loaded : All IsLoaded l.jobs.items;
      left : sum_by setups_in (drop l.number l.fn.script.actors) ≤ length l.rack.hooks.items;
    }

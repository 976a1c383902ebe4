-- Every count begins at 0.
use Rattle.std.proofs.Common.{arith}
use Rattle.hp_hook.proofs.Bounds.{none_yet}
use Rattle.hp_hook.proofs.script_hook.ScriptHookHook.load.Goals as goal

pub invariant_of-self : goal.invariant_of-self
invariant_of-self c =
    record {
      seen = rw c.new-self-inside.ensures (none_yet c.args.rules);
      faults = omega arith;
      made = omega arith;
    }

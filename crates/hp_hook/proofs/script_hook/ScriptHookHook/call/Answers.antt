-- A call raises no count by more than one.
use Rattle.std.proofs.Common.{◌+◌, ◌≤◌, ap, arith}
use Rattle.hp_states.specs.declared.limits.TheConstants.{MAX_EVENTS}
use Rattle.hp_hook.specs.Counted.{Counts}
use Rattle.hp_hook.proofs.Bounds.{none_above}
use Rattle.hp_hook.proofs.script_hook.ScriptHookHook.call.Goals as goal

pub invariant_of-self : goal.invariant_of-self
invariant_of-self c =
    let room : c.self.inside.made + 1 ≤ MAX_EVENTS = omega (arith, c.requires, ap (λ (k : Counts). k.made) c.self.view_is) in
    record {
      seen = rw c.count_and_answer-answer.ensures.seen (none_above _ _ _ _ c.self.invariant.seen);
      faults = omega arith;
      made = room;
    }

pub invariant_of-self-else-answer-ne0 : goal.invariant_of-self-else-answer-ne0
invariant_of-self-else-answer-ne0 c =
    let room : c.self.inside.made + 1 ≤ MAX_EVENTS = omega (arith, c.requires, ap (λ (k : Counts). k.made) c.self.view_is) in
    record {
      seen = rw c.count_and_answer-answer.ensures.seen (none_above _ _ _ _ c.self.invariant.seen);
      faults = omega arith;
      made = room;
    }

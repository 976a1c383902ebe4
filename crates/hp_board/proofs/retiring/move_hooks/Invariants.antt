use Rattle.std.proofs.Common.{◌≡◌, ℕ, ◌+◌, ◌≤◌, take}
use Rattle.std.specs.Prelude.{vec_len, vec_capacity}
use Rattle.hp_states.specs.declared.limits.TheConstants.{ONLINE}
use Rattle.hp_table.specs.Step.{step_at}
use Rattle.hp_board.specs.Retired.{IsRacked, hooks_of}
use Rattle.hp_board.proofs.retiring.move_hooks.Given as goal

abbrev pub invariant-loop-state : goal.invariant-loop-state
invariant-loop-state g l =
    record {
      same : (s : ℕ) → l.state ≤ s → step_at l.table s ≡ step_at l.fn.table s;
      room : vec_len l.hooks + (ONLINE + 1) ≤ vec_capacity l.hooks + l.state;
      racked :
          IsRacked
          g.H.Hook.counts
          l.fn.hooks.items l.hooks.items (hooks_of (take l.state l.fn.table));
    }

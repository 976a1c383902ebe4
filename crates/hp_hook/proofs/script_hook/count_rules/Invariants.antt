-- The rules behind the one at hand have counted and answered.
use Rattle.std.proofs.Common.{take, length}
use Rattle.hp_states.specs.Rules.{site_at}
use Rattle.hp_hook.proofs.Counting.{HasCounted}
use Rattle.hp_hook.proofs.script_hook.count_rules.Given as goal

abbrev pub invariant-loop-i : goal.invariant-loop-i
invariant-loop-i l =
    HasCounted l.rules (take (length l.rules) l.initial.seen) (site_at l.cpu l.inst l.dir) l.i (take (length l.rules) l.seen) l.answer

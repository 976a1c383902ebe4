-- No rule before the one at hand answers.
use Rattle.std.proofs.Common.{◌≡◌, take, length}
use Rattle.hp_states.specs.Rules.{site_at}
use Rattle.hp_hook.proofs.Answering.{answer_from}
use Rattle.hp_hook.proofs.script_hook.first_answer.Given as goal

abbrev pub invariant-loop-i : goal.invariant-loop-i
invariant-loop-i l =
    answer_from 0 l.rules (take (length l.rules) l.seen) (site_at l.cpu l.inst l.dir)
    ≡ answer_from l.i l.rules (take (length l.rules) l.seen) (site_at l.cpu l.inst l.dir)

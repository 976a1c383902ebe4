use Rattle.std.proofs.Common.{◌≡◌, ℕ, ◌≤◌, ◌<◌, false, List, ◌∷◌, map, Some, ap, refl, ◌∙◌, arith}
use Rattle.std.specs.Prelude.{codes, decimal, All}
use Rattle.std.specs.List.Sorted.{IsStrictlyIncreasing}
use Rattle.hp_states.specs.declared.limits.TheConstants.{MAX_CPUS}
use Rattle.hp_event.specs.declared.head.Head.{Head}
use Rattle.hp_model.specs.Lists.{occurs, among}
use Rattle.hp_model.specs.Words.{line, list_words}
use Rattle.hp_model.specs.Heads.{IsHead}
use Rattle.hp_model.proofs.Rising.{rise_below, rise_increases}
use Rattle.hp_replay.specs.HeadLines.{absent_at}
use Rattle.hp_replay.proofs.AbsentLaws.{zero_not_among}
use Rattle.hp_replay.proofs.HeadLaws.{absent_takes, absent_again}
use Rattle.hp_replay.proofs.TextLines.{head_rise, head_small}
use Rattle.hp_replay.proofs.laws.absent_line.Goals as goal

none_among : (ns : List ℕ) → occurs 0 ns ≡ 0 → among 0 ns ≡ false
none_among ns h = rw h refl

spelled : (l : List ℕ) (possible : ℕ) (absent : List ℕ) → possible ≤ MAX_CPUS → absent_at possible l ≡ Some absent →
    IsStrictlyIncreasing absent × All (λ c. c < possible) absent × (among 0 absent ≡ false) × (l ≡ line (codes "absent" ∷ list_words (map decimal absent)))
spelled l possible absent le h =
    let t = absent_takes possible l absent h in
    (rise_increases 1 possible absent t.1, rise_below 1 possible absent t.1, none_among absent (zero_not_among 1 possible absent (omega arith) t.1), t.0)

read : (l : List ℕ) (head : Head) → IsHead head → l ≡ line (codes "absent" ∷ list_words (map decimal head.absent)) → absent_at head.possible l ≡ Some head.absent
read l head h e = ap (absent_at head.possible) e ∙ absent_again head.possible head.absent (head_small head h) (head_rise head h)

pub returns-clause-spelled : goal.returns-clause-spelled
returns-clause-spelled c = λ possible absent le h. spelled c.args.bytes.now possible absent le h

pub returns-clause-read : goal.returns-clause-read
returns-clause-read c = λ head h e. read c.args.bytes.now head h e

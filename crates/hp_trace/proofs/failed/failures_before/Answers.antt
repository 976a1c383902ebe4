use Rattle.std.proofs.Common.{◌+◌, List, sym, ap, subst, ◌∙◌, arith}
use Rattle.hp_trace.specs.declared.event.Said.{Said}
use Rattle.hp_trace.specs.declared.failed.Failure.{Failure}
use Rattle.hp_trace.specs.Failed.{failure_of, with_failure}
use Rattle.hp_trace.proofs.FailedLaws.{Seen, left_from, seen_on, seen_kept, seen_over, next_line, next_failure, no_failure}
use Rattle.hp_trace.proofs.failed.failures_before.Goals as goal
use Rattle.hp_trace.proofs.failed.failures_before.Goals.{in-Some-failure_of, then-count-lt-MOST_KEPT+in_ok-push, else-count-lt-MOST_KEPT, in_default-failure_of}

pub loop-line-preserved : goal.loop-line-preserved
loop-line-preserved c =
    let n = c.loop-line.line in
    let until = c.args.until in
    let lines = c.loop-line.lines in
    let ls = c.next.new.self in
    let next = next_line n until lines c.in-Some.text.now ls c.loop-line-test.true c.in-Some.ensures.piece c.next.ensures.rest in
    let found = sym (c.failure_of.ensures ∙ ap (λ (s : Said). failure_of n s) c.said_of.ensures) in
    let at_line = next ∙ ap (λ r. with_failure r (left_from (n + 1) until ls)) found in
    let all = left_from 1 until c.of-lines.result in
    let now = left_from n until lines in
    let more = left_from (n + 1) until ls in
    let first = c.loop-line.first.items in
    let count = c.loop-line.count in
    let seen = c.loop-line.invariant.seen in
    let few = c.loop-line.invariant.few in
    elim c.match-failure_of.branch [
      | in-Some-failure_of w ↦
          let f = w.in-Some-failure_of.failure in
          let here = next_failure c.failure_of.result f now more at_line w.in-Some-failure_of.is in
          let before = subst (λ (fs : List Failure). Seen all fs first count) here seen in
          elim w.if-count-lt-MOST_KEPT.branch [
            | then-count-lt-MOST_KEPT+in_ok-push v ↦
                let kept = ap (λ z. z.items) (w.first-is ∙ v.first-is) ∙ v.in_ok-push.ensures.items in
                record {
                  seen = seen_on all more _ _ _ _ kept w.count-is (seen_kept all more first count f v.if-count-lt-MOST_KEPT.true before);
                  few = let is = w.count-is in omega (arith, is, few);
                }
            | else-count-lt-MOST_KEPT v ↦
                let kept = ap (λ z. z.items) (w.first-is ∙ v.first-is) in
                record {
                  seen = seen_on all more _ _ _ _ kept w.count-is (seen_over all more first count f v.if-count-lt-MOST_KEPT.false before);
                  few = let is = w.count-is in omega (arith, is, few);
                }
          ]
      | in_default-failure_of w ↦
          let none = no_failure c.failure_of.result now more at_line w.in_default-failure_of.not-Some in
          let before = subst (λ (fs : List Failure). Seen all fs first count) none seen in
          record {
            seen = seen_on all more _ _ _ _ (ap (λ z. z.items) w.first-is) w.count-is before;
            few = let is = w.count-is in omega (arith, is, few);
          }
    ]

use Rattle.std.proofs.Common.{arith, rules, ◌∙◌, sym, ap, ◌≡◌, length}
use Rattle.hp_print.specs.Counts.{place, with_count, no_count}
use Rattle.std.specs.Prelude.{insert}
use Rattle.hp_print.proofs.KeyOrder.{same_at, same_there, there_at, new_between, new_end}
use Rattle.hp_print.proofs.keys.admit.Goals as goal
use Rattle.hp_print.proofs.keys.admit.Goals.{else-at-len-via-then-at-len+else-not-is_before, else-at-len-via-else-at-len}

pub returns-then-eq-clause-place : goal.returns-then-eq-clause-place
returns-then-eq-clause-place c =
    same_at c.args.key c.args.counts.now.items c.args.remembered c.index.result.now c.requires (omega arith) c.index.ensures
    (sym c.eq.ensures ∙ c.if-eq.true)

pub returns-then-eq-clause-counts : goal.returns-then-eq-clause-counts
returns-then-eq-clause-counts c =
    same_there c.args.key c.args.counts.now.items c.args.remembered c.index.result.now c.requires (omega arith) c.index.ensures
    (sym c.eq.ensures ∙ c.if-eq.true)

pub returns-then-not-is_before-clause-counts : goal.returns-then-not-is_before-clause-counts
returns-then-not-is_before-clause-counts c =
    let all : length c.as_slice.result.now ≡ length c.args.counts.now.items = ap length c.as_slice.ensures.value in
    let here : c.place_of-at.result ≡ place c.args.key c.args.counts.now.items =
    c.place_of-at.ensures.place ∙ ap (place c.args.key) c.as_slice.ensures.value
    in
    there_at c.args.key c.args.counts.now.items c.place_of-at.result c.index-then-at-len.result.now here
    (omega arith) c.index-then-at-len.ensures (sym c.is_before.ensures ∙ c.if-not-is_before.true)

pub returns-clause-counts : goal.returns-clause-counts
returns-clause-counts c =
    let all : length c.as_slice.result.now ≡ length c.args.counts.now.items = ap length c.as_slice.ensures.value in
    let here : c.place_of-at.result ≡ place c.args.key c.args.counts.now.items =
    c.place_of-at.ensures.place ∙ ap (place c.args.key) c.as_slice.ensures.value
    in
    let new : with_count c.args.key c.args.counts.now.items
    ≡ insert c.args.counts.now.items c.place_of-at.result (no_count c.args.key) =
    elim c.else-at-len.branch [
      | else-at-len-via-then-at-len+else-not-is_before w ↦
          new_between c.args.key c.args.counts.now.items c.place_of-at.result w.index-then-at-len.result.now here
          w.index-then-at-len.ensures (sym w.is_before.ensures ∙ w.if-not-is_before.false)
      | else-at-len-via-else-at-len w ↦
          new_end c.args.key c.args.counts.now.items c.place_of-at.result here (omega arith)
    ]
    in
    search (rules, new)

use Rattle.std.proofs.Common.{◌≡◌, false, length, get_or, inl, inr, refl, sym, ◌∙◌, rules}
use Rattle.hp_states.specs.CpuSets.{has}
use Rattle.hp_machine.proofs.SetsSaid.{is_absent_of, absent_here, absent_none, absent_more, absent_nowhere}
use Rattle.hp_machine.proofs.refusals.lists_absent.Goals as goal
use Rattle.hp_machine.proofs.refusals.lists_absent.Goals.{else-cpu-head-via-then-cpu-head+then-cpu-lt-MAX_CPU_SET+else-has, else-cpu-head-via-then-cpu-head+else-cpu-lt-MAX_CPU_SET, else-cpu-head-via-else-cpu-head}

pub loop-at-init : goal.loop-at-init
loop-at-init c = refl

pub returns-then-has : goal.returns-then-has
returns-then-has c =
    let four : length c.args.set.now.words ≡ 4 = search rules in
    let in_it = sym c.has.ensures ∙ c.if-has.true in
    absent_here c.args.head.now c.args.set.now c.as_slice-absent.result.now c.loop-at.at four c.as_slice-absent.ensures c.loop-at-test.true
    c.if-cpu-head.true c.if-cpu-lt-MAX_CPU_SET.true in_it

pub loop-at-preserved : goal.loop-at-preserved
loop-at-preserved c =
    let xs = c.as_slice-absent.result.now in
    let n = get_or xs c.loop-at.at 0 in
    let not_it : is_absent_of c.args.head.now c.args.set.now n ≡ false =
    elim c.else-cpu-head.branch [
      | else-cpu-head-via-then-cpu-head+then-cpu-lt-MAX_CPU_SET+else-has w ↦
          (let f : has c.args.set.now n ≡ false = sym w.has.ensures ∙ w.if-has.false in
          absent_none c.args.head.now c.args.set.now n (inr (inr f)))
      | else-cpu-head-via-then-cpu-head+else-cpu-lt-MAX_CPU_SET w ↦
          absent_none c.args.head.now c.args.set.now n (inr (inl w.if-cpu-lt-MAX_CPU_SET.false))
      | else-cpu-head-via-else-cpu-head w ↦ absent_none c.args.head.now c.args.set.now n (inl w.if-cpu-head.false)
    ]
    in
    absent_more c.args.head.now c.args.set.now xs c.loop-at.at c.loop-at-test.true not_it c.loop-at.invariant

pub returns : goal.returns
returns c =
    let four : length c.args.set.now.words ≡ 4 = search rules in
    absent_nowhere c.args.head.now c.args.set.now c.as_slice-absent.result.now c.loop-at.at four c.as_slice-absent.ensures c.loop-at-test.false
    c.loop-at.invariant

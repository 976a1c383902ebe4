use Rattle.std.proofs.Common.{◌≡◌, ℕ, Bool, true, false, ◌&&◌, ltb, get_or, refl, sym, ◌∙◌, ap, subst, length, arith}
use Rattle.std.proofs.lemmas.Bool.{lt-ltb, le-ltb}
use Rattle.hp_states.specs.CpuSets.{has}
use Rattle.hp_suspend.proofs.Batched.{is_of, batch_begins, taken_one, left_one}
use Rattle.hp_suspend.proofs.batch.Batch.begin.Goals as goal
use Rattle.hp_suspend.proofs.batch.Batch.begin.Goals.{then-has+then-settled-cpu-lt-ONLINE, else-has, else-has-via-then-has+else-settled-cpu-lt-ONLINE, else-has-via-else-has}

pub loop-cpu-init : goal.loop-cpu-init
loop-cpu-init c = λ n. let l : ltb n 0 ≡ false = le-ltb n 0 (omega arith) in c.none-left.ensures n ∙ rw l refl

pub loop-cpu-preserved : goal.loop-cpu-preserved
loop-cpu-preserved c =
    let k = c.loop-cpu.cpu in
    let q : ℕ → Bool = is_of c.args.set.now (λ d. get_or c.args.settled.now d 0) in
    let old = c.loop-cpu.invariant in
    elim c.if-has.branch [
      | then-has+then-settled-cpu-lt-ONLINE w ↦
          let listed : has c.args.set.now k ≡ true = sym c.has.ensures ∙ w.if-has.true in
          let below : ltb (get_or c.args.settled.now k 0) 200 ≡ true = lt-ltb _ 200 w.if-settled-cpu-lt-ONLINE.true in
          let passes : q k ≡ true = rw (listed, below) refl in
          λ n. ap (λ z. has z n) w.left-is ∙ (w.put.ensures n ∙ taken_one q k n (has c.loop-cpu.left n) passes (old n))
      | else-has w ↦
          elim w.else-has.branch [
            | else-has-via-then-has+else-settled-cpu-lt-ONLINE v ↦
                let above : ltb (get_or c.args.settled.now k 0) 200 ≡ false = le-ltb _ 200 v.if-settled-cpu-lt-ONLINE.false in
                let listed : has c.args.set.now k ≡ true = sym c.has.ensures ∙ v.if-has.true in
                let fails : q k ≡ false = rw (listed, above) refl in
                λ n. ap (λ z. has z n) w.left-is ∙ left_one q k n (has c.loop-cpu.left n) fails (old n)
            | else-has-via-else-has v ↦
                let unlisted : has c.args.set.now k ≡ false = sym c.has.ensures ∙ v.if-has.false in
                let fails : q k ≡ false = rw unlisted refl in
                λ n. ap (λ z. has z n) w.left-is ∙ left_one q k n (has c.loop-cpu.left n) fails (old n)
          ]
    ]

pub returns : goal.returns
returns c = λ head before seat are.
    let end : c.loop-cpu.cpu ≡ length c.args.settled.now =
    let a = c.loop-cpu-test.false in
    let b = c.loop-cpu.auto.cpu-end in
    omega (arith, a, b) in
    batch_begins _ c.args.set.now c.args.settled.now head before seat
    (λ n. subst (λ m. has c.loop-cpu.left n ≡ (ltb n m && is_of c.args.set.now (λ d. get_or c.args.settled.now d 0) n)) end (c.loop-cpu.invariant n))
    refl refl are

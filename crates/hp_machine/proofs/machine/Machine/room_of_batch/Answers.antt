use Rattle.std.proofs.Common.{◌≡◌, ℕ, ◌+◌, Bool, true, false, length, refl, ap, sym, ◌∙◌, subst, arith}
use Rattle.hp_states.specs.CpuSets.{has}
use Rattle.hp_suspend.specs.Tables.{AreSettled}
use Rattle.hp_table.specs.Keys.{keys_by}
use Rattle.hp_account.specs.Batches.{IsUpmanyAt}
use Rattle.hp_account.proofs.HeldNext.{settled_all}
use Rattle.hp_machine.specs.Contents.{Contents}
use Rattle.hp_machine.proofs.BatchNeed.{room_at, room_if, summed, one_more, batch_room}
use Rattle.hp_machine.proofs.machine.Machine.room_of_batch.Goals as goal
use Rattle.hp_machine.proofs.machine.Machine.room_of_batch.Goals.{then-is_left, else-is_left}

pub loop-cpu-init : goal.loop-cpu-init
loop-cpu-init g c = (refl, omega arith)

pub overflow_add-sum : goal.overflow_add-sum
overflow_add-sum g c =
    let most = c.loop-cpu.invariant.1 in
    let few = c.need_of_walk-sum.ensures.few in
    let below = c.loop-cpu-test.true in
    let cpus = c.settled-settled.ensures.few in
    omega (arith, most, few, below, cpus)

pub loop-cpu-preserved : goal.loop-cpu-preserved
loop-cpu-preserved g c =
    let k = c.loop-cpu.cpu in
    let keys = keys_by c.self.inside.table in
    let stands = c.settled-settled.result.now in
    let left : ℕ → Bool = λ n. has c.args.batch.now.left n in
    let more = one_more keys left stands k in
    let was : c.loop-cpu.sum ≡ summed keys left stands k = c.loop-cpu.invariant.0 in
    let most = c.loop-cpu.invariant.1 in
    elim c.if-is_left.branch [
      | then-is_left w ↦
          let there : left k ≡ true = sym c.is_left.ensures ∙ w.if-is_left.true in
          let needs : w.need_of_walk-sum.result ≡ room_at keys stands k = w.need_of_walk-sum.ensures.needs in
          let few = w.need_of_walk-sum.ensures.few in
          let is = w.sum-is in
          let one : room_if keys left stands k ≡ room_at keys stands k = rw there refl in
          (is ∙ ((λ i. was i + needs i) ∙ (ap (λ n. summed keys left stands k + n) (sym one) ∙ sym more)), omega (arith, is, few, most))
      | else-is_left w ↦
          let gone : left k ≡ false = sym c.is_left.ensures ∙ w.if-is_left.false in
          let is = w.sum-is in
          let none : room_if keys left stands k ≡ 0 = rw gone refl in
          let same : c.if-is_left.sum ≡ summed keys left stands (k + 1) = omega (arith, is, was, none, more) in
          (same, omega (arith, is, most))
    ]

pub returns : goal.returns
returns g c = λ seat cpu from to.
    let j = c.self.inside.journal in
    let keys = keys_by c.self.inside.table in
    let stands = c.settled-settled.result.now in
    let left : ℕ → Bool = λ n. has c.args.batch.now.left n in
    let a = c.loop-cpu-test.false in
    let b = c.loop-cpu.auto.cpu-end in
    let end : c.loop-cpu.cpu ≡ length stands = omega (arith, a, b) in
    let all : c.loop-cpu.sum ≡ summed keys left stands (length stands) =
    subst (λ n. c.loop-cpu.sum ≡ summed keys left stands n) end c.loop-cpu.invariant.0 in
    let at = subst (λ (m : Contents). (k : ℕ) × IsUpmanyAt m.head m.events k c.args.batch.now) (sym c.self.view_is) c.requires.upmany in
    let counts = rw (sym c.self.view_is) at c.requires.counts in
    let are : AreSettled j.head j.events stands =
    subst (AreSettled j.head j.events) (sym c.settled-settled.ensures.settled)
    (settled_all j.head j.events c.self.inside.account.processors c.self.invariant.kept.account.processors) in
    all
    ∙ rw (sym c.self.view_is)
    (batch_room j.head j.events c.args.batch.now keys stands at.0 seat cpu from to at.1 (sym c.is_begun.ensures ∙ c.if-is_begun.false) are counts)

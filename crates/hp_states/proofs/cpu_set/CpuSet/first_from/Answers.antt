use Rattle.std.proofs.Common.{◌≡◌, ℕ, ◌-◌, ◌*◌, ◌≤◌, inl, inr, false, get_or, length, arith, rules}
use Rattle.std.proofs.lemmas.Bool.{cases_lt}
use Rattle.hp_states.specs.CpuSets.{bit, IsLowestBit}
use Rattle.hp_states.proofs.CpuSetLowest.{passed, found, past}
use Rattle.hp_states.proofs.cpu_set.CpuSet.first_from.Goals as goal

pub returns-in-Some-clause-some : goal.returns-in-Some-clause-some
returns-in-Some-clause-some c =
    let at = c.loop-at.at in
    let is : IsLowestBit (get_or c.args.self.now.words at 0) (c.args.from - 64 * at) c.in-Some.bit =
    rw c.saturating_sub.ensures at c.in-Some.ensures.some
    in
    found c.args.self.now c.args.from at c.in-Some.bit c.loop-at-test.true is c.loop-at.invariant

pub loop-at-preserved : goal.loop-at-preserved
loop-at-preserved c =
    let at = c.loop-at.at in
    let none : (n : ℕ) → c.args.from - 64 * at ≤ n → bit (get_or c.args.self.now.words at 0) n ≡ false =
    rw c.saturating_sub.ensures at c.in_default.ensures.none
    in
    passed c.args.self.now c.args.from at none c.loop-at.invariant

pub returns-clause-none : goal.returns-clause-none
returns-clause-none c =
    let four : length c.args.self.now.words ≡ 4 = search rules in
    let whole = c.loop-at-test.false in
    λ cpu least. elim (cases_lt cpu (64 * c.loop-at.at)) [
      | inl below ↦ c.loop-at.invariant cpu least below
      | inr above ↦ past c.args.self.now four cpu (omega (arith, whole, above))
    ]

use Rattle.std.proofs.Common.{◌≡◌, ◌<◌, ◌≤◌, ℕ, Bool, true, false, eqb, refl, sym, subst, arith}
use Rattle.std.proofs.lemmas.Bool.Decides.{nat_tests}
use Rattle.std.proofs.lemmas.Bool.{eqb-true}
use Rattle.hp_states.specs.CpuSets.{has, IsLowestFrom}
use Rattle.hp_states.specs.declared.cpu_set.CpuSet.{CpuSet}
use Rattle.hp_called.proofs.rows.is_in.Goals as goal

above : (m n : ℕ) → m ≤ n → eqb n m ≡ false → m < n
above m n le apart = grind (arith, nat_tests)

lowest_is : (set : CpuSet) (from n : ℕ) → IsLowestFrom set from n → eqb n from ≡ has set from
lowest_is set from n h = go (eqb n from) refl
  where
    go : (b : Bool) → eqb n from ≡ b → b ≡ has set from
    go true e = sym (subst (λ m. has set m ≡ true) (eqb-true n from e) h.is_in)
    go false e = sym (h.none_below from (omega arith) (above from n h.at_least e))

pub returns-in-Some : goal.returns-in-Some
returns-in-Some c = lowest_is c.args.set.now c.args.cpu c.in-Some.lowest c.in-Some.ensures.some

pub returns-in-None : goal.returns-in-None
returns-in-None c = sym (c.in-None.ensures.none c.args.cpu (omega arith))

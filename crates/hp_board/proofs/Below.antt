-- The processors that hooks are lent for are possible ones, of which there are few.
use Rattle.std.proofs.Common.{◌≡◌, ℕ, ◌<◌, ◌≤◌, true, false, ltb, ◌∙◌, sym, subst, ⊎_elim, arith}
use Rattle.std.proofs.lemmas.Bool.Decides.{nat_tests}
use Rattle.hp_states.proofs.Basics.{cases_bool}
use Rattle.hp_states.specs.CpuSets.{has}
use Rattle.hp_states.specs.declared.limits.TheConstants.{MAX_CPU_SET}
use Rattle.hp_model.specs.Lawful.{IsLawful}
use Rattle.hp_model.proofs.EntryStays.{due_calls}
use Rattle.hp_model.proofs.EntryProcessors.{call_below}
use Rattle.hp_machine.proofs.Below.{call_in_set}
use Rattle.hp_board.specs.Contents.{Contents}
use Rattle.hp_board.specs.Loans.{AreOut}

pub lent_in_set : (b : Contents) (c : ℕ) → IsLawful b.head b.events → AreOut b → has b.lent c ≡ true → c < MAX_CPU_SET
lent_in_set b c lawful out lent =
    let w = out.each c lent in
    let o = w.out in
    let calls = due_calls b.head b.events o.seat o.seat o.cpu w.state o.inst o.dir o.how o.due in
    subst (λ z. z < MAX_CPU_SET) w.cpu_is
    (call_in_set b.head b.events o.seat o.cpu w.state o.inst o.dir o.how lawful calls.0)

pub lent_possible : (b : Contents) (c : ℕ) → IsLawful b.head b.events → AreOut b → has b.lent c ≡ true → c < b.head.possible
lent_possible b c lawful out lent =
    let w = out.each c lent in
    let o = w.out in
    let calls = due_calls b.head b.events o.seat o.seat o.cpu w.state o.inst o.dir o.how o.due in
    subst (λ z. z < b.head.possible) w.cpu_is
    (call_below b.head b.events o.seat o.cpu w.state o.inst o.dir o.how lawful calls.0)

-- a number that no set has isn't among them
pub too_high : (b : Contents) (c : ℕ) → IsLawful b.head b.events → AreOut b → MAX_CPU_SET ≤ c → ltb c MAX_CPU_SET ≡ has b.lent c
too_high b c lawful out high =
    not_below c high
    ∙ sym (⊎_elim (λ lent. let below = lent_in_set b c lawful out lent in absurd (omega (arith, below, high))) (λ no. no)
    (cases_bool (has b.lent c)))
  where
    not_below : (n : ℕ) → MAX_CPU_SET ≤ n → ltb n MAX_CPU_SET ≡ false
    not_below n h = grind (arith, nat_tests)

-- Hooks that are lent: where the hook of an entry is, and for which processors hooks are lent. This project's own.
use Rattle.std.specs.Prelude.{◌≡◌, ◌==◌, ◌&&◌, ◌||◌, not, ℕ, true, Option, IsSome, IfSome}
use Rattle.hp_states.specs.CpuSets.{has}
use Rattle.hp_states.specs.declared.cpu_set.CpuSet.{CpuSet}
use Rattle.hp_states.specs.Rules.{Site, site_at}
use Rattle.hp_hook.specs.Counted.{Counts, counted}
use Rattle.hp_table.specs.Kept.{answer_at}
use Rattle.hp_table.specs.Step.{Step, step_at, changed_at, lent_step, is_home}
use Rattle.hp_account.specs.declared.under_way.Entry.{Entry}
use Rattle.hp_account.specs.declared.under_way.MadeBy.TheVariants.{Hook as ByHook}
use Rattle.hp_machine.specs.Contents.{Contents}

-- what is registered at the state of an entry, if anything is
abbrev pub step_of : Contents → Entry → Option Step
step_of m x = step_at m.places x.key.state

-- something is registered, and its hook is there
abbrev pub HasHomeHook : Option Step → Type 0
HasHomeHook place = IsSome place × (is_home place ≡ true)

-- the machine with the hook of an entry away, where hooks are lent for these processors
abbrev pub with_lent : Contents → Entry → CpuSet → Contents
with_lent m x lent = record m { places = changed_at m.places x.key.state lent_step; lent = lent }

-- a processor more is in the set, and all others are as before
abbrev pub IsPut : (cpu : ℕ) → (old new : CpuSet) → Type 0
IsPut cpu old new = (c : ℕ) → has new c ≡ (c == cpu || has old c)

-- it is no more in the set
abbrev pub IsTaken : (cpu : ℕ) → (old new : CpuSet) → Type 0
IsTaken cpu old new = (c : ℕ) → has new c ≡ (not (c == cpu) && has old c)

-- the hook of an entry is there, where it decides
abbrev pub HasHook : Contents → Entry → Type 0
HasHook m x = x.made_by ≡ ByHook → is_home (step_of m x) ≡ true

-- whose call an entry reports
abbrev pub site_of : Entry → Site
site_of x = site_at x.cpu x.key.inst x.dir

-- it was away, and has counted this call since
abbrev pub HasCountedCall : Counts → Contents → Entry → Type 0
HasCountedCall counts m x = IfSome (step_of m x) (λ step. counts ≡ counted step.kept.counts (site_of x))

-- and this is its answer
abbrev pub IsAnswered : (answer : ℕ) → Contents → Entry → Type 0
IsAnswered answer m x = IfSome (step_of m x) (λ step. answer ≡ answer_at step.kept (site_of x))

-- hooks are lent for these processors now
abbrev pub lending : Contents → CpuSet → Contents
lending m lent = record m { lent = lent }

-- What a hook had counted as it was lent, and what is so of one that has answered the call that it was lent for. This project's own.
use Rattle.std.specs.Prelude.{◌≡◌, ℕ}
use Rattle.hp_states.specs.declared.dir.Dir.{Dir}
use Rattle.hp_states.specs.Rules.{Site, site_at}
use Rattle.hp_event.specs.declared.aside.Aside.{Aside}
use Rattle.hp_event.specs.declared.key.Key.{Key}
use Rattle.hp_hook.specs.Counted.{Counts, answer_to, counted}

-- a processor, a key and a direction, and what the hook had counted as it was lent for the call there
abbrev pub aside_of : (cpu : ℕ) → Key → Dir → Counts → Aside
aside_of cpu key dir counts =
    record {
      cpu = cpu;
      key = key;
      dir = dir;
      base = counts.made;
      plan = counts.plan;
      seen = counts.seen;
      faults = counts.faults;
    }

abbrev pub counts_as_lent : Aside → Counts
counts_as_lent a = record { plan = a.plan; seen = a.seen; made = a.base; faults = a.faults }

abbrev pub site_of : Aside → Site
site_of a = site_at a.cpu a.key.inst a.dir

-- what the hook answers, by what it had counted as it was lent
abbrev pub answer_of_loan : Aside → ℕ
answer_of_loan a = answer_to (counts_as_lent a) (site_of a)

-- what the hook has counted with that call, and what it answered
pub record IsAnswered (a : Aside) (counts : Counts) (answer : ℕ) : Type 0 where
  pub counts_are : counts ≡ counted (counts_as_lent a) (site_of a)
  pub answer_is : answer ≡ answer_of_loan a

-- What contracts see of a record: its subsystem, which callbacks it has, and what its hook has counted; of a hook that
-- is lent, as it was lent. After the fields of `struct cpuhp_step` of `kernel/cpu.c`; that one hook with a plan stands
-- for both callbacks is this project's own.
use Rattle.std.specs.Prelude.{ℕ, Bool, true, false, Option, Some, None, List, []}
use Rattle.hp_states.specs.declared.plan.Rule.{Rule}
use Rattle.hp_states.specs.Rules.{Site}
use Rattle.std.specs.declared.snapshot.Snapshot.{Snapshot}
use Rattle.hp_hook.specs.Counted.{Counts, answer_to, counted, loaded as loaded_with}

-- the subsystem's number, whether it has an instance list, a startup and a teardown, whether its hook is there, and
-- what that has counted
pub record Kept : Type 0 where
  pub sub : ℕ
  pub multi : Bool
  pub up : Bool
  pub down : Bool
  pub home : Bool
  pub counts : Counts

-- the record once its hook is loaded with a plan: all counts begin at 0
abbrev pub loaded : Kept → (plan : List Rule) → Kept
loaded kept plan = record kept { counts = loaded_with plan }

-- what its hook answers to a call
abbrev pub answer_at : Kept → Site → ℕ
answer_at kept site = answer_to kept.counts site

-- the record once its hook is there, having counted this
abbrev pub with_hook : Counts → Kept → Kept
with_hook counts kept = record kept { home = true; counts = counts }

-- the record once its hook has answered the call, and is there
abbrev pub called : Kept → Site → Kept
called kept site = with_hook (counted kept.counts site) kept

-- the record once its hook is lent
abbrev pub lent : Kept → Kept
lent kept = record kept { home = false }

-- what a hook has counted, or had counted as it was lent
abbrev pub counts_when_lent : {H : Type 0} → (counts : H → Counts) → Option (Snapshot H) → Counts
counts_when_lent counts None = loaded_with []
counts_when_lent counts (Some was) = counts was.value

abbrev pub counts_of_hook : {H : Type 0} → (counts : H → Counts) → Option H → Option (Snapshot H) → Counts
counts_of_hook counts None was = counts_when_lent counts was
counts_of_hook counts (Some hook) was = counts hook

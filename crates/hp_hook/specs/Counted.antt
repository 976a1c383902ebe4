-- What a hook has counted: its rules, how often each was matched, how often it was called and how often its answer was
-- a fault; and what it answers by that, and has counted then. This project's own.
use Rattle.std.specs.Prelude.{ℕ, ◌+◌, ◌≤◌, ◌==◌, if◌then◌else◌, List, [], All, length, take}
use Rattle.hp_states.specs.declared.plan.Rule.{Rule}
use Rattle.hp_states.specs.Rules.{Site, counted_answer, counts_of, matches, raised}

-- what is seen of a plan with counts
pub record PlanCounts : Type 0 where
  pub plan : List Rule
  pub seen : List ℕ

-- what is seen of a hook: its plan, how many calls each rule has matched since the plan was set, how many calls were
-- made since, and how many of them were answered by another code than 0
pub record Counts : Type 0 where
  pub plan : List Rule
  pub seen : List ℕ
  pub made : ℕ
  pub faults : ℕ

-- the faults after one call more: an answer other than 0 is a fault
abbrev pub faults_after : (faults : ℕ) → (answer : ℕ) → ℕ
faults_after faults answer = if answer == 0 then faults else faults + 1

-- of a hook that was just loaded
abbrev pub loaded : (plan : List Rule) → Counts
loaded plan = record { plan = plan; seen = counts_of plan []; made = 0; faults = 0 }

-- what a plan whose rules were matched so often answers to the call that comes next
abbrev pub next_answer : (plan : List Rule) → (seen : List ℕ) → Site → ℕ
next_answer plan seen site = counted_answer plan (raised plan seen site) site

-- the counts of a plan's rules, of places of which these come first
abbrev pub counts_in : (plan : List Rule) → (places : List ℕ) → List ℕ
counts_in plan places = take (length plan) places

-- a rule's count after one call more
abbrev pub count_after : Rule → Site → (count : ℕ) → ℕ
count_after rule site count = if matches rule site then count + 1 else count

-- what a hook that has counted this answers to a call: the code of the first rule that matches it and whose `nth` is
-- absent or is the rule's count with this call, and 0 where there is none
abbrev pub answer_to : Counts → Site → ℕ
answer_to counts site = next_answer counts.plan counts.seen site

-- and what it has counted then
abbrev pub counted : Counts → Site → Counts
counted counts site =
    record {
      plan = counts.plan;
      seen = raised counts.plan counts.seen site;
      made = counts.made + 1;
      faults = faults_after counts.faults (answer_to counts site);
    }

-- no rule was matched more often than calls were made
abbrev pub NoneAbove : (seen : List ℕ) → (made : ℕ) → Type 0
NoneAbove seen made = All (λ n. n ≤ made) seen

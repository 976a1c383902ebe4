-- Which heads a machine can be started with: processors, the first of them there, and subsystems whose names
-- and rules have their forms. This project's own.
use Rattle.std.specs.Prelude.{◌≡◌, ◌<◌, ◌≤◌, true, IfSome, length, All}
use Rattle.std.specs.List.Sorted.{IsStrictlyIncreasing}
use Rattle.hp_states.specs.declared.plan.Rule.{Rule}
pub use Rattle.hp_states.specs.Names.{is_name_byte, IsName}
use Rattle.hp_states.specs.declared.limits.TheConstants.{MAX_CPUS, MAX_SUBS, MAX_RULES, MAX_RULE_CPU, MAX_CODE, MAX_INSTANCE, MAX_EVENTS}
use Rattle.hp_event.specs.declared.head.Sub.{Sub}
use Rattle.hp_event.specs.declared.head.Head.{Head}
use Rattle.hp_model.specs.Processors.{is_present}

pub record IsRule (rule : Rule) : Type 0 where
  pub cpu_fits : IfSome rule.cpu (λ c. c ≤ MAX_RULE_CPU)
  pub inst_fits : IfSome rule.inst (λ i. i ≤ MAX_INSTANCE)
  pub nth_above : IfSome rule.nth (λ n. 0 < n)
  pub nth_fits : IfSome rule.nth (λ n. n ≤ MAX_EVENTS)
  pub code_above : 0 < rule.code
  pub code_fits : rule.code ≤ MAX_CODE

pub record IsSub (sub : Sub) : Type 0 where
  pub name_is : IsName sub.name
  pub few_rules : length sub.plan ≤ MAX_RULES
  pub rules_are : All IsRule sub.plan

-- possible processors are those below a number, and the absent ones among them rise
pub record IsHead (head : Head) : Type 0 where
  pub some_possible : 0 < head.possible
  pub few_possible : head.possible ≤ MAX_CPUS
  pub absent_rising : IsStrictlyIncreasing head.absent
  pub absent_possible : All (λ c. c < head.possible) head.absent
  pub first_present : is_present head 0 ≡ true
  pub few_subs : length head.subs ≤ MAX_SUBS
  pub subs_are : All IsSub head.subs

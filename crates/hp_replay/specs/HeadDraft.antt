-- The head so far, with its last subsystem apart: at which stage it is, and what a line more does. This project's own.
use Rattle.hp_states.specs.declared.plan.Rule.{Rule}
use Rattle.hp_event.specs.declared.head.Sub.{Sub}
use Rattle.hp_replay.specs.declared.head.Draft.{Draft}
use Rattle.hp_replay.specs.HeadLines.{a_rule}
use Rattle.hp_replay.specs.Stages.{Stage, Step, next_sub}
use Rattle.hp_replay.specs.Reading.{head_stage, head_step, ended_head}

abbrev pub draft_stage : Draft → Stage
draft_stage draft = head_stage draft.head draft.last

-- a subsystem more
abbrev pub sub_step : Draft → Sub → Step
sub_step draft sub = next_sub (ended_head draft.head draft.last) sub

-- a rule more of the last subsystem
abbrev pub rule_step : Draft → Rule → Step
rule_step draft rule = head_step draft.head draft.last (a_rule rule)

-- What the table of states has after a journal's events: what is registered, and of a registration in flight what it adds
-- already and what it takes away at its end. What is added stands in the table from its begin on, so that its end takes no
-- memory. After `cpuhp_store_callbacks` of `kernel/cpu.c`, which is called before the entries of a setup.
use Rattle.std.specs.Prelude.{◌≡◌, ℕ, true, ◌==◌, if◌then◌else◌, Option, Some, None, IfSome, List, [], ◌∷◌, length}
use Rattle.hp_states.specs.Rules.{counts_of}
use Rattle.hp_states.specs.declared.plan.Rule.{Rule}
use Rattle.hp_event.specs.declared.op.Op.{Op}
use Rattle.hp_event.specs.declared.op.Op.TheVariants.{Setup, Remove, Add, Del}
use Rattle.hp_event.specs.declared.head.Sub.{Sub}
use Rattle.hp_event.specs.declared.head.Head.{Head}
use Rattle.hp_event.specs.declared.event.Event.{Event}
use Rattle.hp_model.specs.Lists.{without}
use Rattle.hp_model.specs.Registrations.{Registration, registration}
use Rattle.hp_model.specs.Registered.{Registered, registered, without_inst}
use Rattle.hp_model.specs.Calls.{sites, sub_at}
use Rattle.hp_model.specs.Subsystems.{sub_numbered}
use Rattle.hp_model.specs.Summary.{hook_faults}
use Rattle.hp_hook.specs.Counted.{Counts}
use Rattle.hp_table.specs.Instances.{is_among}
use Rattle.hp_table.specs.Step.{Step, step_at}
use Rattle.hp_reg.specs.Known.{IsKnown}

-- what a place says is registered
abbrev pub registered_by : Option Step → Option Registered
registered_by None = None
registered_by (Some step) = Some (record { sub = step.kept.sub; multi = step.kept.multi; insts = step.insts })

-- at the place of a registration in flight: a setup's state isn't registered yet, nor is the instance of an add
abbrev pub registered_in_flight : Op → Option Step → Option Registered
registered_in_flight (Setup asked sub form) place = None
registered_in_flight (Add state inst form) place = without_inst inst (registered_by place)
registered_in_flight _ place = registered_by place

abbrev pub registered_meanwhile : Option Registration → (state : ℕ) → Option Step → Option Registered
registered_meanwhile None s place = registered_by place
registered_meanwhile (Some r) s place = if r.state == s then registered_in_flight r.op place else registered_by place

-- what a hook with this plan has counted of the calls at a state since the setup that registered it began
abbrev pub counts_by : (plan : List Rule) → List Event → (state : ℕ) → Counts
counts_by plan events s =
    record {
      plan = plan;
      seen = counts_of plan (sites s events);
      made = length (sites s events);
      faults = hook_faults s events;
    }

-- What a state has is of a subsystem of the head: its callbacks, its plan, and whether it has instances. Its hook has
-- counted the calls of the journal since the setup that registered it began.
pub record IsStepOf (head : Head) (events : List Event) (state : ℕ) (step : Step) : Type 0 where
  pub sub : Sub
  pub sub_is : sub_numbered head step.kept.sub ≡ Some sub
  pub up_is : step.kept.up ≡ sub.up
  pub down_is : step.kept.down ≡ sub.down
  pub multi_is : step.kept.multi ≡ sub.multi
  pub counts_are : step.kept.counts ≡ counts_by sub.plan events state

-- what the state of a registration in flight has
abbrev pub HasOf : Op → Step → Type 0
HasOf (Setup asked sub form) step = (step.kept.sub ≡ sub) × (step.insts ≡ [])
HasOf (Remove state form) step = step.insts ≡ []
HasOf (Add state inst form) step = (step.kept.multi ≡ true) × (step.insts ≡ inst ∷ without inst step.insts)
HasOf (Del state inst form) step = (step.kept.multi ≡ true) × (is_among inst step.insts ≡ true)
HasOf _ step = Unit {0}

-- the table has what the registration in flight needs: its state, of the subsystem that it is of, with the key that it has
pub record HasRegistration (head : Head) (events : List Event) (places : List (Option Step)) (r : Registration) : Type 0 where
  pub step : Step
  pub place_is : step_at places r.state ≡ Some step
  pub has : HasOf r.op step
  pub sub_is : sub_at head r.state events ≡ sub_numbered head step.kept.sub
  pub known : IsKnown head r.op (registered head r.state r.before) (Some step)

pub record IsTableOf (head : Head) (events : List Event) (places : List (Option Step)) : Type 0 where
  pub registered_is : (s : ℕ) → registered head s events ≡ registered_meanwhile (registration events) s (step_at places s)
  pub steps : (s : ℕ) → IfSome (step_at places s) (IsStepOf head events s)
  pub in_flight : IfSome (registration events) (HasRegistration head events places)

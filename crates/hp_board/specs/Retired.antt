-- The hooks of a board that is given up: those of the registered states, in rising number, each as often called as the journal says.
-- This project's own.
use Rattle.std.specs.Prelude.{◌≡◌, ℕ, ◌+◌, Option, Some, None, List, [], ◌∷◌, ◌++◌, map}
use Rattle.std.specs.List.{flat_map}
use Rattle.hp_states.specs.declared.limits.TheConstants.{ONLINE}
use Rattle.hp_event.specs.declared.event.Event.{Event}
use Rattle.hp_event.specs.declared.head.Head.{Head}
use Rattle.hp_hook.specs.Counted.{Counts}
use Rattle.hp_hook.specs.declared.rack.Rack.{Rack}
use Rattle.hp_model.specs.Lists.{numbers}
use Rattle.hp_model.specs.Registered.{Registered, registered}
use Rattle.hp_model.specs.Registrations.{registration}
use Rattle.hp_model.specs.Subsystems.{sub_numbered, plan_of}
use Rattle.hp_account.specs.Table.{counts_by}
use Rattle.hp_table.specs.Step.{Step}
use Rattle.hp_board.specs.Contents.{Contents}

-- what the hook of a place has counted
abbrev pub hook_at : Option Step → List Counts
hook_at None = []
hook_at (Some step) = step.kept.counts ∷ []

-- and those of all places, in rising state
abbrev pub hooks_of : List (Option Step) → List Counts
hooks_of places = flat_map hook_at places

abbrev pub hook_if : Head → List Event → (state : ℕ) → Option Registered → List Counts
hook_if head events s None = []
hook_if head events s (Some r) = counts_by (plan_of (sub_numbered head r.sub)) events s ∷ []

-- the hook of a state that is registered, by the journal alone: it has the plan of its subsystem
abbrev pub registered_hook : Head → List Event → (state : ℕ) → List Counts
registered_hook head events s = hook_if head events s (registered head s events)

-- those of all registered states, in rising number
unfoldable pub registered_hooks : Head → List Event → List Counts
registered_hooks head events = flat_map (registered_hook head events) (numbers (ONLINE + 1))

-- hooks with these counts were put behind those that were there
pub record IsRacked {H : Type 0} (seen : H → Counts) (old new : List H) (hooks : List Counts) : Type 0 where
  pub added : List H
  pub behind : new ≡ old ++ added
  pub are : map seen added ≡ hooks

-- so of a rack
abbrev pub PutsBehind : {H : Type 0} → (seen : H → Counts) → (old new : Rack H) → List Counts → Type 0
PutsBehind seen old new hooks = IsRacked seen old.hooks.items new.hooks.items hooks

-- while no registration is in flight they are those of the registered states
abbrev pub PutsRegistered : {H : Type 0} → (seen : H → Counts) → Contents → (old new : Rack H) → Type 0
PutsRegistered seen b old new =
    registration b.events ≡ None → PutsBehind seen old new (registered_hooks b.head b.events)

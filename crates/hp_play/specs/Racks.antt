-- The rack of hooks before a call and after it, and what it is after a script was played. This project's own.
use Rattle.std.specs.Prelude.{◌≡◌, ◌≢◌, ◌+◌, Option, List, ◌++◌, map, length, reverse}
use Rattle.std.specs.List.{sum_by}
use Rattle.hp_actors.specs.Hooks.{IsLater, OneForEachSetup, hooks_there}
use Rattle.hp_actors.specs.Positions.{Position}
use Rattle.hp_board.specs.Retired.{registered_hooks}
use Rattle.hp_event.specs.declared.event.Event.{Event}
use Rattle.hp_hook.specs.Counted.{Counts}
use Rattle.hp_hook.specs.declared.hook.Hook as Hook
use Rattle.hp_hook.specs.declared.rack.Rack.{Rack}
use Rattle.hp_play.specs.declared.stop.Stop.{Stop}
use Rattle.hp_play.specs.declared.stop.Stop.TheVariants.{NoMemory}
use Rattle.hp_model.specs.ScriptRun.{start}
use Rattle.hp_script.specs.Playable.{setups_in}
use Rattle.hp_script.specs.Script.{Contents}

-- the hooks before and after, and what of a hook is seen
pub record Racks (H : Type 0) : Type 0 where
  pub seen : H → Counts
  pub old : List H
  pub new : List H

abbrev pub racks : {H : Type 0} → (seen : H → Counts) → (old new : List H) → Racks H
racks seen old new = record { seen = seen; old = old; new = new }

-- of a rack of hooks, before and now
abbrev pub racks_of : {H : Type 0} → Hook.Ghosts H → (old new : Rack H) → Racks H
racks_of hook old new = racks hook.counts old.hooks.items new.hooks.items

-- the rack is as it was
abbrev pub Stays : {H : Type 0} → Racks H → Type 0
Stays rack = rack.new ≡ rack.old

-- but where memory was wanting
abbrev pub StaysUnlessWanting : {H : Type 0} → (old new : Rack H) → Stop → Type 0
StaysUnlessWanting old new = λ stop. stop ≢ NoMemory → new.hooks.items ≡ old.hooks.items

-- The hooks that came back in a run. Each setup took one, in turn the last of the rack, and nothing else did. Turns of the run's seats
-- made this journal, and what they make of the hooks of operations says `hook_after` of hp_actors: one that was refused leaves its hook
-- as it was; one that faulted, or a remove, has that of its state, with the plan of its subsystem and the counts of the journal.
pub record CameBack (script : Contents) (events : List Event) (taken back : List Counts) : Type 0 where
  pub first : List (List (Option Counts))
  pub one_for_each : OneForEachSetup script.actors first
  pub in_turn : taken ≡ reverse (hooks_there first)
  pub last : Position
  pub made :
      IsLater
      (record { head = script.head; actors = script.actors; progress = start script.head script.actors; hooks = first }) last
  pub journal : last.progress.events ≡ events
  pub back_are : back ≡ hooks_there last.hooks

-- After a run with hooks of the rack: those that no setup took stand first, as they were. Behind them are as many as the setups took:
-- first those that came back, by actor and operation, and last those of the registered states, in rising number, each with its plan and
-- counts as the journal says of its state.
pub record IsRefilled {H : Type 0} (script : Contents) (events : List Event) (rack : Racks H) : Type 0 where
  pub untaken : List H
  pub taken : List H
  pub back : List H
  pub last : List H
  pub old_is : rack.old ≡ untaken ++ taken
  pub new_is : rack.new ≡ untaken ++ (back ++ last)
  pub by_setups : length taken ≡ sum_by setups_in script.actors
  pub none_lost : length back + length last ≡ length taken
  pub last_are : map rack.seen last ≡ registered_hooks script.head events

-- after a script was played it is also known of each hook that came back what turns made of it
pub record IsRackAfter {H : Type 0} (script : Contents) (events : List Event) (rack : Racks H) : Type 0 where
  pub refilled : IsRefilled script events rack
  pub back_are : CameBack script events (map rack.seen refilled.taken) (map rack.seen refilled.back)

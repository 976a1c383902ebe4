-- A run of a script, as contracts see it: the script's head and operations, how far the run has come, and the hooks that the operations
-- have. This project's own.
use Rattle.std.specs.Prelude.{ℕ, Option, option_map, List, map}
use Rattle.hp_event.specs.declared.op.Op.{Op}
use Rattle.hp_event.specs.declared.head.Head.{Head}
use Rattle.hp_event.specs.declared.event.Event.{Event}
use Rattle.hp_board.specs.Contents.{Contents}
use Rattle.hp_board.specs.declared.turn.Ask.{Ask}
use Rattle.hp_hook.specs.Counted.{Counts}
use Rattle.hp_model.specs.ScriptTurns.{RunState}
use Rattle.hp_actors.specs.declared.actor.Actor.{Actor}

pub record Position : Type 0 where
  pub head : Head
  pub actors : List (List Op)
  pub progress : RunState
  -- by actor and operation, what the hook that it has has counted
  pub hooks : List (List (Option Counts))

abbrev pub op_of : {H : Type 0} → Ask H → Op
op_of ask = ask.op

-- the operations of an actor
abbrev pub ops_of : {H : Type 0} → Actor H → List Op
ops_of actor = map op_of actor.asks

abbrev pub answered_of : {H : Type 0} → Actor H → ℕ
answered_of actor = actor.answered

-- how far the run has come
abbrev pub progress_of : {H : Type 0} → (events : List Event) → List (Actor H) → RunState
progress_of events actors = record { events = events; answers = map answered_of actors }

-- what the hook of an operation has counted, where it has one
abbrev pub hook_of : {H : Type 0} → (seen : H → Counts) → Ask H → Option Counts
hook_of seen ask = option_map seen ask.hook

-- the hooks of an actor's operations
abbrev pub hooks_of : {H : Type 0} → (seen : H → Counts) → Actor H → List (Option Counts)
hooks_of seen actor = map (hook_of seen) actor.asks

abbrev pub position_of : {H : Type 0} → (seen : H → Counts) → Contents → List (Actor H) → Position
position_of seen board actors =
    record {
      head = board.head;
      actors = map ops_of actors;
      progress = progress_of board.events actors;
      hooks = map (hooks_of seen) actors;
    }

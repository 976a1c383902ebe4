-- What holds of a run between two turns: its script can be played, turns made its journal, each operation that comes next has its hook
-- where the machine wants it, and no hook of the script's setups is lost. This project's own.
use Rattle.std.specs.Prelude.{◌≡◌, ℕ, ◌+◌, is_some, Some, List, length, map, slice_get}
use Rattle.hp_event.specs.declared.op.Op.{Op}
use Rattle.hp_event.specs.declared.head.Head.{Head}
use Rattle.hp_event.specs.declared.event.Event.{Event}
use Rattle.std.specs.List.{sum_by}
use Rattle.hp_board.specs.Contents.{Contents}
use Rattle.hp_board.specs.Hooks.{has_hook}
use Rattle.hp_board.specs.declared.turn.Ask.{Ask}
use Rattle.hp_machine.specs.MayAsk.{MayAsk}
use Rattle.hp_model.specs.Processors.{present}
use Rattle.hp_model.specs.Scripts.{IsScript}
use Rattle.hp_model.specs.ScriptRun.{start}
use Rattle.hp_model.specs.ScriptTurns.{RunState, after_turns}
use Rattle.hp_actors.specs.declared.actor.Actor.{Actor}
use Rattle.hp_script.specs.Playable.{setups_in}
use Rattle.hp_actors.specs.Positions.{ops_of, progress_of}
use Rattle.hp_actors.specs.Racks.{hooks_in}

-- the operation of an actor that comes next has its hook as a turn of the machine asks for it: a setup until it begins
abbrev pub HasHook : {H : Type 0} → List Event → (seat : ℕ) → Actor H → Type 0
HasHook {H} events k actor =
    (ask : Ask H) → slice_get actor.asks actor.answered ≡ Some ask → is_some ask.hook ≡ has_hook events k ask.op

-- a turn of its seat may be asked for that operation
abbrev pub MayAskNext : {H : Type 0} → Contents → (seat : ℕ) → Actor H → Type 0
MayAskNext {H} b k actor = (ask : Ask H) → slice_get actor.asks actor.answered ≡ Some ask → MayAsk b k ask.op

-- turns of some seats made it
abbrev pub IsReached : Head → (actors : List (List Op)) → RunState → Type 0
IsReached head actors at = (seats : List ℕ) × (at ≡ after_turns head actors (start head actors) seats)

pub record IsPlaying {H : Type 0} (board : Contents) (threads : ℕ) (actors : List (Actor H)) : Type 0 where
  pub script : IsScript board.head (map ops_of actors)
  pub threads_are : threads ≡ length (present board.head)
  pub reached : IsReached board.head (map ops_of actors) (progress_of board.events actors)
  pub hooks : (i : ℕ) (actor : Actor H) → slice_get actors i ≡ Some actor → HasHook board.events (threads + i) actor
  pub held : hooks_in board.places actors ≡ sum_by setups_in (map ops_of actors)

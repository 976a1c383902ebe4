-- What is so of the journal of a script that was played, and of the rack after it. This project's own.
use Rattle.std.specs.Prelude.{◌≡◌, ℕ, true, None, Option, List, ◌++◌, length, map}
use Rattle.std.specs.List.{sum_by}
use Rattle.hp_actors.specs.Hooks.{AreFromRack, IsLater, OneForEachSetup, hooks_there}
use Rattle.hp_actors.specs.Positions.{Position}
use Rattle.hp_actors.specs.Racks.{Takes}
use Rattle.hp_edge.specs.Scripts.{counted_hooks}
use Rattle.hp_event.specs.declared.event.Event.{Event}
use Rattle.hp_event.specs.declared.head.Head.{Head}
use Rattle.hp_hook.specs.Counted.{Counts}
use Rattle.hp_model.specs.Lawful.{IsLawful}
use Rattle.hp_model.specs.Headline.{Headline}
use Rattle.hp_model.specs.Completes.{Completes}
use Rattle.hp_model.specs.OneWalk.{WalksAlone}
use Rattle.hp_model.specs.MapLock.{operation}
use Rattle.hp_model.specs.Net.{keys_in_force}
use Rattle.hp_model.specs.Keys.{AreKeysAtRest}
use Rattle.hp_model.specs.Registrations.{registration}
use Rattle.hp_model.specs.Schedule.{IsRunBy}
use Rattle.hp_model.specs.ScriptRun.{start, is_over}
use Rattle.hp_script.specs.Judged.{IsRead}
use Rattle.hp_script.specs.Playable.{setups_in}
use Rattle.hp_script.specs.Schedules.{schedule_written}
use Rattle.hp_script.specs.Script.{Contents}
use Rattle.hp_play.specs.declared.output.Output.{Output}
use Rattle.hp_play.specs.Outputs.{output}
use Rattle.hp_play.specs.Racks.{Racks, IsRackAfter}

-- What is so of every journal that was played: each event stands after those before it; every front of it has the headline, and
-- completes, and but in an upmany at most one processor walks after it; a walk leaves those that haven't walked beside it as they were;
-- nothing is in flight at its end, and the keys that its summary shows of a processor are those registered at or below its state.
pub record HasLaws (head : Head) (events : List Event) : Type 0 where
  pub lawful : IsLawful head events
  pub headline : (front rest : List Event) → front ++ rest ≡ events → Headline head front
  pub one_walk : (front rest : List Event) → front ++ rest ≡ events → WalksAlone front
  pub completes : (front rest : List Event) → front ++ rest ≡ events → Completes head front
  pub no_operation : operation events ≡ None
  pub no_registration : registration events ≡ None
  pub keys : (cpu : ℕ) → AreKeysAtRest head cpu events (keys_in_force cpu events)

-- it is the run of the script's actors by its schedule, with these laws
pub record IsJournalOf (script : Contents) (events : List Event) : Type 0 where
  pub run : IsRunBy script.head script.actors (schedule_written script.schedule) events
  pub laws : HasLaws script.head events

-- A script's run at its end, with the rack before the run and now: its journal is the script's, every operation is answered, and each
-- setup took a hook, in turn the last of the rack. Turns of the run's seats made of these the hooks that operations have at the end.
pub record IsRunOf {H : Type 0} (script : Contents) (rack : Racks H) (run : Position) : Type 0 where
  pub head_is : run.head ≡ script.head
  pub actors_are : run.actors ≡ script.actors
  pub journal : IsJournalOf script run.progress.events
  pub over : is_over run.actors run.progress ≡ true
  pub takes : Takes rack.old rack.new (sum_by setups_in script.actors)
  pub first : List (List (Option Counts))
  pub one_for_each : OneForEachSetup script.actors first
  pub in_turn : AreFromRack (map rack.seen rack.old) (map rack.seen rack.new) (hooks_there first)
  pub made :
      IsLater
      (record { head = script.head; actors = script.actors; progress = start script.head script.actors; hooks = first }) run

-- What is written of a script, and the rack then: there is one journal of it, of which the output is written, and by which the rack is.
pub record WasPlayed {H : Type 0} (of : Output) (script : Contents) (rack : Racks H) (written : List ℕ) : Type 0 where
  pub events : List Event
  pub journal : IsJournalOf script events
  pub rack_is : IsRackAfter script events rack
  pub written_is : written ≡ output of script.head events

-- the bytes are a script, for a rack with so many hooks, and it was played
pub record IsPlayed {H : Type 0} (of : Output) (rack : Racks H) (bytes written : List ℕ) : Type 0 where
  pub script : Contents
  pub read : IsRead (counted_hooks (length rack.old)) bytes script
  pub played : WasPlayed of script rack written

-- What is so of the run of a script under SMT control, of what is written of it, and of the rack after it. This project's own.
use Rattle.std.specs.Prelude.{◌≡◌, ◌+◌, ◌≤◌, ℕ, Option, List, ◌++◌, length, map, reverse}
use Rattle.hp_actors.specs.Hooks.{OneForEachSetup, hooks_there}
use Rattle.hp_command.specs.declared.controlling.ControlMode.{ControlMode}
use Rattle.hp_command.specs.declared.controlling.ControlMode.TheVariants as mode
use Rattle.hp_command.specs.declared.controlling.Controlling.{Controlling}
use Rattle.hp_hook.specs.Counted.{Counts}
use Rattle.hp_model.specs.Processors.{present}
use Rattle.hp_model.specs.Summary.{summary}
use Rattle.hp_model.specs.JournalText.{journal_text}
use Rattle.hp_event.specs.declared.version.Version.TheVariants.{Two}
use Rattle.hp_script.specs.Script.{Contents}
use Rattle.hp_smt.specs.Run.{SmtState, smt_start, IsSmtRun}
use Rattle.hp_smt.specs.declared.mode.Control.{Control}
use Rattle.hp_smt.specs.declared.mode.Control.TheVariants.{Off, ForceOff}
use Rattle.hp_smt_run.specs.Hooks.{standing, IsLaterUnder}
use Rattle.hp_smt_run.specs.Playing.{Setup, setup}
use Rattle.hp_smt_run.specs.SiblingsOff.{SiblingsStayOffFor}
use Rattle.hp_states.specs.declared.limits.TheConstants.{MAX_SEATS}
use Rattle.hp_play.specs.ControlText.{control_text}
use Rattle.hp_play.specs.Played.{HasLaws}
use Rattle.hp_play.specs.Racks.{Racks, IsRefilled}

-- the write before that of On
abbrev pub control_of : ControlMode → Control
control_of mode.Off = Off
control_of mode.ForceOff = ForceOff

-- beside the threads and the actors there is a seat for the client that writes, as there is of every script
abbrev pub HasSeatMore : Contents → Type 0
HasSeatMore script = length (present script.head) + length script.actors + 1 ≤ MAX_SEATS

-- It is the run of the script's actors beside that client. Before it and after each of its turns, while the mode is Off or ForceOff,
-- every processor that is online is a primary; its journal has the laws of every journal.
pub record IsRunUnder (c : Controlling) (script : Contents) (at : SmtState) : Type 0 where
  pub run : IsSmtRun script.head c.threads script.actors (control_of c.mode) at
  pub off : SiblingsStayOffFor script.head c.threads script.actors (control_of c.mode) run.rounds
  pub laws : HasLaws script.head at.run.events

abbrev pub controlled_text : Contents → SmtState → List ℕ
controlled_text script at =
    (journal_text Two script.head at.run.events ++ summary script.head at.run.events) ++ control_text at.written (length at.denied)

-- what stays in the run
abbrev pub setup_under : Controlling → Contents → Setup
setup_under c script = setup script.head c.threads script.actors (control_of c.mode)

-- The hooks that came back in a run that ended so. Each setup took one, in turn the last of the rack, and nothing else did. Turns of the
-- seats made this run, and what they make of the hooks of operations says `hooks_under` of hp_smt_run: one that was refused leaves its
-- hook as it was; one that faulted, or a remove, has that of its state, with the plan of its subsystem and the counts of the journal.
pub record CameBackUnder (s : Setup) (at : SmtState) (taken back : List Counts) : Type 0 where
  pub first : List (List (Option Counts))
  pub one_for_each : OneForEachSetup s.actors first
  pub in_turn : taken ≡ reverse (hooks_there first)
  pub last : List (List (Option Counts))
  pub made : IsLaterUnder s (standing (smt_start s.head s.actors) first) (standing at last)
  pub back_are : back ≡ hooks_there last

-- there is one such run of the script, of which the text is written, and by which the rack is, with each hook that came back
pub record WasControlled {H : Type 0} (c : Controlling) (script : Contents) (rack : Racks H) (written : List ℕ) : Type 0 where
  pub at : SmtState
  pub under : IsRunUnder c script at
  pub rack_is : IsRefilled script at.run.events rack
  pub back_are : CameBackUnder (setup_under c script) at (map rack.seen rack_is.taken) (map rack.seen rack_is.back)
  pub written_is : written ≡ controlled_text script at

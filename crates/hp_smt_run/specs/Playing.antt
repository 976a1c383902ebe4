-- A run under SMT control between two turns: how far it is, what holds of it, and what a turn and a round make of it. This project's own.
use Rattle.std.specs.Prelude.{◌≡◌, ℕ, ◌+◌, ◌≤◌, Some, List, length, map, slice_get}
use Rattle.std.specs.List.{sum_by}
use Rattle.hp_event.specs.declared.op.Op.{Op}
use Rattle.hp_event.specs.declared.head.Head.{Head}
use Rattle.hp_model.specs.Lists.{numbers}
use Rattle.hp_model.specs.Processors.{present}
use Rattle.hp_model.specs.Scripts.{IsScript}
use Rattle.hp_model.specs.ScriptTurns.{RunState}
use Rattle.hp_states.specs.declared.limits.TheConstants.{MAX_SEATS}
use Rattle.hp_actors.specs.declared.actor.Actor.{Actor}
use Rattle.hp_actors.specs.Positions.{ops_of, progress_of}
use Rattle.hp_actors.specs.Racks.{hooks_in}
use Rattle.hp_actors.specs.RunInvariant.{HasHook}
use Rattle.hp_script.specs.Playable.{setups_in}
use Rattle.hp_smt.specs.Run.{SmtState, smt_turn, after_smt_round, IsSmtRun}
use Rattle.hp_smt.specs.Run as smt
use Rattle.hp_smt.specs.declared.mode.Control.{Control}
use Rattle.hp_smt_run.specs.Reached.{IsReached}
use Rattle.hp_smt_run.specs.SiblingsOff.{SiblingsAreOff, SiblingsStayOff, SiblingsStayOffFor}
use Rattle.hp_smt_run.specs.declared.run.SmtRun.{SmtRun}
use Rattle.hp_smt_run.specs.declared.written.Written.{Written}

-- what stays: the head, the threads of a core, the operations of the actors, and what is written
pub record Setup : Type 0 where
  pub head : Head
  pub threads : ℕ
  pub actors : List (List Op)
  pub want : Control

abbrev pub setup : Head → (threads : ℕ) → (actors : List (List Op)) → Control → Setup
setup head n actors want = record { head = head; threads = n; actors = actors; want = want }

abbrev pub ops_in : {H : Type 0} → SmtRun H → List (List Op)
ops_in run = map ops_of run.actors.items

abbrev pub setup_of : {H : Type 0} → SmtRun H → Setup
setup_of run = setup run.smt.board.head run.smt.threads (ops_in run) run.want

-- how far it is
abbrev pub written_as : Written → smt.Written
written_as w = record { want = w.want; answer = w.answer; online = w.online.items }

abbrev pub run_of : {H : Type 0} → SmtRun H → RunState
run_of run = progress_of run.smt.board.events run.actors.items

abbrev pub state_of : {H : Type 0} → SmtRun H → SmtState
state_of run =
    record {
      run = run_of run;
      setting = run.smt.setting;
      written = map written_as run.written.items;
      denied = run.denied.items;
    }

-- Its script can be played, and there is a seat more; turns made it; each operation that comes next has its hook where the machine wants
-- it; and no hook of the script's setups is lost.
pub record IsPlaying {H : Type 0} (run : SmtRun H) : Type 0 where
  pub script : IsScript run.smt.board.head (ops_in run)
  pub room : length (present run.smt.board.head) + length run.actors.items + 1 ≤ MAX_SEATS
  pub seats_are : run.seats ≡ length (present run.smt.board.head)
  pub reached : IsReached run.smt.board.head run.smt.threads (ops_in run) run.want (state_of run)
  pub hooks : (i : ℕ) (actor : Actor H) → slice_get run.actors.items i ≡ Some actor → HasHook run.smt.board.events (run.seats + i) actor
  pub held : hooks_in run.smt.board.places run.actors.items ≡ sum_by setups_in (ops_in run)

-- ---- turns

abbrev pub turn_at : Setup → SmtState → (seat : ℕ) → SmtState
turn_at s at k = smt_turn s.head s.threads s.actors s.want at k

pub record IsTurned {H : Type 0} (seat : ℕ) (old new : SmtRun H) : Type 0 where
  pub playing : IsPlaying new
  pub same : setup_of new ≡ setup_of old
  pub state_is : state_of new ≡ turn_at (setup_of old) (state_of old) seat
  pub off : SiblingsAreOff old.smt.threads (state_of new)

pub record IsRounded {H : Type 0} (old new : SmtRun H) : Type 0 where
  pub playing : IsPlaying new
  pub same : setup_of new ≡ setup_of old
  pub state_is : state_of new ≡ after_smt_round old.smt.board.head old.smt.threads (ops_in old) old.want (state_of old)
  pub off :
      SiblingsStayOff old.smt.board.head old.smt.threads (ops_in old) old.want (state_of old)
      (numbers (length (present old.smt.board.head) + length (ops_in old) + 1))

-- ---- the end

-- it is the run of its script, throughout which the siblings stay off while they are to
pub record IsPlayed {H : Type 0} (old new : SmtRun H) : Type 0 where
  pub playing : IsPlaying new
  pub same : setup_of new ≡ setup_of old
  pub is_run : IsSmtRun old.smt.board.head old.smt.threads (ops_in old) old.want (state_of new)
  pub off : SiblingsStayOffFor old.smt.board.head old.smt.threads (ops_in old) old.want is_run.rounds

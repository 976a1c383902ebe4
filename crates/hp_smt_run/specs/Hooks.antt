-- The hooks that the operations of a run under SMT control have, and what a turn makes of them: what it makes without SMT control, but
-- for an operation that is denied, of which all stay. After the callbacks of `struct cpuhp_step` of `kernel/cpu.c`; that an operation has
-- its hook is this project's own.
use Rattle.std.specs.Prelude.{◌≡◌, ℕ, ◌-◌, Bool, false, if◌then◌else◌, Option, Some, None, List, length, map, fold}
use Rattle.hp_event.specs.declared.event.Event.{Event}
use Rattle.hp_event.specs.declared.op.Op.{Op}
use Rattle.hp_hook.specs.Counted.{Counts}
use Rattle.hp_model.specs.Processors.{present}
use Rattle.hp_model.specs.ScriptTurns.{unanswered}
use Rattle.hp_actors.specs.ActorTurns.{asked}
use Rattle.hp_actors.specs.Hooks.{hooks_left, hooks_turned}
use Rattle.hp_actors.specs.Positions.{Position, hooks_of}
use Rattle.hp_actors.specs.declared.actor.Actor.{Actor}
use Rattle.hp_smt.specs.Contents.{Controlled}
use Rattle.hp_smt.specs.Run.{SmtState}
use Rattle.hp_smt.specs.Turns.{is_denied_by}
use Rattle.hp_smt.specs.declared.mode.Mode.{Mode}
use Rattle.hp_smt_run.specs.Playing.{Setup, setup_of, state_of, turn_at}
use Rattle.hp_smt_run.specs.declared.run.SmtRun.{SmtRun}

-- how far a run is; and by actor and operation, what the hook that the operation has has counted
pub record Standing : Type 0 where
  pub at : SmtState
  pub hooks : List (List (Option Counts))

abbrev pub standing : SmtState → (hooks : List (List (Option Counts))) → Standing
standing at hooks = record { at = at; hooks = hooks }

-- ---- what a turn makes of them

-- whether a turn for an operation, if there is one, denies it
abbrev pub denies : List Event → (threads : ℕ) → Mode → (seat : ℕ) → Option Op → Bool
denies events n mode k None = false
denies events n mode k (Some op) = is_denied_by events n mode k op

-- the run of its actors
abbrev pub position_in : Setup → Standing → Position
position_in s x = record { head = s.head; actors = s.actors; progress = x.at.run; hooks = x.hooks }

-- the seats of the threads come first
abbrev pub denies_at : Setup → SmtState → (seat : ℕ) → Bool
denies_at s at k =
    denies at.run.events s.threads at.setting.mode k (unanswered s.actors at.run.answers (k - length (present s.head)))

-- those of all actors after a turn of a seat; a turn of a thread, and of the client that writes, leaves all as they are
abbrev pub hooks_under : Setup → Standing → (seat : ℕ) → List (List (Option Counts))
hooks_under s x k = if denies_at s x.at k then x.hooks else hooks_turned (position_in s x) k

abbrev pub turned_under : Setup → Standing → (seat : ℕ) → Standing
turned_under s x k = standing (turn_at s x.at k) (hooks_under s x k)

-- turns of some seats made it of an earlier one
abbrev pub IsLaterUnder : Setup → (old new : Standing) → Type 0
IsLaterUnder s old new = (seats : List ℕ) × (new ≡ fold (turned_under s) old seats)

-- ---- of a run

abbrev pub standing_of : {H : Type 0} → (seen : H → Counts) → SmtRun H → Standing
standing_of seen run = standing (state_of run) (map (hooks_of seen) run.actors.items)

-- a turn of a seat made them
abbrev pub TurnsHooks : {H : Type 0} → (seen : H → Counts) → (seat : ℕ) → (old new : SmtRun H) → Type 0
TurnsHooks seen k old new = map (hooks_of seen) new.actors.items ≡ hooks_under (setup_of old) (standing_of seen old) k

-- turns of some seats made the run
abbrev pub IsMadeLater : {H : Type 0} → (seen : H → Counts) → (old new : SmtRun H) → Type 0
IsMadeLater seen old new = IsLaterUnder (setup_of old) (standing_of seen old) (standing_of seen new)

-- those of one actor, after a turn of its seat
abbrev pub hooks_left_under : {H : Type 0} → (seen : H → Counts) → Controlled → (seat : ℕ) → Actor H → List (Option Counts)
hooks_left_under seen s k actor =
    if denies s.board.events s.threads s.setting.mode k (asked actor) then hooks_of seen actor else hooks_left seen s.board k actor

abbrev pub HasHooksUnder : {H : Type 0} → (seen : H → Counts) → Controlled → (seat : ℕ) → (old new : Actor H) → Type 0
HasHooksUnder seen s k old new = hooks_of seen new ≡ hooks_left_under seen s k old

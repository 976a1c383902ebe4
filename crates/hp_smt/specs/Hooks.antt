-- What becomes of the hook that is asked with: as in a turn of the machine, and nothing where the operation is denied; and of those of
-- the states in a turn of a write. This project's own.
use Rattle.std.specs.Prelude.{◌≡◌, ℕ, true, ◌==◌, if◌then◌else◌, Option, Some, None, option_to_list, ◌++◌}
use Rattle.hp_states.specs.Rules.{site_at}
use Rattle.hp_event.specs.Hows.{is_called}
use Rattle.hp_event.specs.declared.event.Event.{Event}
use Rattle.hp_event.specs.declared.event.Event.TheVariants.{Call}
use Rattle.hp_hook.specs.Counted.{Counts}
use Rattle.hp_table.specs.Step.{Step, step_at, changed, called_step}
use Rattle.hp_board.specs.Contents.{Contents}
use Rattle.hp_board.specs.Hooks.{HasItsHook, HasHookLeft, KeepsItsHook, GetsStatesHook}
use Rattle.hp_board.specs.Turns.{goes_on}
use Rattle.hp_board.specs.declared.turn.Ask.{Ask}
use Rattle.hp_smt.specs.Contents.{Controlled}
use Rattle.hp_smt.specs.declared.turn.SmtTurn.{SmtTurn}
use Rattle.hp_smt.specs.declared.turn.SmtTurn.TheVariants.{Board, Denied}

abbrev pub LeavesHook : {H : Type 0} → (seen : H → Counts) → (seat : ℕ) → (old : Controlled) → (was now : Ask H) → SmtTurn → Type 0
LeavesHook seen k old was now (Board turn) =
    HasHookLeft old.board k was now × KeepsItsHook old.board k was now × GetsStatesHook seen old.board k was now
LeavesHook seen k old was now Denied = now ≡ was

-- an operation that goes on has its hook as the next turn asks for it
abbrev pub HasHookAgain : {H : Type 0} → (seat : ℕ) → (new : Controlled) → (was now : Ask H) → SmtTurn → Type 0
HasHookAgain k new was now (Board turn) = goes_on turn ≡ true → HasItsHook new.board k was.op now.hook
HasHookAgain k new was now Denied = Unit {0}

-- ---- in a turn of a write

-- what stands at a state after an event: where that is a call of the state's hook, this has counted the call
abbrev pub step_by : Event → (state : ℕ) → Option Step → Option Step
step_by (Call seat cpu state inst dir how) s place =
    if is_called how then (if state == s then changed (called_step (site_at cpu inst dir)) place else place) else place
step_by _ s place = place

abbrev pub step_after : Option Event → (state : ℕ) → Option Step → Option Step
step_after None s place = place
step_after (Some e) s place = step_by e s place

-- At each state stands what stood there, with its hook: that has the plan and the counts that it had, and one call more where the one
-- event that was made is a call of it.
pub record KeepsEachHook (old new : Contents) : Type 0 where
  pub made : Option Event
  pub events_are : new.events ≡ old.events ++ option_to_list made
  pub steps_are : (s : ℕ) → step_at new.places s ≡ step_after made s (step_at old.places s)

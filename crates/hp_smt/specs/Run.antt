-- The run of a script under SMT control: a client more than the script has actors writes a mode and then On, and every seat has its turn
-- in rounds, until each operation is answered or denied, and both writes are answered. This project's own.
use Rattle.std.specs.Prelude.{◌≡◌, ℕ, zero, suc, ◌+◌, ◌-◌, ◌<◌, Bool, true, false, ◌&&◌, ◌==◌, nat_lt, if◌then◌else◌, Option, Some, None, List, [], ◌∷◌, ◌++◌, length, replicate, slice_get, fold}
use Rattle.hp_event.specs.declared.answer.Answer.{Answer}
use Rattle.hp_event.specs.declared.event.Event.{Event}
use Rattle.hp_event.specs.declared.head.Head.{Head}
use Rattle.hp_event.specs.declared.op.Op.{Op}
use Rattle.hp_model.specs.Admissions.{admissions}
use Rattle.hp_model.specs.Lists.{numbers}
use Rattle.hp_model.specs.NextEvent.{due_entry, next_event, is_full}
use Rattle.hp_model.specs.Processors.{present, online}
use Rattle.hp_model.specs.ScriptRun.{is_over as all_answered}
use Rattle.hp_model.specs.ScriptTurns.{RunState, unanswered, counted, after_entry, after_event}
use Rattle.hp_model.specs.SetOf.{set_of}
use Rattle.hp_smt.specs.Turns.{is_denied_by}
use Rattle.hp_smt.specs.Writes.{Step, control_step, at_rest}
use Rattle.hp_smt.specs.declared.mode.Control.{Control}
use Rattle.hp_smt.specs.declared.mode.Control.TheVariants.{On}
use Rattle.hp_smt.specs.declared.mode.Mode.TheVariants as mode
use Rattle.hp_smt.specs.declared.setting.Setting.{Setting}

-- a write that is answered, and the processors that were online then
pub record Written : Type 0 where
  pub want : Control
  pub answer : Answer
  pub online : List ℕ

-- how far a run is: the events, and how many operations of each actor are answered or denied; the setting; the writes that are answered;
-- and of each operation that was denied its seat, in their order
pub record SmtState : Type 0 where
  pub run : RunState
  pub setting : Setting
  pub written : List Written
  pub denied : List ℕ

-- ---- turns

abbrev pub with_run : SmtState → RunState → SmtState
with_run at run = record { run = run; setting = at.setting; written = at.written; denied = at.denied }

-- an operation that is denied makes no event, and has ended
abbrev pub without : (seat actor : ℕ) → SmtState → SmtState
without k i at =
    record {
      run = record { events = at.run.events; answers = counted i true at.run.answers };
      setting = at.setting;
      written = at.written;
      denied = at.denied ++ k ∷ [];
    }

abbrev pub after_asking : Head → (threads seat actor : ℕ) → Option Op → SmtState → SmtState
after_asking head n k i None at = at
after_asking head n k i (Some op) at =
    if is_denied_by at.run.events n at.setting.mode k op
    then without k i at
    else with_run at (after_event i (next_event head at.run.events k op) (is_full head at.run.events k op) at.run)

abbrev pub and_event : List Event → Option Event → List Event
and_event events None = events
and_event events (Some e) = events ++ e ∷ []

abbrev pub if_answered : Head → List Event → Control → Option Answer → List Written
if_answered head events want None = []
if_answered head events want (Some a) = record { want = want; answer = a; online = online head events } ∷ []

abbrev pub after_write : Head → Control → Step → SmtState → SmtState
after_write head want step at =
    record {
      run = record { events = and_event at.run.events step.event; answers = at.run.answers };
      setting = step.setting;
      written = at.written ++ if_answered head (and_event at.run.events step.event) want step.answer;
      denied = at.denied;
    }

abbrev pub after_writing : Head → (threads seat : ℕ) → Option Control → SmtState → SmtState
after_writing head n k None at = at
after_writing head n k (Some want) at = after_write head want (control_step head at.run.events n at.setting k want) at

-- what the client more writes
abbrev pub writes : Control → List Control
writes want = want ∷ On ∷ []

-- the threads of the present processors come first, then the actors, and then the client more; a number that is no seat does nothing
abbrev pub smt_turn : Head → (threads : ℕ) → (actors : List (List Op)) → Control → SmtState → (seat : ℕ) → SmtState
smt_turn head n actors want at k =
    if nat_lt k (length (present head))
    then with_run at (after_entry (due_entry head at.run.events k) at.run)
    else (if nat_lt k (length (present head) + length actors)
    then after_asking head n k (k - length (present head)) (unanswered actors at.run.answers (k - length (present head))) at
    else (if k == length (present head) + length actors
    then after_writing head n k (slice_get (writes want) (length at.written)) at
    else at))

-- ---- rounds

abbrev pub smt_start : Head → (actors : List (List Op)) → SmtState
smt_start head actors =
    record {
      run = record { events = admissions head (actors ++ [] ∷ []); answers = replicate (length actors) 0 };
      setting = at_rest mode.On (set_of []);
      written = [];
      denied = [];
    }

abbrev pub is_over : (actors : List (List Op)) → SmtState → Bool
is_over actors at = all_answered actors at.run && length at.written == 2

abbrev pub after_smt_round : Head → (threads : ℕ) → (actors : List (List Op)) → Control → SmtState → SmtState
after_smt_round head n actors want at =
    fold (smt_turn head n actors want) at (numbers (length (present head) + length actors + 1))

abbrev pub after_smt_rounds : Head → (threads : ℕ) → (actors : List (List Op)) → Control → (rounds : ℕ) → SmtState
after_smt_rounds head n actors want zero = smt_start head actors
after_smt_rounds head n actors want (suc r) = after_smt_round head n actors want (after_smt_rounds head n actors want r)

-- the run is how far it is after as many rounds as it takes
pub record IsSmtRun (head : Head) (threads : ℕ) (actors : List (List Op)) (want : Control) (at : SmtState) : Type 0 where
  pub rounds : ℕ
  pub over : is_over actors (after_smt_rounds head threads actors want rounds) ≡ true
  pub no_sooner : (r : ℕ) → r < rounds → is_over actors (after_smt_rounds head threads actors want r) ≡ false
  pub state_is : at ≡ after_smt_rounds head threads actors want rounds

-- two runs of the same actors for the same write are one
abbrev pub SmtRunsAreOne : Head → (threads : ℕ) → (one other : SmtState) → Type 0
SmtRunsAreOne head n one other =
    (actors : List (List Op)) (want : Control) → IsSmtRun head n actors want one → IsSmtRun head n actors want other → one ≡ other

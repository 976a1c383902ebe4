-- What a call makes that is one whole operation of a client that has none in flight. This project's own.
use Rattle.std.specs.Prelude.{◌≡◌, Bool, false, IfOk, IfErr, OnErr, Option, Result, None, [], is_some}
use Rattle.hp_states.specs.declared.no_memory.NoMemory.{NoMemory}
use Rattle.hp_account.specs.TableChanges.{hands_out}
use Rattle.hp_event.specs.declared.answer.Answer.{Answer}
use Rattle.hp_event.specs.declared.op.Form.{Form}
use Rattle.hp_event.specs.declared.op.Op.{Op}
use Rattle.hp_hook.specs.Counted.{Counts}
use Rattle.hp_model.specs.Seats.{is_busy}
use Rattle.hp_live.specs.declared.registering.Done.{Done}
use Rattle.hp_live.specs.declared.registering.HookBack.{HookBack}
use Rattle.hp_live.specs.Grew.{Grew}
use Rattle.hp_live.specs.Known.{IsSamePass, Seated}
use Rattle.hp_live.specs.Runs.{ComesBack, IsAnswered}

-- The operation was answered, and past its old front the pass has its events alone; or memory was wanting for its first event, and it
-- has none. Nothing is in flight then, and the pass carries no hook.
pub record Ran (old new : Seated) (op : Op) (result : Result Answer NoMemory) : Type 0 where
  pub same : IsSamePass old new
  pub answered : IfOk result (IsAnswered old.head old.seat op old.front new.front)
  pub none : OnErr result (Grew old.seat old.front new.front [])
  pub idle : is_busy new.seat new.front ≡ false
  pub nothing : new.lent ≡ None

-- The same of a setup, with its hook, or of a remove. A hook comes back where a setup isn't answered Ok, and where a remove is: which,
-- `came_back` says. Where memory was wanting it is the one that was handed in, if one was.
pub record RanWith {H : Type 0} (seen : H → Counts) (old new : Seated) (op : Op) (was : Option H)
    (result : Result (Done H) (HookBack H)) : Type 0 where
  pub same : IsSamePass old new
  pub answered : IfOk result (λ d. IsAnswered old.head old.seat op old.front new.front d.answer)
  pub none : OnErr result (Grew old.seat old.front new.front [])
  pub idle : is_busy new.seat new.front ≡ false
  pub nothing : new.lent ≡ None
  pub hook : IfOk result (λ d. is_some d.hook ≡ hands_out op d.answer)
  pub came_back : IfOk result (λ d. ComesBack seen old.head old.seat op old.front new.front was d.hook d.answer)
  pub back : IfErr result (λ b. b.hook ≡ was)

-- a form without the read lock, with callbacks or without
abbrev pub unlocked : (nocalls : Bool) → Form
unlocked nocalls = record { nocalls = nocalls; locked = false }

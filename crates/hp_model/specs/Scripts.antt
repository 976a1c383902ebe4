-- Which actors a machine with a head can play: there are seats for all, their setups are of subsystems of the head, and no actor
-- ends locked. This project's own.
use Rattle.std.specs.Prelude.{◌≡◌, ◌+◌, ◌≤◌, Bool, true, false, List, length, All, fold}
use Rattle.hp_states.specs.declared.limits.TheConstants.{MAX_SEATS}
use Rattle.hp_event.specs.declared.op.Op.{Op}
use Rattle.hp_event.specs.declared.op.Op.TheVariants.{Lock, Unlock}
use Rattle.hp_event.specs.declared.head.Head.{Head}
use Rattle.hp_model.specs.Heads.{IsHead}
use Rattle.hp_model.specs.Processors.{present}
use Rattle.hp_model.specs.Subsystems.{names_sub}

abbrev pub lock_step : Bool → Op → Bool
lock_step found Lock = true
lock_step found Unlock = false
lock_step found _ = found

-- whether the last lock or unlock of some operations is a lock
abbrev pub is_locked : List Op → Bool
is_locked ops = fold lock_step false ops

pub record IsScript (head : Head) (actors : List (List Op)) : Type 0 where
  pub head_is : IsHead head
  pub few_seats : length (present head) + length actors ≤ MAX_SEATS
  pub has_subs : All (All (λ op. names_sub head op ≡ true)) actors
  pub end_unlocked : All (λ ops. is_locked ops ≡ false) actors

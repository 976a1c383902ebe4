-- No turn loses a hook, and none invents one. This project's own.
use Rattle.std.specs.Prelude.{◌≡◌, ◌+◌, ℕ, Bool}
use Rattle.hp_event.specs.declared.op.Op.{Op}
use Rattle.hp_account.specs.Table.{IsTableOf}
use Rattle.hp_machine.specs.MayAsk.{MayAsk}
use Rattle.hp_machine.specs.StandsNext.{next_event_of}
use Rattle.hp_model.specs.Lawful.{IsLawful}
use Rattle.hp_table.specs.Sound.{IsSound}
use Rattle.hp_board.specs.Contents.{Contents}
use Rattle.hp_board.specs.HookCount.{hook_count, held}
use Rattle.hp_board.specs.Hooks.{has_hook, has_hook_after}
use Rattle.hp_board.specs.Turns.{IsTurn}
use Rattle.hp_board.specs.declared.turn.Turn.{Turn}

-- the states have as many hooks as before
abbrev pub HasAsManyHooks : (old new : Contents) → Type 0
HasAsManyHooks old new = hook_count new.places ≡ hook_count old.places

-- with the one that is asked with, where there was one or none, there are as many after the turn as before
abbrev pub KeepsCount : (seat : ℕ) → Op → (old new : Contents) → (had : Bool) → Type 0
KeepsCount k op old new had =
    hook_count new.places + held (has_hook_after old.events (next_event_of old k op) had) ≡ hook_count old.places + held had

-- so it is of a board as it is at any time, and of an operation that its seat may ask for, with its hook
abbrev pub LosesNoHook : (seat : ℕ) → Op → Turn → Type 0
LosesNoHook k op turn =
    (old new : Contents) (had : Bool) → IsLawful old.head old.events → IsTableOf old.head old.events old.places →
    IsSound old.places → MayAsk old k op → had ≡ has_hook old.events k op → IsTurn k op old new turn →
    KeepsCount k op old new had

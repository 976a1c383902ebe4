-- The hook that is asked with: which turn takes it, and which hands one back. After the callbacks of `struct cpuhp_step` of
-- `kernel/cpu.c`.
use Rattle.std.specs.Prelude.{◌≡◌, ℕ, Bool, true, false, is_some, not, ◌&&◌, ◌||◌, Option, Some, None, List}
use Rattle.hp_event.specs.declared.event.Event.{Event}
use Rattle.hp_event.specs.declared.op.Op.{Op}
use Rattle.hp_hook.specs.Counted.{Counts}
use Rattle.hp_account.specs.TableChanges.{is_setup, brings_hook, hands_hook, AsItStood}
use Rattle.hp_machine.specs.StandsNext.{next_event_of}
use Rattle.hp_model.specs.Seats.{is_busy}
use Rattle.hp_board.specs.Contents.{Contents}
use Rattle.hp_board.specs.declared.turn.Ask.{Ask}

-- a setup has its hook at its first event, and nothing else has one
abbrev pub has_hook : List Event → (seat : ℕ) → Op → Bool
has_hook events k op = is_setup op && not (is_busy k events)

-- whether there is a hook after a turn, where there was one or none before
abbrev pub has_hook_after : List Event → (next : Option Event) → (had : Bool) → Bool
has_hook_after events None had = had
has_hook_after events (Some e) had = (had && not (brings_hook e)) || hands_hook events e

-- whether a turn leaves the hook as it is
abbrev pub leaves_hook : List Event → (next : Option Event) → Bool
leaves_hook events None = true
leaves_hook events (Some e) = not (brings_hook e) && not (hands_hook events e)

-- ---- an ask and its hook

-- the hook is there exactly where the operation of a seat has one
abbrev pub HasItsHook : {H : Type 0} → Contents → (seat : ℕ) → Op → Option H → Type 0
HasItsHook b k op hook = is_some hook ≡ has_hook b.events k op

-- after a turn for it the ask has a hook exactly where the turn leaves one
abbrev pub HasHookLeft : {H : Type 0} → Contents → (seat : ℕ) → (old new : Ask H) → Type 0
HasHookLeft b k old new = is_some new.hook ≡ has_hook_after b.events (next_event_of b k old.op) (is_some old.hook)

-- where the turn leaves the hook it is the same one
abbrev pub KeepsItsHook : {H : Type 0} → Contents → (seat : ℕ) → (old new : Ask H) → Type 0
KeepsItsHook b k old new = leaves_hook b.events (next_event_of b k old.op) ≡ true → new.hook ≡ old.hook

-- where not, one that is there is that of the state of the registration in flight, as it stood
abbrev pub GetsStatesHook : {H : Type 0} → (seen : H → Counts) → Contents → (seat : ℕ) → (old new : Ask H) → Type 0
GetsStatesHook seen b k old new =
    leaves_hook b.events (next_event_of b k old.op) ≡ false → AsItStood seen b.events b.places new.hook

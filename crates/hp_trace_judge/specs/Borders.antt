-- Where a processor is booted and where it is taken down, by the lines of a trace: the numbers of states differ between
-- kernels. Where only one of the two was seen, the other is taken to be beside it, which lets more through: of a trace that
-- boots processors and takes none down, only where no thread was asked to go down. This project's own.
use Rattle.std.specs.Prelude.{ℕ, ◌+◌, ◌-◌, ℤ, pos, negsuc, nat_lt, Bool, true, false, not, ◌&&◌, ◌||◌, if◌then◌else◌, List, [], ◌∷◌, Option, Some, None, take}
use Rattle.hp_trace.specs.declared.event.Mark.TheVariants.{Kick, BringUp, TakeDown}
use Rattle.hp_trace.specs.declared.event.Function.{Function}
use Rattle.hp_trace.specs.declared.event.Function.TheVariants.{Mark, Callback}
use Rattle.hp_trace.specs.declared.event.Payload.{Payload}
use Rattle.hp_trace.specs.declared.event.Payload.TheVariants.{Entered, Left}
use Rattle.hp_trace.specs.declared.event.Said.{Said}
use Rattle.hp_trace.specs.declared.event.Said.TheVariants as said
use Rattle.hp_trace.specs.Pieces.{pieces}
use Rattle.hp_trace.specs.Said.{said_of}
use Rattle.hp_trace_walk.specs.declared.walk.Borders.{Borders}
use Rattle.hp_trace_judge.specs.declared.borders.Sight.{Sight}

abbrev pub nothing : Sight
nothing = record { boot = None; take = None; down = false }

abbrev pub first_of : (seen : Option ℕ) → (step : ℕ) → Option ℕ
first_of (Some first) step = Some first
first_of None step = Some step

abbrev pub is_below : (target : ℤ) → (step : ℕ) → Bool
is_below (pos n) step = nat_lt n step
is_below (negsuc n) step = true

abbrev pub after_enter : Sight → (target : ℤ) → (step : ℕ) → Function → Sight
after_enter s target step (Mark Kick) = record { boot = s.boot; take = s.take; down = s.down || is_below target step }
after_enter s target step (Mark BringUp) = record { boot = first_of s.boot step; take = s.take; down = s.down }
after_enter s target step (Mark TakeDown) = record { boot = s.boot; take = first_of s.take step; down = s.down }
after_enter s target step Callback = s

abbrev pub after_payload : Sight → Payload → Sight
after_payload s (Entered multi cpu target step function) = after_enter s target step function
after_payload s (Left cpu state step code) = s

abbrev pub after : Sight → Said → Sight
after s (said.Event e) = after_payload s e.payload
after s said.NoForm = s
after s said.Lost = s
after s said.Other = s

abbrev pub after_lines : Sight → (lines : List (List ℕ)) → Sight
after_lines s [] = s
after_lines s (l ∷ ls) = after_lines (after s (said_of l)) ls

abbrev pub beside : (boot take : Option ℕ) → (down : Bool) → Option Borders
beside (Some b) (Some t) down = if nat_lt b t then Some (record { boot = b; take = t }) else None
beside (Some b) None down = if not down && nat_lt b 512 then Some (record { boot = b; take = b + 1 }) else None
beside None (Some t) down = if nat_lt 0 t then Some (record { boot = t - 1; take = t }) else None
beside None None down = None

abbrev pub borders_of : Sight → Option Borders
borders_of s = beside s.boot s.take s.down

-- by the lines of a trace before this one
abbrev pub borders_before : (until : ℕ) → (bytes : List ℕ) → Option Borders
borders_before until bytes = borders_of (after_lines nothing (take (until - 1) (pieces 10 bytes)))

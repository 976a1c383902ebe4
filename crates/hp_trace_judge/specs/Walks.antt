-- The walks of a trace, event after event: what each asks is asked of a table, until one can't be of a walk, or no table is
-- left that answers all that was asked. This project's own.
use Rattle.std.specs.Prelude.{ℕ, ◌+◌, ◌-◌, List, [], ◌∷◌, Option, Some, None, Result, Ok, Err, take}
use Rattle.hp_trace.specs.declared.event.Said.{Said}
use Rattle.hp_trace.specs.declared.event.Said.TheVariants as said
use Rattle.hp_trace.specs.Pieces.{pieces}
use Rattle.hp_trace.specs.Said.{said_of}
use Rattle.hp_trace_walk.specs.declared.walk.Borders.{Borders}
use Rattle.hp_trace_walk.specs.declared.walk.Wrong.TheVariants.{Shows}
use Rattle.hp_trace_walk.specs.Tables.{Kept, fresh, asked_all, forgotten}
use Rattle.hp_trace_judge.specs.declared.place.Place.{Place}
use Rattle.hp_trace_judge.specs.declared.place.Turn.{Turn}
use Rattle.hp_trace_judge.specs.declared.place.Halt.{Halt}
use Rattle.hp_trace_judge.specs.declared.place.Halt.TheVariants as halt
use Rattle.hp_trace_judge.specs.declared.walks.Walks.{Walks}
use Rattle.hp_trace_judge.specs.declared.walks.Walks.TheVariants.{Lawful, Misfit, Far, NoBorders}
use Rattle.hp_trace_judge.specs.Turns.{misfit}
use Rattle.hp_trace_judge.specs.Events.{turn_of}
use Rattle.hp_trace_judge.specs.Borders.{borders_before}

abbrev pub nowhere : Place
nowhere = record { walk = None; mark = None; call = None }

-- ---- an event

-- a table is asked what the walk asks that ends with it, forgets what it registers, and is asked what it asks itself
abbrev pub applied : Borders → Turn → Kept → Kept
applied b t k = asked_all b t.asked (forgotten t.forget (asked_all b t.closed k))

abbrev pub fit : Turn → (shut : Option ℕ) → Result Place Halt
fit t None = Ok t.place
fit t (Some state) = Err (misfit t.named (Shows state))

abbrev pub place_after : Borders → Result Turn Halt → Kept → Result Place Halt
place_after b (Err h) k = Err h
place_after b (Ok t) k = fit t (applied b t k).shut

abbrev pub table_after : Borders → Result Turn Halt → Kept → Kept
table_after b (Err h) k = k
table_after b (Ok t) k = applied b t k

-- ---- a line

abbrev pub place_behind : Borders → Place → (line : ℕ) → Said → Kept → Result Place Halt
place_behind b p line (said.Event e) k = place_after b (turn_of b p line e) k
place_behind b p line said.NoForm k = Ok p
place_behind b p line said.Lost k = Ok p
place_behind b p line said.Other k = Ok p

abbrev pub table_behind : Borders → Place → (line : ℕ) → Said → Kept → Kept
table_behind b p line (said.Event e) k = table_after b (turn_of b p line e) k
table_behind b p line said.NoForm k = k
table_behind b p line said.Lost k = k
table_behind b p line said.Other k = k

abbrev pub halted : (line : ℕ) → Halt → Walks
halted line (halt.Misfit m) = Misfit m
halted line halt.Far = Far line

abbrev pub by_place : (line : ℕ) → Result Place Halt → (more : Place → Walks) → Walks
by_place line (Ok p) more = more p
by_place line (Err h) more = halted line h

-- ---- lines of which the first has this number

abbrev pub walks_from : Borders → Place → Kept → (line : ℕ) → (lines : List (List ℕ)) → Walks
walks_from b p k line [] = Lawful
walks_from b p k line (l ∷ ls) =
    by_place line (place_behind b p line (said_of l) k)
    (λ next. walks_from b next (table_behind b p line (said_of l) k) (line + 1) ls)

-- those of a trace before this one
abbrev pub walks_within : Borders → (until : ℕ) → (bytes : List ℕ) → Walks
walks_within b until bytes = walks_from b nowhere fresh 1 (take (until - 1) (pieces 10 bytes))

abbrev pub walks_by : (until : ℕ) → (bytes : List ℕ) → Option Borders → Walks
walks_by until bytes None = NoBorders
walks_by until bytes (Some b) = walks_within b until bytes

abbrev pub walks_before : (until : ℕ) → (bytes : List ℕ) → Walks
walks_before until bytes = walks_by until bytes (borders_before until bytes)

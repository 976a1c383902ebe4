-- What an event does. This project's own.
use Rattle.std.specs.Prelude.{ℕ, ℤ, pos, nat_lt, Bool, true, false, if◌then◌else◌, Option, Some, None, Result, Ok, Err}
use Rattle.hp_trace.specs.declared.event.Mark.TheVariants.{Kick, BringUp, TakeDown}
use Rattle.hp_trace.specs.declared.event.Function.{Function}
use Rattle.hp_trace.specs.declared.event.Function.TheVariants.{Mark, Callback}
use Rattle.hp_trace.specs.declared.event.Payload.{Payload}
use Rattle.hp_trace.specs.declared.event.Payload.TheVariants as payload
use Rattle.hp_trace.specs.declared.event.Event.{Event}
use Rattle.hp_trace_walk.specs.declared.ask.TheConstants.{MOST_STATES}
use Rattle.hp_trace_walk.specs.declared.walk.Borders.{Borders}
use Rattle.hp_trace_judge.specs.declared.place.Entered.{Entered}
use Rattle.hp_trace_judge.specs.declared.place.Place.{Place}
use Rattle.hp_trace_judge.specs.declared.place.Way.TheVariants.{Begin, Answer}
use Rattle.hp_trace_judge.specs.declared.place.Named.{Named}
use Rattle.hp_trace_judge.specs.declared.place.Turn.{Turn}
use Rattle.hp_trace_judge.specs.declared.place.Halt.{Halt}
use Rattle.hp_trace_judge.specs.declared.place.Halt.TheVariants.{Far}
use Rattle.hp_trace_judge.specs.Turns.{state_of, named, quiet, left_call, left_callback, kick, left_kick, left_bring_up}

abbrev pub with_mark : Place → Entered → Place
with_mark p e = record { walk = p.walk; mark = Some e; call = p.call }

abbrev pub with_call : Place → Entered → Place
with_call p e = record { walk = p.walk; mark = p.mark; call = Some e }

-- ---- an enter

abbrev pub marked : Entered → Result Turn Halt → Result Turn Halt
marked e (Err halt) = Err halt
marked e (Ok t) = Ok (record { named = t.named; place = with_mark t.place e; closed = t.closed; forget = t.forget; asked = t.asked })

-- a call as it is entered, since callbacks are called in it
abbrev pub bring_up : Borders → Place → Entered → Result Turn Halt
bring_up b p e = marked e (left_call b p e true (pos 0) false)

abbrev pub enter_of : Borders → Place → Entered → Function → Result Turn Halt
enter_of b p e (Mark Kick) = kick b (with_mark p e) e
enter_of b p e (Mark BringUp) = bring_up b p e
enter_of b p e (Mark TakeDown) = Ok (quiet (named e e.line Begin) (with_mark p e))
enter_of b p e Callback = Ok (quiet (named e e.line Begin) (with_call p e))

abbrev pub enter : Borders → Place → Entered → Result Turn Halt
enter b p e = enter_of b p e e.function

-- ---- an exit

abbrev pub leave_of : Borders → Place → (line : ℕ) → Entered → (state : ℕ) → (code : ℤ) → Function → Result Turn Halt
leave_of b p line e state code (Mark Kick) = left_kick b p (named e line Answer) state code
leave_of b p line e state code (Mark BringUp) = left_bring_up b p (named e line Answer) code
leave_of b p line e state code (Mark TakeDown) = left_call b p e false code false
leave_of b p line e state code Callback = Ok (quiet (named e line Answer) p)

abbrev pub leave_mark : Borders → Place → (line : ℕ) → Entered → (state : ℕ) → (code : ℤ) → Result Turn Halt
leave_mark b p line e state code = leave_of b p line e state code e.function

abbrev pub without_call : Place → Place
without_call p = record { walk = p.walk; mark = p.mark; call = None }

abbrev pub with_nothing : Place → Place
with_nothing p = record { walk = p.walk; mark = None; call = None }

-- of the last that was entered of what is open
abbrev pub leave_last : Borders → Place → Named → (state : ℕ) → (code : ℤ) → (call mark : Option Entered) → Result Turn Halt
leave_last b p left state code (Some call) mark = left_callback b (without_call p) call state code
leave_last b p left state code None (Some mark) = leave_mark b (with_nothing p) left.line mark state code
leave_last b p left state code None None = Ok (quiet left p)

abbrev pub leave : Borders → Place → Named → (state : ℕ) → (code : ℤ) → Result Turn Halt
leave b p left state code = leave_last b p left state code p.call p.mark

-- ---- any, of a state and with numbers that a table has

abbrev pub entered_turn : Borders → Place → Entered → Result Turn Halt
entered_turn b p e = if nat_lt e.step MOST_STATES then enter b p e else Err Far

abbrev pub enter_to : Borders → Place → (line : ℕ) → (multi : Bool) → (cpu step : ℕ) → Function → Option ℕ → Result Turn Halt
enter_to b p line multi cpu step function None = Err Far
enter_to b p line multi cpu step function (Some target) =
    entered_turn b p (record { line = line; cpu = cpu; step = step; target = target; multi = multi; function = function })

abbrev pub leave_at : Borders → Place → (line cpu step : ℕ) → (code : ℤ) → Option ℕ → Result Turn Halt
leave_at b p line cpu step code None = Err Far
leave_at b p line cpu step code (Some state) =
    leave b p (record { line = line; cpu = cpu; step = step; way = Answer }) state code

abbrev pub turn_by : Borders → Place → (line : ℕ) → Payload → Result Turn Halt
turn_by b p line (payload.Entered multi cpu target step function) = enter_to b p line multi cpu step function (state_of target)
turn_by b p line (payload.Left cpu state step code) = leave_at b p line cpu step code (state_of state)

abbrev pub turn_of : Borders → Place → (line : ℕ) → Event → Result Turn Halt
turn_of b p line e = turn_by b p line e.payload

-- What a call or an answer does to the walk that is open, and what it asks of a table of states. This project's own.
use Rattle.std.specs.Prelude.{ℕ, zero, suc, ◌==◌, ℤ, pos, negsuc, nat_lt, Bool, true, false, not, ◌&&◌, ◌||◌, if◌then◌else◌, Option, Some, None, Result, Ok, Err}
use Rattle.hp_trace_walk.specs.declared.ask.Asks.{Asks}
use Rattle.hp_trace_walk.specs.declared.ask.TheConstants.{MOST_STATES}
use Rattle.hp_trace_walk.specs.declared.walk.Borders.{Borders}
use Rattle.hp_trace_walk.specs.declared.walk.Phase.{Phase}
use Rattle.hp_trace_walk.specs.declared.walk.Phase.TheVariants.{Begun, Forward, Failed, Back, Stuck}
use Rattle.hp_trace_walk.specs.declared.walk.Walk.{Walk}
use Rattle.hp_trace_walk.specs.declared.walk.Call.{Call}
use Rattle.hp_trace_walk.specs.declared.walk.Wrong.{Wrong}
use Rattle.hp_trace_walk.specs.declared.walk.Wrong.TheVariants.{NoStop, NoAnswer, NotThere}
use Rattle.hp_trace_walk.specs.declared.step.Asked.{Asked}
use Rattle.hp_trace_walk.specs.declared.ends.How.{How}
use Rattle.hp_trace_walk.specs.declared.ends.How.TheVariants.{Went}
use Rattle.hp_trace_walk.specs.declared.begin.Next.{Next}
use Rattle.hp_trace_walk.specs.declared.begin.Next.TheVariants.{Goes, Begins, Registers}
use Rattle.hp_trace_walk.specs.Asks.{one_more, no_asks}
use Rattle.hp_trace_walk.specs.Walks.{can_fail, is_stop, is_turned}
use Rattle.hp_trace_walk.specs.Steps.{called}
use Rattle.hp_trace_walk.specs.Ends.{closed, ended, kicked_back}
use Rattle.hp_trace_walk.specs.Begins.{next_of}
use Rattle.hp_trace_judge.specs.declared.place.Entered.{Entered}
use Rattle.hp_trace_judge.specs.declared.place.Place.{Place}
use Rattle.hp_trace_judge.specs.declared.place.Way.{Way}
use Rattle.hp_trace_judge.specs.declared.place.Way.TheVariants.{Startup, Teardown, Registration, Begin}
use Rattle.hp_trace_judge.specs.declared.place.Named.{Named}
use Rattle.hp_trace_judge.specs.declared.place.Turn.{Turn}
use Rattle.hp_trace_judge.specs.declared.place.Halt.{Halt}
use Rattle.hp_trace_judge.specs.declared.place.Halt.TheVariants.{Misfit}

-- the number of a state that a table has
abbrev pub state_of : (number : ℤ) → Option ℕ
state_of (pos n) = if nat_lt n MOST_STATES then Some n else None
state_of (negsuc n) = None

-- every code but 0
abbrev pub is_fault : (code : ℤ) → Bool
is_fault (pos zero) = false
is_fault (pos (suc n)) = true
is_fault (negsuc n) = true

abbrev pub named : Entered → (line : ℕ) → Way → Named
named e line way = record { line = line; cpu = e.cpu; step = e.step; way = way }

abbrev pub way_of : (up : Bool) → Way
way_of up = if up then Startup else Teardown

abbrev pub misfit : Named → Wrong → Halt
misfit named wrong = Misfit (record { named = named; wrong = wrong })

abbrev pub quiet : Named → Place → Turn
quiet named place = record { named = named; place = place; closed = no_asks; forget = None; asked = no_asks }

abbrev pub with_walk : Place → Option Walk → Place
with_walk p walk = record { walk = walk; mark = p.mark; call = p.call }

abbrev pub ending : Named → Place → Option Walk → (closed : Asks) → Turn
ending named p walk closed = record { named = named; place = with_walk p walk; closed = closed; forget = None; asked = no_asks }

-- ---- the function that boots a processor failed itself, where no line shows a callback in it, unless the walk comes back
-- ---- from a state behind it

abbrev pub failed_at : Walk → (at : ℕ) → Walk
failed_at w at = record {
  cpu = w.cpu;
  up = w.up;
  to = w.to;
  kicked = w.kicked;
  edge = w.edge;
  first = w.first;
  phase = Failed at 0 0;
  failing = w.failing;
}

abbrev pub settled_at : Borders → Walk → (back_to : ℕ) → Phase → Walk
settled_at b w back_to (Forward at count) = if w.failing && at == b.boot && nat_lt back_to at then failed_at w at else w
settled_at b w back_to Begun = w
settled_at b w back_to (Failed at parts undone) = w
settled_at b w back_to (Back at count) = w
settled_at b w back_to (Stuck at parts undone) = w

abbrev pub settled : Borders → Walk → (back_to : ℕ) → Walk
settled b w back_to = settled_at b w back_to w.phase

-- ---- a walk ends

abbrev pub closing_of : Borders → Option Walk → Option How → Result Asks Wrong
closing_of b None how = closed b None how
closing_of b (Some w) how = closed b (Some (settled b w 0)) how

abbrev pub closing : Borders → Place → Option How → Result Asks Wrong
closing b p how = closing_of b p.walk how

-- ---- a call of a walk

abbrev pub asked_turn : Place → Named → (closed : Asks) → Result Asked Wrong → Result Turn Halt
asked_turn p named closed (Err wrong) = Err (misfit named wrong)
asked_turn p named closed (Ok asked) =
    Ok (record { named = named; place = with_walk p (Some asked.walk); closed = closed; forget = None; asked = asked.asks })

abbrev pub walk_call : Borders → Place → Named → Walk → Call → (closed : Asks) → Result Turn Halt
walk_call b p named w c closed = asked_turn p named closed (called b w c)

-- before its first call
abbrev pub begun : Call → Walk
begun c = record {
  cpu = c.cpu;
  up = c.up;
  to = c.target;
  kicked = false;
  edge = None;
  first = None;
  phase = Begun;
  failing = false;
}

-- no walk up begins for a state where none stops
abbrev pub begin_closed : Borders → Place → Named → Call → Result Asks Wrong → Result Turn Halt
begin_closed b p named c (Err wrong) = Err (misfit named wrong)
begin_closed b p named c (Ok asks) =
    if c.up && not (is_stop b c.target) then Err (misfit named NoStop) else walk_call b p named (begun c) c asks

abbrev pub begin : Borders → Place → Named → Call → Option How → Result Turn Halt
begin b p named c how = begin_closed b p named c (closing b p how)

-- ---- a call of a registration: behind it the table may be another at its state

abbrev pub register_closed : Place → Named → Result Asks Wrong → Result Turn Halt
register_closed p named (Err wrong) = Err (misfit named wrong)
register_closed p named (Ok asks) = Ok (record {
  named = record { line = named.line; cpu = named.cpu; step = named.step; way = Registration };
  place = with_walk p None;
  closed = asks;
  forget = Some named.step;
  asked = no_asks;
})

abbrev pub register : Borders → Place → Named → Option How → Result Turn Halt
register b p named how = register_closed p named (closing b p how)

-- ---- any call

abbrev pub next_turn : Borders → Place → Named → Call → Next → Result Turn Halt
next_turn b p named c (Goes w) = walk_call b p named (settled b w c.state) c no_asks
next_turn b p named c (Begins how) = begin b p named c how
next_turn b p named c (Registers how) = register b p named how

abbrev pub call_turn : Borders → Place → Named → Call → (inside : Bool) → Result Turn Halt
call_turn b p named c inside = next_turn b p named c (next_of b p.walk c inside)

abbrev pub call_of : Borders → Entered → (up : Bool) → (code : ℤ) → Call
call_of b e up code = record {
  cpu = e.cpu;
  state = e.step;
  up = up;
  target = e.target;
  multi = e.multi;
  fails = is_fault code && can_fail b up e.step;
}

abbrev pub left_call : Borders → Place → Entered → (up : Bool) → (code : ℤ) → (inside : Bool) → Result Turn Halt
left_call b p e up code inside = call_turn b p (named e e.line (way_of up)) (call_of b e up code) inside

abbrev pub is_inside : Option Entered → Bool
is_inside None = false
is_inside (Some mark) = true

-- by the state in which the processor is behind it: a startup has reached its own, a teardown the one below
abbrev pub left_callback : Borders → Place → Entered → (state : ℕ) → (code : ℤ) → Result Turn Halt
left_callback b p e state code =
    if state == e.step then left_call b p e true code (is_inside p.mark)
    else if one_more state == e.step then left_call b p e false code (is_inside p.mark)
    else register b p (named e e.line Registration) None

-- ---- `cpuhp_kick_ap_work`: a walk begins where the processor is

abbrev pub edge_of : Entered → ℕ
edge_of e = if nat_lt e.step e.target then e.step else one_more e.step

abbrev pub kicked : Entered → Walk
kicked e = record {
  cpu = e.cpu;
  up = nat_lt e.step e.target;
  to = e.target;
  kicked = true;
  edge = Some (edge_of e);
  first = None;
  phase = Begun;
  failing = false;
}

abbrev pub kick_closed : Place → Entered → Result Asks Wrong → Result Turn Halt
kick_closed p e (Err wrong) = Err (misfit (named e e.line Begin) wrong)
kick_closed p e (Ok asks) = Ok (ending (named e e.line Begin) p (Some (kicked e)) asks)

abbrev pub kick : Borders → Place → Entered → Result Turn Halt
kick b p e = kick_closed p e (closing b p None)

abbrev pub ends : Named → Place → Result Asks Wrong → Result Turn Halt
ends named p (Err wrong) = Err (misfit named wrong)
ends named p (Ok asks) = Ok (ending named p None asks)

-- a walk down goes on behind the part of the processor's own thread, where it goes so far
abbrev pub kick_done : Borders → Place → Named → Walk → (state : ℕ) → Result Turn Halt
kick_done b p named w state =
    if is_turned w then Err (misfit named NoAnswer)
    else if w.up || nat_lt b.take state then
    (if state == w.to then ends named p (ended b w Went) else Err (misfit named NotThere))
    else Ok (quiet named p)

abbrev pub kick_answer : Borders → Place → Named → (state : ℕ) → (code : ℤ) → Option Walk → Result Turn Halt
kick_answer b p named state code None = Ok (quiet named p)
kick_answer b p named state code (Some w) =
    if is_fault code then ends named p (kicked_back b w state) else kick_done b p named w state

abbrev pub left_kick : Borders → Place → Named → (state : ℕ) → (code : ℤ) → Result Turn Halt
left_kick b p named state code = kick_answer b p named state code p.walk

-- ---- the answer of the function that boots a processor

abbrev pub failing : Walk → Walk
failing w = record {
  cpu = w.cpu;
  up = w.up;
  to = w.to;
  kicked = w.kicked;
  edge = w.edge;
  first = w.first;
  phase = w.phase;
  failing = true;
}

abbrev pub bring_up_answer : Borders → Place → Named → (code : ℤ) → Option Walk → Result Turn Halt
bring_up_answer b p named code None = Ok (quiet named p)
bring_up_answer b p named code (Some w) =
    if is_fault code then Ok (ending named p (Some (failing w)) no_asks)
    else if is_turned w then Err (misfit named NoAnswer)
    else ends named p (ended b w Went)

abbrev pub left_bring_up : Borders → Place → Named → (code : ℤ) → Result Turn Halt
left_bring_up b p named code = bring_up_answer b p named code p.walk

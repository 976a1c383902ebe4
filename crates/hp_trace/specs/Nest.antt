-- What the lines alone decide. Enters and exits nest on one stack for the whole trace: one function in which others are
-- called, and in it one callback, both of one processor. A callback of a state above that of booting the processor stands
-- on its own processor, where its line says on which it stands.
use Rattle.std.specs.Prelude.{◌≡◌, ◌<◌, ℕ, ◌==◌, nat_le, Bool, true, ◌||◌, ◌&&◌, if◌then◌else◌, Option, Some, None, IfSome, OnSome}
use Rattle.hp_trace.specs.declared.event.Mark.TheVariants.{Kick, BringUp, TakeDown}
use Rattle.hp_trace.specs.declared.event.Function.{Function}
use Rattle.hp_trace.specs.declared.event.Function.TheVariants.{Mark, Callback}
use Rattle.hp_trace.specs.declared.event.Payload.{Payload}
use Rattle.hp_trace.specs.declared.event.Payload.TheVariants.{Entered, Left}
use Rattle.hp_trace.specs.declared.event.Event.{Event}
use Rattle.hp_trace.specs.declared.nest.Open.{Open}
use Rattle.hp_trace.specs.declared.nest.Nest.{Nest}
use Rattle.hp_trace.specs.declared.nest.Fault.{Fault}
use Rattle.hp_trace.specs.declared.nest.Fault.TheVariants.{WithinCall, OfAnother, WithinMark, NotLast, NoEnter, NotOwn}

-- before the first line
abbrev pub nothing : Nest
nothing = record { mark = None; call = None; border = None }

-- ---- which event can stand behind what is open

-- a callback of a state above the border stands on its own processor, where its line says on which it stands
abbrev pub IsOwn : (border : Option ℕ) → (step cpu : ℕ) → (on : Option ℕ) → Type 0
IsOwn border step cpu on = IfSome border (λ b. b < step → IfSome on (λ n. n ≡ cpu))

-- a function is entered: no callback is open; what is open is of the same processor; one in which others are called is
-- entered alone
pub record IsEnterable (s : Nest) (on : Option ℕ) (cpu step : ℕ) (function : Function) : Type 0 where
  pub no_call : s.call ≡ None
  pub same : IfSome s.mark (λ m. m.cpu ≡ cpu)
  pub alone : (m : _) → function ≡ Mark m → s.mark ≡ None
  pub own : function ≡ Callback → IsOwn s.border step cpu on

-- the last that was entered, of those that are open
abbrev pub last_open : (call mark : Option Open) → Option Open
last_open (Some o) mark = Some o
last_open None mark = mark

-- a function is left: it is the last that was entered
pub record IsLeavable (s : Nest) (on : Option ℕ) (cpu step : ℕ) : Type 0 where
  pub top : Open
  pub last : last_open s.call s.mark ≡ Some top
  pub same_cpu : top.cpu ≡ cpu
  pub same_step : top.step ≡ step
  pub own : OnSome s.call (IsOwn s.border step cpu on)

abbrev pub OfPayload : Nest → (on : Option ℕ) → Payload → Type 0
OfPayload s on (Entered multi cpu target step function) = IsEnterable s on cpu step function
OfPayload s on (Left cpu state step code) = IsLeavable s on cpu step

-- the event can stand
abbrev pub CanStand : Nest → Event → Type 0
CanStand s e = OfPayload s e.on e.payload

-- ---- what is open behind it

abbrev pub lower : (border : Option ℕ) → (step : ℕ) → Option ℕ
lower None step = Some step
lower (Some b) step = if nat_le step b then Some step else Some b

abbrev pub entered : Nest → Open → Function → Nest
entered s o (Mark Kick) = record { mark = Some o; call = s.call; border = s.border }
entered s o (Mark BringUp) = record { mark = Some o; call = s.call; border = lower s.border o.step }
entered s o (Mark TakeDown) = record { mark = Some o; call = s.call; border = lower s.border o.step }
entered s o Callback = record { mark = s.mark; call = Some o; border = s.border }

abbrev pub left : (call mark : Option Open) → (border : Option ℕ) → Nest
left (Some o) mark border = record { mark = mark; call = None; border = border }
left None mark border = record { mark = None; call = None; border = border }

abbrev pub behind : Nest → (line : ℕ) → Payload → Nest
behind s line (Entered multi cpu target step function) = entered s (record { line = line; cpu = cpu; step = step }) function
behind s line (Left cpu state step code) = left s.call s.mark s.border

abbrev pub after : Nest → (line : ℕ) → Event → Nest
after s line e = behind s line e.payload

-- ---- why it can't

abbrev pub is_own : (border : Option ℕ) → (step cpu : ℕ) → (on : Option ℕ) → Bool
is_own (Some b) step cpu (Some n) = nat_le step b || n == cpu
is_own (Some b) step cpu None = true
is_own None step cpu on = true

abbrev pub not_own : (own : Bool) → (on : Option ℕ) → Option Fault
not_own own None = None
not_own own (Some n) = if own then None else Some (NotOwn n)

abbrev pub own_fault : Nest → (on : Option ℕ) → (cpu step : ℕ) → Option Fault
own_fault s on cpu step = not_own (is_own s.border step cpu on) on

abbrev pub room : (call mark : Option Open) → (cpu : ℕ) → Option Fault
room (Some call) mark cpu = Some (WithinCall call)
room None (Some mark) cpu = if mark.cpu == cpu then None else Some (OfAnother mark)
room None None cpu = None

abbrev pub no_room : Nest → (cpu : ℕ) → Option Fault
no_room s cpu = room s.call s.mark cpu

abbrev pub within : Option Fault → Function → (mark : Option Open) → (own : Option Fault) → Option Fault
within (Some fault) function mark own = Some fault
within None (Mark m) (Some mark) own = Some (WithinMark mark)
within None (Mark m) None own = None
within None Callback mark own = own

abbrev pub enter_fault : Nest → (on : Option ℕ) → (cpu step : ℕ) → Function → Option Fault
enter_fault s on cpu step function = within (no_room s cpu) function s.mark (own_fault s on cpu step)

abbrev pub unlike : (call mark : Option Open) → (cpu step : ℕ) → (own : Option Fault) → Option Fault
unlike (Some call) mark cpu step own = if call.cpu == cpu && call.step == step then own else Some (NotLast call)
unlike None (Some mark) cpu step own = if mark.cpu == cpu && mark.step == step then None else Some (NotLast mark)
unlike None None cpu step own = Some NoEnter

abbrev pub exit_fault : Nest → (on : Option ℕ) → (cpu step : ℕ) → Option Fault
exit_fault s on cpu step = unlike s.call s.mark cpu step (own_fault s on cpu step)

abbrev pub fault_at : Nest → (on : Option ℕ) → Payload → Option Fault
fault_at s on (Entered multi cpu target step function) = enter_fault s on cpu step function
fault_at s on (Left cpu state step code) = exit_fault s on cpu step

abbrev pub fault_of : Nest → Event → Option Fault
fault_of s e = fault_at s e.on e.payload

-- Which events are values of their type: each number is within the range of its field. This project's own.
use Rattle.hp_event.specs.declared.how.How.{How}
use Rattle.hp_event.specs.declared.how.How.TheVariants.{RanOk, RanFault, Injected, Empty, Presumed, Overruled}
use Rattle.hp_event.specs.declared.answer.Answer.{Answer}
use Rattle.hp_event.specs.declared.answer.Answer.TheVariants as answer
use Rattle.hp_event.specs.declared.event.Role.{Role}
use Rattle.hp_event.specs.declared.event.Role.TheVariants.{Client, Ap}
use Rattle.hp_event.specs.declared.event.Event.{Event}
use Rattle.hp_event.specs.declared.event.Event.TheVariants.{Admit, Leave, Enter, Refused, WalkBegin, Call, WalkEnd, OpEnd, RegBegin, RegEnd, ReadLock, ReadUnlock, Armed, Shown, Wakeup}
pub use Rattle.hp_text.specs.Fits.{IsU32, IsI32, OpFits}

abbrev pub HowFits : How → Type 0
HowFits RanOk = Unit {0}
HowFits (RanFault code) = IsU32 code
HowFits Injected = Unit {0}
HowFits Empty = Unit {0}
HowFits Presumed = Unit {0}
HowFits (Overruled code) = IsU32 code

abbrev pub AnswerFits : Answer → Type 0
AnswerFits (answer.Ok value) = IsI32 value
AnswerFits (answer.Refused errno) = IsU32 errno
AnswerFits (answer.Fault code) = IsU32 code
AnswerFits (answer.Stuck first second at) = IsU32 first × IsU32 second × IsU32 at
AnswerFits answer.LogFull = Unit {0}

abbrev pub RoleFits : Role → Type 0
RoleFits Client = Unit {0}
RoleFits (Ap cpu) = IsU32 cpu

abbrev pub EventFits : Event → Type 0
EventFits (Admit seat role) = IsU32 seat × RoleFits role
EventFits (Leave seat) = IsU32 seat
EventFits (Enter seat op) = IsU32 seat × OpFits op
EventFits (Refused seat errno op) = IsU32 seat × IsU32 errno × OpFits op
EventFits (WalkBegin seat cpu from to) = IsU32 seat × IsU32 cpu × IsU32 from × IsU32 to
EventFits (Call seat cpu state inst dir how) = IsU32 seat × IsU32 cpu × IsU32 state × IsU32 inst × HowFits how
EventFits (WalkEnd seat cpu answer) = IsU32 seat × IsU32 cpu × AnswerFits answer
EventFits (OpEnd seat answer) = IsU32 seat × AnswerFits answer
EventFits (RegBegin seat state op) = IsU32 seat × IsU32 state × OpFits op
EventFits (RegEnd seat answer) = IsU32 seat × AnswerFits answer
EventFits (ReadLock seat) = IsU32 seat
EventFits (ReadUnlock seat) = IsU32 seat
EventFits (Armed seat cpu value) = IsU32 seat × IsU32 cpu × IsI32 value
EventFits (Shown seat file cpu value) = IsU32 seat × IsU32 cpu × IsI32 value
EventFits (Wakeup seat) = IsU32 seat

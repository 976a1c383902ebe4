-- The line of an event in the text of a journal. This project's own.
use Rattle.std.specs.Prelude.{ℕ, if◌then◌else◌, List, [], ◌∷◌, ◌++◌, map, codes, decimal}
use Rattle.std.specs.Fmt.{signed_decimal}
use Rattle.hp_event.specs.declared.op.Op.{Op}
use Rattle.hp_model.specs.Listed.{listed}
use Rattle.hp_event.specs.declared.op.Op.TheVariants as op
use Rattle.hp_event.specs.declared.how.How.{How}
use Rattle.hp_event.specs.declared.how.How.TheVariants.{RanOk, RanFault, Injected, Empty, Presumed, Overruled}
use Rattle.hp_event.specs.declared.answer.Answer.{Answer}
use Rattle.hp_event.specs.declared.answer.Answer.TheVariants as answer
use Rattle.hp_event.specs.declared.event.Role.{Role}
use Rattle.hp_event.specs.declared.event.Role.TheVariants.{Client, Ap}
use Rattle.hp_event.specs.declared.event.File.{File}
use Rattle.hp_event.specs.declared.event.File.TheVariants.{State, Target, Fail, States}
use Rattle.hp_event.specs.declared.op.Form.{Form}
use Rattle.hp_event.specs.declared.version.Version.{Version}
use Rattle.hp_event.specs.declared.version.Version.TheVariants.{One, Two}
use Rattle.hp_event.specs.declared.event.Event.{Event}
use Rattle.hp_event.specs.declared.event.Event.TheVariants.{Admit, Leave, Enter, Refused, WalkBegin, Call, WalkEnd, OpEnd, RegBegin, RegEnd, ReadLock, ReadUnlock, Armed, Shown, Wakeup}
use Rattle.hp_model.specs.Words.{line, dir_word}

abbrev pub form_words : Form → List (List ℕ)
form_words form =
    (if form.nocalls then codes "nocalls" ∷ [] else []) ++ (if form.locked then codes "locked" ∷ [] else [])

-- the words of an operation, as a script has them
abbrev pub op_words : Op → List (List ℕ)
op_words (op.Up cpu) = codes "up" ∷ decimal cpu ∷ []
op_words (op.Down cpu) = codes "down" ∷ decimal cpu ∷ []
op_words (op.Target cpu value) = codes "target" ∷ decimal cpu ∷ signed_decimal value ∷ []
op_words (op.Arm cpu value) = codes "fail" ∷ decimal cpu ∷ signed_decimal value ∷ []
op_words (op.ShowState cpu) = codes "show" ∷ codes "state" ∷ decimal cpu ∷ []
op_words (op.ShowTarget cpu) = codes "show" ∷ codes "target" ∷ decimal cpu ∷ []
op_words (op.ShowFail cpu) = codes "show" ∷ codes "fail" ∷ decimal cpu ∷ []
op_words op.ShowStates = codes "show" ∷ codes "states" ∷ []
op_words (op.Setup state sub form) = codes "setup" ∷ decimal state ∷ decimal sub ∷ form_words form
op_words (op.Remove state form) = codes "remove" ∷ decimal state ∷ form_words form
op_words (op.Add state inst form) = codes "add" ∷ decimal state ∷ decimal inst ∷ form_words form
op_words (op.Del state inst form) = codes "del" ∷ decimal state ∷ decimal inst ∷ form_words form
op_words op.Lock = codes "lock" ∷ []
op_words op.Unlock = codes "unlock" ∷ []
op_words (op.Boot most) = codes "boot" ∷ decimal most ∷ []
op_words op.Disable = codes "disable" ∷ []
op_words op.Enable = codes "enable" ∷ []
op_words (op.Freeze primary) = codes "freeze" ∷ signed_decimal primary ∷ []
op_words op.Thaw = codes "thaw" ∷ []
op_words op.Wakeup = codes "wakeup" ∷ []
op_words (op.UpMany set) = codes "upmany" ∷ map decimal (listed set)

abbrev pub how_words : How → List (List ℕ)
how_words RanOk = codes "ok" ∷ []
how_words (RanFault code) = codes "fault" ∷ decimal code ∷ []
how_words Injected = codes "injected" ∷ []
how_words Empty = codes "empty" ∷ []
how_words Presumed = codes "presumed" ∷ []
how_words (Overruled code) = codes "overruled" ∷ decimal code ∷ []

abbrev pub answer_words : Answer → List (List ℕ)
answer_words (answer.Ok value) = codes "ok" ∷ signed_decimal value ∷ []
answer_words (answer.Refused errno) = codes "refused" ∷ decimal errno ∷ []
answer_words (answer.Fault code) = codes "fault" ∷ decimal code ∷ []
answer_words (answer.Stuck first second at) = codes "stuck" ∷ decimal first ∷ decimal second ∷ decimal at ∷ []
answer_words answer.LogFull = codes "full" ∷ []

-- the answer of a walk has no number where it is ok
abbrev pub walk_answer_words : Answer → List (List ℕ)
walk_answer_words (answer.Ok value) = codes "ok" ∷ []
walk_answer_words (answer.Refused errno) = answer_words (answer.Refused errno)
walk_answer_words (answer.Fault code) = answer_words (answer.Fault code)
walk_answer_words (answer.Stuck first second at) = answer_words (answer.Stuck first second at)
walk_answer_words answer.LogFull = answer_words answer.LogFull

abbrev pub role_words : Role → List (List ℕ)
role_words Client = codes "client" ∷ []
role_words (Ap cpu) = codes "ap" ∷ decimal cpu ∷ []

-- the file of all states belongs to no processor
abbrev pub file_words : File → (cpu : ℕ) → List (List ℕ)
file_words State cpu = codes "state" ∷ decimal cpu ∷ []
file_words Target cpu = codes "target" ∷ decimal cpu ∷ []
file_words Fail cpu = codes "fail" ∷ decimal cpu ∷ []
file_words States cpu = codes "states" ∷ []

-- behind the seat of an operation's event: the operation's number, in version 2
abbrev pub number_words : Version → (number : ℕ) → List (List ℕ)
number_words One n = []
number_words Two n = decimal n ∷ []

-- the words of an event, with this number of its operation where it is one's
abbrev pub event_words : Version → (number : ℕ) → Event → List (List ℕ)
event_words v n (Admit seat role) = codes "admit" ∷ decimal seat ∷ role_words role
event_words v n (Leave seat) = codes "leave" ∷ decimal seat ∷ []
event_words v n (Enter seat op) = codes "enter" ∷ decimal seat ∷ (number_words v n ++ op_words op)
event_words v n (Refused seat errno op) = codes "refused" ∷ decimal seat ∷ (number_words v n ++ decimal errno ∷ op_words op)
event_words v n (WalkBegin seat cpu from to) =
    codes "walk" ∷ decimal seat ∷ decimal cpu ∷ decimal from ∷ decimal to ∷ []
event_words v n (Call seat cpu state inst dir how) =
    codes "call" ∷ decimal seat ∷ decimal cpu ∷ decimal state ∷ decimal inst ∷ dir_word dir ∷ how_words how
event_words v n (WalkEnd seat cpu answer) = codes "walked" ∷ decimal seat ∷ decimal cpu ∷ walk_answer_words answer
event_words v n (OpEnd seat answer) = codes "done" ∷ decimal seat ∷ (number_words v n ++ answer_words answer)
event_words v n (RegBegin seat state op) = codes "reg" ∷ decimal seat ∷ (number_words v n ++ decimal state ∷ op_words op)
event_words v n (RegEnd seat answer) = codes "regged" ∷ decimal seat ∷ (number_words v n ++ answer_words answer)
event_words v n (ReadLock seat) = codes "lock" ∷ decimal seat ∷ number_words v n
event_words v n (ReadUnlock seat) = codes "unlock" ∷ decimal seat ∷ number_words v n
event_words v n (Armed seat cpu value) =
    codes "armed" ∷ decimal seat ∷ (number_words v n ++ decimal cpu ∷ signed_decimal value ∷ [])
event_words v n (Shown seat file cpu value) =
    codes "shown" ∷ decimal seat ∷ (number_words v n ++ file_words file cpu ++ signed_decimal value ∷ [])
event_words v n (Wakeup seat) = codes "wakeup" ∷ decimal seat ∷ number_words v n

abbrev pub event_line : Version → (number : ℕ) → Event → List ℕ
event_line v n event = line (event_words v n event)

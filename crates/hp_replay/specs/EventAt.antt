-- The event that a line says in a version, by the table of the event lines. This project's own.
use Rattle.std.specs.Prelude.{ℕ, map, List, [], ◌∷◌, Option, Some, None, codes, pos}
use Rattle.std.specs.Option.{option_and_then}
use Rattle.hp_event.specs.declared.how.How.{How}
use Rattle.hp_event.specs.declared.how.How.TheVariants.{RanOk, RanFault, Injected, Empty, Presumed, Overruled}
use Rattle.hp_event.specs.declared.answer.Answer.{Answer}
use Rattle.hp_event.specs.declared.answer.Answer.TheVariants as answers
use Rattle.hp_event.specs.declared.event.Role.{Role}
use Rattle.hp_event.specs.declared.event.Role.TheVariants.{Client, Ap}
use Rattle.hp_event.specs.declared.event.File.TheVariants.{State, Target, Fail, States}
use Rattle.hp_event.specs.declared.event.Event.{Event}
use Rattle.hp_event.specs.declared.event.Event.TheVariants.{Admit, Leave, Enter, Refused, WalkBegin, Call, WalkEnd, OpEnd, RegBegin, RegEnd, ReadLock, ReadUnlock, Armed, Shown, Wakeup}
use Rattle.hp_text.specs.Choices.{dir_of}
use Rattle.hp_event.specs.declared.version.Version.{Version}
use Rattle.hp_event.specs.declared.version.Version.TheVariants.{One, Two}
use Rattle.hp_replay.specs.declared.event.NumberedEvent.{NumberedEvent}
use Rattle.hp_replay.specs.declared.first_word.EventWord.{EventWord}
use Rattle.hp_replay.specs.declared.first_word.EventWord.TheVariants as word
use Rattle.hp_replay.specs.FirstWords.{text_of_event, event_words}
use Rattle.hp_replay.specs.Numbers.{number, integer}
use Rattle.hp_replay.specs.LineWords.{words_at}
use Rattle.hp_replay.specs.Readers.{Tail, Row, ◌>>=◌, done, mapped, row, one_of}
use Rattle.hp_replay.specs.Tails.{numbered, valued, op}

abbrev pub role_rows : List (Row Role)
role_rows = row (codes "client") (done Client) ∷ row (codes "ap") (numbered (λ cpu. Ap cpu)) ∷ []

unfoldable pub role : Tail Role
role words = one_of role_rows words

abbrev pub how_rows : List (Row How)
how_rows =
    row (codes "ok") (done RanOk)
    ∷ row (codes "fault") (numbered (λ code. RanFault code))
    ∷ row (codes "injected") (done Injected)
    ∷ row (codes "empty") (done Empty)
    ∷ row (codes "presumed") (done Presumed) ∷ row (codes "overruled") (numbered (λ code. Overruled code)) ∷ []

unfoldable pub how : Tail How
how words = one_of how_rows words

abbrev pub ok_tail : Tail Answer
ok_tail = do
  value ← integer
  done (answers.Ok value)

abbrev pub stuck_tail : Tail Answer
stuck_tail = do
  first ← number
  second ← number
  at ← number
  done (answers.Stuck first second at)

abbrev pub answer_rows : List (Row Answer)
answer_rows =
    row (codes "ok") ok_tail
    ∷ row (codes "refused") (numbered (λ errno. answers.Refused errno))
    ∷ row (codes "fault") (numbered (λ code. answers.Fault code))
    ∷ row (codes "stuck") stuck_tail ∷ row (codes "full") (done answers.LogFull) ∷ []

unfoldable pub answer : Tail Answer
answer words = one_of answer_rows words

-- the answer of a walk: where it is ok, no number is written
abbrev pub walk_answer_rows : List (Row Answer)
walk_answer_rows =
    row (codes "ok") (done (answers.Ok (pos 0)))
    ∷ row (codes "fault") (numbered (λ code. answers.Fault code)) ∷ row (codes "stuck") stuck_tail ∷ []

unfoldable pub walk_answer : Tail Answer
walk_answer words = one_of walk_answer_rows words

-- an event whose line names no operation
abbrev pub alone : Event → NumberedEvent
alone event = record { event = event; number = None }

-- an event of an operation, with its number where the line names it
abbrev pub of_operation : Option ℕ → Event → NumberedEvent
of_operation number event = record { event = event; number = number }

abbrev pub admit_tail : Tail NumberedEvent
admit_tail = do
  seat ← number
  mapped (λ r. alone (Admit seat r)) role

-- from where a walk goes, and to where
abbrev pub way_tail : (seat cpu : ℕ) → Tail NumberedEvent
way_tail seat cpu = do
  from ← number
  to ← number
  done (alone (WalkBegin seat cpu from to))

abbrev pub walk_tail : Tail NumberedEvent
walk_tail = do
  seat ← number
  cpu ← number
  way_tail seat cpu

-- in which direction an entry goes, and how it was made
abbrev pub made_tail : (seat cpu state inst : ℕ) → Tail NumberedEvent
made_tail seat cpu state inst = do
  dir ← dir_of
  mapped (λ h. alone (Call seat cpu state inst dir h)) how

-- the key of an entry, and how it was made
abbrev pub entry_tail : (seat cpu : ℕ) → Tail NumberedEvent
entry_tail seat cpu = do
  state ← number
  inst ← number
  made_tail seat cpu state inst

abbrev pub call_tail : Tail NumberedEvent
call_tail = do
  seat ← number
  cpu ← number
  entry_tail seat cpu

abbrev pub walked_tail : Tail NumberedEvent
walked_tail = do
  seat ← number
  cpu ← number
  mapped (λ a. alone (WalkEnd seat cpu a)) walk_answer

-- ---- behind the seat of an operation, and its number where the line names it

abbrev pub enter_tail : (seat : ℕ) → Option ℕ → Tail NumberedEvent
enter_tail seat n words = mapped (λ o. of_operation n (Enter seat o)) op words

abbrev pub refused_tail : (seat : ℕ) → Option ℕ → Tail NumberedEvent
refused_tail seat n = do
  errno ← number
  mapped (λ o. of_operation n (Refused seat errno o)) op

abbrev pub done_tail : (seat : ℕ) → Option ℕ → Tail NumberedEvent
done_tail seat n words = mapped (λ a. of_operation n (OpEnd seat a)) answer words

abbrev pub reg_tail : (seat : ℕ) → Option ℕ → Tail NumberedEvent
reg_tail seat n = do
  state ← number
  mapped (λ o. of_operation n (RegBegin seat state o)) op

abbrev pub regged_tail : (seat : ℕ) → Option ℕ → Tail NumberedEvent
regged_tail seat n words = mapped (λ a. of_operation n (RegEnd seat a)) answer words

abbrev pub armed_tail : (seat : ℕ) → Option ℕ → Tail NumberedEvent
armed_tail seat n words = valued (λ cpu value. of_operation n (Armed seat cpu value)) words

abbrev pub shown_states_tail : (seat : ℕ) → Option ℕ → Tail NumberedEvent
shown_states_tail seat n = do
  value ← integer
  done (of_operation n (Shown seat States 0 value))

abbrev pub shown_rows : (seat : ℕ) → Option ℕ → List (Row NumberedEvent)
shown_rows seat n =
    row (codes "state") (valued (λ cpu value. of_operation n (Shown seat State cpu value)))
    ∷ row (codes "target") (valued (λ cpu value. of_operation n (Shown seat Target cpu value)))
    ∷ row (codes "fail") (valued (λ cpu value. of_operation n (Shown seat Fail cpu value)))
    ∷ row (codes "states") (shown_states_tail seat n) ∷ []

abbrev pub shown_tail : (seat : ℕ) → Option ℕ → Tail NumberedEvent
shown_tail seat n words = one_of (shown_rows seat n) words

-- by the first word of the line; of another than an operation's there is none
abbrev pub operation_tail : EventWord → (seat : ℕ) → Option ℕ → Tail NumberedEvent
operation_tail word.Enter seat n words = enter_tail seat n words
operation_tail word.Refused seat n words = refused_tail seat n words
operation_tail word.Done seat n words = done_tail seat n words
operation_tail word.Reg seat n words = reg_tail seat n words
operation_tail word.Regged seat n words = regged_tail seat n words
operation_tail word.Lock seat n words = done (of_operation n (ReadLock seat)) words
operation_tail word.Unlock seat n words = done (of_operation n (ReadUnlock seat)) words
operation_tail word.Armed seat n words = armed_tail seat n words
operation_tail word.Shown seat n words = shown_tail seat n words
operation_tail word.Wakeup seat n words = done (of_operation n (Wakeup seat)) words
operation_tail w seat n words = None

-- the number of an operation, in version 2, and what stands behind it
abbrev pub behind_number : Version → (Option ℕ → Tail NumberedEvent) → Tail NumberedEvent
behind_number One tail words = tail None words
behind_number Two tail words = (number >>= (λ n. tail (Some n))) words

abbrev pub of_operation_tail : Version → EventWord → Tail NumberedEvent
of_operation_tail v w = do
  seat ← number
  behind_number v (operation_tail w seat)

-- ---- any event

-- what stands behind the first word
abbrev pub event_tail : Version → EventWord → Tail NumberedEvent
event_tail v word.Admit = admit_tail
event_tail v word.Leave = numbered (λ seat. alone (Leave seat))
event_tail v word.Walk = walk_tail
event_tail v word.Call = call_tail
event_tail v word.Walked = walked_tail
event_tail v w = of_operation_tail v w

abbrev pub event_rows : Version → List (Row NumberedEvent)
event_rows v = map (λ w. row (text_of_event w) (event_tail v w)) event_words

unfoldable pub event : Version → Tail NumberedEvent
event v words = one_of (event_rows v) words

-- a line is its words and a newline
unfoldable pub event_at : Version → (line : List ℕ) → Option NumberedEvent
event_at v line = option_and_then (event v) (words_at line)

-- A call of the program: what it was handed, what it left of it, and how it ends. This project's own.
use Rattle.std.specs.Prelude.{◌≡◌, ◌≢◌, ℕ, ◌+◌, ◌<◌, ◌⊎◌, Option, Some, List, [], ◌∷◌, String, map, length, take, string_bytes}
use Rattle.std.specs.Io.KnownBytes.{append_known, prepend_known, IsAtEnd}
use Rattle.hp_io.specs.declared.source.Source as Source
use Rattle.hp_io.specs.declared.sink.Sink as Sink
use Rattle.hp_io.specs.Told.{GaveAtMost}
use Rattle.hp_trace.specs.declared.verdict.TheConstants.{MAX_TRACE_BYTES}
use Rattle.hp_trace_run.specs.declared.status.TheConstants.{BAD_WORDS, READ_FAULT, WRITE_FAULT, NO_MEMORY}
use Rattle.hp_trace_run.specs.declared.answer.Answer.{Answer}
use Rattle.hp_trace_run.specs.Texts.{usage_line}
use Rattle.hp_trace_run.specs.Answers.{text_of, status_of, IsAnswerTo}

-- ---- what was read of a source

-- all that it holds, or one byte past the most bytes of a trace
pub record WasRead (left now : Option (List ℕ)) (read : List ℕ) : Type 0 where
  pub first : left ≡ prepend_known read now
  pub whole : IsAtEnd now ⊎ (length read ≡ MAX_TRACE_BYTES + 1)

-- at most one byte past the most bytes of a trace
abbrev pub LosesAtMost : {S : Type 0} → Source.Ghosts S → (old new : S) → Type 0
LosesAtMost source old new = GaveAtMost (MAX_TRACE_BYTES + 1) (source.left old) (source.left new)

-- the answer to what was read
pub record AnswersRead (left now : Option (List ℕ)) (text : List ℕ) (status : ℕ) : Type 0 where
  pub read : List ℕ
  pub was_read : WasRead left now read
  pub answers : IsAnswerTo read text status

abbrev pub ReadsAnswer : {S : Type 0} → Source.Ghosts S → (old new : S) → Answer → Type 0
ReadsAnswer source old new answer = AnswersRead (source.left old) (source.left new) (string_bytes answer.text) answer.status

-- ---- what was written to a sink, of which the bytes that it took and its count of faults are told, before and now

-- all bytes, and the answer is this status
pub record WroteAll (taken taken_now : Option (List ℕ)) (faults faults_now : ℕ) (bytes : List ℕ) (status answer : ℕ) : Type 0 where
  pub same : answer ≡ status
  pub all : taken_now ≡ append_known taken bytes
  pub no_fault : faults_now ≡ faults

-- the first bytes, and not all; one fault more is counted, and the answer is that a write failed
pub record WrotePart (taken taken_now : Option (List ℕ)) (faults faults_now : ℕ) (bytes : List ℕ) (answer : ℕ) : Type 0 where
  pub failed : answer ≡ WRITE_FAULT
  pub count : ℕ
  pub not_all : count < length bytes
  pub part : taken_now ≡ append_known taken (take count bytes)
  pub fault : faults_now ≡ faults + 1

abbrev pub Wrote : {K : Type 0} → Sink.Ghosts K → (old new : K) → (bytes : List ℕ) → (status answer : ℕ) → Type 0
Wrote sink old new bytes status answer =
    WroteAll (sink.taken old) (sink.taken new) (sink.faults old) (sink.faults new) bytes status answer
    ⊎ WrotePart (sink.taken old) (sink.taken new) (sink.faults old) (sink.faults new) bytes answer

-- ---- a call

-- the words; what is left of the source, and what the sink took, before and now; and their counts of faults
pub record Call : Type 0 where
  pub words : List (List ℕ)
  pub left : Option (List ℕ)
  pub left_now : Option (List ℕ)
  pub taken : Option (List ℕ)
  pub taken_now : Option (List ℕ)
  pub read_faults : ℕ
  pub read_faults_now : ℕ
  pub write_faults : ℕ
  pub write_faults_now : ℕ

abbrev pub call :
    {S K Y : Type 0} → Source.Ghosts S → Sink.Ghosts K → (words : List (String Y)) → (source source_now : S) →
    (sink sink_now : K) → Call
call from to words source source_now sink sink_now = record {
  words = map string_bytes words;
  left = from.left source;
  left_now = from.left source_now;
  taken = to.taken sink;
  taken_now = to.taken sink_now;
  read_faults = from.faults source;
  read_faults_now = from.faults source_now;
  write_faults = to.faults sink;
  write_faults_now = to.faults sink_now;
}

-- ---- what it answers

-- with no words the source is read, and else nothing
abbrev pub ReadsFor : (words : List (List ℕ)) → (left now : Option (List ℕ)) (read : List ℕ) → Type 0
ReadsFor [] left now read = WasRead left now read
ReadsFor (w ∷ ws) left now read = (now ≡ left) × (read ≡ [])

abbrev pub text_for : (words : List (List ℕ)) → (read : List ℕ) → List ℕ
text_for [] read = text_of read
text_for (w ∷ ws) read = usage_line

abbrev pub status_for : (words : List (List ℕ)) → (read : List ℕ) → ℕ
status_for [] read = status_of read
status_for (w ∷ ws) read = BAD_WORDS

-- ---- how it ends

-- the text is written, and nothing failed
pub record IsAnswered (c : Call) (status : ℕ) : Type 0 where
  pub read : List ℕ
  pub reads : ReadsFor c.words c.left c.left_now read
  pub status_is : status ≡ status_for c.words read
  pub written : c.taken_now ≡ append_known c.taken (text_for c.words read)
  pub no_read_fault : c.read_faults_now ≡ c.read_faults
  pub no_write_fault : c.write_faults_now ≡ c.write_faults

-- a write failed: the first bytes of the text are written, and not all
pub record IsHalfWritten (c : Call) : Type 0 where
  pub read : List ℕ
  pub reads : ReadsFor c.words c.left c.left_now read
  pub count : ℕ
  pub not_all : count < length (text_for c.words read)
  pub part : c.taken_now ≡ append_known c.taken (take count (text_for c.words read))
  pub no_read_fault : c.read_faults_now ≡ c.read_faults
  pub write_fault : c.write_faults_now ≡ c.write_faults + 1

-- nothing is written, though there are no words: so many reads failed
pub record IsUnwritten (c : Call) (faults : ℕ) : Type 0 where
  pub no_words : c.words ≡ []
  pub lost : GaveAtMost (MAX_TRACE_BYTES + 1) c.left c.left_now
  pub unwritten : c.taken_now ≡ c.taken
  pub read_fault : c.read_faults_now ≡ c.read_faults + faults
  pub no_write_fault : c.write_faults_now ≡ c.write_faults

-- one of four ways
pub data Ends (c : Call) (status : ℕ) : Type 0 where
  answered : IsAnswered c status → Ends c status
  half_written : status ≡ WRITE_FAULT → IsHalfWritten c → Ends c status
  unread : status ≡ READ_FAULT → IsUnwritten c 1 → Ends c status
  wanting : status ≡ NO_MEMORY → IsUnwritten c 0 → Ends c status

-- all bytes of a source that tells them are answered, where nothing fails and memory isn't wanting
pub record IsAnswerToAll (c : Call) (status : ℕ) (all : List ℕ) : Type 0 where
  pub status_is : status ≡ status_for c.words all
  pub written : c.taken_now ≡ append_known c.taken (text_for c.words all)

abbrev pub EndsExactly : Call → (status : ℕ) → Type 0
EndsExactly c status =
    (all : List ℕ) → c.left ≡ Some all → c.read_faults_now ≡ c.read_faults → c.write_faults_now ≡ c.write_faults →
    status ≢ NO_MEMORY → IsAnswerToAll c status all

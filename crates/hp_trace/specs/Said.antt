-- What a line of a trace is: an event of CPU hotplug, where one of its words is the name of an event and the words behind
-- the first such word have a form of its payload.
use Rattle.std.specs.Prelude.{ℕ, Bool, false, ◌||◌, if◌then◌else◌, List, [], ◌∷◌, Option, Some, None, codes}
use Rattle.std.specs.Option.{option_and_then}
use Rattle.std.specs.Str.{bytes_eq}
use Rattle.hp_trace.specs.declared.event.Name.{Name}
use Rattle.hp_trace.specs.declared.event.Payload.{Payload}
use Rattle.hp_trace.specs.declared.event.Said.{Said}
use Rattle.hp_trace.specs.declared.event.Said.TheVariants as said
use Rattle.hp_trace.specs.Pieces.{pieces, words_of}
use Rattle.hp_trace.specs.Readers.{Field, padded}
use Rattle.hp_trace.specs.Payload.{name_of, payload_at, closed, opened}

-- `[001]`: a processor's number, in square brackets
unfoldable pub bracketed : Field ℕ
bracketed word = option_and_then (λ w. option_and_then padded (opened 91 w)) (closed (pieces 93 word))

abbrev pub later : (on : Option ℕ) → Option ℕ → Option ℕ
later on None = on
later on (Some n) = Some n

-- the processor that a line is of: the last in brackets among the words in front of the event
abbrev pub processor_of : (on : Option ℕ) → (front : List (List ℕ)) → Option ℕ
processor_of on [] = on
processor_of on (w ∷ ws) = processor_of (later on (bracketed w)) ws

-- a word of the lines by which ftrace, trace-cmd and perf say that events were lost
unfoldable pub says_lost : (word : List ℕ) → Bool
says_lost word = bytes_eq word (codes "[LOST") || bytes_eq word (codes "DROPPED]") || bytes_eq word (codes "PERF_RECORD_LOST")

-- the name of an event as `perf script` writes it; perf loses those of a processor from where its own part of a walk goes
-- down until it is up again, without a word
unfoldable pub is_of_perf : (word : List ℕ) → Bool
is_of_perf word =
    bytes_eq word (codes "cpuhp:cpuhp_enter:") || bytes_eq word (codes "cpuhp:cpuhp_multi_enter:") || bytes_eq word (codes "cpuhp:cpuhp_exit:")

-- an event, where its payload has a form
abbrev pub event_of : (on : Option ℕ) → Option Payload → Said
event_of on None = said.NoForm
event_of on (Some p) = said.Event (record { on = on; payload = p })

abbrev pub no_event : (lost : Bool) → Said
no_event lost = if lost then said.Lost else said.Other

-- ---- word by word, with what came before

abbrev pub at_word : Option Name → (found : Name → Said) → (more : Said) → Said
at_word (Some name) found more = found name
at_word None found more = more

abbrev pub said_from : (on : Option ℕ) (lost : Bool) → List (List ℕ) → Said
said_from on lost [] = no_event lost
said_from on lost (w ∷ ws) =
    at_word (name_of w) (λ name. event_of on (payload_at name ws)) (said_from (later on (bracketed w)) (lost || (says_lost w || is_of_perf w)) ws)

unfoldable pub said_of : (line : List ℕ) → Said
said_of line = said_from None false (words_of line)

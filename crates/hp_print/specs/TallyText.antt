-- The text that a summary makes of a tally. This project's own.
use Rattle.std.specs.Prelude.{ℕ, ◌+◌, Bool, ◌==◌, nat_lt, length, if◌then◌else◌, Option, Some, None, List, [], ◌∷◌, ◌++◌, map, filter, codes, decimal, slice_index_or}
use Rattle.std.specs.List.{flat_map}
use Rattle.hp_states.specs.declared.limits.TheConstants.{ONLINE}
use Rattle.hp_event.specs.declared.key.Key.{Key}
use Rattle.hp_event.specs.declared.head.Head.{Head}
use Rattle.hp_event.specs.declared.event.Event.{Event}
use Rattle.hp_model.specs.Lists.{among, numbers}
use Rattle.hp_model.specs.Processors.{is_present}
use Rattle.hp_model.specs.Words.{line, name_word, list_words}
use Rattle.hp_event.specs.declared.version.Version.TheVariants.{Two}
use Rattle.hp_model.specs.JournalText.{journal_text}
use Rattle.hp_model.specs.Summary.{key_word, presence_word, name_of, summary}
use Rattle.hp_print.specs.declared.keys.KeyCount.{KeyCount}
use Rattle.hp_print.specs.declared.answer_counts.AnswerCounts.{AnswerCounts}
use Rattle.hp_print.specs.declared.processor_tally.ProcessorTally.{ProcessorTally}
use Rattle.hp_print.specs.declared.state_tally.StateTally.{StateTally}
use Rattle.hp_print.specs.declared.tally.Tally.{Tally}

abbrev pub is_counted : KeyCount → Bool
is_counted x = nat_lt x.downs x.ups

-- the keys that count as in force
abbrev pub keys_of : List KeyCount → List Key
keys_of counts = map (λ x. x.key) (filter is_counted counts)

abbrev pub key_text : KeyCount → List ℕ
key_text x = if is_counted x then 32 ∷ key_word x.key else []

-- the words of these keys, or a dash where there is none
abbrev pub keys_words : List KeyCount → List (List ℕ)
keys_words counts = list_words (map key_word (keys_of counts))

abbrev pub cpu_words : (cpu : ℕ) → (present : Bool) → (settled : ℕ) → List KeyCount → List (List ℕ)
cpu_words c present settled counts =
    codes "cpu"
    ∷ decimal c
    ∷ presence_word present
    ∷ codes "state"
    ∷ decimal settled
    ∷ codes "keys" ∷ keys_words counts

unfoldable pub cpu_text : Head → ProcessorTally → (cpu : ℕ) → List ℕ
cpu_text head w c =
    line
    (cpu_words c (is_present head c) (slice_index_or w.settled.items c 0) (slice_index_or w.keys.items c []))

unfoldable pub cpus_text : Head → ProcessorTally → List ℕ
cpus_text head w = flat_map (cpu_text head w) (numbers head.possible)

unfoldable pub disabled_text : ℕ → List ℕ
disabled_text n = line (codes "disabled" ∷ decimal n ∷ [])

abbrev pub frozen_word : List ℕ → (cpu : ℕ) → List ℕ
frozen_word frozen c = if among c frozen then 32 ∷ decimal c else []

-- the frozen processors in rising number, each behind a space
abbrev pub each_frozen : (possible : ℕ) → List ℕ → List ℕ
each_frozen n frozen = flat_map (frozen_word frozen) (numbers n)

-- their words, or a dash where there is none
abbrev pub frozen_words : (possible : ℕ) → List ℕ → List (List ℕ)
frozen_words n frozen = list_words (map decimal (filter (λ c. among c frozen) (numbers n)))

unfoldable pub frozen_text : (possible : ℕ) → List ℕ → List ℕ
frozen_text n frozen = line (codes "frozen" ∷ frozen_words n frozen)

abbrev pub sub_words : (state : ℕ) → (name : List ℕ) → (made faults : ℕ) → (insts : List ℕ) → List (List ℕ)
sub_words s name made faults insts =
    codes "sub"
    ∷ decimal s
    ∷ name_word name
    ∷ codes "made"
    ∷ decimal made ∷ codes "faults" ∷ decimal faults ∷ codes "instances" ∷ list_words (map decimal insts)

-- the line of a state that is registered
abbrev pub sub_line : (state : ℕ) → (name : List ℕ) → (made faults : ℕ) → (insts : List ℕ) → List ℕ
sub_line s name made faults insts = line (sub_words s name made faults insts)

abbrev pub registered_text : Head → StateTally → (state : ℕ) → Option ℕ → List ℕ
registered_text head t s None = []
registered_text head t s (Some sub) =
    sub_line s (name_of head sub) (slice_index_or t.made.items s 0) (slice_index_or t.faults.items s 0)
    (slice_index_or t.insts.items s [])

unfoldable pub sub_text : Head → StateTally → (state : ℕ) → List ℕ
sub_text head t s = registered_text head t s (slice_index_or t.subs.items s None)

unfoldable pub subs_text : Head → StateTally → (many : ℕ) → List ℕ
subs_text head t n = flat_map (sub_text head t) (numbers n)

unfoldable pub ops_text : AnswerCounts → List ℕ
ops_text a =
    line
    (codes "ops"
    ∷ codes "ok"
    ∷ decimal a.ok
    ∷ codes "refused"
    ∷ decimal a.refused
    ∷ codes "fault"
    ∷ decimal a.fault ∷ codes "stuck" ∷ decimal a.stuck ∷ codes "full" ∷ decimal a.full ∷ [])

unfoldable pub events_text : ℕ → List ℕ
events_text n = line (codes "events" ∷ decimal n ∷ [])

-- a text with a dash behind a space, where the list that began at this length is empty
abbrev pub list_ended : (start : ℕ) → List ℕ → List ℕ
list_ended start bytes = if length bytes == start then bytes ++ 32 ∷ 45 ∷ [] else bytes

-- the text of a journal, and behind it its summary
abbrev pub text_and_summary : Head → List Event → List ℕ
text_and_summary head events = journal_text Two head events ++ summary head events

-- the whole summary
unfoldable pub tally_text : Head → Tally → (events : ℕ) → List ℕ
tally_text head t n =
    cpus_text head t.processors
    ++ disabled_text t.suspended.disabled
    ++ frozen_text head.possible t.suspended.frozen.items
    ++ subs_text head t.states (ONLINE + 1)
    ++ ops_text t.answers
    ++ events_text n

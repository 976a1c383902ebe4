-- The value that a report makes of a tally. A name that is no text would be mended here; none of a head is. This
-- project's own.
use Rattle.std.specs.Prelude.{ℕ, ◌+◌, Option, Some, None, List, [], ◌∷◌, filter, slice_index_or}
use Rattle.std.specs.List.{flat_map}
use Rattle.std.specs.Str.Lossy.{utf8_lossy}
use Rattle.serde_json.specs.Data.{Data, array}
use Rattle.serde_json.specs.View.{items_of}
use Rattle.hp_states.specs.declared.limits.TheConstants.{ONLINE}
use Rattle.hp_event.specs.declared.head.Head.{Head}
use Rattle.hp_model.specs.Lists.{among, numbers}
use Rattle.hp_model.specs.Processors.{is_present}
use Rattle.hp_model.specs.Summary.{name_of}
use Rattle.hp_print.specs.Report.{array_of, cpu_object, sub_object, report_object}
use Rattle.hp_print.specs.TallyText.{keys_of}
use Rattle.hp_print.specs.declared.processor_tally.ProcessorTally.{ProcessorTally}
use Rattle.hp_print.specs.declared.state_tally.StateTally.{StateTally}
use Rattle.hp_print.specs.declared.tally.Tally.{Tally}

unfoldable pub cpu_tallied : Head → ProcessorTally → (cpu : ℕ) → Data
cpu_tallied head w c =
    cpu_object c (is_present head c) (slice_index_or w.settled.items c 0) (keys_of (slice_index_or w.keys.items c []))

-- the frozen processors in rising number
abbrev pub frozen_tallied : (possible : ℕ) → List ℕ → List ℕ
frozen_tallied n frozen = filter (λ c. among c frozen) (numbers n)

abbrev pub registered_tallied : Head → StateTally → (state : ℕ) → Option ℕ → List Data
registered_tallied head t s None = []
registered_tallied head t s (Some sub) =
    sub_object s (utf8_lossy (name_of head sub)) (slice_index_or t.made.items s 0) (slice_index_or t.faults.items s 0)
    (slice_index_or t.insts.items s []) ∷ []

unfoldable pub sub_tallied : Head → StateTally → (state : ℕ) → List Data
sub_tallied head t s = registered_tallied head t s (slice_index_or t.subs.items s None)

-- the states below a number that are registered, in rising number
unfoldable pub subs_tallied : Head → StateTally → (many : ℕ) → Data
subs_tallied head t n = array (items_of (flat_map (sub_tallied head t) (numbers n)))

-- the whole report
unfoldable pub tallied : Head → Tally → (events : ℕ) → Data
tallied head t n =
    report_object
    (array_of (cpu_tallied head t.processors) (numbers head.possible))
    t.suspended.disabled n (frozen_tallied head.possible t.suspended.frozen.items)
    (subs_tallied head t.states (ONLINE + 1))

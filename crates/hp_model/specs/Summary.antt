-- The summary of a journal: its processors with the callbacks in force, what is registered, and how the
-- operations were answered. What is in flight counts as the same notions have it: a registration in flight
-- isn't registered, and a walk in flight leaves the settled state at its start. This project's own.
use Rattle.std.specs.Prelude.{ℕ, ◌+◌, Bool, true, false, ◌&&◌, ◌==◌, if◌then◌else◌, Option, Some, None, List, [], ◌∷◌, ◌++◌, map, filter, length, count_by, codes, decimal}
use Rattle.std.specs.List.{flat_map}
use Rattle.hp_states.specs.declared.limits.TheConstants.{ONLINE}
use Rattle.hp_event.specs.declared.key.Key.{Key}
pub use Rattle.hp_event.specs.Hows.{is_hook_fault}
use Rattle.hp_event.specs.declared.op.Op.{Op}
use Rattle.hp_event.specs.declared.op.Op.TheVariants.{Setup}
use Rattle.hp_event.specs.declared.answer.Answer.{Answer}
use Rattle.hp_event.specs.declared.answer.Answer.TheVariants as answer
use Rattle.hp_event.specs.declared.head.Sub.{Sub}
use Rattle.hp_event.specs.declared.head.Head.{Head}
use Rattle.hp_event.specs.declared.event.Event.{Event}
use Rattle.hp_event.specs.declared.event.Event.TheVariants.{Call, RegBegin}
use Rattle.hp_model.specs.Journal.{over}
use Rattle.hp_model.specs.Words.{line, name_word, list_words}
use Rattle.hp_model.specs.Net.{keys_in_force}
use Rattle.hp_model.specs.Events.{answer_by}
use Rattle.hp_model.specs.Registered.{Registered, registered}
use Rattle.hp_model.specs.Settled.{settled}
use Rattle.hp_model.specs.Lists.{among, numbers}
use Rattle.hp_model.specs.Processors.{is_present}
use Rattle.hp_model.specs.Subsystems.{sub_numbered}
use Rattle.hp_model.specs.Suspend.{disabled, frozen}
use Rattle.hp_model.specs.Calls.{sites}

abbrev pub faults_begun : (state : ℕ) → (at : ℕ) → Op → ℕ → ℕ
faults_begun s at (Setup asked sub form) n = if at == s then 0 else n
faults_begun s at _ n = n

abbrev pub faults_step : (state : ℕ) → ℕ → List Event → Event → ℕ
faults_step s n before (RegBegin seat at op) = faults_begun s at op n
faults_step s n before (Call seat cpu at inst dir how) = if at == s && is_hook_fault how then n + 1 else n
faults_step s n before _ = n

-- how often the hook of a state answered a code since the setup that registered it began
unfoldable pub hook_faults : (state : ℕ) → List Event → ℕ
hook_faults s events = over (faults_step s) 0 events

-- the five kinds of answer
pub data Kind : Type 0 where
  ok : Kind
  refused : Kind
  fault : Kind
  stuck : Kind
  full : Kind

-- whether an answer is of a kind
abbrev pub is_kind : Kind → Answer → Bool
is_kind ok (answer.Ok value) = true
is_kind refused (answer.Refused errno) = true
is_kind fault (answer.Fault code) = true
is_kind stuck (answer.Stuck first second at) = true
is_kind full answer.LogFull = true
is_kind _ _ = false

abbrev pub is_some_kind : Kind → Option Answer → Bool
is_some_kind k None = false
is_some_kind k (Some given) = is_kind k given

-- how many operations were answered so
unfoldable pub answered_by : Kind → List Event → ℕ
answered_by k events = count_by (λ e. is_some_kind k (answer_by e)) events

abbrev pub key_word : Key → List ℕ
key_word key = decimal key.state ++ 46 ∷ decimal key.inst

abbrev pub presence_word : Bool → List ℕ
presence_word present = if present then codes "present" else codes "absent"

unfoldable pub cpu_line : Head → List Event → (cpu : ℕ) → List ℕ
cpu_line head events c =
    line
    (codes "cpu"
    ∷ decimal c
    ∷ presence_word (is_present head c)
    ∷ codes "state"
    ∷ decimal (settled c events)
    ∷ codes "keys" ∷ list_words (map key_word (keys_in_force c events)))

-- one line for each possible processor, in rising number
unfoldable pub cpu_lines : Head → List Event → List ℕ
cpu_lines head events = flat_map (cpu_line head events) (numbers head.possible)

unfoldable pub disabled_line : List Event → List ℕ
disabled_line events = line (codes "disabled" ∷ decimal (disabled events) ∷ [])

-- the processors that a freeze recorded, in rising number
unfoldable pub recorded : Head → List Event → List ℕ
recorded head events = filter (λ c. among c (frozen events)) (numbers head.possible)

unfoldable pub frozen_line : Head → List Event → List ℕ
frozen_line head events = line (codes "frozen" ∷ list_words (map decimal (recorded head events)))

abbrev pub name_in : Option Sub → List ℕ
name_in None = []
name_in (Some sub) = sub.name

abbrev pub name_of : Head → (number : ℕ) → List ℕ
name_of head n = name_in (sub_numbered head n)

-- the line of a state that is registered: its subsystem's name, its hook's calls and faults, its instances
abbrev pub sub_line : Head → List Event → (state : ℕ) → Option Registered → List ℕ
sub_line head events s None = []
sub_line head events s (Some r) =
    line
    (codes "sub"
    ∷ decimal s
    ∷ name_word (name_of head r.sub)
    ∷ codes "made"
    ∷ decimal (length (sites s events))
    ∷ codes "faults"
    ∷ decimal (hook_faults s events) ∷ codes "instances" ∷ list_words (map decimal r.insts))

abbrev pub sub_line_at : Head → List Event → (state : ℕ) → List ℕ
sub_line_at head events s = sub_line head events s (registered head s events)

-- one line for each state below a number that is registered, in rising number
unfoldable pub sub_lines_below : Head → List Event → ℕ → List ℕ
sub_lines_below head events n = flat_map (sub_line_at head events) (numbers n)

unfoldable pub ops_line : List Event → List ℕ
ops_line events =
    line
    (codes "ops"
    ∷ codes "ok"
    ∷ decimal (answered_by ok events)
    ∷ codes "refused"
    ∷ decimal (answered_by refused events)
    ∷ codes "fault"
    ∷ decimal (answered_by fault events)
    ∷ codes "stuck" ∷ decimal (answered_by stuck events) ∷ codes "full" ∷ decimal (answered_by full events) ∷ [])

unfoldable pub events_line : List Event → List ℕ
events_line events = line (codes "events" ∷ decimal (length events) ∷ [])

unfoldable pub summary : Head → List Event → List ℕ
summary head events =
    cpu_lines head events
    ++ disabled_line events
    ++ frozen_line head events
    ++ sub_lines_below head events (ONLINE + 1)
    ++ ops_line events
    ++ events_line events

-- The report of a journal: what its summary says of processors, hotplug and hooks, as one JSON value for other
-- programs, whose objects have their keys in the order of bytes. What is in flight counts as in the summary. This
-- project's own.
use Rattle.std.specs.Prelude.{ℕ, ◌+◌, Bool, Option, Some, None, List, [], ◌∷◌, ◌++◌, map, length, codes}
use Rattle.std.specs.List.{flat_map}
use Rattle.serde_json.specs.Data.{Data, boolean, number, unsigned, string, array, object, member, no_members}
use Rattle.serde_json.specs.View.{items_of}
use Rattle.serde_json.specs.Written.{compact_text}
use Rattle.hp_states.specs.Sections.{is_online_state}
use Rattle.hp_states.specs.declared.limits.TheConstants.{ONLINE}
use Rattle.hp_event.specs.declared.key.Key.{Key}
use Rattle.hp_event.specs.declared.head.Head.{Head}
use Rattle.hp_event.specs.declared.event.Event.{Event}
use Rattle.hp_model.specs.Lists.{numbers}
use Rattle.hp_model.specs.Calls.{sites}
use Rattle.hp_model.specs.Net.{keys_in_force}
use Rattle.hp_model.specs.Processors.{is_present}
use Rattle.hp_model.specs.Registered.{Registered, registered}
use Rattle.hp_model.specs.Settled.{settled}
use Rattle.hp_model.specs.Summary.{name_of, hook_faults, recorded}
use Rattle.hp_model.specs.Suspend.{disabled}

-- ---- values

abbrev pub whole : ℕ → Data
whole n = number (unsigned n)

-- an array with a value for each of a list
abbrev pub array_of : {X : Type 0} → (X → Data) → List X → Data
array_of value xs = array (items_of (map value xs))

-- a key, as its state and its instance
abbrev pub key_pair : Key → Data
key_pair key = array_of whole (key.state ∷ key.inst ∷ [])

abbrev pub cpu_object : (cpu : ℕ) → (present : Bool) → (state : ℕ) → List Key → Data
cpu_object c present state keys =
    object
    (member (codes "cpu") (whole c)
    (member (codes "keys") (array_of key_pair keys)
    (member (codes "online") (boolean (is_online_state state))
    (member (codes "present") (boolean present) (member (codes "state") (whole state) no_members)))))

abbrev pub sub_object : (state : ℕ) → (name : List ℕ) → (made faults : ℕ) → (insts : List ℕ) → Data
sub_object state name made faults insts =
    object
    (member (codes "faults") (whole faults)
    (member (codes "instances") (array_of whole insts)
    (member (codes "made") (whole made)
    (member (codes "name") (string name) (member (codes "state") (whole state) no_members)))))

abbrev pub report_object : (cpus : Data) → (disabled events : ℕ) → (frozen : List ℕ) → (subs : Data) → Data
report_object cpus disabled events frozen subs =
    object
    (member (codes "cpus") cpus
    (member (codes "disabled") (whole disabled)
    (member (codes "events") (whole events)
    (member (codes "frozen") (array_of whole frozen) (member (codes "subs") subs no_members)))))

-- ---- the report

-- a processor: whether it is there, where it stands, and the keys in force on it by counting
unfoldable pub cpu_report : Head → List Event → (cpu : ℕ) → Data
cpu_report head events c = cpu_object c (is_present head c) (settled c events) (keys_in_force c events)

-- a state that is registered: its subsystem's name, its hook's calls and faults, its instances, newest first
abbrev pub registered_report : Head → List Event → (state : ℕ) → Option Registered → List Data
registered_report head events s None = []
registered_report head events s (Some r) =
    sub_object s (name_of head r.sub) (length (sites s events)) (hook_faults s events) r.insts ∷ []

abbrev pub sub_report : Head → List Event → (state : ℕ) → List Data
sub_report head events s = registered_report head events s (registered head s events)

-- each possible processor and each registered state in rising number
unfoldable pub report : Head → List Event → Data
report head events =
    report_object
    (array_of (cpu_report head events) (numbers head.possible))
    (disabled events) (length events) (recorded head events)
    (array (items_of (flat_map (sub_report head events) (numbers (ONLINE + 1)))))

-- its text: the value with no space, on one line
unfoldable pub report_text : Head → List Event → List ℕ
report_text head events = compact_text (report head events) ++ 10 ∷ []

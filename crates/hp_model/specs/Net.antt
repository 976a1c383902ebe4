-- The keys in force on a processor, by counting, and those that are registered, as lists in the order in which
-- they are shown: rising states, and in one state rising instances or list order. This project's own.
use Rattle.std.specs.Prelude.{ℕ, ◌+◌, Bool, ◌&&◌, ◌||◌, ◌==◌, nat_lt, if◌then◌else◌, List, [], ◌∷◌, filter, map, flat_map, fold}
use Rattle.hp_states.specs.declared.limits.TheConstants.{ONLINE}
use Rattle.hp_event.specs.declared.key.Key.{Key}
use Rattle.hp_event.specs.declared.head.Head.{Head}
use Rattle.hp_event.specs.declared.event.Event.{Event}
use Rattle.hp_event.specs.declared.event.Event.TheVariants.{Call}
use Rattle.hp_model.specs.Lists.{numbers}
use Rattle.hp_model.specs.InForce.{ups, downs}
use Rattle.hp_model.specs.Registered.{keys}

-- a key is before another where its state is lower, or its instance at the same state
abbrev pub is_before : Key → Key → Bool
is_before k x = nat_lt k.state x.state || (k.state == x.state && nat_lt k.inst x.inst)

-- a rising list with a key put into its place, if it isn't there
abbrev pub with_key : Key → List Key → List Key
with_key k [] = k ∷ []
with_key k (x ∷ xs) = if is_before x k then x ∷ with_key k xs else (if is_before k x then k ∷ x ∷ xs else x ∷ xs)

abbrev pub entered_step : (cpu : ℕ) → List Key → Event → List Key
entered_step c found (Call seat cpu state inst dir how) =
    if cpu == c then with_key (record { state = state; inst = inst }) found else found
entered_step c found _ = found

-- the keys that have an entry on a processor
unfoldable pub entered : (cpu : ℕ) → List Event → List Key
entered c events = fold (entered_step c) [] events

abbrev pub is_key_in_force : (cpu : ℕ) → List Event → Key → Bool
is_key_in_force c events k = nat_lt (downs c k.state k.inst events) (ups c k.state k.inst events)

-- those of them that are in force
unfoldable pub keys_in_force : (cpu : ℕ) → List Event → List Key
keys_in_force c events = filter (is_key_in_force c events) (entered c events)

-- the keys of a state with these instances
abbrev pub keys_with : (state : ℕ) → (insts : List ℕ) → List Key
keys_with s insts = map (λ i. record { state = s; inst = i }) insts

abbrev pub keys_at : Head → List Event → (state : ℕ) → List Key
keys_at head events s = keys_with s (keys head events s)

-- the registered keys
unfoldable pub registered_keys : Head → List Event → List Key
registered_keys head events = flat_map (keys_at head events) (numbers (ONLINE + 1))

-- What an entry that is due has to be left alone by, while its hook is lent. This project's own.
use Rattle.std.specs.Prelude.{◌==◌, ◌&&◌, ℕ, Bool, false, is_some, List}
use Rattle.hp_states.specs.Sections.{is_ap_state}
use Rattle.hp_event.specs.declared.event.Event.{Event}
use Rattle.hp_event.specs.declared.event.Event.TheVariants.{Armed, Call}
use Rattle.hp_event.specs.Hows.{is_called}
use Rattle.hp_model.specs.Walks.{walk}

-- whether an event writes the `fail` file of a processor
abbrev pub arms : (cpu : ℕ) → Event → Bool
arms c (Armed seat cpu value) = cpu == c
arms c _ = false

-- whether an event writes that of the processor of an entry, in the middle of its walk
abbrev pub arms_walker : List Event → (entry : Event) → Event → Bool
arms_walker events (Call seat cpu state inst dir how) e = is_some (walk cpu events) && arms cpu e
arms_walker events _ e = false

-- whether an event is an entry that the hook of a state makes
abbrev pub calls_at : (state : ℕ) → Event → Bool
calls_at s (Call seat cpu state inst dir how) = state == s && is_called how
calls_at s _ = false

-- whether an event is a call of the hook of an entry's state, where threads make the entries
abbrev pub calls_beside : (entry : Event) → Event → Bool
calls_beside (Call seat cpu state inst dir how) e = is_ap_state state && calls_at state e
calls_beside _ e = false

-- the processor of an entry
abbrev pub cpu_of : Event → ℕ
cpu_of (Call seat cpu state inst dir how) = cpu
cpu_of _ = 0

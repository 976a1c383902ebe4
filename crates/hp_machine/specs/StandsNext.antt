-- What can be made next of a machine: an event that stands, an entry, an admission; and what comes next of a seat. This project's own.
use Rattle.std.specs.Prelude.{◌≡◌, ℕ, true, List, Option, Some, is_some, [], ◌∷◌, ◌++◌}
use Rattle.hp_event.specs.declared.event.Event.{Event}
use Rattle.hp_event.specs.declared.event.Event.TheVariants.{Admit}
use Rattle.hp_event.specs.declared.event.Role.{Role}
use Rattle.hp_event.specs.declared.op.Op.{Op}
use Rattle.hp_model.specs.FirstEvent.{first_event}
use Rattle.hp_model.specs.Lawful.{Stands}
use Rattle.hp_model.specs.Needs.{need, taken}
use Rattle.hp_model.specs.NextEvent.{next_event, due_entry}
use Rattle.hp_model.specs.Seats.{admits}
use Rattle.hp_table.specs.Step.{Step, AllHome}
use Rattle.hp_account.specs.declared.under_way.Entry.{Entry}
use Rattle.hp_account.specs.Entries.{entry_event}
use Rattle.hp_account.specs.TableChanges.{is_registering, brings_hook}
use Rattle.hp_machine.specs.Contents.{Contents, with_event}

-- the event stands next
abbrev pub CanMake : Contents → Event → Type 0
CanMake m e = Stands m.head m.events e

-- so does an entry, as its hook answers
abbrev pub CanMakeEntry : Contents → Entry → Type 0
CanMakeEntry m x = CanMake m (entry_event m.head m.events x)

-- the event by which the next seat comes in with this role
abbrev pub admission : Contents → Role → Event
admission m role = Admit (admits m.events) role

abbrev pub CanComeIn : Contents → Role → Type 0
CanComeIn m role = CanMake m (admission m role)

-- what comes next of a seat and its operation
abbrev pub next_event_of : Contents → (seat : ℕ) → Op → Option Event
next_event_of m k op = next_event m.head m.events k op

-- the entry that is due from a seat
abbrev pub due_of : Contents → (seat : ℕ) → Option Event
due_of m k = due_entry m.head m.events k

-- an operation begins with this event, room or no
abbrev pub ComesFirst : Contents → (seat : ℕ) → Op → Event → Type 0
ComesFirst m k op e = first_event m.head m.events k op ≡ Some e

-- the room that an event takes
abbrev pub room_of : Contents → Event → ℕ
room_of m e = taken (need m.head m.events e)

-- the next seat has come in with this role
abbrev pub HasComeIn : Role → (old new : Contents) → Type 0
HasComeIn role old new = new.events ≡ old.events ++ admission old role ∷ []

-- an entry was made
abbrev pub with_entry : Contents → Entry → Contents
with_entry m x = with_event m (entry_event m.head m.events x)

-- no registration begins or ends, or no hook is lent
abbrev pub CanTouchHooks : Event → List (Option Step) → Type 0
CanTouchHooks e places = is_registering e ≡ true → AllHome places

-- an event brings its hook
abbrev pub BringsHook : {H : Type 0} → Event → Option H → Type 0
BringsHook e hook = is_registering e ≡ true → is_some hook ≡ brings_hook e

-- Entries that are due: which seat owes an entry, that it is the one that stands, and what leaves it due. This project's own.
use Rattle.std.specs.Prelude.{◌≡◌, ◌≢◌, ◌↔◌, ℕ, true, false, Some, None, List, [], ◌∷◌, ◌++◌}
use Rattle.hp_event.specs.declared.head.Head.{Head}
use Rattle.hp_event.specs.declared.event.Event.{Event}
use Rattle.hp_model.specs.Batch.{is_upmany}
use Rattle.hp_model.specs.Events.{seat_of, is_call}
use Rattle.hp_model.specs.Lawful.{Stands}
use Rattle.hp_model.specs.Lent.{arms_walker, calls_beside, cpu_of}
use Rattle.hp_model.specs.MapLock.{operation}
use Rattle.hp_model.specs.NextEvent.{due_entry}
use Rattle.hp_model.specs.Suspend.{held_by}

-- the entry is due from the seat
abbrev pub Owes : Head → List Event → (seat : ℕ) → (entry : Event) → Type 0
Owes head events k entry = due_entry head events k ≡ Some entry

abbrev pub OwesNothing : Head → List Event → (seat : ℕ) → Type 0
OwesNothing head events k = due_entry head events k ≡ None

-- an entry that is due stands
abbrev pub StandsWhereOwed : Head → List Event → (entry : Event) → Type 0
StandsWhereOwed head events entry = (seat : ℕ) → Owes head events seat entry → Stands head events entry

-- an entry is due from a seat exactly where it stands and is the seat's
abbrev pub IsOwedWhereItStands : Head → List Event → (entry : Event) → Type 0
IsOwedWhereItStands head events entry =
    (seat : ℕ) →
    Owes head events seat entry ↔ (Stands head events entry × (is_call entry ≡ true) × (seat_of entry ≡ seat))

-- An entry that is due stays due after an event of another seat, but for one that arms its processor in the middle of its walk,
-- and for a call of the same hook beside it.
abbrev pub StaysDue : Head → List Event → (entry event : Event) → Type 0
StaysDue head events entry e =
    (seat : ℕ) → Owes head events seat entry → Stands head events e → seat_of e ≢ seat →
    arms_walker events entry e ≡ false → calls_beside entry e ≡ false → Owes head (events ++ e ∷ []) seat entry

-- two entries that are due of one processor are one
abbrev pub AreOneOnProcessor : Head → List Event → (one other : Event) → Type 0
AreOneOnProcessor head events one other =
    (seat beside : ℕ) → Owes head events seat one → Owes head events beside other → cpu_of one ≡ cpu_of other →
    one ≡ other

-- and any two are, but in an upmany
abbrev pub AreOneButInUpmany : Head → List Event → (one other : Event) → Type 0
AreOneButInUpmany head events one other =
    (seat beside : ℕ) → Owes head events seat one → Owes head events beside other →
    held_by is_upmany (operation events) ≡ false → one ≡ other

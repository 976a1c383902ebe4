-- What contracts see of the passes of the machine. This project's own.
use Rattle.std.specs.Prelude.{◌≡◌, ◌≢◌, ℕ, true, false, Some, None, Option, List, length}
use Rattle.atomic_table.specs.Seated.{TableId}
use Rattle.hp_event.specs.declared.aside.Aside.{Aside}
use Rattle.hp_event.specs.declared.head.Head.{Head}
use Rattle.hp_event.specs.declared.event.Event.{Event}
use Rattle.hp_event.specs.declared.event.Role.TheVariants.{Client, Ap}
use Rattle.hp_event.specs.declared.op.Op.{Op}
use Rattle.hp_event.specs.declared.op.Op.TheVariants.{Lock, Unlock}
use Rattle.hp_model.specs.Lawful.{IsLawful}
use Rattle.hp_model.specs.Readers.{reading_since}
use Rattle.hp_model.specs.Seats.{role_of}
use Rattle.hp_turn.specs.Pass.{Pass}
use Rattle.hp_turn.specs.Passes.{lock_id}
use Rattle.hp_live.specs.declared.hotplug.Hotplug.{Hotplug}

-- of a pass without seat: the lock that gave it, the head, and the journal as it last saw it
pub record Known : Type 0 where
  pub lock : TableId
  pub head : Head
  pub front : List Event

-- of what a seat left: the seat too
pub record Gone : Type 0 where
  pub lock : TableId
  pub head : Head
  pub front : List Event
  pub seat : ℕ

-- of a seat's pass: its seat too, how often its tries found the lock taken, the entry that it carries an answered hook for, if it
-- carries one, and all such pairs of seats and entries as it last left them
pub record Seated : Type 0 where
  pub lock : TableId
  pub head : Head
  pub front : List Event
  pub seat : ℕ
  pub misses : ℕ
  pub lent : Option Aside
  pub kept : List (ℕ × Aside)

-- what holds of what a pass has seen, between any two calls
pub record IsSight (p : Pass) (seen : ℕ) : Type 0 where
  pub lawful : IsLawful p.head p.front
  pub free : p.held ≡ None
  pub seen_is : seen ≡ length p.front

-- the pass is a seat's, which has no right to admit, and carries what is lent to the seat
pub record IsSeat (p : Pass) (seat : ℕ) (back : Option Aside) : Type 0 where
  pub own : p.seat ≡ Some seat
  pub no_right : p.admits ≡ false
  pub lent : p.aside ≡ back

-- a client's seat that isn't in a read section, and one that is, since these events
pub record IsOut (seat : ℕ) (events : List Event) : Type 0 where
  pub role : role_of seat events ≡ Some Client
  pub not_reading : reading_since seat events ≡ None

pub record IsIn (seat : ℕ) (before events : List Event) : Type 0 where
  pub role : role_of seat events ≡ Some Client
  pub reading : reading_since seat events ≡ Some before

-- what an operation leaves of this
pub record Stays (seat : ℕ) (op : Op) (old new : List Event) : Type 0 where
  pub out : op ≢ Lock → IsOut seat old → IsOut seat new
  pub inside : (before : List Event) → op ≢ Unlock → IsIn seat before old → IsIn seat before new

-- the seat of a processor's thread
pub record IsThread (seat : ℕ) (events : List Event) : Type 0 where
  pub cpu : ℕ
  pub role : role_of seat events ≡ Some (Ap cpu)
  pub not_reading : reading_since seat events ≡ None

-- what holds of the root's pass
pub record IsRoot (p : Pass) : Type 0 where
  pub no_seat : p.seat ≡ None
  pub right : p.admits ≡ true

-- and of one whose seat has left
pub record IsGone (p : Pass) : Type 0 where
  pub no_right : p.admits ≡ false
  pub nothing : p.aside ≡ None

-- all but the front, the misses and what is lent is as before
pub record IsStill (before after : Pass) : Type 0 where
  pub lock : after.lock ≡ before.lock
  pub head : after.head ≡ before.head
  pub seat : after.seat ≡ before.seat
  pub admits : after.admits ≡ before.admits

-- so it is of a seat's pass, as contracts see it
pub record IsSamePass (before after : Seated) : Type 0 where
  pub lock : after.lock ≡ before.lock
  pub head : after.head ≡ before.head
  pub seat : after.seat ≡ before.seat

-- the pass is one that the machine gave
abbrev pub IsOf : {H : Type 0} → Hotplug H → TableId → Type 0
IsOf machine lock = lock ≡ lock_id machine.lock

-- What contracts see of a pass. This project's own.
use Rattle.std.specs.Prelude.{◌≡◌, ℕ, Bool, false, List, [], ◌∷◌, ◌++◌, length, Option, Some, None}
use Rattle.atomic_table.specs.Seated.{TableId}
use Rattle.atomic_table.specs.Table.{Me}
use Rattle.hp_event.specs.declared.aside.Aside.{Aside}
use Rattle.hp_event.specs.declared.head.Head.{Head}
use Rattle.hp_event.specs.declared.event.Event.{Event}
use Rattle.hp_turn.specs.declared.view.Held.{Held}
use Rattle.hp_turn.specs.declared.view.View.{View}
use Rattle.hp_turn.specs.Asides.{KeepsOthers}
use Rattle.hp_turn.specs.Story.{Knows, MayAdd, new_seat}

-- the lock that gave it, the value's head, the story as it last saw it, the seat whose events it alone adds, whether
-- it may admit, how often it found the lock held, what it took where it holds the lock, the entry that a hook is lent
-- to its seat for, and all such pairs as it last put them back
pub record Pass : Type 0 where
  pub lock : TableId
  pub head : Head
  pub front : List Event
  pub seat : Option ℕ
  pub admits : Bool
  pub misses : ℕ
  pub held : Option Held
  pub aside : Option Aside
  pub kept : List (ℕ × Aside)

-- the pass's front stands for the story, with each Admit of it where the pass may admit
abbrev pub Knew : Pass → (story : List Event) → Type 0
Knew p story = Knows p.seat p.admits p.front story

-- all but the misses, and whether it holds the lock, is as before
pub record IsSame (before after : Pass) : Type 0 where
  pub lock : after.lock ≡ before.lock
  pub head : after.head ≡ before.head
  pub front : after.front ≡ before.front
  pub seat : after.seat ≡ before.seat
  pub admits : after.admits ≡ before.admits
  pub aside : after.aside ≡ before.aside
  pub kept : after.kept ≡ before.kept

-- what a split leaves: the right to admit is the new pass's
abbrev pub without_right : Pass → Pass
without_right p = record {
  lock = p.lock;
  head = p.head;
  front = p.front;
  seat = p.seat;
  admits = false;
  misses = p.misses;
  held = p.held;
  aside = p.aside;
  kept = p.kept;
}

-- what a split gives: a pass that has seen as much, without seat and misses, to which nothing is lent
abbrev pub given_by : Pass → Pass
given_by p = record {
  lock = p.lock;
  head = p.head;
  front = p.front;
  seat = None;
  admits = p.admits;
  misses = 0;
  held = None;
  aside = None;
  kept = [];
}

-- the pass holds the lock, the story is the one that it took with what it may add, and what is lent to other seats is
-- as it was taken
pub record MayPutBack (p : Pass) (story : List Event) (pairs : List (ℕ × Aside)) : Type 0 where
  pub taken : Held
  pub holds : p.held ≡ Some taken
  pub added : List Event
  pub whole : taken.story ++ added ≡ story
  pub may : MayAdd p.seat p.admits taken.story added
  pub others : KeepsOthers (new_seat p.seat p.held story) taken.pairs pairs

-- the slots that a seat of the table has out, and the length that it keeps, by the story that it holds
abbrev pub Carries : {V : Type 0} → List (ℕ × Option V) → ℕ → (held : Option Held) → Type 0
Carries slots taken None = slots ≡ []
Carries slots taken (Some t) = (slots ≡ (0, None) ∷ []) × (taken ≡ length t.story)

-- what holds of a pass between any two calls
abbrev pub IsSound : {V : Type 0} → Me (Option V) View → (taken : ℕ) → Type 0
IsSound me taken = (me.0.spent ≡ false) × (me.0.heard ≡ None) × Carries me.1 taken me.0.held

-- The rule of the lock's table, and what each step on it tells. Word 0 is whether the lock is held, word 1 the
-- length of the story, and the slot has the value, or nothing. This project's own.
use Rattle.std.specs.Prelude.{◌≡◌, ◌≢◌, ◌⊎◌, ◌≤◌, ℕ, Bool, true, false, List, [], ◌∷◌, length, slice_index, Option, Some, None}
use mathlib.Core.Option.{some}
use mathlib.Core.List.{IsPrefix}
use lib.ListN.{get_elem?}
use Rattle.atomic_table.specs.Table.{State, Me}
use Rattle.hp_states.specs.declared.limits.TheConstants.{MAX_EVENTS}
use Rattle.hp_event.specs.declared.aside.Aside.{Aside}
use Rattle.hp_event.specs.declared.head.Head.{Head}
use Rattle.hp_event.specs.declared.event.Event.{Event}
use Rattle.hp_turn.specs.declared.view.Heard.{Heard}
use Rattle.hp_turn.specs.declared.view.View.{View}
use Rattle.hp_turn.specs.Asides.{seat_aside}
use Rattle.hp_turn.specs.Story.{HasAdmit, Knows, longer}
use Rattle.hp_turn.specs.Views.{held_of, holding, missed, after_count, freed, settled}

-- two fronts that a join brought together, of passes with one head, while the story is `told`
pub record WereHeard (h : Head) (seat : Option ℕ) (admits : Bool) (front told : List Event) (x : Heard) : Type 0 where
  pub alike : x.head ≡ h
  pub one : Knows seat x.had x.one told
  pub two : IsPrefix x.two told
  pub front_is : front ≡ longer x.one x.two
  pub right : x.had ≡ true → admits ≡ true

-- what holds of a view that isn't spent while the story is `told`, and `pairs` are the seats with what is lent to them
pub record Fits (h : Head) (told : List Event) (pairs : List (ℕ × Aside)) (v : View) : Type 0 where
  pub alike : v.head ≡ h
  pub knows : Knows v.seat v.admits v.front told
  pub admitted : (k : ℕ) → v.seat ≡ Some k → HasAdmit k v.front
  pub heard : (x : Heard) → v.heard ≡ Some x → WereHeard h v.seat v.admits v.front told x
  pub aside : v.aside ≡ seat_aside v.seat pairs

-- no two seats of the table have a view of the kind
abbrev pub AreAlone : (View → Type 0) → List View → Type 0
AreAlone Q views =
    (i j : ℕ) (v w : View) → get_elem? views i ≡ some v → get_elem? views j ≡ some w → Q v → Q w → i ≡ j

abbrev pub HasSeat : ℕ → View → Type 0
HasSeat k v = v.seat ≡ Some k

abbrev pub HasRight : View → Type 0
HasRight v = v.admits ≡ true

module _ {V : Type 0} (head : V → Head) (story : V → List Event) (aside : V → List (ℕ × Aside)) where
  -- nobody holds the lock
  pub record Free (h : Head) (told : List Event) (pairs : List (ℕ × Aside)) (s : State (Option V) View) : Type 0 where
    pub held : slice_index s.words 0 ≡ 0
    pub value : V
    pub home : get_elem? s.homes 0 ≡ some (some (Some value))
    pub value_head : head value ≡ h
    pub value_story : story value ≡ told
    pub value_pairs : aside value ≡ pairs
    pub nobody : (j : ℕ) (v : View) → get_elem? s.views j ≡ some v → v.held ≡ None

  -- the seat `holder` holds the lock, and its view has the story and the pairs
  pub record Taken (told : List Event) (pairs : List (ℕ × Aside)) (s : State (Option V) View) : Type 0 where
    pub held : slice_index s.words 0 ≡ 1
    pub holder : ℕ
    pub holding : View
    pub there : get_elem? s.views holder ≡ some holding
    pub keeps : holding.held ≡ Some (held_of told pairs)
    pub others : (j : ℕ) (v : View) → get_elem? s.views j ≡ some v → j ≢ holder → v.held ≡ None

  -- the rule, by the head of the value, the story so far, and what is lent
  pub record Kept (s : State (Option V) View) : Type 0 where
    pub h : Head
    pub told : List Event
    pub pairs : List (ℕ × Aside)
    pub room : length told ≤ MAX_EVENTS
    pub words : length s.words ≡ 2
    pub count : slice_index s.words 1 ≡ length told
    pub each : (j : ℕ) (v : View) → get_elem? s.views j ≡ some v → v.spent ≡ false → Fits h told pairs v
    pub spent_idle : (j : ℕ) (v : View) → get_elem? s.views j ≡ some v → v.spent ≡ true → v.seat ≡ None
    pub one_seat : (k : ℕ) → AreAlone (HasSeat k) s.views
    pub one_right : AreAlone HasRight s.views
    pub lock : Free h told pairs s ⊎ Taken told pairs s

  -- the lock was free, and the value is one that the pass knew of
  pub record Took (m : Me (Option V) View) (n : Me (Option V) View) : Type 0 where
    pub value : V
    pub now : n ≡ (holding m.0 (story value) (aside value), (0, Some value) ∷ m.1)
    pub alike : head value ≡ m.0.head
    pub knew : Knows m.0.seat m.0.admits m.0.front (story value)
    pub lent : seat_aside m.0.seat (aside value) ≡ m.0.aside
    pub room : length (story value) ≤ MAX_EVENTS

  -- the compare exchange of word 0 from 0 to 1: it took the lock, or read 1, which is one more miss
  abbrev pub locked : Me (Option V) View → (read : ℕ) → Me (Option V) View → Type 0
  locked m read n = (read ≡ 0 → Took m n) × (read ≢ 0 → (read ≡ 1) × (n ≡ (missed m.0, m.1)))

  abbrev pub story_of : Option V → List Event
  story_of None = []
  story_of (Some x) = story x

  -- the story of the slot taken last
  abbrev pub carried_story : List (ℕ × Option V) → List Event
  carried_story [] = []
  carried_story (c ∷ cs) = story_of c.1

  abbrev pub pairs_of : Option V → List (ℕ × Aside)
  pairs_of None = []
  pairs_of (Some x) = aside x

  abbrev pub carried_pairs : List (ℕ × Option V) → List (ℕ × Aside)
  carried_pairs [] = []
  carried_pairs (c ∷ cs) = pairs_of c.1

  -- the fetch and add on word 1: the story and the pairs that are put back are told
  abbrev pub counted : Me (Option V) View → Me (Option V) View → Type 0
  counted m n = n ≡ (after_count m.0 (carried_story m.1) (carried_pairs m.1), m.1)

abbrev pub without : {S : Type 0} → List (ℕ × S) → List (ℕ × S)
without [] = []
without (c ∷ cs) = cs

-- the swap of word 0 to 0: the value goes home
abbrev pub released : {V : Type 0} → Me (Option V) View → Me (Option V) View → Type 0
released m n = n ≡ (freed m.0, without m.1)

-- the load of word 0 after a join: both fronts begin the longer, and both passes have one head
abbrev pub learned : {V : Type 0} → Me (Option V) View → Me (Option V) View → Type 0
learned m n =
    (n ≡ (settled m.0, m.1))
    × ((x : Heard) → m.0.heard ≡ Some x → Knows m.0.seat x.had x.one m.0.front × IsPrefix x.two m.0.front × (x.head ≡ m.0.head))

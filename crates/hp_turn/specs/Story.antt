-- Stories: what a pass knows of one, and what a section may add to it. This project's own.
use Rattle.std.specs.Prelude.{◌≡◌, ◌≢◌, ◌⊎◌, ℕ, ◌≤◌, Bool, true, false, List, [], ◌∷◌, ◌++◌, length, drop, cond, ltb, Option, Some, None, All}
use Rattle.hp_states.specs.declared.limits.TheConstants.{MAX_EVENTS}
use Rattle.hp_event.specs.declared.event.Role.{Role}
use Rattle.hp_event.specs.declared.event.Event.{Event}
use Rattle.hp_event.specs.declared.event.Event.TheVariants.{Admit}
use Rattle.hp_model.specs.Events.{seat_of}
use Rattle.hp_model.specs.Front.{StandsFor}
use Rattle.hp_turn.specs.declared.view.Held.{Held}

abbrev pub is_admit : Event → Bool
is_admit (Admit seat role) = true
is_admit _ = false

abbrev pub IsNoAdmit : Event → Type 0
IsNoAdmit e = is_admit e ≡ false

-- the story has the Admit of a seat
abbrev pub HasAdmit : (seat : ℕ) → List Event → Type 0
HasAdmit k [] = ⊥
HasAdmit k (e ∷ es) = ((role : Role) × (e ≡ Admit k role)) ⊎ HasAdmit k es

-- What is known of a story by its front: the front stands for it, and holds each of its Admits where the right
-- to admit is there
pub record Knows (seat : Option ℕ) (admits : Bool) (front story : List Event) : Type 0 where
  pub seen : StandsFor seat front story
  pub admitted : admits ≡ true → All IsNoAdmit seen.rest

-- an event of the seat that admits nobody
abbrev pub IsOwn : (seat : Option ℕ) → Event → Type 0
IsOwn seat e = (seat ≡ Some (seat_of e)) × IsNoAdmit e

-- events of the seat that admit nobody were added
abbrev pub AddsOwn : (seat : ℕ) → (old new : List Event) → Type 0
AddsOwn k old new = (added : List Event) × (old ++ added ≡ new) × All (IsOwn (Some k)) added

-- no event was added that a journal has no room for
abbrev pub KeepsLimit : (old new : List Event) → Type 0
KeepsLimit old new = length old ≤ MAX_EVENTS → length new ≤ MAX_EVENTS

-- one Admit, of a seat that isn't in the story, by who has the right to admit and no seat
pub record AdmitsOne (seat : Option ℕ) (admits : Bool) (story added : List Event) : Type 0 where
  pub new : ℕ
  pub role : Role
  pub is_one : added ≡ Admit new role ∷ []
  pub has_right : admits ≡ true
  pub no_seat : seat ≡ None
  pub is_new : All (λ e. seat_of e ≢ new) story

-- what a section may add to the story that it took
abbrev pub MayAdd : (seat : Option ℕ) (admits : Bool) (story added : List Event) → Type 0
MayAdd seat admits story added = All (IsOwn seat) added ⊎ AdmitsOne seat admits story added

abbrev pub seat_then : (seat : Option ℕ) → (added : List Event) → Option ℕ
seat_then seat (Admit new role ∷ more) = Some new
seat_then seat _ = seat

abbrev pub story_held : Option Held → List Event
story_held None = []
story_held (Some t) = t.story

-- the seat of who held a story and puts another back: the one that it admits, if it does
abbrev pub new_seat : (seat : Option ℕ) (held : Option Held) (story : List Event) → Option ℕ
new_seat seat held story = seat_then seat (drop (length (story_held held)) story)

abbrev pub longer : (a b : List Event) → List Event
longer a b = cond (ltb (length a) (length b)) b a

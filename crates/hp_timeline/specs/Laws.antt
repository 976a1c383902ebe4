-- What holds of every picture. This project's own.
use Rattle.std.specs.Prelude.{◌≡◌, ℕ, ◌+◌, ◌-◌, ◌<◌, ◌≤◌, ◌==◌, Bool, true, false, not, ◌&&◌, ◌||◌, Option, Some, None, List, [], ◌∷◌, ◌⊎◌, All, filter, take, length, slice_get}
use Rattle.std.specs.List.{flat_map, AllPass}
use Rattle.hp_states.specs.declared.limits.TheConstants.{ONLINE}
use Rattle.hp_states.specs.Names.{is_name_byte}
use Rattle.hp_event.specs.declared.head.Sub.{Sub}
use Rattle.hp_event.specs.declared.head.Head.{Head}
use Rattle.hp_event.specs.declared.event.Event.{Event}
use Rattle.hp_event.specs.declared.event.Event.TheVariants.{WalkEnd, OpEnd, RegEnd, ReadUnlock}
use Rattle.hp_model.specs.Lists.{occurs}
use Rattle.hp_model.specs.MapLock.{operation}
use Rattle.hp_model.specs.Readers.{reading_since}
use Rattle.hp_model.specs.Registrations.{registration}
use Rattle.hp_model.specs.Shown.{shown}
use Rattle.hp_model.specs.Walks.{Walk, walk}
use Rattle.hp_timeline.specs.declared.mark.Mark.{Mark}
use Rattle.hp_timeline.specs.declared.window.Window.{Window}
use Rattle.hp_timeline.specs.declared.span.Span.{Span}
use Rattle.hp_timeline.specs.Windows.{IsWindow, places}
use Rattle.hp_timeline.specs.Sheet.{clients, middle, height}
use Rattle.hp_timeline.specs.Spans.{ended_at, going, spans}
use Rattle.hp_timeline.specs.Tracks.{level_at}
use Rattle.hp_timeline.specs.Marks.{marked, marks}

-- ---- marks

-- a place of the window
abbrev pub IsIn : Window → (place : ℕ) → Type 0
IsIn w k = (w.before ≤ k) × (k < w.until)

-- The marks at a place of the window are those of its event: one for an entry, of its processor, state, direction and
-- how, and none for any other event. No mark is at a place outside the window.
pub record MarksEntries (events : List Event) (w : Window) : Type 0 where
  pub each : (k : ℕ) → IsIn w k → filter (λ m. m.place == k) (marks events w) ≡ marked k (slice_get events k)
  pub within : All (λ m. IsIn w m.place) (marks events w)

-- ---- lines

-- before and after each event of the window the line of each processor is at the state that its file shows
abbrev pub FollowsShown : Head → List Event → Window → Type 0
FollowsShown head events w =
    (c k : ℕ) → w.before ≤ k → k ≤ w.until → level_at head c events w k ≡ shown head c (take k events)

-- ---- what lasts

-- What ends at a place of the window is what its event ends, and what is drawn as in flight is what is in flight at
-- the window's end. Nothing else is drawn as over than what ends at a place of the window.
pub record DrawsSpans (head : Head) (events : List Event) (w : Window) : Type 0 where
  pub ends : (k : ℕ) → IsIn w k → filter (λ s. s.is_over && (s.last == k)) (spans head events w) ≡ ended_at events k
  pub others_go : filter (λ s. not s.is_over) (spans head events w) ≡ going head (take w.until events) (w.until - 1)
  pub within : All (λ s. s.is_over ≡ true → IsIn w s.last) (spans head events w)

-- the event ends the operation in flight, the registration, the walk of a processor, the read section of a seat
abbrev pub EndsOperation : Event → Type 0
EndsOperation (OpEnd seat answer) = Unit {0}
EndsOperation _ = ⊥

abbrev pub EndsRegistration : Event → Type 0
EndsRegistration (RegEnd seat answer) = Unit {0}
EndsRegistration _ = ⊥

abbrev pub EndsWalk : (cpu : ℕ) → Event → Type 0
EndsWalk c (WalkEnd seat cpu answer) = cpu ≡ c
EndsWalk c _ = ⊥

abbrev pub EndsSection : (seat : ℕ) → Event → Type 0
EndsSection k (ReadUnlock seat) = seat ≡ k
EndsSection k _ = ⊥

-- it is in flight before a place from one on, below another, and the event of that place ends it
pub record Ends {X : Type 0} (in_flight : List Event → Option X) (IsEnd : Event → Type 0) (events : List Event) (from until : ℕ) (of : X) : Type 0 where
  pub place : ℕ
  pub at_least : from ≤ place
  pub below : place < until
  pub event : Event
  pub at : slice_get events place ≡ Some event
  pub is_end : IsEnd event
  pub held : in_flight (take place events) ≡ Some of

-- what is in flight at a place up to the window's end ends in the window from there on, or is in flight at its end
abbrev pub EachEndsOrGoes : {X : Type 0} → (in_flight : List Event → Option X) → (IsEnd : Event → Type 0) → List Event → Window → Type 0
EachEndsOrGoes {X} in_flight IsEnd events w =
    (k : ℕ) (of : X) → k ≤ w.until → in_flight (take k events) ≡ Some of →
    Ends in_flight IsEnd events k w.until of ⊎ (in_flight (take w.until events) ≡ Some of)

-- So do an operation, a registration, a walk and a read section; and a walk that is in flight at the window's end is of a
-- possible processor, and a section of a client's seat that came in once, so that each is drawn once.
pub record EndsOrGoes (head : Head) (events : List Event) (w : Window) : Type 0 where
  pub operations : EachEndsOrGoes operation EndsOperation events w
  pub registrations : EachEndsOrGoes registration EndsRegistration events w
  pub walks : (cpu : ℕ) → EachEndsOrGoes (walk cpu) (EndsWalk cpu) events w
  pub sections : (seat : ℕ) → EachEndsOrGoes (reading_since seat) (EndsSection seat) events w
  pub walk_drawn : (cpu : ℕ) (of : Walk) → walk cpu (take w.until events) ≡ Some of → cpu < head.possible
  pub section_drawn : (seat : ℕ) (since : List Event) → reading_since seat (take w.until events) ≡ Some since →
      occurs seat (clients (take w.until events)) ≡ 1

-- ---- points

-- no two states of two processors stand at one height, and no two places of a window in one column
abbrev pub AreApart : Window → Type 0
AreApart w =
    ((c d s t : ℕ) → s ≤ ONLINE → t ≤ ONLINE → height c s ≡ height d t → (c ≡ d) × (s ≡ t))
    × ((j k : ℕ) → w.before ≤ j → w.before ≤ k → middle w j ≡ middle w k → j ≡ k)

-- ---- names

-- a byte that XML escapes: `"`, `&`, `'`, `<` or `>`
abbrev pub is_escaped : ℕ → Bool
is_escaped b = b == 34 || (b == 38 || (b == 39 || (b == 60 || b == 62)))

abbrev pub HasNoEscaped : List ℕ → Type 0
HasNoEscaped bytes = All (λ b. is_escaped b ≡ false) bytes

-- a subsystem's name has none
abbrev pub NamesArePlain : Head → Type 0
NamesArePlain head = All (λ (sub : Sub). HasNoEscaped sub.name) head.subs

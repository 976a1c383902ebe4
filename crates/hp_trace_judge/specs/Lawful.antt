-- When the events of lines are of lawful walks. Each is one that a walk or a registration can have behind those before it,
-- and asks something of a table of states; and there is a table that answers all that they ask, which is another at a state
-- only behind a registration of it. This project's own.
use Rattle.std.specs.Prelude.{◌≡◌, ◌<◌, ◌↔◌, ℕ, ◌+◌, List, [], ◌∷◌, take, length, slice_get, Some, Result, Ok, Err}
use Rattle.hp_trace.specs.declared.event.Event.{Event}
use Rattle.hp_trace.specs.declared.event.Said.{Said}
use Rattle.hp_trace.specs.declared.event.Said.TheVariants as said
use Rattle.hp_trace.specs.Said.{said_of}
use Rattle.hp_trace_walk.specs.declared.walk.Borders.{Borders}
use Rattle.hp_trace_walk.specs.declared.walk.Wrong.TheVariants.{Shows}
use Rattle.hp_trace_walk.specs.Tables.{fresh}
use Rattle.hp_trace_walk.specs.Answered.{Asking, HasTable}
use Rattle.hp_trace_judge.specs.declared.place.Place.{Place}
use Rattle.hp_trace_judge.specs.declared.place.Turn.{Turn}
use Rattle.hp_trace_judge.specs.declared.place.Halt.{Halt}
use Rattle.hp_trace_judge.specs.declared.walks.Walks.{Walks}
use Rattle.hp_trace_judge.specs.declared.walks.Walks.TheVariants.{Lawful}
use Rattle.hp_trace_judge.specs.Turns.{misfit}
use Rattle.hp_trace_judge.specs.Events.{turn_of}
use Rattle.hp_trace_judge.specs.Walks.{nowhere, halted, walks_from}

-- what an event is to a table
abbrev pub asking_of : Turn → Asking
asking_of t = record { closed = t.closed; registers = t.forget; asked = t.asked }

-- ---- what lines ask, from this place on, and where a reader stands behind them

pub record AskedTurn (turn : Result Turn Halt) (More : Place → List Asking → Type 0) (asking : List Asking) : Type 0 where
  pub does : Turn
  pub is_turn : turn ≡ Ok does
  pub behind : List Asking
  pub asks : asking ≡ asking_of does ∷ behind
  pub more : More does.place behind

abbrev pub AskedLine : Borders → Place → (line : ℕ) → Said → (More : Place → List Asking → Type 0) → List Asking → Type 0
AskedLine b p line (said.Event e) More asking = AskedTurn (turn_of b p line e) More asking
AskedLine b p line said.NoForm More asking = More p asking
AskedLine b p line said.Lost More asking = More p asking
AskedLine b p line said.Other More asking = More p asking

abbrev pub AskedLines : Borders → Place → (line : ℕ) → (lines : List (List ℕ)) → List Asking → (last : Place) → Type 0
AskedLines b p line [] asking last = (asking ≡ []) × (last ≡ p)
AskedLines b p line (l ∷ ls) asking last =
    AskedLine b p line (said_of l) (λ next behind. AskedLines b next (line + 1) ls behind last) asking

-- ---- lawful, and the first event that can't be

pub record AreLawful (b : Borders) (lines : List (List ℕ)) : Type 0 where
  pub asking : List Asking
  pub last : Place
  pub asked : AskedLines b nowhere 1 lines asking last
  pub has_table : HasTable b asking

-- what is said of an event with which lines aren't lawful any more: why no walk can have it, or a state of which no table
-- answers all
pub record IsSaidOf (turn : Result Turn Halt) (line : ℕ) (verdict : Walks) : Type 0 where
  pub no_turn : (h : Halt) → turn ≡ Err h → verdict ≡ halted line h
  pub no_table : (t : Turn) → turn ≡ Ok t → (state : ℕ) × (verdict ≡ halted line (misfit t.named (Shows state)))

-- the lines before it are lawful, and with it they aren't
pub record IsFirstUnlawful (b : Borders) (lines : List (List ℕ)) (verdict : Walks) : Type 0 where
  pub before : ℕ
  pub inside : before < length lines
  pub lawful : AreLawful b (take before lines)
  pub unlawful : AreLawful b (take (before + 1) lines) → ⊥
  pub line : List ℕ
  pub is_line : slice_get lines before ≡ Some line
  pub event : Event
  pub is_event : said_of line ≡ said.Event event
  pub is_said : IsSaidOf (turn_of b lawful.last (1 + before) event) (1 + before) verdict

pub record AreExact (b : Borders) (lines : List (List ℕ)) (verdict : Walks) : Type 0 where
  pub exact : AreLawful b lines ↔ (verdict ≡ Lawful)
  pub first : ((verdict ≡ Lawful) → ⊥) → IsFirstUnlawful b lines verdict

abbrev pub WalksAreExact : Type 0
WalksAreExact = (b : Borders) (lines : List (List ℕ)) → AreExact b lines (walks_from b nowhere fresh 1 lines)

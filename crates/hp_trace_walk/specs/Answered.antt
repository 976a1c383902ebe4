-- When there is a table of states that answers all that a trace asks. Behind the registration of a state the table may be
-- another at that state, and at no other. This project's own.
use Rattle.std.specs.Prelude.{◌≡◌, ◌≤◌, ◌<◌, ◌⊎◌, ◌↔◌, ℕ, Bool, false, if◌then◌else◌, Option, Some, None, List, [], ◌∷◌}
use Rattle.hp_trace_walk.specs.declared.ask.Ask.{Ask}
use Rattle.hp_trace_walk.specs.declared.ask.Asks.{Asks}
use Rattle.hp_trace_walk.specs.declared.ask.TheConstants.{MOST_STATES}
use Rattle.hp_trace_walk.specs.declared.walk.Borders.{Borders}
use Rattle.hp_trace_walk.specs.Walks.{is_starting}
use Rattle.hp_trace_walk.specs.Tables.{Kept, fresh, asked_all, forgotten}
use Rattle.hp_trace_walk.specs.Entries.{Entry, CanBe, IsWithin}

-- what an event of a trace is to a table: what the walk asks that it ends, the state that it registers, and what it asks itself
pub record Asking : Type 0 where
  pub closed : Asks
  pub registers : Option ℕ
  pub asked : Asks

-- a table has an entry of each state
abbrev pub States : Type 0
States = ℕ → Entry

abbrev pub CanBeTable : States → Type 0
CanBeTable t = (state : ℕ) → CanBe (t state)

abbrev pub calls_of : Entry → (up : Bool) → ℕ
calls_of e up = if up then e.up else e.down

-- each of the states that an ask names, and that lines can show, has as many calls as it asks for
abbrev pub Answers : Borders → States → Ask → Type 0
Answers b t a =
    (state : ℕ) → a.from ≤ state → state < a.below → state < MOST_STATES → is_starting b state ≡ false →
    IsWithin a (calls_of (t state) a.up)

pub record AnswersEach (b : Borders) (t : States) (asks : Asks) : Type 0 where
  pub made : Answers b t asks.made
  pub other : Answers b t asks.other
  pub whole : Answers b t asks.whole
  pub passed : Answers b t asks.passed
  pub back : Answers b t asks.back
  pub before : Answers b t asks.before

-- the table behind a registration is the same at each other state
abbrev pub IsTableBehind : (registers : Option ℕ) → States → States → Type 0
IsTableBehind registers t next = (state : ℕ) → (registers ≡ Some state) ⊎ (next state ≡ t state)

pub record AnswersAsking (b : Borders) (t : States) (a : Asking) (More : States → Type 0) : Type 0 where
  pub closed : AnswersEach b t a.closed
  pub next : States
  pub can_be : CanBeTable next
  pub behind : IsTableBehind a.registers t next
  pub asked : AnswersEach b next a.asked
  pub more : More next

-- event after event
abbrev pub AnswersTrace : Borders → States → List Asking → Type 0
AnswersTrace b t [] = Unit {0}
AnswersTrace b t (a ∷ asking) = AnswersAsking b t a (λ next. AnswersTrace b next asking)

pub record HasTable (b : Borders) (asking : List Asking) : Type 0 where
  pub table : States
  pub can_be : CanBeTable table
  pub answers : AnswersTrace b table asking

-- what is known behind an event, and behind all
abbrev pub kept_by : Borders → Asking → Kept → Kept
kept_by b a k = asked_all b a.asked (forgotten a.registers (asked_all b a.closed k))

abbrev pub kept_behind : Borders → Kept → List Asking → Kept
kept_behind b k [] = k
kept_behind b k (a ∷ asking) = kept_behind b (kept_by b a k) asking

-- a state is shut exactly where there is no table
abbrev pub TablesAreExact : Type 0
TablesAreExact = (b : Borders) (asking : List Asking) → HasTable b asking ↔ ((kept_behind b fresh asking).shut ≡ None)

-- When a table can have a state as lines ask: there is an entry that answers all that was asked of the state since it was
-- registered last. This project's own.
use Rattle.std.specs.Prelude.{◌≡◌, ◌≤◌, ◌⊎◌, ◌↔◌, ℕ, true, if◌then◌else◌, List, [], ◌∷◌}
use Rattle.hp_trace_walk.specs.declared.ask.Ask.{Ask}
use Rattle.hp_trace_walk.specs.declared.ask.TheConstants.{MOST_CALLS}
use Rattle.hp_trace_walk.specs.declared.table.Known.{Known}
use Rattle.hp_trace_walk.specs.Tables.{unknown, is_open, with_ask}

-- how many calls a crossing of a state shows
pub record Entry : Type 0 where
  pub up : ℕ
  pub down : ℕ

-- it has as many instances both ways, or no startup, or no teardown; and no more than can be counted
pub record CanBe (e : Entry) : Type 0 where
  pub same : (e.up ≡ e.down) ⊎ ((e.up ≡ 0) ⊎ (e.down ≡ 0))
  pub few_up : e.up ≤ MOST_CALLS
  pub few_down : e.down ≤ MOST_CALLS

pub record IsWithin (a : Ask) (calls : ℕ) : Type 0 where
  pub least : a.least ≤ calls
  pub most : calls ≤ a.most

abbrev pub AnswersAll : Entry → List Ask → Type 0
AnswersAll e [] = Unit {0}
AnswersAll e (a ∷ asks) = IsWithin a (if a.up then e.up else e.down) × AnswersAll e asks

-- the state can be as it was asked
pub record HasEntry (asks : List Ask) : Type 0 where
  pub entry : Entry
  pub can_be : CanBe entry
  pub answers : AnswersAll entry asks

abbrev pub known_by : Known → List Ask → Known
known_by k [] = k
known_by k (a ∷ asks) = known_by (with_ask k a) asks

-- what is known of a state tells exactly whether it can be
abbrev pub EntriesAreExact : Type 0
EntriesAreExact = (asks : List Ask) → HasEntry asks ↔ (is_open (known_by unknown asks) ≡ true)

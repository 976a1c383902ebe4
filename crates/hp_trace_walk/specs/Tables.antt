-- What is known of a table of states: of each, how many calls a crossing of it shows, up and down, at least and at most. It
-- has as many instances both ways, or no startup, or no teardown: so the two are the same, or one of them is 0. This
-- project's own.
use Rattle.std.specs.Prelude.{ℕ, zero, suc, ◌+◌, ◌-◌, ◌==◌, nat_lt, nat_le, Bool, not, ◌&&◌, ◌||◌, if◌then◌else◌, List, length, replicate, slice_get, slice_set, Option, Some, None}
use Rattle.hp_trace_walk.specs.declared.ask.Ask.{Ask}
use Rattle.hp_trace_walk.specs.declared.ask.Asks.{Asks}
use Rattle.hp_trace_walk.specs.declared.ask.TheConstants.{MOST_CALLS, MOST_STATES}
use Rattle.hp_trace_walk.specs.declared.walk.Borders.{Borders}
use Rattle.hp_trace_walk.specs.declared.table.Known.{Known}
use Rattle.hp_trace_walk.specs.declared.table.Table.{Table}
use Rattle.hp_trace_walk.specs.Walks.{is_starting}

abbrev pub larger : ℕ → ℕ → ℕ
larger one other = if nat_lt one other then other else one

abbrev pub smaller : ℕ → ℕ → ℕ
smaller one other = if nat_lt one other then one else other

-- ---- of one state

abbrev pub unknown : Known
unknown = record { least_up = 0; most_up = MOST_CALLS; least_down = 0; most_down = MOST_CALLS }

abbrev pub is_ordered : Known → Bool
is_ordered k = nat_le k.least_up k.most_up && nat_le k.least_down k.most_down

abbrev pub is_even : Known → Bool
is_even k = nat_le k.least_up k.most_down && nat_le k.least_down k.most_up

abbrev pub is_up_alone : Known → Bool
is_up_alone k = k.least_down == 0 || is_even k

-- the same both ways, or one of them 0
abbrev pub is_open : Known → Bool
is_open k = is_ordered k && (k.least_up == 0 || is_up_alone k)

abbrev pub with_ask : Known → Ask → Known
with_ask k a =
    if a.up then
    record { least_up = larger k.least_up a.least; most_up = smaller k.most_up a.most; least_down = k.least_down; most_down = k.most_down }
    else
    record { least_up = k.least_up; most_up = k.most_up; least_down = larger k.least_down a.least; most_down = smaller k.most_down a.most }

-- ---- of all

-- what a table keeps
pub record Kept : Type 0 where
  pub known : List Known
  pub shut : Option ℕ

abbrev pub kept : Table → Kept
kept t = record { known = t.known.items; shut = t.shut }

abbrev pub fresh : Kept
fresh = record { known = replicate MOST_STATES unknown; shut = None }

-- a state that can't be as it was asked
abbrev pub shut_by : Known → (state : ℕ) → Option ℕ → Option ℕ
shut_by k state shut = if not (is_open k) then Some state else shut

abbrev pub set_at : (state : ℕ) → Known → Kept → Kept
set_at state k t = record { known = slice_set t.known state k; shut = shut_by k state t.shut }

abbrev pub asked_at : Ask → (state : ℕ) → Kept → Option Known → Kept
asked_at a state t None = t
asked_at a state t (Some k) = set_at state (with_ask k a) t

abbrev pub asked_one : Ask → (state : ℕ) → Kept → Kept
asked_one a state t = asked_at a state t (slice_get t.known state)

abbrev pub asked_if : Borders → Ask → (state : ℕ) → Kept → Kept
asked_if b a state t = if not (is_starting b state) then asked_one a state t else t

-- so many states from this one on
abbrev pub asked_from : Borders → Ask → (many state : ℕ) → Kept → Kept
asked_from b a zero state t = t
asked_from b a (suc many) state t = asked_from b a many (state + 1) (asked_if b a state t)

abbrev pub asked : Borders → Ask → Kept → Kept
asked b a t = asked_from b a (a.below - a.from) a.from t

abbrev pub asked_all : Borders → Asks → Kept → Kept
asked_all b a t =
    asked b a.other (asked b a.made (asked b a.before (asked b a.back (asked b a.passed (asked b a.whole t)))))

abbrev pub forgotten : Option ℕ → Kept → Kept
forgotten None t = t
forgotten (Some state) t =
    if nat_lt state (length t.known) then record { known = slice_set t.known state unknown; shut = t.shut } else t

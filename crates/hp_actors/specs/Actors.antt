-- An actor of a script, as contracts see it: its operations, each with the hook that it has, how many of them are answered, and how
-- long turns of its seat make nothing; and what is made of it by a turn. This project's own.
use Rattle.std.specs.Prelude.{◌≡◌, ℕ, ◌+◌, ◌≤◌, nat_lt, if◌then◌else◌, ◌↔◌, is_some, option_to_list, List, ◌++◌, All, length, drop, reverse, set}
use Rattle.std.specs.List.{flat_map}
use Rattle.hp_board.specs.Turns.{goes_on}
use Rattle.hp_board.specs.declared.turn.Ask.{Ask}
use Rattle.hp_board.specs.declared.turn.Turn.{Turn}
use Rattle.hp_account.specs.TableChanges.{is_setup}
use Rattle.hp_locks.specs.declared.why.Why.{Why}
use Rattle.hp_locks.specs.declared.why.Why.TheVariants.{MapsHeld}
use Rattle.hp_actors.specs.declared.actor.Waits.{Waits}
use Rattle.hp_actors.specs.declared.actor.Waits.TheVariants.{Unknown, WhileMapHeld, UntilEnd, Forever}

pub record Agenda (H : Type 0) : Type 0 where
  pub asks : List (Ask H)
  pub answered : ℕ
  pub waits : Waits

abbrev pub agenda : {H : Type 0} → List (Ask H) → (answered : ℕ) → Waits → Agenda H
agenda asks n waits = record { asks = asks; answered = n; waits = waits }

-- each setup has its hook, and nothing else has one
abbrev pub AreLoaded : {H : Type 0} → List (Ask H) → Type 0
AreLoaded asks = All (λ ask. is_some ask.hook ≡ is_setup ask.op) asks

-- What is so of every actor: no more operations are answered than there are; those behind the one that it asks for have their hooks;
-- and it waits for ever exactly where all are answered.
pub record IsAgenda {H : Type 0} (a : Agenda H) : Type 0 where
  pub within : a.answered ≤ length a.asks
  pub later : AreLoaded (drop (a.answered + 1) a.asks)
  pub over : (a.waits ≡ Forever) ↔ (a.answered ≡ length a.asks)

-- ---- hooks that are dealt

-- those that operations have, in their order
abbrev pub own_hooks : {H : Type 0} → List (Ask H) → List H
own_hooks asks = flat_map (λ ask. option_to_list ask.hook) asks

-- each in turn was the last of a rack's
abbrev pub AreDealt : {H : Type 0} → (old new : List H) → List (Ask H) → Type 0
AreDealt old new asks = old ≡ new ++ reverse (own_hooks asks)

-- ---- turns

-- before the next operation is asked for: a turn for it may make something, and there is none where all are answered
abbrev pub wait_at : (answered count : ℕ) → Waits
wait_at n count = if nat_lt n count then Unknown else Forever

abbrev pub agenda_at : {H : Type 0} → List (Ask H) → (answered : ℕ) → Agenda H
agenda_at asks n = agenda asks n (wait_at n (length asks))

-- with this in place of the operation that it asks for
abbrev pub with_ask : {H : Type 0} → Agenda H → Ask H → Agenda H
with_ask a ask = record a { asks = set a.asks a.answered ask }

-- after a turn for that operation, which answers it or doesn't
abbrev pub noted : {H : Type 0} → Agenda H → Turn → Agenda H
noted a turn = agenda_at a.asks (a.answered + (if goes_on turn then 0 else 1))

-- how long an operation waits to begin, by what it waits for, and how many events there were with the last end
abbrev pub wait_for : Why → (last_end : ℕ) → Waits
wait_for (MapsHeld seat) last = WhileMapHeld
wait_for why last = UntilEnd last

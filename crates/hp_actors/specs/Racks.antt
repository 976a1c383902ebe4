-- The hooks of a rack that setups take, and how many a run has. This project's own.
use Rattle.std.specs.Prelude.{◌≡◌, ℕ, ◌+◌, is_some, Option, List, ◌++◌, length, All}
use Rattle.std.specs.List.{flat_map, sum_by}
use Rattle.hp_hook.specs.declared.rack.Rack.{Rack}
use Rattle.hp_board.specs.Contents.{Contents}
use Rattle.hp_board.specs.HookCount.{hook_count, held}
use Rattle.hp_table.specs.Step.{Step}
use Rattle.hp_actors.specs.Actors.{AreLoaded, agenda_at, own_hooks}
use Rattle.hp_actors.specs.declared.actor.Actor.{Actor}

-- actors of which nothing is answered, with their hooks
abbrev pub IsFresh : {H : Type 0} → List (Actor H) → Type 0
IsFresh actors = All (λ actor. (actor ≡ agenda_at actor.asks 0) × AreLoaded actor.asks) actors

-- the hooks that are with an actor
abbrev pub hooks_with : {H : Type 0} → Actor H → ℕ
hooks_with actor = sum_by (λ ask. held (is_some ask.hook)) actor.asks

-- those that are with the machine and with all actors
abbrev pub hooks_in : {H : Type 0} → (places : List (Option Step)) → List (Actor H) → ℕ
hooks_in places actors = hook_count places + sum_by hooks_with actors

-- so many of the last hooks were taken
pub record Takes {H : Type 0} (old new : List H) (count : ℕ) : Type 0 where
  pub taken : List H
  pub old_is : old ≡ new ++ taken
  pub count_is : length taken ≡ count

abbrev pub TakesLast : {H : Type 0} → (old new : Rack H) → (count : ℕ) → Type 0
TakesLast old new count = Takes old.hooks.items new.hooks.items count

-- the rack has so many hooks more
abbrev pub HasMore : {H : Type 0} → (old new : Rack H) → (count : ℕ) → Type 0
HasMore old new count = length new.hooks.items ≡ length old.hooks.items + count

-- ---- hooks that are with actors

-- those of all actors, by actor and then by operation
abbrev pub actors_hooks : {H : Type 0} → List (Actor H) → List H
actors_hooks actors = flat_map (λ actor. own_hooks actor.asks) actors

-- how many are with the machine and with one actor
abbrev pub hooks_beside : {H : Type 0} → Contents → Actor H → ℕ
hooks_beside b actor = hook_count b.places + hooks_with actor

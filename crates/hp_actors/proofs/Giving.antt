-- The hooks that operations have, as they go back to the rack.
use Rattle.std.proofs.Common.{◌≡◌, ◌+◌, is_some, Option, Some, None, List, [], ◌∷◌, ◌++◌, length, map, refl, ap, sym, ◌∙◌}
use Rattle.std.specs.Prelude.{option_map, option_to_list}
use Rattle.std.specs.List.{flat_map, sum_by}
use Rattle.std.proofs.lemmas.List.{map-append, length-append, append_assoc}
use Rattle.std.proofs.lemmas.List.Sums.{sum_by-cons}
use Rattle.hp_board.specs.HookCount.{held}
use Rattle.hp_board.specs.Retired.{IsRacked}
use Rattle.hp_board.specs.declared.turn.Ask.{Ask}
use Rattle.hp_hook.specs.Counted.{Counts}
use Rattle.hp_actors.specs.Actors.{own_hooks}
use Rattle.hp_actors.specs.declared.actor.Actor.{Actor}
use Rattle.hp_actors.specs.Hooks.{hooks_there}
use Rattle.hp_actors.specs.Positions.{hook_of, hooks_of}
use Rattle.hp_actors.specs.Racks.{hooks_with}

one_there : {H : Type 0} (seen : H → Counts) (hook : Option H) → map seen (option_to_list hook) ≡ option_to_list (option_map seen hook)
one_there seen None = refl
one_there seen (Some h) = refl

pub asks_there : {H : Type 0} (seen : H → Counts) (asks : List (Ask H)) →
    map seen (own_hooks asks) ≡ flat_map option_to_list (map (hook_of seen) asks)
asks_there seen [] = refl
asks_there {H} seen (a ∷ rest) =
    map-append seen (option_to_list a.hook) (own_hooks rest)
    ∙ (ap (λ z. z ++ map seen (own_hooks rest)) (one_there seen a.hook)
    ∙ ap (λ z. option_to_list (hook_of seen a) ++ z) (asks_there seen rest))

-- what those of all actors have counted
actors_there : {H : Type 0} (seen : H → Counts) (actors : List (Actor H)) →
    map seen (flat_map (λ actor. own_hooks actor.asks) actors)
    ≡ hooks_there (map (hooks_of seen) actors)
actors_there seen [] = refl
actors_there {H} seen (a ∷ rest) =
    map-append seen (own_hooks a.asks)
    (flat_map (λ (actor : Actor H). own_hooks actor.asks) rest)
    ∙ (ap (λ z. z ++ map seen (flat_map (λ (actor : Actor H). own_hooks actor.asks) rest))
    (asks_there seen a.asks)
    ∙ ap (λ z. flat_map option_to_list (hooks_of seen a) ++ z) (actors_there seen rest))

one_held : {H : Type 0} (hook : Option H) → length (option_to_list hook) ≡ held (is_some hook)
one_held None = refl
one_held (Some h) = refl

pub asks_held : {H : Type 0} (asks : List (Ask H)) →
    length (own_hooks asks) ≡ sum_by (λ ask. held (is_some ask.hook)) asks
asks_held [] = refl
asks_held {H} (a ∷ rest) =
    length-append (option_to_list a.hook) (own_hooks rest)
    ∙ (ap (λ n. n + length (own_hooks rest)) (one_held a.hook)
    ∙ (ap (λ n. held (is_some a.hook) + n) (asks_held rest) ∙ sym (sum_by-cons (λ (ask : Ask H). held (is_some ask.hook)) a rest)))

-- and how many they are
pub actors_held : {H : Type 0} (actors : List (Actor H)) →
    length (flat_map (λ actor. own_hooks actor.asks) actors) ≡ sum_by hooks_with actors
actors_held [] = refl
actors_held {H} (a ∷ rest) =
    length-append (own_hooks a.asks)
    (flat_map (λ (actor : Actor H). own_hooks actor.asks) rest)
    ∙ (ap (λ n. n + length (flat_map (λ (actor : Actor H). own_hooks actor.asks) rest))
    (asks_held a.asks)
    ∙ (ap (λ n. hooks_with a + n) (actors_held rest) ∙ sym (sum_by-cons hooks_with a rest)))

-- those of the machine behind them
pub racked_behind : {H : Type 0} (seen : H → Counts) (old given new : List H) (actors : List (Actor H)) (last : List Counts) →
    given ≡ old ++ flat_map (λ actor. own_hooks actor.asks) actors →
    IsRacked seen given new last → IsRacked seen old new (hooks_there (map (hooks_of seen) actors) ++ last)
racked_behind {H} seen old given new actors last is r = record {
  added = back ++ r.added;
  behind = r.behind ∙ (ap (λ z. z ++ r.added) is ∙ append_assoc old back r.added);
  are = map-append seen back r.added ∙ (ap (λ z. z ++ map seen r.added) (actors_there seen actors) ∙ ap (λ z. hooks_there (map (hooks_of seen) actors) ++ z) r.are);
}
  where
    back : List H
    back = flat_map (λ actor. own_hooks actor.asks) actors

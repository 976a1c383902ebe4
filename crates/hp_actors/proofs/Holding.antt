-- No hook is lost by a turn: what the machine takes or gives, the operation gives or has.
use Rattle.std.proofs.Common.{◌≡◌, ℕ, suc, ◌+◌, Bool, is_some, Option, Some, List, [], ◌∷◌, map, set, refl, ap, subst, arith}
use Rattle.std.specs.Prelude.{slice_get}
use Rattle.std.specs.List.{sum_by}
use Rattle.std.proofs.lemmas.List.Sums.{sum_by-set, sum_by-cons}
use Rattle.std.proofs.lemmas.Option.{slice_get_within, get_or_from_slice_get}
use Rattle.hp_board.specs.Contents.{Contents}
use Rattle.hp_board.specs.HookCount.{hook_count, held}
use Rattle.hp_board.specs.declared.turn.Ask.{Ask}
use Rattle.hp_account.specs.TableChanges.{is_setup}
use Rattle.hp_script.specs.Playable.{setups_in}
use Rattle.hp_table.specs.Step.{Step}
use Rattle.hp_actors.specs.Actors.{AreLoaded}
use Rattle.hp_actors.specs.declared.actor.Actor.{Actor}
use Rattle.hp_actors.specs.Positions.{op_of, ops_of}
use Rattle.hp_actors.specs.Racks.{IsFresh, hooks_with, hooks_in}
use Rattle.hp_actors.proofs.Taking.{setups_cons, sum_cons}

-- an operation's hook in place of the one that it had
pub asks_count : {H : Type 0} (asks : List (Ask H)) (n : ℕ) (ask now : Ask H) → slice_get asks n ≡ Some ask →
    sum_by (λ x. held (is_some x.hook)) (set asks n now) + held (is_some ask.hook)
    ≡ sum_by (λ x. held (is_some x.hook)) asks + held (is_some now.hook)
asks_count {H} asks n ask now at =
    subst (λ (x : Ask H).
    sum_by (λ x. held (is_some x.hook)) (set asks n now) + held (is_some x.hook)
    ≡ sum_by (λ x. held (is_some x.hook)) asks + held (is_some now.hook)) (get_or_from_slice_get asks n ask ask at)
    (sum_by-set (λ x. held (is_some x.hook)) asks n now ask (slice_get_within asks n ask at))

-- with what the machine gave or took
pub turn_holds : {H : Type 0} (old new : Contents) (asks : List (Ask H)) (n : ℕ) (ask now : Ask H) (had : Bool) →
    slice_get asks n ≡ Some ask → is_some now.hook ≡ had →
    hook_count new.places + held had ≡ hook_count old.places + held (is_some ask.hook) →
    hook_count new.places + sum_by (λ x. held (is_some x.hook)) (set asks n now)
    ≡ hook_count old.places + sum_by (λ x. held (is_some x.hook)) asks
turn_holds old new asks n ask now had at has kept =
    let c = asks_count asks n ask now at in
    let h : held (is_some now.hook) ≡ held had = ap held has in
    omega (arith, c, h, kept)

-- an actor in place of itself
pub actors_count : {H : Type 0} (actors : List (Actor H)) (i : ℕ) (actor now : Actor H) → slice_get actors i ≡ Some actor →
    sum_by hooks_with (set actors i now) + hooks_with actor ≡ sum_by hooks_with actors + hooks_with now
actors_count {H} actors i actor now at =
    subst (λ (x : Actor H). sum_by hooks_with (set actors i now) + hooks_with x ≡ sum_by hooks_with actors + hooks_with now)
    (get_or_from_slice_get actors i actor actor at)
    (sum_by-set hooks_with actors i now actor (slice_get_within actors i actor at))

pub all_hold : {H : Type 0} (places places_now : List (Option Step)) (actors : List (Actor H)) (i : ℕ) (actor now : Actor H) →
    slice_get actors i ≡ Some actor →
    hook_count places_now + hooks_with now ≡ hook_count places + hooks_with actor →
    hooks_in places_now (set actors i now) ≡ hooks_in places actors
all_hold places places_now actors i actor now at kept =
    let c = actors_count actors i actor now at in omega (arith, c, kept)

-- at the start each setup has its hook
pub loaded_count : {H : Type 0} (asks : List (Ask H)) → AreLoaded asks →
    sum_by (λ x. held (is_some x.hook)) asks ≡ setups_in (map op_of asks)
loaded_count [] loaded = refl
loaded_count (a ∷ more) loaded =
    let one : held (is_some a.hook) ≡ held (is_setup a.op) = ap held (loaded 0 a (omega arith)) in
    let rest = loaded_count more (λ k d below. loaded (suc k) d (omega (arith, below))) in
    let l = sum_by-cons (λ x. held (is_some x.hook)) a more in
    let r = setups_cons a.op (map op_of more) in
    omega (arith, one, rest, l, r)

pub fresh_count : {H : Type 0} (actors : List (Actor H)) → IsFresh actors →
    sum_by hooks_with actors ≡ sum_by setups_in (map ops_of actors)
fresh_count [] fresh = refl
fresh_count (a ∷ more) fresh =
    let one = loaded_count a.asks (fresh 0 a (omega arith)).1 in
    let rest = fresh_count more (λ k d below. fresh (suc k) d (omega (arith, below))) in
    let l = sum_by-cons hooks_with a more in
    let r = sum_cons (ops_of a) (map ops_of more) in
    omega (arith, one, rest, l, r)

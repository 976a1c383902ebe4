-- Operations take a rack's hooks, each in turn the last.
use Rattle.std.proofs.Common.{◌≡◌, Option, Some, None, IfSome, IfNone, List, [], ◌∷◌, ◌++◌, is_some, map, reverse, refl, ap, sym, ◌∙◌}
use Rattle.std.specs.Prelude.{option_map, option_to_list}
use Rattle.std.specs.List.{flat_map}
use Rattle.std.proofs.lemmas.Grind.{flat_map-append}
use Rattle.std.proofs.lemmas.List.{map-append, append-nil, append_assoc, reverse-append, length-reverse}
use Rattle.std.proofs.lemmas.List.Elements.{All-head, All-tail}
use Rattle.hp_board.specs.declared.turn.Ask.{Ask}
use Rattle.hp_hook.specs.Counted.{Counts}
use Rattle.hp_account.specs.TableChanges.{is_setup}
use Rattle.hp_actors.specs.Actors.{AreDealt, AreLoaded, agenda_at, own_hooks}
use Rattle.hp_actors.specs.declared.actor.Actor.{Actor}
use Rattle.hp_actors.specs.Hooks.{hooks_there, AreFromRack}
use Rattle.hp_actors.specs.Positions.{hook_of, hooks_of, op_of, ops_of}
use Rattle.hp_actors.specs.Racks.{IsFresh, Takes}
use Rattle.hp_actors.proofs.Giving.{asks_there, asks_held}
use Rattle.hp_actors.proofs.Holding.{loaded_count}
use Rattle.hp_script.specs.Playable.{setups_in}

-- one after the other
both_taken : (old now after xs ys zs : List Counts) → AreFromRack old now xs → AreFromRack now after ys → zs ≡ xs ++ ys →
    AreFromRack old after zs
both_taken old now after xs ys zs a b are =
    a
    ∙ (ap (λ z. z ++ reverse xs) b
    ∙ (append_assoc after (reverse ys) (reverse xs)
    ∙ ap (λ z. after ++ z) (sym (ap reverse are ∙ reverse-append xs ys))))

-- what is left of the rack
left_by : {H : Type 0} (now after : List H) (hook : Option H) → IfSome hook (λ h. now ≡ after ++ h ∷ []) → IfNone hook (now ≡ after) →
    now ≡ after ++ reverse (option_to_list hook)
left_by now after None some none = none ∙ sym (append-nil after)
left_by now after (Some h) some none = some

-- one operation more
pub dealt_more : {H : Type 0} (old now after : List H) (asks pushed : List (Ask H)) (ask : Ask H) → AreDealt old now asks →
    IfSome ask.hook (λ h. now ≡ after ++ h ∷ []) → IfNone ask.hook (now ≡ after) → pushed ≡ asks ++ ask ∷ [] → AreDealt old after pushed
dealt_more {H} old now after asks pushed ask before some none is =
    before
    ∙ (ap (λ z. z ++ reverse (own_hooks asks)) (left_by now after ask.hook some none)
    ∙ (append_assoc after (reverse (option_to_list ask.hook)) (reverse (own_hooks asks))
    ∙ ap (λ z. after ++ z) (sym (reverse-append (own_hooks asks) (option_to_list ask.hook)) ∙ ap reverse (sym hooks))))
  where
    hooks : own_hooks pushed ≡ own_hooks asks ++ option_to_list ask.hook
    hooks =
        ap own_hooks is
        ∙ (flat_map-append (λ (a : Ask H). option_to_list a.hook) asks (ask ∷ [])
        ∙ ap (λ z. own_hooks asks ++ z) (append-nil (option_to_list ask.hook)))

-- as many as there are setups
pub dealt_takes : {H : Type 0} (old new : List H) (asks : List (Ask H)) → AreDealt old new asks → AreLoaded asks →
    Takes old new (setups_in (map op_of asks))
dealt_takes old new asks dealt loaded = record {
  taken = reverse (own_hooks asks);
  old_is = dealt;
  count_is = length-reverse (own_hooks asks) ∙ (asks_held asks ∙ loaded_count asks loaded);
}

map_reverse : {X Y : Type 0} (f : X → Y) (xs : List X) → map f (reverse xs) ≡ reverse (map f xs)
map_reverse f [] = refl
map_reverse f (x ∷ xs) =
    ap (map f) (reverse-append (x ∷ []) xs)
    ∙ (map-append f (reverse xs) (x ∷ [])
    ∙ (ap (λ z. z ++ f x ∷ []) (map_reverse f xs) ∙ sym (reverse-append (f x ∷ []) (map f xs))))

-- what they have counted
pub dealt_counts : {H : Type 0} (seen : H → Counts) (old new : List H) (actor : Actor H) → AreDealt old new actor.asks →
    AreFromRack (map seen old) (map seen new) (flat_map option_to_list (hooks_of seen actor))
dealt_counts seen old new actor dealt =
    ap (map seen) dealt
    ∙ (map-append seen new (reverse (own_hooks actor.asks))
    ∙ ap (λ z. map seen new ++ z) (map_reverse seen (own_hooks actor.asks) ∙ ap reverse (asks_there seen actor.asks)))

-- one actor more
pub actors_taken : {H : Type 0} (seen : H → Counts) (old now after : List H) (actors pushed : List (Actor H)) (actor : Actor H) →
    AreFromRack (map seen old) (map seen now) (hooks_there (map (hooks_of seen) actors)) →
    AreFromRack (map seen now) (map seen after) (flat_map option_to_list (hooks_of seen actor)) → pushed ≡ actors ++ actor ∷ [] →
    AreFromRack (map seen old) (map seen after) (hooks_there (map (hooks_of seen) pushed))
actors_taken seen old now after actors pushed actor before own is =
    both_taken (map seen old) (map seen now) (map seen after) (hooks_there (map (hooks_of seen) actors))
    (flat_map option_to_list (hooks_of seen actor)) (hooks_there (map (hooks_of seen) pushed)) before own
    (ap (λ z. hooks_there (map (hooks_of seen) z)) is
    ∙ (ap hooks_there (map-append (hooks_of seen) actors (actor ∷ []))
    ∙ (flat_map-append (flat_map option_to_list) (map (hooks_of seen) actors) (hooks_of seen actor ∷ [])
    ∙ ap (λ z. hooks_there (map (hooks_of seen) actors) ++ z) (append-nil (flat_map option_to_list (hooks_of seen actor))))))

pub none_dealt : {H : Type 0} (old : List H) → AreDealt old old []
none_dealt old = sym (append-nil old)

pub none_taken : (old : List Counts) → AreFromRack old old []
none_taken old = sym (append-nil old)

-- ---- each setup has one

asks_loaded : {H : Type 0} (seen : H → Counts) (asks : List (Ask H)) → AreLoaded asks →
    map is_some (map (hook_of seen) asks) ≡ map is_setup (map op_of asks)
asks_loaded seen [] loaded = refl
asks_loaded {H} seen (a ∷ rest) loaded =
    let first : is_some (hook_of seen a) ≡ is_setup a.op =
    seen_some seen a.hook ∙ All-head (λ (ask : Ask H). is_some ask.hook ≡ is_setup ask.op) a rest loaded in
    ap (λ z. z ∷ map is_some (map (hook_of seen) rest)) first
    ∙ ap (λ z. is_setup a.op ∷ z) (asks_loaded seen rest (All-tail (λ (ask : Ask H). is_some ask.hook ≡ is_setup ask.op) a rest loaded))
  where
    seen_some : (seen : H → Counts) (hook : Option H) → is_some (option_map seen hook) ≡ is_some hook
    seen_some seen None = refl
    seen_some seen (Some h) = refl

pub actors_loaded : {H : Type 0} (seen : H → Counts) (actors : List (Actor H)) → IsFresh actors →
    map (map is_some) (map (hooks_of seen) actors) ≡ map (map is_setup) (map ops_of actors)
actors_loaded seen [] fresh = refl
actors_loaded {H} seen (a ∷ rest) fresh =
    let P : Actor H → Type 0 = λ actor. (actor ≡ agenda_at actor.asks 0) × AreLoaded actor.asks in
    ap (λ z. z ∷ map (map is_some) (map (hooks_of seen) rest)) (asks_loaded seen a.asks (All-head P a rest fresh).1)
    ∙ ap (λ z. map is_setup (ops_of a) ∷ z) (actors_loaded seen rest (All-tail P a rest fresh))

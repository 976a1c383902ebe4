-- Each setup takes a hook of the rack.
use Rattle.std.proofs.Common.{◌≡◌, ℕ, ◌+◌, ◌<◌, Bool, true, cond, is_some, IfSome, IfNone, Option, Some, None, List, [], ◌∷◌, ◌++◌, length, length-append, drop, get_or, ap, ◌∙◌, arith}
use Rattle.std.specs.Prelude.{slice_get}
use Rattle.std.specs.List.{sum_by}
use Rattle.std.proofs.lemmas.List.Sums.{sum_by-cons}
use Rattle.std.proofs.lemmas.Option.{get_or_from_slice_get, slice_get_within}
use Rattle.hp_states.proofs.Basics.{drop_at}
use Rattle.hp_event.specs.declared.op.Op.{Op}
use Rattle.hp_account.specs.TableChanges.{is_setup}
use Rattle.hp_script.specs.Playable.{setups_in}

abbrev pub count_of : Bool → ℕ
count_of b = cond b 1 0

-- what is left of the setups
pub setups_left : (ops : List Op) (i : ℕ) (d : Op) → i < length ops →
    setups_in (drop i ops) ≡ count_of (is_setup (get_or ops i d)) + setups_in (drop (i + 1) ops)
setups_left ops i d below =
    ap setups_in (drop_at ops i d below) ∙ sum_by-cons (λ op. count_of (is_setup op)) (get_or ops i d) (drop (i + 1) ops)

pub rack_left : {H : Type 0} (now after : List H) (hook : Option H) → IfSome hook (λ h. now ≡ after ++ h ∷ []) →
    IfNone hook (now ≡ after) → length now ≡ length after + count_of (is_some hook)
rack_left now after None some none = let e = ap length none in omega (arith, e)
rack_left now after (Some h) some none = ap length some ∙ length-append after (h ∷ [])

pub counted_one : (b : Bool) → b ≡ true → count_of b ≡ 1
counted_one b is = ap count_of is

-- and of the actors' setups
pub actors_left : (actors : List (List Op)) (i : ℕ) (ops : List Op) → slice_get actors i ≡ Some ops →
    sum_by setups_in (drop i actors) ≡ setups_in ops + sum_by setups_in (drop (i + 1) actors)
actors_left actors i ops at =
    let below = slice_get_within actors i ops at in
    ap (sum_by setups_in) (drop_at actors i ops below)
    ∙ (sum_by-cons setups_in (get_or actors i ops) (drop (i + 1) actors)
    ∙ ap (λ z. setups_in z + sum_by setups_in (drop (i + 1) actors)) (get_or_from_slice_get actors i ops ops at))

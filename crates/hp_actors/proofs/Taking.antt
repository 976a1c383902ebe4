-- The hooks that setups take from a rack.
use Rattle.std.proofs.Common.{◌≡◌, ℕ, ◌+◌, ◌<◌, Bool, true, cond, is_some, IfSome, IfNone, Option, Some, None, List, [], ◌∷◌, ◌++◌, length, length-append, append_assoc, append-nil, take, drop, get_or, refl, ap, sym, ◌∙◌, arith}
use Rattle.std.specs.Prelude.{slice_get}
use Rattle.std.specs.List.{sum_by}
use Rattle.std.proofs.lemmas.List.Sums.{sum_by-cons}
use Rattle.std.proofs.lemmas.Option.{get_or_from_slice_get, slice_get_within}
use Rattle.hp_states.proofs.Basics.{drop_at, take_at}
use Rattle.hp_event.specs.declared.op.Op.{Op}
use Rattle.hp_event.specs.declared.op.Op.TheVariants.{Setup}
use Rattle.hp_account.specs.TableChanges.{is_setup}
use Rattle.hp_event.specs.Ops.{is_setup as counts}
use Rattle.hp_script.specs.Playable.{setups_in}
use Rattle.hp_actors.specs.Racks.{Takes}

pub setups_cons : (op : Op) (ops : List Op) → setups_in (op ∷ ops) ≡ (cond (is_setup op) 1 0) + setups_in ops
setups_cons op ops = sum_by-cons one op ops ∙ ap (λ n. n + setups_in ops) (same op)
  where
    one : Op → ℕ
    one op = cond (counts op) 1 0

    same : (op : Op) → one op ≡ (cond (is_setup op) 1 0)
    same (Setup s sub form) = refl
    same op = refl

-- what is left of the setups
pub setups_left : (ops : List Op) (i : ℕ) (d : Op) → i < length ops →
    setups_in (drop i ops) ≡ (cond (is_setup (get_or ops i d)) 1 0) + setups_in (drop (i + 1) ops)
setups_left ops i d below = ap setups_in (drop_at ops i d below) ∙ setups_cons (get_or ops i d) (drop (i + 1) ops)

pub rack_left : {H : Type 0} (now after : List H) (hook : Option H) → IfSome hook (λ h. now ≡ after ++ h ∷ []) →
    IfNone hook (now ≡ after) → length now ≡ length after + (cond (is_some hook) 1 0)
rack_left now after None some none = let e = ap length none in omega (arith, e)
rack_left now after (Some h) some none = ap length some ∙ length-append after (h ∷ [])

-- those of two
pub takes_both : {H : Type 0} (old now after : List H) (n m k : ℕ) → Takes old now n → Takes now after m → k ≡ n + m → Takes old after k
takes_both old now after n m k s t is = record {
  taken = t.taken ++ s.taken;
  old_is = s.old_is ∙ (ap (λ z. z ++ s.taken) t.old_is ∙ append_assoc after t.taken s.taken);
  count_is =
      let l = length-append t.taken s.taken in
      let a = s.count_is in
      let b = t.count_is in
      omega (arith, l, a, b, is);
}

pub takes_none : {H : Type 0} (old : List H) → Takes old old 0
takes_none old = record { taken = []; old_is = sym (append-nil old); count_is = refl }

pub sum_cons : (ops : List Op) (more : List (List Op)) → sum_by setups_in (ops ∷ more) ≡ setups_in ops + sum_by setups_in more
sum_cons ops more = sum_by-cons setups_in ops more

sum_push : (actors : List (List Op)) (ops : List Op) → sum_by setups_in (actors ++ ops ∷ []) ≡ sum_by setups_in actors + setups_in ops
sum_push [] ops = let e = sum_cons ops [] in let z : sum_by setups_in [] ≡ 0 = refl in omega (arith, e, z)
sum_push (x ∷ xs) ops =
    let a = sum_cons x (xs ++ ops ∷ []) in
    let b = sum_push xs ops in
    let d = sum_cons x xs in
    omega (arith, a, b, d)

-- the setups of the actors that are left, and of those that were met
pub actors_left : (actors : List (List Op)) (i : ℕ) (ops : List Op) → slice_get actors i ≡ Some ops →
    sum_by setups_in (drop i actors) ≡ setups_in ops + sum_by setups_in (drop (i + 1) actors)
actors_left actors i ops at =
    let below = slice_get_within actors i ops at in
    ap (sum_by setups_in) (drop_at actors i ops below)
    ∙ (sum_cons (get_or actors i ops) (drop (i + 1) actors)
    ∙ ap (λ z. setups_in z + sum_by setups_in (drop (i + 1) actors)) (get_or_from_slice_get actors i ops ops at))

pub actors_met : (actors : List (List Op)) (i : ℕ) (ops : List Op) → slice_get actors i ≡ Some ops →
    sum_by setups_in (take (i + 1) actors) ≡ sum_by setups_in (take i actors) + setups_in ops
actors_met actors i ops at =
    let below = slice_get_within actors i ops at in
    ap (sum_by setups_in) (take_at actors i ops below)
    ∙ (sum_push (take i actors) (get_or actors i ops)
    ∙ ap (λ z. sum_by setups_in (take i actors) + setups_in z) (get_or_from_slice_get actors i ops ops at))

pub take_next : (actors : List (List Op)) (i : ℕ) (ops : List Op) → slice_get actors i ≡ Some ops →
    take (i + 1) actors ≡ take i actors ++ ops ∷ []
take_next actors i ops at =
    let below = slice_get_within actors i ops at in
    take_at actors i ops below ∙ ap (λ z. take i actors ++ z ∷ []) (get_or_from_slice_get actors i ops ops at)

pub takes_length : {H : Type 0} (old new : List H) (n : ℕ) → Takes old new n → length old ≡ length new + n
takes_length old new n t =
    let l = length-append new t.taken in
    let e : length old ≡ length (new ++ t.taken) = ap length t.old_is in
    let c = t.count_is in
    omega (arith, l, e, c)

-- what a condition counts, where it holds
pub counted_one : (b : Bool) → b ≡ true → ◌≡◌ {A = ℕ} (cond b 1 0) 1
counted_one b h = ap (λ z. cond z 1 0) h

pub counted_same : (a b : Bool) → a ≡ b → ◌≡◌ {A = ℕ} (cond a 1 0) (cond b 1 0)
counted_same a b h = ap (λ z. cond z 1 0) h

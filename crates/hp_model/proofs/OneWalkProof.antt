-- While a processor walks, no other one has walked since its walk began, in a lawful journal and but in an upmany.
use Rattle.std.proofs.Common.{◌≡◌, ℕ, Bool, true, false, cond, eqb, is_some, Some, None, List, [], ◌∷◌, ◌++◌, refl, ap, sym, ◌∙◌, inl, inr, ◌⊎◌, subst}
use Rattle.std.proofs.lemmas.Bool.{eqb-true}
use Rattle.hp_states.proofs.Basics.{none_some, same_some}
use Rattle.hp_event.specs.declared.head.Head.{Head}
use Rattle.hp_event.specs.declared.event.Event.{Event}
use Rattle.hp_event.specs.declared.event.Event.TheVariants.{Enter, WalkBegin, WalkEnd, OpEnd}
use Rattle.hp_model.specs.Walks.{Walk, walk, is_walking, touched}
use Rattle.hp_model.specs.Lawful.{Comes, IsLawful}
use Rattle.hp_model.specs.Headline.{Unchanged}
use Rattle.hp_model.specs.OneWalk.{IsOnlyWalk, LeavesOthers, WalksAlone}
use Rattle.hp_model.proofs.Laws.{walk_push, operation_push, touched_push}
use Rattle.hp_model.proofs.InFlight.{walk_none}
use Rattle.hp_model.proofs.Owners.{Owners, alone_at, enters_at_rest, over_at_rest}
use Rattle.hp_model.proofs.OneNext.{owners}
use Rattle.hp_model.proofs.Beside.{beside}
use Rattle.hp_model.proofs.HeadlineProof.{lawful_front, others_unchanged}
use Rattle.hp_model.specs.MapLock.{operation}
use Rattle.hp_model.specs.Suspend.{held_by}
use Rattle.hp_model.specs.Batch.{is_upmany}
use Rattle.hp_model.proofs.Induction.{holds}

abbrev Untouched : List Event → Type 0
Untouched xs =
    (c o : ℕ) (w : Walk) → walk c xs ≡ Some w → held_by is_upmany (operation xs) ≡ false → (o ≡ c → ⊥) →
    touched c o xs ≡ false

untouched_step : (head : Head) (xs : List Event) (e : Event) → Comes head xs e → Owners xs → Untouched xs → Untouched (xs ++ e ∷ [])
untouched_step head xs (Enter seat op) h own u =
    λ c o w q m other. absurd (enters_at_rest head xs seat op own h c w (rw (walk_push c xs (Enter seat op)) at q))
untouched_step head xs (OpEnd seat answer) h own u =
    λ c o w q m other.
    absurd (none_some w (sym (walk_none xs (over_at_rest head xs seat answer own h) c) ∙ (rw (walk_push c xs (OpEnd seat answer)) at q)))
untouched_step head xs (WalkBegin seat cpu from to) h own u =
    λ c o w q m other.
    let single = rw (operation_push xs (WalkBegin seat cpu from to)) at m in
    let at = h.held in
    let single1 : is_upmany h.of.op ≡ false = rw at at single in
    let still = alone_at (is_upmany h.of.op) (is_walking xs) h.between single1 in
    touched_push c o xs (WalkBegin seat cpu from to)
    ∙ go still c o w other (eqb cpu c) refl (eqb cpu o) refl (rw (walk_push c xs (WalkBegin seat cpu from to)) at q)
  where
    n : Walk
    n = record { seat = seat; from = from; to = to; before = xs }

    go : is_walking xs ≡ false → (c o : ℕ) (w : Walk) → (o ≡ c → ⊥) → (b : Bool) → eqb cpu c ≡ b → (a : Bool) → eqb cpu o ≡ a →
        cond b (Some n) (walk c xs) ≡ Some w → cond a true (cond b (is_some (walk o xs)) (touched c o xs)) ≡ false
    go still c o w other true e true f q = absurd (other (sym (eqb-true cpu o f) ∙ eqb-true cpu c e))
    go still c o w other true e false f q = ap is_some (walk_none xs still o)
    go still c o w other false e a f q = absurd (none_some w (sym (walk_none xs still c) ∙ q))
untouched_step head xs (WalkEnd seat cpu answer) h own u =
    λ c o w q m other.
    touched_push c o xs (WalkEnd seat cpu answer)
    ∙ u c o w (go c w (eqb cpu c) (rw (walk_push c xs (WalkEnd seat cpu answer)) at q)) (rw (operation_push xs (WalkEnd seat cpu answer)) at m) other
  where
    go : (c : ℕ) (w : Walk) (b : Bool) → cond b None (walk c xs) ≡ Some w → walk c xs ≡ Some w
    go c w true q = absurd (none_some w q)
    go c w false q = q
untouched_step head xs e h own u =
    λ c o w q m other. touched_push c o xs e ∙ u c o w (rw (walk_push c xs e) at q) (rw (operation_push xs e) at m) other

untouched : (head : Head) (xs : List Event) → IsLawful head xs → Untouched xs
unfolding walk
untouched head xs h =
    holds head Untouched (λ c o w q m other. absurd (none_some w q)) (λ xs e s k u. untouched_step head xs e s.0 k.owners u) xs h

-- the walks in flight are of one seat
pub one_seats : (head : Head) (events : List Event) → IsLawful head events → (c d : ℕ) (w v : Walk) → walk c events ≡ Some w →
    walk d events ≡ Some v → w.seat ≡ v.seat
one_seats head events h c d w v q p =
    let own = owners head events h in
    let a = own.walk_op c w q in
    let b = own.walk_op d v p in
    let same : a.0 ≡ b.0 = same_some a.0 b.0 (sym a.1 ∙ b.1) in
    sym a.2 ∙ (ap (λ z. z.seat) same ∙ b.2)

only_walk : (head : Head) (events : List Event) → IsLawful head events → IsOnlyWalk events
only_walk head events h c d w v q p = go (held_by is_upmany (operation events)) refl
  where
    go : (b : Bool) → held_by is_upmany (operation events) ≡ b → (c ≡ d) ⊎ (held_by is_upmany (operation events) ≡ true)
    go true e = inr e
    go false e = inl ((owners head events h).one_walk c d w v q p e)

leaves_others : (head : Head) (events : List Event) → IsLawful head events → LeavesOthers events
leaves_others head events h before seat cpu answer w is q other apart =
    let front = lawful_front head before (WalkEnd seat cpu answer ∷ []) (subst (λ z. IsLawful head z) is h) in
    subst (λ z. Unchanged other w.before z) (sym is)
    (others_unchanged head before seat cpu answer w other (beside head before front) q apart)

pub one_walk : (head : Head) (events : List Event) → IsLawful head events → WalksAlone events
one_walk head events h = record {
  held = (owners head events h).walk_op;
  one = only_walk head events h;
  since_begin = untouched head events h;
  others = leaves_others head events h;
}

pub one_walk_of_front : (head : Head) (front rest : List Event) → IsLawful head (front ++ rest) → WalksAlone front
one_walk_of_front head front rest h = one_walk head front (lawful_front head front rest h)

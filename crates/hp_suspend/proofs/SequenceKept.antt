-- Every lawful journal keeps what a sequence in flight has done and has still to do, and its record is in rising number.
use Rattle.std.proofs.Common.{◌≡◌, ℕ, Bool, true, false, cond, not, ◌&&◌, eqb, Option, Some, None, List, [], ◌∷◌, ◌++◌, refl, ap, sym, ◌∙◌, subst, append_assoc}
use Rattle.std.specs.Prelude.{filter}
use Rattle.std.proofs.lemmas.List.{append-nil}
use Rattle.std.proofs.lemmas.Bool.{false≢true}
use Rattle.hp_states.proofs.Basics.{none_some, same_some}
use Rattle.hp_event.specs.declared.op.Op.{Op}
use Rattle.hp_event.specs.declared.op.Op.TheVariants.{Freeze}
use Rattle.hp_event.specs.declared.head.Head.{Head}
use Rattle.hp_event.specs.declared.event.Event.{Event}
use Rattle.hp_event.specs.declared.event.Event.TheVariants.{Enter, WalkBegin, WalkEnd, OpEnd}
use Rattle.hp_model.specs.Journal.{EachAfter}
use Rattle.hp_model.specs.Lists.{among, numbers, without}
use Rattle.hp_model.specs.Walks.{Walk, walk, walking, is_walking}
use Rattle.hp_model.specs.Batch.{is_upmany}
use Rattle.hp_model.specs.MapLock.{Operation, operation}
use Rattle.hp_model.specs.Settled.{is_online}
use Rattle.hp_model.specs.Processors.{online}
use Rattle.hp_model.specs.Suspend.{is_ok, is_freeze, is_thaw, held_by, frozen}
use Rattle.hp_model.specs.Sequence.{primary_of}
use Rattle.hp_model.specs.Lawful.{Comes, Stands, IsLawful}
use Rattle.hp_model.proofs.Laws.{operation_push, walking_push, begun_push, answers_push, frozen_push, settled_push, walk_push}
use Rattle.hp_model.proofs.InFlight.{empty_of, none_walking}
use Rattle.hp_model.proofs.Induction.{kept}
use Rattle.hp_model.proofs.HeadlineProof.{lawful_more}
use Rattle.hp_model.proofs.OneNext.{owners}
use Rattle.hp_model.proofs.Owners.{Owners, map_free, alone_at, over_at_rest}
use Rattle.hp_model.proofs.ListLemmas.{filter_both}
use Rattle.hp_suspend.proofs.Rows.{listed_front, listed_none}
use Rattle.hp_suspend.proofs.Stuck.{faults_come}
use Rattle.hp_suspend.proofs.Sequenced.{walks_many, task, Recording, InSequence, IsSingle, Sequenced}
use Rattle.hp_suspend.proofs.Todo.{once_of}
use Rattle.hp_suspend.proofs.SequenceSteps.{Calm, calm_in, enter_in, many_single, begin_in, end_in}

-- the record of a freeze is the first part of its task
listed_freeze : (head : Head) (op : Op) (entered events : List Event) (d : List ℕ) → is_freeze op ≡ true →
    Recording (task head op entered) d events → frozen events ≡ filter (λ c. among c (frozen events)) (numbers head.possible)
listed_freeze head (Freeze p) entered events d f r =
    listed_front (λ c. is_online c entered && not (eqb c (primary_of p (online head entered)))) head.possible (frozen events) r.more
    (sym (filter_both (λ c. is_online c entered) (λ c. not (eqb c (primary_of p (online head entered)))) (numbers head.possible))
    ∙ r.front)
listed_freeze head op entered events d f r = absurd (false≢true f)

many_freeze : (op : Op) → is_freeze op ≡ true → walks_many op ≡ true
many_freeze (Freeze p) f = refl
many_freeze op f = absurd (false≢true f)

-- where nothing holds the map lock, nothing walks
idle_walk : (xs : List Event) → Owners xs → operation xs ≡ None → (c : ℕ) → walk c xs ≡ None
idle_walk xs o free c = go (walk c xs) refl
  where
    go : (w : Option Walk) → walk c xs ≡ w → w ≡ None
    go None e = refl
    go (Some w) e = let r = o.walk_op c w e in absurd (none_some r.0 (sym free ∙ r.1))

-- an event that changes nothing of it
calm_step : (head : Head) (xs ys : List Event) → Calm xs ys → operation ys ≡ operation xs → Sequenced head xs → Sequenced head ys
calm_step head xs ys m same k = record {
  listed = subst (λ zs. zs ≡ filter (λ c. among c zs) (numbers head.possible)) (sym m.frozen_same) k.listed;
  single = λ n. rw m.walking_same (k.single (rw same at n));
  at = λ o q many. calm_in head o.op o.before xs ys m (k.at o (sym same ∙ q) many);
}

same_list : (head : Head) (fs gs : List ℕ) → gs ≡ fs → fs ≡ filter (λ c. among c fs) (numbers head.possible) →
    gs ≡ filter (λ c. among c gs) (numbers head.possible)
same_list head fs gs e h = subst (λ zs. zs ≡ filter (λ c. among c zs) (numbers head.possible)) (sym e) h

-- emptied, or as it was
emptied : (head : Head) (b : Bool) (fs gs : List ℕ) → gs ≡ cond b [] fs → fs ≡ filter (λ c. among c fs) (numbers head.possible) →
    gs ≡ filter (λ c. among c gs) (numbers head.possible)
emptied head true fs gs e h = same_list head [] gs e (listed_none head.possible)
emptied head false fs gs e h = same_list head fs gs e h

sequenced_step : (head : Head) (xs : List Event) (e : Event) → IsLawful head xs → Comes head xs e → Sequenced head xs →
    Sequenced head (xs ++ e ∷ [])
sequenced_step head xs (Enter seat op) l h k =
    let free : operation xs ≡ None = map_free xs op h.takes_map h.passes.not_waiting in
    let still = idle_walk xs (owners head xs l) free in
    let rests : walking xs ≡ [] = none_walking xs still in
    record {
      listed = emptied head (is_freeze op) (frozen xs) (frozen (xs ++ Enter seat op ∷ [])) (frozen_push xs (Enter seat op)) k.listed;
      single = λ n. rw (walking_push xs (Enter seat op), rests) tt;
      at = λ o q many.
          let n : Operation = record { seat = seat; op = op; before = xs } in
          let s : n ≡ o = same_some n o (sym (operation_push xs (Enter seat op)) ∙ q) in
          subst (λ z. InSequence head z.op z.before (xs ++ Enter seat op ∷ [])) s (enter_in head xs seat op rests still);
    }
sequenced_step head xs (WalkBegin seat cpu from to) l h k = record {
  listed = same_list head (frozen xs) (frozen (xs ++ WalkBegin seat cpu from to ∷ [])) (frozen_push xs (WalkBegin seat cpu from to)) k.listed;
  single = λ n.
      let m = rw (operation_push xs (WalkBegin seat cpu from to)) at n in
      let held = h.held in
      let u : is_upmany h.of.op ≡ false = rw held at m in
      rw (walking_push xs (WalkBegin seat cpu from to), empty_of (walking xs) (alone_at (is_upmany h.of.op) (is_walking xs) h.between u)) tt;
  at = λ o q many.
      let s : h.of ≡ o = same_some h.of o (sym h.held ∙ (sym (operation_push xs (WalkBegin seat cpu from to)) ∙ q)) in
      let m : walks_many h.of.op ≡ true = ap (λ z. walks_many z.op) s ∙ many in
      let i : InSequence head h.of.op h.of.before xs = k.at h.of h.held m in
      subst (λ z. InSequence head z.op z.before (xs ++ WalkBegin seat cpu from to ∷ [])) s
      (begin_in head xs seat cpu from to h m (once_of head h.of.op h.of.before xs k.listed i) i);
}
sequenced_step head xs (WalkEnd seat cpu answer) l h k =
    let r = (owners head xs l).walk_op cpu h.of h.in_flight in
    record {
      listed = go r.0 r.1 (is_freeze r.0.op) refl;
      single = λ n.
          ends (walking xs) (k.single (rw (operation_push xs (WalkEnd seat cpu answer)) at n)) (walking_push xs (WalkEnd seat cpu answer));
      at = λ o q many. ended o (sym (operation_push xs (WalkEnd seat cpu answer)) ∙ q) many;
    }
  where
    ended : (o : Operation) → operation xs ≡ Some o → walks_many o.op ≡ true →
        InSequence head o.op o.before (xs ++ WalkEnd seat cpu answer ∷ [])
    ended o q many =
        let i : InSequence head o.op o.before xs = k.at o q many in
        end_in head xs seat cpu answer o h q many (once_of head o.op o.before xs k.listed i) (kept head xs l)
        (k.single (rw q (many_single o.op many)))
        (faults_come head xs l) i

    go : (o : Operation) → operation xs ≡ Some o → (b : Bool) → is_freeze o.op ≡ b →
        frozen (xs ++ WalkEnd seat cpu answer ∷ [])
        ≡ filter (λ c. among c (frozen (xs ++ WalkEnd seat cpu answer ∷ []))) (numbers head.possible)
    go o q true f =
        let i = ended o q (many_freeze o.op f) in
        listed_freeze head o.op o.before (xs ++ WalkEnd seat cpu answer ∷ []) i.done f (i.recorded f)
    go o q false f =
        same_list head (frozen xs) (frozen (xs ++ WalkEnd seat cpu answer ∷ []))
        (frozen_push xs (WalkEnd seat cpu answer)
        ∙ ap (λ b. cond (b && is_ok answer) (frozen xs ++ cpu ∷ []) (frozen xs)) (ap (held_by is_freeze) q ∙ f))
        k.listed

    ends : (ws : List ℕ) → IsSingle ws → walking (xs ++ WalkEnd seat cpu answer ∷ []) ≡ without cpu ws →
        IsSingle (walking (xs ++ WalkEnd seat cpu answer ∷ []))
    ends [] s e = rw e tt
    ends (c ∷ []) s e = rw e (one (not (eqb c cpu)))
      where
        one : (b : Bool) → IsSingle (cond b (c ∷ []) [])
        one true = tt
        one false = tt
    ends (c ∷ (d ∷ ws)) s e = absurd s
sequenced_step head xs (OpEnd seat answer) l h k = record {
  listed =
      emptied head (held_by is_thaw (operation xs)) (frozen xs) (frozen (xs ++ OpEnd seat answer ∷ []))
      (frozen_push xs (OpEnd seat answer)) k.listed;
  single = λ n.
      rw (walking_push xs (OpEnd seat answer), empty_of (walking xs) (over_at_rest head xs seat answer (owners head xs l) h)) tt;
  at = λ o q many. absurd (none_some o (sym (operation_push xs (OpEnd seat answer)) ∙ q));
}
sequenced_step head xs e l h k =
    calm_step head xs (xs ++ e ∷ [])
    (record {
      walking_same = walking_push xs e;
      begun_same = begun_push xs e;
      answers_same = answers_push xs e;
      frozen_same = frozen_push xs e;
      settled_same = λ c. settled_push c xs e;
      walk_same = λ c. walk_push c xs e;
    })
    (operation_push xs e) k

sequenced_none : (head : Head) → Sequenced head []
unfolding frozen walking operation
sequenced_none head = record {
  listed = listed_none head.possible;
  single = λ n. tt;
  at = λ o q many. absurd (none_some o q);
}

sequenced_from : (head : Head) (before es : List Event) → IsLawful head before → Sequenced head before →
    EachAfter (Stands head) before es → Sequenced head (before ++ es)
sequenced_from head before [] l k h = rw append-nil k
sequenced_from head before (e ∷ es) l k h =
    let r = sequenced_from head (before ++ e ∷ []) es (lawful_more head before e l h.0) (sequenced_step head before e l h.0.0 k) h.1 in
    rw (append_assoc before (e ∷ []) es) at r

pub sequenced : (head : Head) (events : List Event) → IsLawful head events → Sequenced head events
sequenced head events h = sequenced_from head [] events (h.0, tt) (sequenced_none head) h.1

-- the record of the last freeze is in rising number
pub record_rises : (head : Head) (events : List Event) → IsLawful head events →
    frozen events ≡ filter (λ c. among c (frozen events)) (numbers head.possible)
record_rises head events h = (sequenced head events h).listed

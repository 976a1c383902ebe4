-- A processor with no walk in flight since the WalkBegin of another is as it was then.
use Rattle.std.proofs.Common.{◌≡◌, ℕ, Bool, true, false, cond, eqb, Option, Some, None, List, [], ◌∷◌, ◌++◌, refl, sym, ◌∙◌, inl, inr, ◌⊎◌, is_some}
use Rattle.std.proofs.lemmas.Bool.{true≢false, eqb-true}
use Rattle.hp_states.specs.declared.dir.Dir.{Dir}
use Rattle.hp_event.specs.declared.how.How.{How}
use Rattle.hp_event.specs.declared.answer.Answer.{Answer}
use Rattle.hp_event.specs.declared.head.Head.{Head}
use Rattle.hp_event.specs.declared.event.Event.{Event}
use Rattle.hp_event.specs.declared.event.Event.TheVariants.{WalkBegin, Call, WalkEnd, RegBegin, RegEnd}
use Rattle.hp_model.specs.InForce.{done_entries}
use Rattle.hp_model.specs.Walks.{Walk, walk, touched}
use Rattle.hp_model.specs.Settled.{settled}
use Rattle.hp_model.specs.StandsCalls.{InWalk, InRegistration}
use Rattle.hp_model.specs.StandsOperations.{WalkEnds}
use Rattle.hp_model.specs.Lawful.{Comes, IsLawful}
use Rattle.hp_model.proofs.Laws.{walk_push, touched_push}
use Rattle.hp_model.proofs.Kept.{RegistrationKept, Kept, Unmoved}
use Rattle.hp_model.proofs.WalkSteps.{unmoved_event, begin_unmoved, call_unmoved, end_unmoved}
use Rattle.hp_model.proofs.Induction.{holds}
use Rattle.hp_model.proofs.InFlight.{walk_none}
use Rattle.hp_model.proofs.Passing.{begins_alone}

pub record Still (c : ℕ) (before events : List Event) : Type 0 where
  pub no_walk : walk c events ≡ None
  pub settled_same : settled c events ≡ settled c before
  pub counts_same : (s i : ℕ) (d : Dir) → done_entries c s i d events ≡ done_entries c s i d before

abbrev pub BesideBy : (cpu other : ℕ) → List Event → Option Walk → Type 0
BesideBy c o events None = Unit {0}
BesideBy c o events (Some w) = touched c o events ≡ false → Still o w.before events

pub record Beside (events : List Event) : Type 0 where
  pub at : (c o : ℕ) → BesideBy c o events (walk c events)

pub still_on : (head : Head) (o : ℕ) (before xs ys : List Event) → Unmoved head o xs ys → Still o before xs → Still o before ys
still_on head o before xs ys u s = record {
  no_walk = u.walk_same ∙ s.no_walk;
  settled_same = u.settled_same ∙ s.settled_same;
  counts_same = λ t i d. u.counts_same t i d ∙ s.counts_same t i d;
}

-- an event that leaves the walk of c and moves nothing of the other
pub beside_on : (head : Head) (c o : ℕ) (xs ys : List Event) (w : Option Walk) → Unmoved head o xs ys →
    touched c o ys ≡ touched c o xs → BesideBy c o xs w → BesideBy c o ys w
beside_on head c o xs ys None u t b = tt
beside_on head c o xs ys (Some w) u t b = λ f. still_on head o w.before xs ys u (b (sym t ∙ f))

-- an event of the other's own walk can't come while it is still
pub beside_own : (c o : ℕ) (xs ys : List Event) (w : Option Walk) (v : Walk) → walk o xs ≡ Some v →
    touched c o ys ≡ touched c o xs → BesideBy c o xs w → BesideBy c o ys w
beside_own c o xs ys None v e t b = tt
beside_own c o xs ys (Some w) v e t b = λ f. absurd (some_none v (sym e ∙ (b (sym t ∙ f)).no_walk))
  where
    some_none : (v : Walk) → Some v ≡ None → ⊥
    some_none v h = cc

pub beside_touched : (c o : ℕ) (ys : List Event) (w : Option Walk) → touched c o ys ≡ true → BesideBy c o ys w
beside_touched c o ys None t = tt
beside_touched c o ys (Some w) t = λ f. absurd (true≢false (sym t ∙ f))

pub none_of : (w : Option Walk) → is_some w ≡ false → w ≡ None
none_of None h = refl
none_of (Some w) h = absurd (true≢false h)

pub beside_begin : (head : Head) (xs : List Event) (seat cpu from to : ℕ) → Beside xs →
    Beside (xs ++ WalkBegin seat cpu from to ∷ [])
beside_begin head xs seat cpu from to b = record {
  at = λ c o. rw (walk_push c xs (WalkBegin seat cpu from to)) (go c o (eqb cpu o) (eqb cpu c) refl refl);
}
  where
    ys : List Event
    ys = xs ++ WalkBegin seat cpu from to ∷ []

    w : Walk
    w = record { seat = seat; from = from; to = to; before = xs }

    go : (c o : ℕ) (p q : Bool) → eqb cpu o ≡ p → eqb cpu c ≡ q → BesideBy c o ys (cond q (Some w) (walk c xs))
    go c o true q e f =
        beside_touched c o ys (cond q (Some w) (walk c xs)) (touched_push c o xs (WalkBegin seat cpu from to) ∙ rw e refl)
    go c o false true e f =
        let u : Unmoved head o xs ys = begin_unmoved head o xs seat cpu from to e in
        let t : touched c o ys ≡ is_some (walk o xs) = touched_push c o xs (WalkBegin seat cpu from to) ∙ rw (e, f) refl in
        λ g. record {
          no_walk = u.walk_same ∙ none_of (walk o xs) (sym t ∙ g);
          settled_same = u.settled_same;
          counts_same = u.counts_same;
        }
    go c o false false e f =
        beside_on head c o xs ys (walk c xs) (begin_unmoved head o xs seat cpu from to e)
        (touched_push c o xs (WalkBegin seat cpu from to) ∙ rw (e, f) refl) (b.at c o)

pub beside_call : (head : Head) (xs : List Event) (seat cpu state inst : ℕ) (dir : Dir) (how : How) →
    InWalk head xs seat cpu state inst dir how ⊎ InRegistration head xs seat cpu state inst dir how →
    Kept head xs → Beside xs → Beside (xs ++ Call seat cpu state inst dir how ∷ [])
beside_call head xs seat cpu state inst dir how h k b = record {
  at = λ c o. rw (walk_push c xs (Call seat cpu state inst dir how)) (which c o h);
}
  where
    ys : List Event
    ys = xs ++ Call seat cpu state inst dir how ∷ []

    go : (c o : ℕ) (v : Walk) → walk cpu xs ≡ Some v → (p : Bool) → eqb cpu o ≡ p → BesideBy c o ys (walk c xs)
    go c o v f true e =
        let same : cpu ≡ o = eqb-true cpu o e in
        beside_own c o xs ys (walk c xs) v (rw same at f) (touched_push c o xs (Call seat cpu state inst dir how)) (b.at c o)
    go c o v f false e =
        beside_on head c o xs ys (walk c xs) (call_unmoved head o xs seat cpu state inst dir how e)
        (touched_push c o xs (Call seat cpu state inst dir how)) (b.at c o)

    which : (c o : ℕ) →
        InWalk head xs seat cpu state inst dir how ⊎ InRegistration head xs seat cpu state inst dir how →
        BesideBy c o ys (walk c xs)
    which c o (inl i) = go c o i.entry.of i.entry.in_flight (eqb cpu o) refl
    which c o (inr i) =
        let r : RegistrationKept head i.entry.of xs = rw i.entry.in_flight at k.registration_kept in
        rw (r.no_walk c) tt

pub beside_end : (head : Head) (xs : List Event) (seat cpu : ℕ) (answer : Answer) → WalkEnds head xs seat cpu answer →
    Beside xs → Beside (xs ++ WalkEnd seat cpu answer ∷ [])
beside_end head xs seat cpu answer h b = record {
  at = λ c o. rw (walk_push c xs (WalkEnd seat cpu answer)) (go c o (eqb cpu o) (eqb cpu c) refl refl);
}
  where
    ys : List Event
    ys = xs ++ WalkEnd seat cpu answer ∷ []

    go : (c o : ℕ) (p q : Bool) → eqb cpu o ≡ p → eqb cpu c ≡ q → BesideBy c o ys (cond q None (walk c xs))
    go c o p true e f = tt
    go c o true false e f =
        let same : cpu ≡ o = eqb-true cpu o e in
        beside_own c o xs ys (walk c xs) h.of (rw same at h.in_flight) (touched_push c o xs (WalkEnd seat cpu answer)) (b.at c o)
    go c o false false e f =
        beside_on head c o xs ys (walk c xs) (end_unmoved head o xs seat cpu answer e)
        (touched_push c o xs (WalkEnd seat cpu answer)) (b.at c o)

-- an event that no walk comes with
pub beside_none : (xs ys : List Event) → ((c : ℕ) → walk c ys ≡ None) → Beside ys
beside_none xs ys h = record { at = λ c o. rw (h c) tt }

pub beside_step : (head : Head) (xs : List Event) (e : Event) → Comes head xs e → Kept head xs → Beside xs → Beside (xs ++ e ∷ [])
beside_step head xs (WalkBegin seat cpu from to) h k b = beside_begin head xs seat cpu from to b
beside_step head xs (Call seat cpu state inst dir how) h k b = beside_call head xs seat cpu state inst dir how h k b
beside_step head xs (WalkEnd seat cpu answer) h k b = beside_end head xs seat cpu answer h b
beside_step head xs (RegBegin seat state op) h k b =
    beside_none xs (xs ++ RegBegin seat state op ∷ []) (λ c. walk_push c xs (RegBegin seat state op) ∙ walk_none xs (begins_alone head xs op state h.state_is h.passes.not_waiting).0 c)
beside_step head xs (RegEnd seat answer) h k b =
    let r : RegistrationKept head h.of xs = rw h.in_flight at k.registration_kept in
    beside_none xs (xs ++ RegEnd seat answer ∷ []) (λ c. walk_push c xs (RegEnd seat answer) ∙ r.no_walk c)
beside_step head xs e h k b = record {
  at = λ c o.
      rw (walk_push c xs e)
      (beside_on head c o xs (xs ++ e ∷ []) (walk c xs)
      (unmoved_event head o xs e (λ w. refl) (λ es. refl) (λ r. refl) (λ n. refl) (λ s f. refl) (λ s i d. refl))
      (touched_push c o xs e) (b.at c o));
}

pub none_at_first : (c : ℕ) → walk c [] ≡ None
unfolding walk
none_at_first c = refl

pub beside : (head : Head) (events : List Event) → IsLawful head events → Beside events
beside head events h =
    holds head Beside (record { at = λ c o. rw (none_at_first c) tt }) (λ xs e s k b. beside_step head xs e s.0 k.kept b) events h

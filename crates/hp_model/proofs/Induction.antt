-- Every lawful journal keeps what Kept says.
use Rattle.std.proofs.Common.{◌≡◌, ℕ, Bool, true, false, cond, eqb, leb, List, [], ◌∷◌, ◌++◌, refl, sym, ◌∙◌, arith, inl, inr, ◌⊎◌}
use Rattle.std.proofs.lemmas.Bool.{true≢false, eqb-true}
use Rattle.hp_states.proofs.Basics.{none_of}
use Rattle.hp_states.specs.declared.dir.Dir.TheVariants.{Up, Down}
use Rattle.hp_event.specs.declared.head.Head.{Head}
use Rattle.hp_event.specs.declared.event.Event.{Event}
use Rattle.hp_event.specs.declared.event.Event.TheVariants.{WalkBegin, Call, WalkEnd, RegBegin, RegEnd}
use Rattle.hp_model.specs.Journal.{EachAfter}
use Rattle.hp_model.specs.Walks.{walk}
use Rattle.hp_model.specs.Registrations.{registration}
use Rattle.hp_model.specs.Registered.{registered}
use Rattle.hp_model.specs.Settled.{settled}
use Rattle.hp_model.specs.Processors.{is_present}
use Rattle.hp_model.specs.StandsCalls.{InWalk, InRegistration}
use Rattle.hp_model.specs.Lawful.{Comes, Stands, IsLawful}
use Rattle.hp_model.specs.Heads.{IsHead}
use Rattle.hp_model.proofs.Counts.{done_entries-none, cond_same}
use Rattle.hp_model.proofs.Kept.{Balanced, Kept}
use Rattle.hp_model.proofs.Operations.{Operations, operations_none, operations_step, walk_present}
use Rattle.hp_model.proofs.WaitLemmas.{walks_alone}
use Rattle.hp_model.proofs.Owners.{Owners, owners_none, owners_step}
use Rattle.hp_model.proofs.BatchLemmas.{begins_still}
use Rattle.hp_model.proofs.WalkSteps.{quiet_event, begin_step, call_step, end_step}
use Rattle.hp_model.proofs.RegistrationSteps.{registration_begin_step, registration_call_step, registration_end_step}
use Rattle.hp_model.proofs.Laws.{EachAfter_keeps}

-- nothing has happened
pub balanced_none : (head : Head) (c : ℕ) → Balanced head c []
unfolding registered
balanced_none head c = record {
  at = λ s i.
      rw (done_entries-none c s i Up, done_entries-none c s i Down, cond_same (leb s (settled c [])) 0) (omega arith);
}

pub away_none : (head : Head) (c : ℕ) → IsHead head → is_present head c ≡ false → settled c [] ≡ 0
unfolding settled
away_none head c h away = go (eqb c 0) refl
  where
    go : (b : Bool) → eqb c 0 ≡ b → ◌≡◌ {A = ℕ} (cond b 200 0) 0
    go true e =
        let f : c ≡ 0 = eqb-true c 0 e in
        absurd (true≢false (sym h.first_present ∙ (rw f at away)))
    go false e = refl

pub kept_none : (head : Head) → IsHead head → Kept head []
unfolding walk registration registered
kept_none head h = record {
  at = λ c. record { kept = balanced_none head c; away = away_none head c h };
  registration_kept = tt;
  once = λ s i. omega arith;
  none_at_0 = refl;
}

pub kept_step : (head : Head) (xs : List Event) (e : Event) → Comes head xs e → Owners xs → Operations head xs → Kept head xs →
    Kept head (xs ++ e ∷ [])
kept_step head xs (WalkBegin seat cpu from to) h own o k =
    begin_step head xs seat cpu from to h (walk_present head xs seat cpu from to h o k) (begins_still head xs seat cpu from to own h)
    (none_of (registration xs) (walks_alone xs h.no_wait own.batch_alone).1) k
kept_step head xs (Call seat cpu state inst dir how) h own o k = go h
  where
    go : InWalk head xs seat cpu state inst dir how ⊎ InRegistration head xs seat cpu state inst dir how →
        Kept head (xs ++ Call seat cpu state inst dir how ∷ [])
    go (inl b) = call_step head xs seat cpu state inst dir how b k
    go (inr b) = registration_call_step head xs seat cpu state inst dir how b k
kept_step head xs (WalkEnd seat cpu answer) h own o k = end_step head xs seat cpu answer h k
kept_step head xs (RegBegin seat state op) h own o k = registration_begin_step head xs seat state op h k
kept_step head xs (RegEnd seat answer) h own o k = registration_end_step head xs seat answer h k
kept_step head xs e h own o k =
    quiet_event head xs e
    (record {
      walks = λ c w. refl;
      entries = λ c es. refl;
      registrations = λ r. refl;
      registration_entries = λ es. refl;
      settles = λ c n. refl;
      registers = λ s f. refl;
      counts = λ c s i d. refl;
    })
    k

-- all together
pub record Held (head : Head) (events : List Event) : Type 0 where
  pub owners : Owners events
  pub kept : Kept head events
  pub operations : Operations head events

pub held_none : (head : Head) → IsHead head → Held head []
held_none head h = record { owners = owners_none; kept = kept_none head h; operations = operations_none head }

pub held_step : (head : Head) (xs : List Event) (e : Event) → Comes head xs e → Held head xs → Held head (xs ++ e ∷ [])
held_step head xs e h k = record {
  owners = owners_step head xs e h k.owners;
  kept = kept_step head xs e h k.owners k.operations k.kept;
  operations = operations_step head xs e h k.kept k.operations;
}

pub held_from : (head : Head) (before es : List Event) → Held head before → EachAfter (Stands head) before es →
    Held head (before ++ es)
held_from head before es k h = EachAfter_keeps (Stands head) (Held head) (λ xs e s h. held_step head xs e s.0 h) before es k h

pub held : (head : Head) (events : List Event) → IsLawful head events → Held head events
held head events h = held_from head [] events (held_none head h.0) h.1

pub kept : (head : Head) (events : List Event) → IsLawful head events → Kept head events
kept head events h = (held head events h).kept

-- what holds at first, and what each event keeps that stands beside them
pub holds : (head : Head) (Holds : List Event → Type 0) → Holds [] →
    ((xs : List Event) (e : Event) → Stands head xs e → Held head xs → Holds xs → Holds (xs ++ e ∷ [])) → (events : List Event) →
    IsLawful head events → Holds events
holds head Holds first keeps events h =
    (EachAfter_keeps (Stands head) (λ xs. Held head xs × Holds xs) (λ xs e s k. (held_step head xs e s.0 k.0, keeps xs e s k.0 k.1)) []
    events (held_none head h.0, first) h.1).1

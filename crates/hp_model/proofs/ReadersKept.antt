-- While a seat reads, no walk is in flight and no settled state changes.
use Rattle.std.proofs.Common.{◌≡◌, ℕ, Bool, true, false, cond, eqb, Option, Some, None, List, [], ◌∷◌, ◌++◌, refl, sym, ◌∙◌}
use Rattle.std.proofs.lemmas.Bool.{or_parts}
use Rattle.hp_event.specs.declared.head.Head.{Head}
use Rattle.hp_event.specs.declared.event.Event.{Event}
use Rattle.hp_event.specs.declared.event.Event.TheVariants.{WalkBegin, WalkEnd, ReadLock, ReadUnlock}
use Rattle.hp_model.specs.Walks.{Walk, walk, is_walking}
use Rattle.hp_model.specs.Batch.{is_batch_begun}
use Rattle.hp_model.specs.Readers.{reading_since}
use Rattle.hp_model.specs.Settled.{settled}
use Rattle.hp_model.specs.Lawful.{Comes, IsLawful}
use Rattle.hp_model.proofs.Laws.{walk_push, settled_push, reading_since_push}
use Rattle.hp_model.proofs.InFlight.{walk_none, reader_none}
use Rattle.hp_model.proofs.WaitLemmas.{writer_waits, walks_alone}
use Rattle.hp_model.proofs.Owners.{Owners}
use Rattle.hp_model.proofs.Induction.{holds}

abbrev pub ReaderBy : List Event → Option (List Event) → Type 0
ReaderBy events None = Unit {0}
ReaderBy events (Some before) = (c : ℕ) → (walk c events ≡ None) × (settled c events ≡ settled c before)

pub record Readers (events : List Event) : Type 0 where
  pub at : (k : ℕ) → ReaderBy events (reading_since k events)

-- an event that leaves the walks and the settled states
pub readers_on : (xs ys : List Event) (o : Option (List Event)) → ((c : ℕ) → walk c ys ≡ walk c xs) →
    ((c : ℕ) → settled c ys ≡ settled c xs) → ReaderBy xs o → ReaderBy ys o
readers_on xs ys None w n r = tt
readers_on xs ys (Some before) w n r = λ c. (w c ∙ (r c).0, n c ∙ (r c).1)

-- no walk begins or ends while a seat reads
pub readers_none : (xs ys : List Event) → ((k : ℕ) → reading_since k ys ≡ None) → Readers ys
readers_none xs ys h = record { at = λ k. rw (h k) tt }

pub not_reading : (xs : List Event) (c : ℕ) (w : Walk) (o : Option (List Event)) → walk c xs ≡ Some w → ReaderBy xs o → o ≡ None
not_reading xs c w None e r = refl
not_reading xs c w (Some before) e r = absurd (some_none w (sym e ∙ (r c).0))
  where
    some_none : (w : Walk) → Some w ≡ None → ⊥
    some_none w h = cc

pub readers_step : (head : Head) (xs : List Event) (e : Event) → Comes head xs e → Owners xs → Readers xs → Readers (xs ++ e ∷ [])
readers_step head xs (WalkBegin seat cpu from to) h o r =
    readers_none xs (xs ++ WalkBegin seat cpu from to ∷ [])
    (λ k. reading_since_push k xs (WalkBegin seat cpu from to) ∙ reader_none xs (walks_alone xs h.no_wait o.batch_alone).0 k)
readers_step head xs (WalkEnd seat cpu answer) h o r =
    readers_none xs (xs ++ WalkEnd seat cpu answer ∷ [])
    (λ k. reading_since_push k xs (WalkEnd seat cpu answer)
    ∙ not_reading xs cpu h.of (reading_since k xs) h.in_flight (r.at k))
readers_step head xs (ReadLock seat) h o r =
    record { at = λ k. rw (reading_since_push k xs (ReadLock seat)) (go k (eqb seat k)) }
  where
    go : (k : ℕ) (same : Bool) → ReaderBy (xs ++ ReadLock seat ∷ []) (cond same (Some xs) (reading_since k xs))
    go k true = λ c. (walk_push c xs (ReadLock seat) ∙ walk_none xs (or_parts (is_walking xs) (is_batch_begun xs) (sym (writer_waits xs) ∙ h.passes.not_waiting)).0 c, settled_push c xs (ReadLock seat))
    go k false =
        readers_on xs (xs ++ ReadLock seat ∷ []) (reading_since k xs) (λ c. walk_push c xs (ReadLock seat))
        (λ c. settled_push c xs (ReadLock seat)) (r.at k)
readers_step head xs (ReadUnlock seat) h o r =
    record { at = λ k. rw (reading_since_push k xs (ReadUnlock seat)) (go k (eqb seat k)) }
  where
    go : (k : ℕ) (same : Bool) → ReaderBy (xs ++ ReadUnlock seat ∷ []) (cond same None (reading_since k xs))
    go k true = tt
    go k false =
        readers_on xs (xs ++ ReadUnlock seat ∷ []) (reading_since k xs) (λ c. walk_push c xs (ReadUnlock seat))
        (λ c. settled_push c xs (ReadUnlock seat)) (r.at k)
readers_step head xs e h o r = record {
  at = λ k.
      rw (reading_since_push k xs e)
      (readers_on xs (xs ++ e ∷ []) (reading_since k xs) (λ c. walk_push c xs e) (λ c. settled_push c xs e) (r.at k));
}

pub none_reads_at_first : (k : ℕ) → reading_since k [] ≡ None
unfolding reading_since
none_reads_at_first k = refl

pub readers : (head : Head) (events : List Event) → IsLawful head events → Readers events
readers head events h =
    holds head Readers (record { at = λ k. rw (none_reads_at_first k) tt }) (λ xs e s k r. readers_step head xs e s.0 k.owners r) events h

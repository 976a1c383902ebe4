-- The lowest processor that walks, by the set of those that do.
use Rattle.std.proofs.Common.{◌≡◌, ℕ, true, false, Option, Some, None, List, [], ◌∷◌, ◌⊎◌, inl, inr, refl, sym, ◌∙◌, arith}
use Rattle.std.specs.Prelude.{IfSome, IfNone}
use Rattle.hp_states.specs.CpuSets.{has, IsLowestFrom, HasNoneFrom}
use Rattle.hp_event.specs.declared.head.Head.{Head}
use Rattle.hp_event.specs.declared.event.Event.{Event}
use Rattle.hp_model.specs.Registrations.{registration}
use Rattle.hp_model.specs.Walks.{walking}
use Rattle.hp_account.specs.declared.operation.MapOperation.{MapOperation}
use Rattle.hp_account.specs.declared.account.Account.{Account}
use Rattle.hp_account.specs.Account.{IsAccount}
use Rattle.hp_account.specs.BatchTurns.{is_batch}
use Rattle.hp_account.specs.Operations.{IsHeldBy}
use Rattle.hp_account.specs.UnderWay.{IsUnderWay}
use Rattle.hp_account.proofs.FlightFacts.{none_walks}
use Rattle.hp_account.proofs.InBatch.{batch_is}
use Rattle.hp_account.proofs.WalkComing.{nothing_under_way}

pub some_walks : (p : Account) (found : Option ℕ) → is_batch p.operation ≡ false → IfSome found (λ c. IsLowestFrom p.flights.walking 0 c) →
    IfSome found (λ c. (has p.flights.walking c ≡ true) × (is_batch p.operation ≡ false))
some_walks p None single h = h
some_walks p (Some c) single h = (h.is_in, single)

pub none_walking : (p : Account) (found : Option ℕ) → IfNone found (HasNoneFrom p.flights.walking 0) →
    IfNone found
    ((head : Head) (events : List Event) → IsAccount head events p → (walking events ≡ []) ⊎ (is_batch p.operation ≡ true))
none_walking p None h = λ head events account. inl (none_walks head events p.flights account.flights (λ c. h c (omega arith)))
none_walking p (Some c) h = h

-- where no processor of another operation walks, and no registration is in flight, nothing is under way but what an upmany walks
pub nothing_walks : (head : Head) (events : List Event) (held : Option MapOperation) → IsHeldBy head events held → registration events ≡ None →
    (walking events ≡ []) ⊎ (is_batch held ≡ true) → IsUnderWay head events None
nothing_walks head events held by idle rests = go (walking events) refl rests
  where
    still : walking events ≡ [] → IsUnderWay head events None
    still e = inl (record { none = nothing_under_way head events e idle; no_walk = e; no_registration = idle })

    go : (cpus : List ℕ) → walking events ≡ cpus → (walking events ≡ []) ⊎ (is_batch held ≡ true) → IsUnderWay head events None
    go cpus e (inl none) = still none
    go [] e (inr batch) = still e
    go (c ∷ cs) e (inr batch) = let u = sym (batch_is head events held by) ∙ batch in inr (rw (u, e) refl)

-- What an operation waits for is in flight, and where it waits for nothing that isn't.
use Rattle.std.proofs.Common.{◌≡◌, ℕ, ◌+◌, Bool, true, false, not, ◌&&◌, ◌||◌, cond, eqb, ltb, is_some, Option, Some, None, List, [], ◌∷◌, refl, ap, sym, ◌∙◌, arith}
use Rattle.std.proofs.lemmas.Bool.{eq-eqb, false≢true, or_parts}
use Rattle.std.proofs.lemmas.Bool.Decides.{nat_tests}
use Rattle.hp_states.proofs.Basics.{none_of}
use Rattle.hp_event.specs.declared.event.Event.{Event}
use Rattle.hp_model.specs.Lists.{is_empty, occurs, among}
use Rattle.hp_model.specs.Walks.{Walk, walk, walking, is_walking}
use Rattle.hp_model.specs.Registrations.{Registration, registration, is_registering}
use Rattle.hp_model.specs.MapLock.{Operation, operation}
use Rattle.hp_model.specs.Readers.{readers, is_read}
use Rattle.hp_model.specs.Suspend.{held_by}
use Rattle.hp_model.specs.Batch.{begun, is_upmany, is_batch_begun}
use Rattle.hp_model.specs.Waits.{Wait, writer_in, first_wait, wait_for_map, wait_for_readers, wait_for_registration, wait_for_walk, wait_for_batch, wait_for_writer, wait_to_register, wait_to_walk}
use Rattle.hp_model.proofs.InFlight.{walking_is}

pub map_waits : (o : Option Operation) → is_some (wait_for_map o) ≡ is_some o
map_waits None = refl
map_waits (Some o) = refl

pub registration_waits : (r : Option Registration) → is_some (wait_for_registration r) ≡ is_some r
registration_waits None = refl
registration_waits (Some r) = refl

pub readers_wait : (ks : List ℕ) → is_some (wait_for_readers ks) ≡ not (is_empty ks)
readers_wait [] = refl
readers_wait (k ∷ ks) = refl

walk_waits : (w : Option Walk) → is_some (wait_for_walk w) ≡ is_some w
walk_waits None = refl
walk_waits (Some w) = refl

pub first_among : (c : ℕ) (cs : List ℕ) → among c (c ∷ cs) ≡ true
first_among c cs = let e : eqb c c ≡ true = eq-eqb c c refl in above (eqb c c) (occurs c cs) e
  where
    above : (b : Bool) (n : ℕ) → b ≡ true → ltb 0 (cond b 1 0 + n) ≡ true
    above true n e = grind (arith, nat_tests)
    above false n e = absurd (false≢true e)

pub batch_waits : (cs : List ℕ) (o : Option Operation) →
    is_some (wait_for_batch cs o) ≡ (held_by is_upmany o && not (is_empty cs))
batch_waits cs None = refl
batch_waits cs (Some o) = go (is_upmany o.op && not (is_empty cs))
  where
    go : (b : Bool) → is_some (cond b (Some (writer_in o.seat)) None) ≡ b
    go true = refl
    go false = refl

-- whether the write side is held: by a walk in flight, or by an upmany that has begun one
abbrev pub is_writing : List Event → Bool
is_writing xs = is_walking xs || is_batch_begun xs

pub writer_waits : (xs : List Event) → is_some (wait_for_writer (walking xs) xs) ≡ is_writing xs
writer_waits xs = go (walking xs) refl
  where
    go : (ws : List ℕ) → walking xs ≡ ws → is_some (wait_for_writer ws xs) ≡ (not (is_empty ws) || is_batch_begun xs)
    go [] e = batch_waits (begun xs) (operation xs)
    go (c ∷ cs) e = walk_waits (walk c xs) ∙ (sym (walking_is c xs) ∙ (ap (λ z. among c z) e ∙ first_among c cs))

pub first_waits : (a b : Option Wait) → is_some (first_wait a b) ≡ (is_some a || is_some b)
first_waits None b = refl
first_waits (Some w) b = refl

pub register_waits : (xs : List Event) → is_some (wait_to_register xs) ≡ (is_writing xs || is_registering xs)
register_waits xs =
    first_waits (wait_for_writer (walking xs) xs) (wait_for_registration (registration xs))
    ∙ rw (writer_waits xs, registration_waits (registration xs)) refl

first_to_waits : (xs : List Event) →
    is_some (first_wait (wait_for_readers (readers xs)) (wait_for_registration (registration xs)))
    ≡ (is_read xs || is_registering xs)
first_to_waits xs =
    first_waits (wait_for_readers (readers xs)) (wait_for_registration (registration xs))
    ∙ rw (readers_wait (readers xs), registration_waits (registration xs)) refl

-- a walk that waits for nothing finds no reader and no registration, as no later walk of an upmany does, and where there is none it
-- waits for nothing
pub walks_alone : (xs : List Event) → wait_to_walk xs ≡ None →
    (is_batch_begun xs ≡ true → (is_read xs ≡ false) × (is_registering xs ≡ false)) →
    (is_read xs ≡ false) × (is_registering xs ≡ false)
walks_alone xs h later = go (is_batch_begun xs) refl h
  where
    go : (b : Bool) → is_batch_begun xs ≡ b →
        cond b None (first_wait (wait_for_readers (readers xs)) (wait_for_registration (registration xs))) ≡ None →
        (is_read xs ≡ false) × (is_registering xs ≡ false)
    go true e k = later e
    go false e k = or_parts (is_read xs) (is_registering xs) (sym (first_to_waits xs) ∙ ap is_some k)

pub can_walk : (xs : List Event) → is_read xs ≡ false → is_registering xs ≡ false → wait_to_walk xs ≡ None
can_walk xs r g = go (is_batch_begun xs)
  where
    go : (b : Bool) → cond b None (first_wait (wait_for_readers (readers xs)) (wait_for_registration (registration xs))) ≡ None
    go true = refl
    go false = none_of (first_wait (wait_for_readers (readers xs)) (wait_for_registration (registration xs))) (first_to_waits xs ∙ rw (r, g) refl)

pub later_walk : (xs : List Event) → is_batch_begun xs ≡ true → wait_to_walk xs ≡ None
later_walk xs h = rw h refl

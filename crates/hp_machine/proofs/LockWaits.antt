-- What the locks answer that an operation or a walk waits for is what the journal says.
use Rattle.std.proofs.Common.{◌≡◌, ℕ, Bool, true, false, ◌&&◌, not, cond, Option, Some, None, List, [], ◌∷◌, length, refl, ap, ◌∙◌}
use Rattle.std.specs.Prelude.{option_map}
use Rattle.hp_event.specs.declared.event.Event.{Event}
use Rattle.hp_model.specs.Batch.{begun, is_upmany, is_batch_begun}
use Rattle.hp_model.specs.Lists.{is_empty}
use Rattle.hp_model.specs.MapLock.{Operation, operation}
use Rattle.hp_model.specs.Readers.{readers}
use Rattle.hp_model.specs.Registrations.{Registration, registration}
use Rattle.hp_model.specs.Suspend.{held_by}
use Rattle.hp_model.specs.Waits.{Wait, writer_in, first_wait, wait_for_batch, wait_for_walk, wait_to_walk}
use Rattle.hp_model.specs.Waits.{wait_for_readers as wait_for_readers_of, wait_for_registration as wait_for_registration_of, wait_for_writer as wait_for_writer_of, wait_to_register as wait_to_register_of}
use Rattle.hp_model.specs.Walks.{Walk, walk, walking}
use Rattle.hp_locks.specs.declared.why.Why.{Why}
use Rattle.hp_locks.specs.declared.why.Why.TheVariants.{RegIn, WriterIn}
use Rattle.hp_locks.specs.Holders.{Holders}
use Rattle.hp_locks.specs.Holders.{readers as count_of_readers}
use Rattle.hp_locks.specs.Waits.{first_of, wait_for_readers, wait_for_registration, wait_for_writer, wait_to_register, wait_to_write}
use Rattle.hp_account.specs.Locks.{IsLocks, why_of, writer_of}

-- the first of two waits
first_alike : {a b : Option Why} (v w : Option Wait) → a ≡ option_map why_of v → b ≡ option_map why_of w →
    first_of a b ≡ option_map why_of (first_wait v w)
first_alike None w e f = rw e f
first_alike (Some x) w e f = rw e refl

readers_said : (es : List Event) (h : Holders) → IsLocks es h →
    wait_for_readers (count_of_readers h) ≡ option_map why_of (wait_for_readers_of (readers es))
readers_said es h is = ap wait_for_readers is.readers_are ∙ go (readers es)
  where
    go : (ks : List ℕ) → wait_for_readers (length ks) ≡ option_map why_of (wait_for_readers_of ks)
    go [] = refl
    go (k ∷ ks) = refl

registration_said : (es : List Event) (h : Holders) → IsLocks es h →
    wait_for_registration h ≡ option_map why_of (wait_for_registration_of (registration es))
registration_said es h is = ap (λ k. option_map (λ n. RegIn n) k) is.registrar_is ∙ go (registration es)
  where
    go : (r : Option Registration) →
        option_map (λ n. RegIn n) (option_map (λ (x : Registration). x.seat) r) ≡ option_map why_of (wait_for_registration_of r)
    go None = refl
    go (Some r) = refl

-- a read section waits for the writer, and a registration then for another one
pub read_said : (es : List Event) (h : Holders) → IsLocks es h → wait_for_writer h ≡ option_map why_of (wait_for_writer_of (walking es) es)
read_said es h is = ap (λ k. option_map (λ n. WriterIn n) k) is.writer_is ∙ go (walking es)
  where
    of_batch : (o : Option Operation) (cs : List ℕ) →
        option_map (λ n. WriterIn n) (cond (held_by is_upmany o && not (is_empty cs)) (option_map (λ (x : Operation). x.seat) o) None)
        ≡ option_map why_of (wait_for_batch cs o)
    of_batch None cs = refl
    of_batch (Some o) cs = either (is_upmany o.op && not (is_empty cs))
      where
        either : (b : Bool) → option_map (λ n. WriterIn n) (cond b (Some o.seat) None) ≡ option_map why_of (cond b (Some (writer_in o.seat)) None)
        either true = refl
        either false = refl

    of_walk : (w : Option Walk) →
        option_map (λ n. WriterIn n) (option_map (λ (x : Walk). x.seat) w) ≡ option_map why_of (wait_for_walk w)
    of_walk None = refl
    of_walk (Some w) = refl

    go : (cs : List ℕ) → option_map (λ n. WriterIn n) (writer_of cs es) ≡ option_map why_of (wait_for_writer_of cs es)
    go [] = of_batch (operation es) (begun es)
    go (c ∷ cs) = of_walk (walk c es)

pub register_said : (es : List Event) (h : Holders) → IsLocks es h → wait_to_register h ≡ option_map why_of (wait_to_register_of es)
register_said es h is =
    first_alike (wait_for_writer_of (walking es) es) (wait_for_registration_of (registration es)) (read_said es h is)
    (registration_said es h is)

-- the later walks of an upmany wait for nothing, and any other for readers and then for a registration
pub later_said : (es : List Event) → is_batch_begun es ≡ true → None ≡ option_map why_of (wait_to_walk es)
later_said es begins = rw begins refl

pub first_said : (es : List Event) (h : Holders) → IsLocks es h → is_batch_begun es ≡ false →
    wait_to_write h ≡ option_map why_of (wait_to_walk es)
first_said es h is begins =
    first_alike (wait_for_readers_of (readers es)) (wait_for_registration_of (registration es)) (readers_said es h is)
    (registration_said es h is)
    ∙ rw begins refl

-- A machine begins: the table where nothing is registered is that of a journal without events.
use Rattle.std.proofs.Common.{◌≡◌, ℕ, zero, suc, ◌+◌, Option, None, List, [], replicate, refl, sym, ◌∙◌}
use Rattle.hp_states.specs.declared.limits.TheConstants.{ONLINE}
use Rattle.hp_event.specs.declared.head.Head.{Head}
use Rattle.hp_model.specs.Heads.{IsHead}
use Rattle.hp_model.specs.Registered.{registered}
use Rattle.hp_model.specs.Registrations.{registration}
use Rattle.hp_table.specs.Step.{Step, step_at}
use Rattle.hp_account.specs.Table.{IsTableOf}

abbrev vacant : (n : ℕ) → List (Option Step)
vacant n = replicate n None

nothing_there : (n s : ℕ) → step_at (vacant n) s ≡ None
nothing_there zero s = refl
nothing_there (suc n) zero = refl
nothing_there (suc n) (suc s) = nothing_there n s

no_registration : registration [] ≡ None
unfolding registration
no_registration = refl

none_registered : (head : Head) (s : ℕ) → registered head s [] ≡ None
unfolding registered
none_registered head s = refl

pub table_begins : (head : Head) (n : ℕ) → IsTableOf head [] (vacant n)
table_begins head n =
    record {
      registered_is = λ s. none_registered head s ∙ sym (rw (no_registration, nothing_there n s) refl);
      steps = λ s. rw (nothing_there n s) tt;
      in_flight = rw no_registration tt;
    }

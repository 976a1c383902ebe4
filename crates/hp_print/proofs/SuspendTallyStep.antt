-- One event more, for what an operation of the map lock left behind.
use Rattle.std.proofs.Common.{◌≡◌, ℕ, ◌+◌, ◌<◌, ◌≤◌, ◌^◌, Bool, Option, Some, None, List, [], ◌∷◌, ◌++◌, length, refl, ap, sym, ◌∙◌, arith}
use Rattle.hp_event.specs.declared.op.Op.{Op}
use Rattle.hp_event.specs.declared.event.Event.{Event}
use Rattle.hp_event.specs.declared.event.Event.TheVariants.{Enter, WalkEnd, OpEnd}
use Rattle.hp_model.specs.MapLock.{Operation, operation, operation_step}
use Rattle.hp_model.specs.Suspend.{disabled, disabled_step, frozen, frozen_step, held_by, is_freeze, is_thaw, is_disabling, is_enabling}
use Rattle.hp_model.specs.Journal.{over_from}
use Rattle.hp_model.proofs.Laws.{operation_push, frozen_push, disabled_push}
use Rattle.hp_print.specs.declared.suspend_tally.SuspendTally.{SuspendTally}
use Rattle.hp_print.specs.Counts.{one_more}
use Rattle.hp_print.specs.Steps.{op_after, disabled_after, frozen_after, is_held}
use Rattle.hp_print.specs.Tallies.{op_held, IsSuspendTally}

-- as far as events are counted, a count doesn't end
pub one_more_is : (n m : ℕ) → n ≤ m → m < 2 ^ 63 → one_more n ≡ n + 1
one_more_is n m h k = omega arith

op_step : (o : Option Operation) (xs : List Event) (e : Event) → op_held (operation_step o xs e) ≡ op_after (op_held o) e
op_step o xs (Enter seat op) = refl
op_step o xs (OpEnd seat given) = refl
op_step o xs e = refl

held_is : (test : Op → Bool) (o : Option Operation) → held_by test o ≡ is_held test (op_held o)
held_is test None = refl
held_is test (Some o) = refl

frozen_as : (found : List ℕ) (xs : List Event) (e : Event) →
    frozen_step found xs e ≡ frozen_after (op_held (operation xs)) found e
frozen_as found xs (Enter seat op) = refl
frozen_as found xs (WalkEnd seat cpu given) = rw (held_is is_freeze (operation xs)) refl
frozen_as found xs (OpEnd seat given) = rw (held_is is_thaw (operation xs)) refl
frozen_as found xs e = refl

disabled_as : (n : ℕ) (xs : List Event) (e : Event) → one_more n ≡ n + 1 →
    disabled_step n xs e ≡ disabled_after (op_held (operation xs)) n e
disabled_as n xs (Enter seat op) h = refl
disabled_as n xs (OpEnd seat given) h = rw (held_is is_disabling (operation xs), held_is is_enabling (operation xs), h) refl
disabled_as n xs e h = refl

disabled_grows : (n : ℕ) (xs : List Event) (e : Event) → disabled_step n xs e ≤ n + 1
disabled_grows n xs (Enter seat op) = grind arith
disabled_grows n xs (OpEnd seat given) = grind arith
disabled_grows n xs e = omega arith

disabled_from : (n : ℕ) (before es : List Event) → over_from disabled_step n before es ≤ n + length es
disabled_from n before [] = omega arith
disabled_from n before (e ∷ es) =
    let h = disabled_from (disabled_step n before e) (before ++ e ∷ []) es in
    let g = disabled_grows n before e in
    omega arith

disabled_few : (xs : List Event) → disabled xs ≤ length xs
unfolding disabled
disabled_few xs = omega (arith, disabled_from 0 [] xs)

pub suspended_step : (xs : List Event) (e : Event) (s t : SuspendTally) → length xs < 2 ^ 63 → IsSuspendTally xs s →
    t.op ≡ op_after s.op e → t.disabled ≡ disabled_after s.op s.disabled e →
    t.frozen.items ≡ frozen_after s.op s.frozen.items e → IsSuspendTally (xs ++ e ∷ []) t
suspended_step xs e s t l h p q r = record {
  op = rw operation_push (p ∙ ap (λ o. op_after o e) h.op ∙ sym (op_step (operation xs) xs e));
  disabled_is =
      rw disabled_push
      (rw (h.op, h.disabled_is) at q ∙ sym (disabled_as (disabled xs) xs e (one_more_is (disabled xs) (length xs) (disabled_few xs) l)));
  frozen_is = rw frozen_push (rw (h.op, h.frozen_is) at r ∙ sym (frozen_as (frozen xs) xs e));
}

pub none_suspended : (s : SuspendTally) → s.op ≡ None → s.disabled ≡ 0 → s.frozen.items ≡ [] → IsSuspendTally [] s
unfolding disabled frozen operation
none_suspended s p q r = record { op = p; disabled_is = q; frozen_is = r }

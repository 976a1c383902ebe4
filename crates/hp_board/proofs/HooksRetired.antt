-- The hooks of the places are those of the registered states, and have counted what the journal says.
use Rattle.std.proofs.Common.{◌≡◌, ℕ, zero, suc, ◌+◌, ◌<◌, Option, Some, None, IfSome, IfNone, List, [], ◌∷◌, ◌++◌, take, length, append_assoc, refl, sym, ap, ◌∙◌, subst, arith}
use Rattle.std.specs.List.{flat_map}
use Rattle.std.proofs.lemmas.List.{append-nil, map-append}
use Rattle.std.proofs.Math.Seq.{take-length}
use Rattle.hp_states.specs.declared.limits.TheConstants.{ONLINE}
use Rattle.hp_event.specs.declared.head.Head.{Head}
use Rattle.hp_event.specs.declared.event.Event.{Event}
use Rattle.hp_hook.specs.Counted.{Counts}
use Rattle.hp_model.specs.Registered.{registered}
use Rattle.hp_model.specs.Registrations.{Registration, registration}
use Rattle.hp_model.proofs.ListLemmas.{from, numbers_from}
use Rattle.hp_table.specs.Step.{Step, step_at}
use Rattle.hp_account.specs.Table.{IsTableOf, IsStepOf, registered_by, registered_meanwhile}
use Rattle.hp_board.specs.Retired.{hook_at, hooks_of, registered_hook, registered_hooks, IsRacked}

-- what is said of each place is said of its state
along : (f : ℕ → List Counts) (places : List (Option Step)) (a : ℕ) → ((i : ℕ) → hook_at (step_at places i) ≡ f (a + i)) →
    hooks_of places ≡ flat_map f (from a (length places))
unfolding from
along f [] a each = refl
along f (p ∷ ps) a each =
    let e : a + 0 ≡ a = omega arith in
    ap (λ xs. xs ++ hooks_of ps) (each 0 ∙ ap f e)
    ∙ ap (λ ys. f a ++ ys) (along f ps (suc a) (λ i. each (suc i) ∙ (let n : a + suc i ≡ suc a + i = omega arith in ap f n)))

hook_is : (head : Head) (events : List Event) (s : ℕ) (place : Option Step) → registered head s events ≡ registered_by place →
    IfSome place (IsStepOf head events s) → hook_at place ≡ registered_hook head events s
hook_is head events s None is of = rw is refl
hook_is head events s (Some step) is of =
    let sub = of.sub_is in
    let counts = of.counts_are in
    rw (is, sub, counts) refl

resting : (head : Head) (events : List Event) (places : List (Option Step)) → IsTableOf head events places → registration events ≡ None →
    (s : ℕ) → registered head s events ≡ registered_by (step_at places s)
resting head events places t rest s =
    t.registered_is s ∙ ap (λ (r : Option Registration). registered_meanwhile r s (step_at places s)) rest

-- the hooks of the places, in rising state
hooks_as_registered : (head : Head) (events : List Event) (places : List (Option Step)) → IsTableOf head events places →
    length places ≡ ONLINE + 1 → registration events ≡ None → hooks_of places ≡ registered_hooks head events
unfolding registered_hooks
hooks_as_registered head events places t states rest =
    along (registered_hook head events) places 0
    (λ i.
    let e : 0 + i ≡ i = omega arith in
    hook_is head events i (step_at places i) (resting head events places t rest i) (t.steps i)
    ∙ ap (registered_hook head events) (sym e))
    ∙ ap (λ (n : ℕ). flat_map (registered_hook head events) (from 0 n)) states
    ∙ ap (flat_map (registered_hook head events)) (sym (numbers_from (ONLINE + 1)))

-- the hooks of the states up to one more
hooks_suc : (places : List (Option Step)) (k : ℕ) → k < length places →
    hooks_of (take (suc k) places) ≡ hooks_of (take k places) ++ hook_at (step_at places k)
hooks_suc [] k below = absurd (omega arith)
hooks_suc (p ∷ ps) zero below = append-nil (hook_at p)
hooks_suc (p ∷ ps) (suc k) below =
    ap (λ xs. hook_at p ++ xs) (hooks_suc ps k (omega arith))
    ∙ sym (append_assoc (hook_at p) (hooks_of (take k ps)) (hook_at (step_at ps k)))

hooks_next : (places : List (Option Step)) (k : ℕ) → k < length places →
    hooks_of (take (k + 1) places) ≡ hooks_of (take k places) ++ hook_at (step_at places k)
hooks_next places k below =
    let e : k + 1 ≡ suc k = omega arith in ap (λ n. hooks_of (take n places)) e ∙ hooks_suc places k below

pub racked_none : {H : Type 0} (seen : H → Counts) (old : List H) (places : List (Option Step)) → IsRacked seen old old (hooks_of (take 0 places))
racked_none seen old places = record { added = []; behind = sym (append-nil old); are = refl }

-- one hook more, if there is one
racked_with : {H : Type 0} (seen : H → Counts) (old now : List H) (places : List (Option Step)) (k : ℕ) (h : H) →
    k < length places → IsRacked seen old now (hooks_of (take k places)) → hook_at (step_at places k) ≡ seen h ∷ [] →
    IsRacked seen old (now ++ h ∷ []) (hooks_of (take (k + 1) places))
racked_with seen old now places k h below r is =
    record {
      added = r.added ++ h ∷ [];
      behind = ap (λ xs. xs ++ h ∷ []) r.behind ∙ append_assoc old r.added (h ∷ []);
      are =
          map-append seen r.added (h ∷ []) ∙ ap (λ xs. xs ++ seen h ∷ []) r.are
          ∙ ap (λ xs. hooks_of (take k places) ++ xs) (sym is) ∙ sym (hooks_next places k below);
    }

racked_without : {H : Type 0} (seen : H → Counts) (old now : List H) (places : List (Option Step)) (k : ℕ) →
    k < length places → IsRacked seen old now (hooks_of (take k places)) → hook_at (step_at places k) ≡ [] →
    IsRacked seen old now (hooks_of (take (k + 1) places))
racked_without seen old now places k below r none =
    record {
      added = r.added;
      behind = r.behind;
      are =
          r.are ∙ sym (append-nil (hooks_of (take k places))) ∙ ap (λ xs. hooks_of (take k places) ++ xs) (sym none)
          ∙ sym (hooks_next places k below);
    }

-- the hook of a state is put behind those of the states before it
pub racked_put : {H : Type 0} (seen : H → Counts) (old now next : List H) (places : List (Option Step)) (k : ℕ) (hook : Option H)
    (place : Option Step) → k < length places → place ≡ step_at places k → IsRacked seen old now (hooks_of (take k places)) →
    IfSome hook (λ h. hook_at place ≡ seen h ∷ []) → IfNone hook (hook_at place ≡ []) →
    IfSome hook (λ h. next ≡ now ++ h ∷ []) → IfNone hook (next ≡ now) →
    IsRacked seen old next (hooks_of (take (k + 1) places))
racked_put seen old now next places k None place below same r some none put kept =
    subst (λ xs. IsRacked seen old xs (hooks_of (take (k + 1) places))) (sym kept) (racked_without seen old now places k below r (ap hook_at (sym same) ∙ none))
racked_put seen old now next places k (Some h) place below same r some none put kept =
    subst (λ xs. IsRacked seen old xs (hooks_of (take (k + 1) places))) (sym put) (racked_with seen old now places k h below r (ap hook_at (sym same) ∙ some))

pub racked_all : {H : Type 0} (seen : H → Counts) (old now : List H) (places : List (Option Step)) (k : ℕ) → k ≡ length places →
    IsRacked seen old now (hooks_of (take k places)) → IsRacked seen old now (hooks_of places)
racked_all seen old now places k all r =
    record { added = r.added; behind = r.behind; are = r.are ∙ ap (λ n. hooks_of (take n places)) all ∙ ap hooks_of (take-length places) }

-- the hooks that a board retires, as the journal says
pub retired_as_registered : {H : Type 0} (seen : H → Counts) (old room new : List H) (head : Head) (events : List Event)
    (places : List (Option Step)) → IsTableOf head events places → length places ≡ ONLINE + 1 → registration events ≡ None →
    room ≡ old → IsRacked seen room new (hooks_of places) → IsRacked seen old new (registered_hooks head events)
retired_as_registered seen old room new head events places t states rest same r =
    record {
      added = r.added;
      behind = r.behind ∙ ap (λ xs. xs ++ r.added) same;
      are = r.are ∙ hooks_as_registered head events places t states rest;
    }

-- What a suspend leaves after one event more.
use Rattle.std.proofs.Common.{◌≡◌, ◌≢◌, ℕ, zero, suc, ◌+◌, ◌-◌, ◌<◌, ◌≤◌, Bool, true, false, ◌&&◌, cond, eqb, ltb, Some, List, [], ◌∷◌, ◌++◌, length, length-append, get_or, refl, sym, ap, ◌∙◌, subst, arith, get_or-set_same, get_or-set_other}
use Rattle.std.specs.Prelude.{slice_set, replicate}
use Rattle.std.proofs.Math.ListN.{set}
use Rattle.std.proofs.lemmas.Bool.{eqb-true, eqb-false}
use Rattle.std.proofs.lemmas.Bool.Decides.{nat_tests}
use Rattle.std.proofs.lemmas.List.{length-set}
use Rattle.hp_event.specs.declared.op.Op.{Op}
use Rattle.hp_event.specs.declared.answer.Answer.{Answer}
use Rattle.hp_event.specs.declared.head.Head.{Head}
use Rattle.hp_event.specs.declared.event.Event.{Event}
use Rattle.hp_event.specs.declared.event.Event.TheVariants.{Enter, WalkEnd, OpEnd, Wakeup}
use Rattle.hp_model.specs.Lists.{among, occurs}
use Rattle.hp_model.specs.MapLock.{Operation, operation}
use Rattle.hp_model.specs.Suspend.{disabled, frozen, wakeup_pending, is_freeze, is_thaw, is_disabling, is_enabling, is_ok, held_by}
use Rattle.hp_model.proofs.Laws.{disabled_push, frozen_push, wakeup_push}
use Rattle.hp_model.proofs.Counts.{occurs-append}
use Rattle.hp_account.specs.Flags.{AreFlags}
use Rattle.hp_account.specs.Suspended.{SuspendedView, IsSuspended, none_frozen, once_entered, walked, ended}
use Rattle.hp_account.specs.After.{suspension_after}

-- the operation that holds the map lock, where a walk or an operation ends, and the processor of the walk
abbrev pub IsUnder : Head → List Event → Op → Event → Type 0
IsUnder head es op (WalkEnd seat c answer) = ((o : Operation) × (operation es ≡ Some o) × (o.op ≡ op)) × (c < head.possible)
IsUnder head es op (OpEnd seat answer) = (o : Operation) × (operation es ≡ Some o) × (o.op ≡ op)
IsUnder head es op _ = Unit {0}

none_at : (n c : ℕ) → get_or (replicate n false) c false ≡ false
none_at zero c = refl
none_at (suc n) zero = refl
none_at (suc n) (suc c) = none_at n c

length_none : (n : ℕ) → length (replicate n false) ≡ n
length_none zero = refl
length_none (suc n) = ap suc (length_none n)

-- no processor is frozen
none_are : (n : ℕ) (flags : List Bool) (test : ℕ → Bool) → AreFlags test n flags → AreFlags (λ c. among c []) n (none_frozen flags)
none_are n flags test h = record {
  places = length_none (length flags) ∙ h.places;
  each = λ c below. none_at (length flags) c;
}

one_more : (c k : ℕ) (xs : List ℕ) → among c (xs ++ k ∷ []) ≡ cond (eqb k c) true (among c xs)
one_more c k xs = rw (occurs-append c xs (k ∷ [])) (go (eqb k c) (occurs c xs))
  where
    go : (b : Bool) (n : ℕ) → ltb 0 (n + (cond b 1 0 + 0)) ≡ cond b true (ltb 0 n)
    go true n = grind (arith, nat_tests)
    go false n = let e : n + (0 + 0) ≡ n = omega arith in rw e refl

read_flag : (xs : List Bool) (c d : ℕ) → c < length xs → get_or (set xs c true) d false ≡ cond (eqb c d) true (get_or xs d false)
read_flag xs c d below = go (eqb c d) refl
  where
    go : (b : Bool) → eqb c d ≡ b → get_or (set xs c true) d false ≡ cond b true (get_or xs d false)
    go true e = let at : c ≡ d = eqb-true c d e in subst (λ k. get_or (set xs c true) k false ≡ true) at (get_or-set_same xs c true false below)
    go false e = let other : d ≢ c = λ same. eqb-false c d e (sym same) in get_or-set_other xs c d true false other

-- one processor more is frozen
one_are : (n c : ℕ) (flags : List Bool) (xs : List ℕ) → c < n → AreFlags (λ d. among d xs) n flags →
    AreFlags (λ d. among d (xs ++ c ∷ [])) n (slice_set flags c true)
one_are n c flags xs below h =
    let all = h.places in
    record {
      places = length-set flags c true ∙ h.places;
      each = λ d there.
          read_flag flags c d (omega (arith, below, all)) ∙ ap (cond (eqb c d) true) (h.each d there) ∙ sym (one_more d c xs);
    }

same_flags : (n : ℕ) (flags : List Bool) (xs ys : List ℕ) → ys ≡ xs → AreFlags (λ d. among d xs) n flags → AreFlags (λ d. among d ys) n flags
same_flags n flags xs ys e h = record { places = h.places; each = λ c below. h.each c below ∙ ap (among c) (sym e) }

longer : (es : List Event) (e : Event) → length (es ++ e ∷ []) ≡ length es + 1
longer es e = length-append es (e ∷ [])

frozen_if : (head : Head) (es : List Event) (b : Bool) (s : SuspendedView) (xs : List ℕ) → AreFlags (λ c. among c xs) head.possible s.frozen →
    AreFlags (λ c. among c (cond b [] xs)) head.possible (cond b (none_frozen s.frozen) s.frozen)
frozen_if head es true s xs h = none_are head.possible s.frozen (λ c. among c xs) h
frozen_if head es false s xs h = h

-- an operation begins
enters : (head : Head) (es : List Event) (s : SuspendedView) (seat : ℕ) (op : Op) → IsSuspended head es s →
    IsSuspended head (es ++ Enter seat op ∷ []) (once_entered op s)
enters head es s seat op is =
    let e : Event = Enter seat op in
    record {
      disabled_is = ap (λ n. cond (is_thaw op) (n - 1) n) is.disabled_is ∙ sym (disabled_push es e);
      few = rw (longer es e) (fewer (is_thaw op) s.disabled is.few);
      frozen_is =
          same_flags head.possible (cond (is_freeze op) (none_frozen s.frozen) s.frozen) (cond (is_freeze op) [] (frozen es))
          (frozen (es ++ e ∷ [])) (frozen_push es e) (frozen_if head es (is_freeze op) s (frozen es) is.frozen_is);
      wakeup_is = is.wakeup_is ∙ sym (wakeup_push es e);
    }
  where
    fewer : (b : Bool) (n : ℕ) → n ≤ length es → cond b (n - 1) n ≤ length es + 1
    fewer true n h = omega (arith, h)
    fewer false n h = omega (arith, h)

-- an operation ends
ends : (head : Head) (es : List Event) (s : SuspendedView) (seat : ℕ) (answer : Answer) (op : Op) (o : Operation) → operation es ≡ Some o →
    o.op ≡ op → IsSuspended head es s → IsSuspended head (es ++ OpEnd seat answer ∷ []) (ended op s)
ends head es s seat answer op o held same is =
    let e : Event = OpEnd seat answer in
    let by : (test : Op → Bool) → held_by test (operation es) ≡ test op = λ test. ap (held_by test) held ∙ ap test same in
    record {
      disabled_is =
          ap (λ n. cond (is_disabling op) (n + 1) (cond (is_enabling op) (n - 1) n)) is.disabled_is
          ∙ sym (disabled_push es e ∙ rw (by is_disabling, by is_enabling) refl);
      few = rw (longer es e) (fewer (is_disabling op) (is_enabling op) s.disabled is.few);
      frozen_is =
          same_flags head.possible (cond (is_thaw op) (none_frozen s.frozen) s.frozen) (cond (is_thaw op) [] (frozen es))
          (frozen (es ++ e ∷ [])) (frozen_push es e ∙ rw (by is_thaw) refl) (frozen_if head es (is_thaw op) s (frozen es) is.frozen_is);
      wakeup_is = ap (cond (is_freeze op) false) is.wakeup_is ∙ sym (wakeup_push es e ∙ rw (by is_freeze) refl);
    }
  where
    fewer : (a b : Bool) (n : ℕ) → n ≤ length es → cond a (n + 1) (cond b (n - 1) n) ≤ length es + 1
    fewer true b n h = omega (arith, h)
    fewer false true n h = omega (arith, h)
    fewer false false n h = omega (arith, h)

-- a walk ends
walk_ends : (head : Head) (es : List Event) (s : SuspendedView) (seat c : ℕ) (answer : Answer) (op : Op) (o : Operation) →
    operation es ≡ Some o → o.op ≡ op → c < head.possible → IsSuspended head es s →
    IsSuspended head (es ++ WalkEnd seat c answer ∷ []) (walked op c answer s)
walk_ends head es s seat c answer op o held same below is =
    go (is_freeze op) (is_ok answer) (frozen_push es e ∙ rw (by is_freeze) refl)
  where
    e : Event
    e = WalkEnd seat c answer

    by : (test : Op → Bool) → held_by test (operation es) ≡ test op
    by test = ap (held_by test) held ∙ ap test same

    so : (flags : List Bool) (xs : List ℕ) → AreFlags (λ d. among d xs) head.possible flags → frozen (es ++ e ∷ []) ≡ xs →
        IsSuspended head (es ++ e ∷ []) (record { disabled = s.disabled; frozen = flags; wakeup = s.wakeup })
    so flags xs h is_now = record {
      disabled_is = is.disabled_is ∙ sym (disabled_push es e);
      few = rw (longer es e) (let n = is.few in omega (arith, n));
      frozen_is = same_flags head.possible flags xs (frozen (es ++ e ∷ [])) is_now h;
      wakeup_is = is.wakeup_is ∙ sym (wakeup_push es e);
    }

    go : (freezes fine : Bool) → frozen (es ++ e ∷ []) ≡ cond (freezes && fine) (frozen es ++ c ∷ []) (frozen es) →
        IsSuspended head (es ++ e ∷ [])
        (cond freezes (cond fine (record { disabled = s.disabled; frozen = slice_set s.frozen c true; wakeup = s.wakeup }) s) s)
    go true true h = so (slice_set s.frozen c true) (frozen es ++ c ∷ []) (one_are head.possible c s.frozen (frozen es) below is.frozen_is) h
    go true false h = so s.frozen (frozen es) is.frozen_is h
    go false fine h = so s.frozen (frozen es) is.frozen_is h

-- nothing of it changes
stays : (head : Head) (es : List Event) (s : SuspendedView) (e : Event) → disabled (es ++ e ∷ []) ≡ disabled es →
    frozen (es ++ e ∷ []) ≡ frozen es → wakeup_pending (es ++ e ∷ []) ≡ wakeup_pending es → IsSuspended head es s →
    IsSuspended head (es ++ e ∷ []) s
stays head es s e a b c is = record {
  disabled_is = is.disabled_is ∙ sym a;
  few = rw (longer es e) (let n = is.few in omega (arith, n));
  frozen_is = same_flags head.possible s.frozen (frozen es) (frozen (es ++ e ∷ [])) b is.frozen_is;
  wakeup_is = is.wakeup_is ∙ sym c;
}

pub suspension_more : (head : Head) (es : List Event) (s : SuspendedView) (op : Op) (e : Event) → IsUnder head es op e → IsSuspended head es s →
    IsSuspended head (es ++ e ∷ []) (suspension_after op e s)
suspension_more head es s op (Enter seat asked) under is = enters head es s seat asked is
suspension_more head es s op (WalkEnd seat c answer) under is =
    walk_ends head es s seat c answer op under.0.0 under.0.1 under.0.2 under.1 is
suspension_more head es s op (OpEnd seat answer) under is = ends head es s seat answer op under.0 under.1 under.2 is
suspension_more head es s op (Wakeup seat) under is =
    let e : Event = Wakeup seat in
    record {
      disabled_is = is.disabled_is ∙ sym (disabled_push es e);
      few = rw (longer es e) (let n = is.few in omega (arith, n));
      frozen_is = same_flags head.possible s.frozen (frozen es) (frozen (es ++ e ∷ [])) (frozen_push es e) is.frozen_is;
      wakeup_is = sym (wakeup_push es e);
    }
suspension_more head es s op e under is = stays head es s e (disabled_push es e) (frozen_push es e) (wakeup_push es e) is

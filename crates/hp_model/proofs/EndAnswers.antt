-- What an operation ends with, by the answers of its walks.
use Rattle.std.proofs.Common.{◌≡◌, ℕ, ℤ, pos, Bool, true, false, not, cond, eqb, Some, None, List, [], ◌∷◌, ◌++◌, length, ◌⊎◌, inl, inr, refl, sym, ap, ◌∙◌}
use Rattle.std.proofs.lemmas.Bool.{true≢false, eq-eqb}
use Rattle.hp_states.proofs.Basics.{none_some, same_some}
use Rattle.hp_states.specs.declared.limits.TheConstants.{OFFLINE, ONLINE, EBUSY}
use Rattle.hp_event.specs.declared.answer.Answer.{Answer}
use Rattle.hp_event.specs.declared.answer.Answer.TheVariants.{Ok}
use Rattle.hp_event.specs.declared.answer.Answer.TheVariants as answers_are
use Rattle.hp_event.specs.declared.op.Op.{Op}
use Rattle.hp_event.specs.declared.op.Op.TheVariants as op
use Rattle.hp_event.specs.declared.head.Head.{Head}
use Rattle.hp_event.specs.declared.event.Event.{Event}
use Rattle.hp_event.specs.declared.event.Event.TheVariants.{Enter, WalkBegin, WalkEnd, OpEnd}
use Rattle.hp_model.specs.Lawful.{Comes, IsLawful}
use Rattle.hp_model.specs.MapLock.{Operation, operation}
use Rattle.hp_model.specs.Completes.{IsWoken, counts_failures}
use Rattle.hp_model.specs.Sequence.{Next, walks, ends, next, answers, failures, single_next, first_next, boot_next, freeze_next, batch_next, to_boot, to_freeze, to_thaw, target_of}
use Rattle.hp_model.specs.Batch.{batch, unbegun}
use Rattle.hp_model.specs.Batch.{is_upmany}
use Rattle.hp_model.specs.Suspend.{held_by}
use Rattle.hp_model.specs.Settled.{settled}
use Rattle.hp_model.specs.Suspend.{is_ok, wakeup_pending}
use Rattle.hp_model.specs.Walks.{Walk, walk, is_walking}
use Rattle.hp_model.proofs.Laws.{walk_push, answers_push, operation_push}
use Rattle.hp_model.proofs.Owners.{Owners, enters_at_rest}
use Rattle.hp_model.proofs.Faultless.{some_item, AreZero, no_failures}
use Rattle.hp_model.proofs.Induction.{holds}

pub same_end : (a b : Answer) → ends a ≡ ends b → a ≡ b
same_end a b h = cc

pub no_end : (c to : ℕ) (a : Answer) → walks c to ≡ ends a → ⊥
no_end c to a h = cc

pub nothing_ends : (a : Answer) → Next.nothing ≡ ends a → ⊥
nothing_ends a h = cc

-- the end of one walk
pub single_zero : (c to now : ℕ) (xs : List Answer) (answer : Answer) → AreZero xs → single_next c to now xs ≡ ends answer →
    answer ≡ Ok (pos 0)
single_zero c to now [] answer ok is = go (eqb now to) is
  where
    go : (b : Bool) → cond b (ends (Ok (pos 0))) (walks c to) ≡ ends answer → answer ≡ Ok (pos 0)
    go true h = sym (same_end (Ok (pos 0)) answer h)
    go false h = absurd (no_end c to answer h)
single_zero c to now (a ∷ more) answer ok is = sym (same_end a answer is) ∙ ok.0

-- the end of many
pub first_count : (to n : ℕ) (xs : List ℕ) (answer : Answer) → first_next to xs (Ok (pos n)) ≡ ends answer → answer ≡ Ok (pos n)
first_count to n [] answer is = sym (same_end (Ok (pos n)) answer is)
first_count to n (c ∷ cs) answer is = absurd (no_end c to answer is)

pub boot_count : (enough : Bool) (xs : List ℕ) (n : ℕ) (answer : Answer) → boot_next enough xs n ≡ ends answer → answer ≡ Ok (pos n)
boot_count true xs n answer is = sym (same_end (Ok (pos n)) answer is)
boot_count false xs n answer is = first_count ONLINE n xs answer is

pub batch_count : (xs : List ℕ) (walking : Bool) (n : ℕ) (answer : Answer) → batch_next xs walking (Ok (pos n)) ≡ ends answer →
    answer ≡ Ok (pos n)
batch_count (c ∷ cs) walking n answer is = absurd (no_end c ONLINE answer is)
batch_count [] true n answer is = absurd (nothing_ends answer is)
batch_count [] false n answer is = sym (same_end (Ok (pos n)) answer is)

pub count_is : (head : Head) (xs entered : List Event) (asked : Op) (answer : Answer) → counts_failures asked ≡ true →
    next head xs entered asked ≡ ends answer → answer ≡ Ok (pos (length (failures (answers xs))))
count_is head xs entered (op.Boot n) answer many is = boot_count _ (to_boot head xs) _ answer is
count_is head xs entered op.Thaw answer many is = first_count ONLINE _ (to_thaw xs) answer is
count_is head xs entered (op.UpMany set) answer many is =
    batch_count (unbegun (batch head entered (op.UpMany set)) xs) (is_walking xs) _ answer is
count_is head xs entered asked answer many is = absurd (true≢false (sym many))

pub zero_count : (xs : List Answer) (answer : Answer) → AreZero xs → answer ≡ Ok (pos (length (failures xs))) → answer ≡ Ok (pos 0)
zero_count xs answer ok is = is ∙ ap (λ ys. Ok (pos (length ys))) (no_failures xs ok)

-- a freeze that is woken ends
pub woken_next : (head : Head) (o : Operation) (xs : List Event) → failures (answers xs) ≡ [] → IsWoken head o xs →
    next head xs o.before o.op ≡ ends (answers_are.Refused EBUSY)
woken_next head o xs none w = rw (w.op_is, none, w.pending, w.still_to_walk) refl

abbrev pub ZeroOrWoken : Head → Operation → List Event → Answer → Type 0
ZeroOrWoken head o xs answer = (answer ≡ Ok (pos 0)) ⊎ ((answer ≡ answers_are.Refused EBUSY) × IsWoken head o xs)

pub frozen_ends : (head : Head) (o : Operation) (xs : List Event) (p : ℤ) (answer : Answer) → o.op ≡ op.Freeze p →
    (failed : List Answer) → failed ≡ [] → (waking : Bool) → wakeup_pending xs ≡ waking →
    (todo : List ℕ) → to_freeze head p o.before xs ≡ todo → freeze_next waking failed todo ≡ ends answer → ZeroOrWoken head o xs answer
frozen_ends head o xs p answer is (a ∷ more) none waking w todo t h = absurd (some_item a more none)
frozen_ends head o xs p answer is [] none waking w [] t h = inl (sym (same_end (Ok (pos 0)) answer h))
frozen_ends head o xs p answer is [] none true w (c ∷ cs) t h =
    inr (
      sym (same_end (answers_are.Refused EBUSY) answer h),
      record { primary = p; op_is = is; pending = w; cpu = c; others = cs; still_to_walk = t },
    )
frozen_ends head o xs p answer is [] none false w (c ∷ cs) t h = absurd (no_end c OFFLINE answer h)

pub over_is : (head : Head) (o : Operation) (xs : List Event) (answer : Answer) → AreZero (answers xs) →
    (asked : Op) → o.op ≡ asked → next head xs o.before asked ≡ ends answer → ZeroOrWoken head o xs answer
over_is head o xs answer ok (op.Up c) e is = inl (single_zero c ONLINE (settled c xs) (answers xs) answer ok is)
over_is head o xs answer ok (op.Down c) e is = inl (single_zero c OFFLINE (settled c xs) (answers xs) answer ok is)
over_is head o xs answer ok (op.Target c v) e is = inl (single_zero c (target_of v) (settled c xs) (answers xs) answer ok is)
over_is head o xs answer ok op.Disable e is = inl (sym (same_end (Ok (pos 0)) answer is))
over_is head o xs answer ok op.Enable e is = inl (sym (same_end (Ok (pos 0)) answer is))
over_is head o xs answer ok (op.Freeze p) e is =
    frozen_ends head o xs p answer e (failures (answers xs)) (no_failures (answers xs) ok) (wakeup_pending xs) refl
    (to_freeze head p o.before xs) refl is
over_is head o xs answer ok (op.Boot n) e is =
    inl (zero_count (answers xs) answer ok (count_is head xs o.before (op.Boot n) answer refl is))
over_is head o xs answer ok op.Thaw e is = inl (zero_count (answers xs) answer ok (count_is head xs o.before op.Thaw answer refl is))
over_is head o xs answer ok (op.UpMany set) e is =
    inl (zero_count (answers xs) answer ok (count_is head xs o.before (op.UpMany set) answer refl is))
over_is head o xs answer ok asked e is = absurd (nothing_ends answer is)

-- an operation that doesn't count walks one processor, or none
abbrev pub is_single : Op → Bool
is_single (op.Up c) = true
is_single (op.Down c) = true
is_single (op.Target c v) = true
is_single _ = false

abbrev pub is_few : Op → Bool
is_few op.Disable = true
is_few op.Enable = true
is_few asked = is_single asked

pub record AreFew (xs : List Event) (asked : Op) : Type 0 where
  pub fresh : (c : ℕ) (w : Walk) → walk c xs ≡ Some w → (answers xs ≡ []) × (is_single asked ≡ true)
  pub most : (answers xs ≡ []) ⊎ ((a : Answer) × (answers xs ≡ a ∷ []) × (is_single asked ≡ true))

abbrev pub Few : List Event → Type 0
Few xs = (o : Operation) → operation xs ≡ Some o → is_few o.op ≡ true → AreFew xs o.op

pub single_first : (c to now : ℕ) (xs : List Answer) (d t : ℕ) → single_next c to now xs ≡ walks d t → xs ≡ []
single_first c to now [] d t h = refl
single_first c to now (a ∷ more) d t h = absurd (no_end d t a (sym h))

pub begins_first : (head : Head) (xs entered : List Event) (asked : Op) (d t : ℕ) → is_few asked ≡ true →
    next head xs entered asked ≡ walks d t → (answers xs ≡ []) × (is_single asked ≡ true)
begins_first head xs entered (op.Up c) d t few h = (single_first c ONLINE (settled c xs) (answers xs) d t h, refl)
begins_first head xs entered (op.Down c) d t few h = (single_first c OFFLINE (settled c xs) (answers xs) d t h, refl)
begins_first head xs entered (op.Target c v) d t few h = (single_first c (target_of v) (settled c xs) (answers xs) d t h, refl)
begins_first head xs entered op.Disable d t few h = absurd (no_end d t (Ok (pos 0)) (sym h))
begins_first head xs entered op.Enable d t few h = absurd (no_end d t (Ok (pos 0)) (sym h))
begins_first head xs entered asked d t few h = absurd (true≢false (sym few))

pub few_walks_one : (asked : Op) → is_few asked ≡ true → is_upmany asked ≡ false
few_walks_one (op.UpMany set) few = absurd (true≢false (sym few))
few_walks_one asked few = refl

pub few_step : (head : Head) (xs : List Event) (e : Event) → Comes head xs e → Owners xs → Few xs → Few (xs ++ e ∷ [])
few_step head xs (Enter seat asked) h own i o held few =
    let none : answers (xs ++ Enter seat asked ∷ []) ≡ [] = answers_push xs (Enter seat asked) in
    record {
      fresh = λ c w q. absurd (enters_at_rest head xs seat asked own h c w (rw (walk_push c xs (Enter seat asked)) at q));
      most = inl none;
    }
few_step head xs (WalkBegin seat cpu from to) h own i o held few =
    let e = WalkBegin seat cpu from to in
    let same : h.of ≡ o = same_some h.of o (sym h.held ∙ (rw (operation_push xs e) at held)) in
    let p = begins_first head xs o.before o.op cpu to few (rw same at h.gives) in
    record { fresh = λ c w q. (answers_push xs e ∙ p.0, p.1); most = inl (answers_push xs e ∙ p.0) }
few_step head xs (WalkEnd seat cpu answer) h own i o held few =
    let e = WalkEnd seat cpu answer in
    let at = rw (operation_push xs e) at held in
    let k = (i o at few).fresh cpu h.of h.in_flight in
    let single : held_by is_upmany (operation xs) ≡ false = rw at (few_walks_one o.op few) in
    record {
      fresh = λ d w q. go d w (λ p. own.one_walk cpu d h.of w h.in_flight p single) (eqb cpu d) refl (rw (walk_push d xs e) at q);
      most = inr (answer, answers_push xs e ∙ rw k.0 refl, k.1);
    }
  where
    go : (d : ℕ) (w : Walk) → (walk d xs ≡ Some w → cpu ≡ d) → (b : Bool) → eqb cpu d ≡ b → cond b None (walk d xs) ≡ Some w →
        (answers (xs ++ WalkEnd seat cpu answer ∷ []) ≡ []) × (is_single o.op ≡ true)
    go d w one true f q = absurd (none_some w q)
    go d w one false f q = absurd (true≢false (sym (eq-eqb cpu d (one q)) ∙ f))
few_step head xs (OpEnd seat answer) h own i o held few = absurd (none_some o (rw (operation_push xs (OpEnd seat answer)) at held))
few_step head xs e h own i o held few =
    let k = i o (rw (operation_push xs e) at held) few in
    record {
      fresh = λ c w q. rw (answers_push xs e) (k.fresh c w (rw (walk_push c xs e) at q));
      most = rw (answers_push xs e) k.most;
    }

pub few : (head : Head) (xs : List Event) → IsLawful head xs → Few xs
unfolding operation
few head xs h = holds head Few (λ o held k. absurd (none_some o held)) (λ xs e s k i. few_step head xs e s.0 k.owners i) xs h

pub one_ok : (a answer : Answer) → a ≡ answer → is_ok answer ≡ true → failures (a ∷ []) ≡ []
one_ok a answer e ok = go (is_ok a) (ap is_ok e ∙ ok)
  where
    go : (b : Bool) → b ≡ true → cond (not b) (a ∷ []) [] ≡ []
    go true h = refl
    go false h = absurd (true≢false (sym h))

pub few_failures : (head : Head) (xs entered : List Event) (asked : Op) (answer : Answer) → is_single asked ≡ true →
    (a : Answer) → answers xs ≡ a ∷ [] → next head xs entered asked ≡ ends answer → a ≡ answer
few_failures head xs entered (op.Up c) answer single a e is = same_end a answer (rw e at is)
few_failures head xs entered (op.Down c) answer single a e is = same_end a answer (rw e at is)
few_failures head xs entered (op.Target c v) answer single a e is = same_end a answer (rw e at is)
few_failures head xs entered asked answer single a e is = absurd (true≢false (sym single))

pub single_failures : (head : Head) (xs entered : List Event) (asked : Op) (answer : Answer) → AreFew xs asked →
    next head xs entered asked ≡ ends answer → is_ok answer ≡ true → failures (answers xs) ≡ []
single_failures head xs entered asked answer f is ok = go f.most
  where
    go : (answers xs ≡ []) ⊎ ((a : Answer) × (answers xs ≡ a ∷ []) × (is_single asked ≡ true)) → failures (answers xs) ≡ []
    go (inl e) = rw e refl
    go (inr p) = rw p.1 (one_ok p.0 answer (few_failures head xs entered asked answer p.2 p.0 p.1 is) ok)

-- the first that failed isn't Ok
pub first_failure : (xs : List Answer) (a : Answer) (more : List Answer) → failures xs ≡ a ∷ more → is_ok a ≡ false
first_failure [] a more h = absurd (some_item a more (sym h))
first_failure (x ∷ xs) a more h = go (is_ok x) refl (first_failure xs a more) h
  where
    head_is : (x a : Answer) (ys more : List Answer) → x ∷ ys ≡ a ∷ more → x ≡ a
    head_is x a ys more h = cc

    go : (b : Bool) → is_ok x ≡ b → (failures xs ≡ a ∷ more → is_ok a ≡ false) → cond (not b) (x ∷ failures xs) (failures xs) ≡ a ∷ more →
        is_ok a ≡ false
    go true e r k = r k
    go false e r k = ap is_ok (sym (head_is x a (failures xs) more k)) ∙ e

pub freeze_failures : (waking : Bool) (failed : List Answer) (todo : List ℕ) (answer : Answer) →
    ((a : Answer) (more : List Answer) → failed ≡ a ∷ more → is_ok a ≡ false) → freeze_next waking failed todo ≡ ends answer →
    is_ok answer ≡ true → failed ≡ []
freeze_failures waking [] todo answer f is ok = refl
freeze_failures waking (a ∷ more) todo answer f is ok =
    absurd (true≢false (sym ok ∙ (ap is_ok (sym (same_end a answer is)) ∙ f a more refl)))

-- an operation that doesn't count answers Ok only where no walk of it failed
pub no_failed_walk : (head : Head) (xs : List Event) (o : Operation) (answer : Answer) → Few xs → operation xs ≡ Some o →
    (asked : Op) → o.op ≡ asked → counts_failures asked ≡ false → next head xs o.before asked ≡ ends answer → is_ok answer ≡ true →
    failures (answers xs) ≡ []
no_failed_walk head xs o answer f held (op.Freeze p) e one is ok =
    freeze_failures (wakeup_pending xs) (failures (answers xs)) (to_freeze head p o.before xs) answer (first_failure (answers xs)) is ok
no_failed_walk head xs o answer f held (op.Up c) e one is ok =
    single_failures head xs o.before (op.Up c) answer (rw e at (f o held (ap is_few e))) is ok
no_failed_walk head xs o answer f held (op.Down c) e one is ok =
    single_failures head xs o.before (op.Down c) answer (rw e at (f o held (ap is_few e))) is ok
no_failed_walk head xs o answer f held (op.Target c v) e one is ok =
    single_failures head xs o.before (op.Target c v) answer (rw e at (f o held (ap is_few e))) is ok
no_failed_walk head xs o answer f held op.Disable e one is ok =
    single_failures head xs o.before op.Disable answer (rw e at (f o held (ap is_few e))) is ok
no_failed_walk head xs o answer f held op.Enable e one is ok =
    single_failures head xs o.before op.Enable answer (rw e at (f o held (ap is_few e))) is ok
no_failed_walk head xs o answer f held (op.Boot n) e one is ok = absurd (true≢false one)
no_failed_walk head xs o answer f held op.Thaw e one is ok = absurd (true≢false one)
no_failed_walk head xs o answer f held (op.UpMany set) e one is ok = absurd (true≢false one)
no_failed_walk head xs o answer f held asked e one is ok = absurd (nothing_ends answer is)

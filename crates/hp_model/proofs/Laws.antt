-- One event more: what each notion is after the events and one more.
use Rattle.std.proofs.Common.{◌≡◌, ℕ, ◌+◌, ◌≤◌, Bool, true, false, ◌&&◌, cond, eqb, None, List, [], ◌∷◌, ◌++◌, length, refl, ap, ◌∙◌, append_assoc, arith}
use Rattle.std.proofs.lemmas.List.{append-nil, length_push}
use Rattle.hp_states.specs.Rules.{Site}
use Rattle.hp_event.specs.declared.op.Op.TheVariants.{Setup}
use Rattle.hp_event.specs.declared.head.Head.{Head}
use Rattle.hp_event.specs.declared.event.Event.{Event}
use Rattle.hp_event.specs.declared.event.Event.TheVariants.{Call, RegBegin}
use Rattle.hp_model.specs.Journal.{over_from, EachAfter}
use Rattle.hp_model.specs.Walks.{walk_step, walk, entries_step, walk_entries, touched_step, touched, walking, walking_step}
use Rattle.hp_model.specs.Registrations.{registration_step, registration, registration_entries_step, registration_entries}
use Rattle.hp_model.specs.Registered.{registered_step, registered}
use Rattle.hp_model.specs.Readers.{reading_since_step, reading_since, readers, readers_step}
use Rattle.hp_model.specs.MapLock.{operation_step, operation}
use Rattle.hp_model.specs.Armed.{armed_step, armed}
use Rattle.hp_model.specs.Calls.{is_called, sites_step, sites}
use Rattle.hp_model.specs.Sequence.{begun_step, begun, answers_step, answers}
use Rattle.hp_model.specs.Suspend.{frozen_step, frozen, disabled_step, disabled, wakeup_step, wakeup_pending}
use Rattle.hp_model.specs.Settled.{settled_step, settled}
use Rattle.hp_model.specs.Summary.{faults_step, hook_faults}
use Rattle.hp_model.specs.Seats.{admits, admits_step, role_of, role_step, ap_seat, ap_step, seats, seats_step}

pub over_from_push : {S : Type 0} (step : S → List Event → Event → S) (value : S) (before xs : List Event) (e : Event) →
    over_from step value before (xs ++ e ∷ []) ≡ step (over_from step value before xs) (before ++ xs) e
over_from_push step value before [] e = rw append-nil refl
over_from_push step value before (x ∷ xs) e =
    over_from_push step (step value before x) (before ++ x ∷ []) xs e
    ∙ ap (λ z. step (over_from step (step value before x) (before ++ x ∷ []) xs) z e) (append_assoc before (x ∷ []) xs)

pub walk_push : (c : ℕ) (xs : List Event) (e : Event) → walk c (xs ++ e ∷ []) ≡ walk_step c (walk c xs) xs e
unfolding walk
walk_push c xs e = over_from_push (walk_step c) None [] xs e

pub walk_entries_push : (c : ℕ) (xs : List Event) (e : Event) →
    walk_entries c (xs ++ e ∷ []) ≡ entries_step c (walk_entries c xs) xs e
unfolding walk_entries
walk_entries_push c xs e = over_from_push (entries_step c) [] [] xs e

pub registration_push : (xs : List Event) (e : Event) → registration (xs ++ e ∷ []) ≡ registration_step (registration xs) xs e
unfolding registration
registration_push xs e = over_from_push registration_step None [] xs e

pub registration_entries_push : (xs : List Event) (e : Event) →
    registration_entries (xs ++ e ∷ []) ≡ registration_entries_step (registration_entries xs) xs e
unfolding registration_entries
registration_entries_push xs e = over_from_push registration_entries_step [] [] xs e

pub registered_push : (head : Head) (s : ℕ) (xs : List Event) (e : Event) →
    registered head s (xs ++ e ∷ []) ≡ registered_step head s (registered head s xs) xs e
unfolding registered
registered_push head s xs e = over_from_push (registered_step head s) None [] xs e

pub settled_push : (c : ℕ) (xs : List Event) (e : Event) →
    settled c (xs ++ e ∷ []) ≡ settled_step c (settled c xs) xs e
unfolding settled
settled_push c xs e = over_from_push (settled_step c) (cond (eqb c 0) 200 0) [] xs e

pub touched_push : (c o : ℕ) (xs : List Event) (e : Event) →
    touched c o (xs ++ e ∷ []) ≡ touched_step c o (touched c o xs) xs e
unfolding touched
touched_push c o xs e = over_from_push (touched_step c o) false [] xs e

-- each event stood when it came
pub EachAfter_push : (Rule : List Event → Event → Type 0) (before xs : List Event) (e : Event) →
    EachAfter Rule before (xs ++ e ∷ []) → EachAfter Rule before xs × Rule (before ++ xs) e
EachAfter_push Rule before [] e h = (tt, rw append-nil h.0)
EachAfter_push Rule before (x ∷ xs) e h =
    let r = EachAfter_push Rule (before ++ x ∷ []) xs e h.1 in
    ((h.0, r.0), rw (append_assoc before (x ∷ []) xs) at r.1)

pub reading_since_push : (k : ℕ) (xs : List Event) (e : Event) →
    reading_since k (xs ++ e ∷ []) ≡ reading_since_step k (reading_since k xs) xs e
unfolding reading_since
reading_since_push k xs e = over_from_push (reading_since_step k) None [] xs e

pub operation_push : (xs : List Event) (e : Event) → operation (xs ++ e ∷ []) ≡ operation_step (operation xs) xs e
unfolding operation
operation_push xs e = over_from_push operation_step None [] xs e

pub frozen_push : (xs : List Event) (e : Event) → frozen (xs ++ e ∷ []) ≡ frozen_step (frozen xs) xs e
unfolding frozen
frozen_push xs e = over_from_push frozen_step [] [] xs e

-- one event more, and the front of what was kept
pub EachAfter_more : (Rule : List Event → Event → Type 0) (before xs : List Event) (e : Event) →
    EachAfter Rule before xs → Rule (before ++ xs) e → EachAfter Rule before (xs ++ e ∷ [])
EachAfter_more Rule before [] e h r = (rw append-nil at r, tt)
EachAfter_more Rule before (x ∷ xs) e h r =
    (h.0, EachAfter_more Rule (before ++ x ∷ []) xs e h.1 (rw (append_assoc before (x ∷ []) xs) r))

-- what each event by the rule keeps
pub EachAfter_keeps : (Rule : List Event → Event → Type 0) (Holds : List Event → Type 0) →
    ((xs : List Event) (e : Event) → Rule xs e → Holds xs → Holds (xs ++ e ∷ [])) → (before xs : List Event) → Holds before →
    EachAfter Rule before xs → Holds (before ++ xs)
EachAfter_keeps Rule Holds keeps before [] k h = rw append-nil k
EachAfter_keeps Rule Holds keeps before (x ∷ xs) k h =
    let r = EachAfter_keeps Rule Holds keeps (before ++ x ∷ []) xs (keeps before x h.0 k) h.1 in
    rw (append_assoc before (x ∷ []) xs) at r

pub EachAfter_front : (Rule : List Event → Event → Type 0) (before xs ys : List Event) →
    EachAfter Rule before (xs ++ ys) → EachAfter Rule before xs
EachAfter_front Rule before [] ys h = tt
EachAfter_front Rule before (x ∷ xs) ys h = (h.0, EachAfter_front Rule (before ++ x ∷ []) xs ys h.1)

pub walking_push : (xs : List Event) (e : Event) → walking (xs ++ e ∷ []) ≡ walking_step (walking xs) xs e
unfolding walking
walking_push xs e = over_from_push walking_step [] [] xs e

pub readers_push : (xs : List Event) (e : Event) → readers (xs ++ e ∷ []) ≡ readers_step (readers xs) xs e
unfolding readers
readers_push xs e = over_from_push readers_step [] [] xs e

pub admits_push : (xs : List Event) (e : Event) → admits (xs ++ e ∷ []) ≡ admits_step (admits xs) xs e
unfolding admits
admits_push xs e = over_from_push admits_step 0 [] xs e

pub role_push : (k : ℕ) (xs : List Event) (e : Event) → role_of k (xs ++ e ∷ []) ≡ role_step k (role_of k xs) xs e
unfolding role_of
role_push k xs e = over_from_push (role_step k) None [] xs e

pub ap_push : (c : ℕ) (xs : List Event) (e : Event) → ap_seat c (xs ++ e ∷ []) ≡ ap_step c (ap_seat c xs) xs e
unfolding ap_seat
ap_push c xs e = over_from_push (ap_step c) None [] xs e

pub seats_push : (xs : List Event) (e : Event) → seats (xs ++ e ∷ []) ≡ seats_step (seats xs) xs e
unfolding seats
seats_push xs e = over_from_push seats_step [] [] xs e

pub armed_push : (c : ℕ) (xs : List Event) (e : Event) → armed c (xs ++ e ∷ []) ≡ armed_step c (armed c xs) xs e
unfolding armed
armed_push c xs e = over_from_push (armed_step c) None [] xs e

pub sites_push : (s : ℕ) (xs : List Event) (e : Event) → sites s (xs ++ e ∷ []) ≡ sites_step s (sites s xs) xs e
unfolding sites
sites_push s xs e = over_from_push (sites_step s) [] [] xs e

pub disabled_push : (xs : List Event) (e : Event) → disabled (xs ++ e ∷ []) ≡ disabled_step (disabled xs) xs e
unfolding disabled
disabled_push xs e = over_from_push disabled_step 0 [] xs e

pub wakeup_push : (xs : List Event) (e : Event) → wakeup_pending (xs ++ e ∷ []) ≡ wakeup_step (wakeup_pending xs) xs e
unfolding wakeup_pending
wakeup_push xs e = over_from_push wakeup_step false [] xs e

pub begun_push : (xs : List Event) (e : Event) → begun (xs ++ e ∷ []) ≡ begun_step (begun xs) xs e
unfolding begun
begun_push xs e = over_from_push begun_step [] [] xs e

pub answers_push : (xs : List Event) (e : Event) → answers (xs ++ e ∷ []) ≡ answers_step (answers xs) xs e
unfolding answers
answers_push xs e = over_from_push answers_step [] [] xs e

pub hook_faults_push : (s : ℕ) (xs : List Event) (e : Event) → hook_faults s (xs ++ e ∷ []) ≡ faults_step s (hook_faults s xs) xs e
unfolding hook_faults
hook_faults_push s xs e = over_from_push (faults_step s) 0 [] xs e

-- no hook was called more often than there are events
sites_grow : (s : ℕ) (found : List Site) (xs : List Event) (e : Event) → length (sites_step s found xs e) ≤ length found + 1
sites_grow s found xs (RegBegin seat state (Setup asked sub form)) = grind arith
sites_grow s found xs (Call seat cpu state inst dir how) = go (eqb state s && is_called how)
  where
    go : (b : Bool) → length (cond b (found ++ record { cpu = cpu; inst = inst; dir = dir } ∷ []) found) ≤ length found + 1
    go true = rw length_push (omega arith)
    go false = omega arith
sites_grow s found xs (RegBegin seat state op) = omega arith
sites_grow s found xs e = omega arith

sites_from : (s : ℕ) (found : List Site) (before es : List Event) →
    length (over_from (sites_step s) found before es) ≤ length found + length es
sites_from s found before [] = omega arith
sites_from s found before (e ∷ es) =
    let h = sites_from s (sites_step s found before e) (before ++ e ∷ []) es in
    let g = sites_grow s found before e in
    omega arith

pub sites_few : (s : ℕ) (xs : List Event) → length (sites s xs) ≤ length xs
unfolding sites
sites_few s xs = omega (arith, sites_from s [] [] xs)

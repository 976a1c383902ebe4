-- Where a walk up gets stuck: above 100, since no fault can come lower on a way back, and below where it was going.
use Rattle.std.proofs.Common.{◌≡◌, ℕ, zero, suc, ◌-◌, ◌<◌, ◌≤◌, Bool, true, false, cond, not, eqb, leb, ltb, Some, None, List, [], ◌∷◌, ◌++◌, refl, ap, sym, ◌∙◌, subst, inl, inr, ◌⊎◌, arith, append_assoc}
use Rattle.std.specs.Prelude.{reverse}
use Rattle.std.proofs.lemmas.List.{append-nil}
use Rattle.std.proofs.lemmas.Bool.{false≢true, eqb-true, ltb-false, lt-ltb, leb-false}
use Rattle.hp_states.proofs.Basics.{none_some}
use Rattle.hp_states.specs.declared.section.Section.{Section}
use Rattle.hp_states.specs.declared.section.Section.TheVariants.{Prepare, Starting, Online}
use Rattle.hp_states.specs.declared.dir.Dir.{Dir}
use Rattle.hp_states.specs.declared.dir.Dir.TheVariants.{Up, Down}
use Rattle.hp_states.specs.declared.place.Place.{Place}
use Rattle.hp_states.specs.declared.place.Place.TheVariants as place
use Rattle.hp_states.specs.Sections.{section_at, can_fail, can_fail_walking, can_fail_adding}
use Rattle.hp_event.specs.declared.how.How.{How}
use Rattle.hp_event.specs.declared.head.Head.{Head}
use Rattle.hp_event.specs.declared.event.Event.{Event}
use Rattle.hp_event.specs.declared.event.Event.TheVariants.{WalkBegin, Call, WalkEnd}
use Rattle.hp_model.specs.Journal.{EachAfter}
use Rattle.hp_model.specs.Entries.{is_done}
use Rattle.hp_model.specs.Crossing.{Crossing, done, failed, Slot, Fits, visit, slots_of, slots, Fill}
use Rattle.hp_model.specs.Lists.{is_empty, rising}
use Rattle.hp_model.specs.Plan.{keyed, direction, plan}
use Rattle.hp_model.specs.WalkShape.{crossed, IsStuck}
use Rattle.hp_model.specs.Walks.{Walk, walk, walk_entries}
use Rattle.hp_model.specs.StandsCalls.{InWalk, InRegistration}
use Rattle.hp_model.specs.Lawful.{Comes, Stands, IsLawful}
use Rattle.hp_model.proofs.Laws.{walk_push, walk_entries_push}
use Rattle.hp_model.proofs.Kept.{RegistrationKept, Kept}
use Rattle.hp_model.proofs.Induction.{Held, held_none, held_step}
use Rattle.hp_model.proofs.HowLemmas.{walk_fails}
use Rattle.hp_model.proofs.Members.{Has, has_left, has_right, has_either}
use Rattle.hp_model.proofs.PlanBounds.{Most, plan_most, most_at}

-- an entry that isn't done is one that may fail in a walk
abbrev pub CanCome : Event → Type 0
CanCome (Call seat cpu state inst dir how) = is_done how ≡ false → can_fail_walking dir (section_at state) ≡ true
CanCome _ = Unit {0}

abbrev pub FaultsCome : List Event → Type 0
FaultsCome xs = (c : ℕ) (w : Walk) → walk c xs ≡ Some w → (e : Event) → Has (walk_entries c xs) e → CanCome e

fails_adding : (d : Dir) (s : Section) → can_fail_adding d s ≡ true → can_fail_walking d s ≡ true
fails_adding d Prepare h = h
fails_adding d Starting h = h
fails_adding d Online h = refl

fails_walking : (d : Dir) (s : ℕ) (p : Place) → can_fail d s p ≡ true → can_fail_walking d (section_at s) ≡ true
fails_walking d s place.Forward h = h
fails_walking d s place.Back h = h
fails_walking d s place.Part h = absurd (false≢true h)
fails_walking d s place.Add h = fails_adding d (section_at s) h
fails_walking d s place.Undo h = absurd (false≢true h)
fails_walking d s place.Remove h = absurd (false≢true h)

-- the entry of a walk, which no registration is in flight with
called : (head : Head) (xs : List Event) (seat cpu state inst : ℕ) (dir : Dir) (how : How) (w : Walk) → Kept head xs →
    walk cpu xs ≡ Some w → InWalk head xs seat cpu state inst dir how ⊎ InRegistration head xs seat cpu state inst dir how →
    is_done how ≡ false → can_fail_walking dir (section_at state) ≡ true
called head xs seat cpu state inst dir how w k q (inl b) h =
    let s = b.entry.slot in
    let same : how ≡ _ = b.entry.how_is in
    fails_walking dir state s.place (walk_fails head xs cpu state inst dir s.place s.first (sym (ap is_done same) ∙ h))
called head xs seat cpu state inst dir how w k q (inr b) h =
    let r : RegistrationKept head b.entry.of xs = rw b.entry.in_flight at k.registration_kept in
    absurd (none_some w (sym (r.no_walk cpu) ∙ q))

faults_step : (head : Head) (xs : List Event) (e : Event) → Comes head xs e → Kept head xs → FaultsCome xs → FaultsCome (xs ++ e ∷ [])
faults_step head xs (WalkBegin seat cpu from to) h k f =
    λ c w q e m.
    go c w (eqb cpu c) (rw (walk_push c xs (WalkBegin seat cpu from to)) at q) e
    (rw (walk_entries_push c xs (WalkBegin seat cpu from to)) at m)
  where
    n : Walk
    n = record { seat = seat; from = from; to = to; before = xs }

    go : (c : ℕ) (w : Walk) (b : Bool) → cond b (Some n) (walk c xs) ≡ Some w → (e : Event) →
        Has (cond b [] (walk_entries c xs)) e → CanCome e
    go c w true q e m = absurd m
    go c w false q e m = f c w q e m
faults_step head xs (Call seat cpu state inst dir how) h k f =
    λ c w q e m.
    go c w (rw (walk_push c xs (Call seat cpu state inst dir how)) at q) e (eqb cpu c) refl
    (rw (walk_entries_push c xs (Call seat cpu state inst dir how)) at m)
  where
    this : Event
    this = Call seat cpu state inst dir how

    last : (c : ℕ) (w : Walk) → cpu ≡ c → walk c xs ≡ Some w → CanCome (Call seat cpu state inst dir how)
    last c w s q = called head xs seat cpu state inst dir how w k (rw s q) h

    go : (c : ℕ) (w : Walk) → walk c xs ≡ Some w → (e : Event) (b : Bool) → eqb cpu c ≡ b →
        Has (cond b (walk_entries c xs ++ Call seat cpu state inst dir how ∷ []) (walk_entries c xs)) e → CanCome e
    go c w q e true t m =
        one (has_either (walk_entries c xs) (Call seat cpu state inst dir how ∷ []) e m)
      where
        one : Has (walk_entries c xs) e ⊎ Has (Call seat cpu state inst dir how ∷ []) e → CanCome e
        one (inl a) = f c w q e a
        one (inr (inl s)) = subst CanCome s (last c w (eqb-true cpu c t) q)
        one (inr (inr a)) = absurd a
    go c w q e false t m = f c w q e m
faults_step head xs (WalkEnd seat cpu answer) h k f =
    λ c w q e m.
    go c w (eqb cpu c) (rw (walk_push c xs (WalkEnd seat cpu answer)) at q) e
    (rw (walk_entries_push c xs (WalkEnd seat cpu answer)) at m)
  where
    go : (c : ℕ) (w : Walk) (b : Bool) → cond b None (walk c xs) ≡ Some w → (e : Event) → Has (walk_entries c xs) e → CanCome e
    go c w true q e m = absurd (none_some w q)
    go c w false q e m = f c w q e m
faults_step head xs e h k f =
    λ c w q x m. f c w (rw (walk_push c xs e) at q) x (rw (walk_entries_push c xs e) at m)

faults_from : (head : Head) (before es : List Event) → Held head before → FaultsCome before → EachAfter (Stands head) before es →
    FaultsCome (before ++ es)
faults_from head before [] k f h = rw append-nil f
faults_from head before (e ∷ es) k f h =
    let r = faults_from head (before ++ e ∷ []) es (held_step head before e h.0.0 k) (faults_step head before e h.0.0 k.kept f) h.1 in
    rw (append_assoc before (e ∷ []) es) at r

pub faults_come : (head : Head) (xs : List Event) → IsLawful head xs → FaultsCome xs
unfolding walk
faults_come head xs h = faults_from head [] xs (held_none head h.0) (λ c w q e m. absurd (none_some w q)) h.1

-- rising states, all above one
abbrev Climbs : ℕ → List ℕ → Type 0
Climbs a [] = Unit {0}
Climbs a (s ∷ ss) = (a < s) × Climbs s ss

climbs_above : (a b : ℕ) (ss : List ℕ) → a ≤ b → Climbs b ss → Climbs a ss
climbs_above a b [] l h = tt
climbs_above a b (s ∷ ss) l h = (omega (arith, l, h.0), h.1)

climbs_rising : (a n : ℕ) → Climbs a (rising a n)
climbs_rising a zero = tt
climbs_rising a (suc n) = (omega arith, climbs_rising (suc a) n)

climbs_keyed : (keys : ℕ → List ℕ) (a : ℕ) (ss : List ℕ) → Climbs a ss → Climbs a (keyed keys ss)
climbs_keyed keys a [] h = tt
climbs_keyed keys a (s ∷ ss) h = go (not (is_empty (keys s))) (climbs_keyed keys s ss h.1)
  where
    go : (b : Bool) → Climbs s (keyed keys ss) → Climbs a (cond b (s ∷ keyed keys ss) (keyed keys ss))
    go true k = (h.0, k)
    go false k = climbs_above a s (keyed keys ss) (omega (arith, h.0)) k

climbs_after : (a : ℕ) (xs : List ℕ) (y : ℕ) (ys : List ℕ) → Climbs a (xs ++ y ∷ ys) → (a < y) × Climbs y ys
climbs_after a [] y ys h = h
climbs_after a (x ∷ xs) y ys h = let r = climbs_after x xs y ys h.1 in (omega (arith, h.0, r.0), r.1)

-- it goes back from a fault higher up
pub stuck_below : (keys : ℕ → List ℕ) (from to : ℕ) (before : List ℕ) (t : ℕ) (between : List ℕ) (s : ℕ) (after : List ℕ) →
    from < to → plan keys from to ≡ before ++ (t ∷ (between ++ s ∷ after)) → t < to
stuck_below keys from to before t between s after l e =
    let up : plan keys from to ≡ keyed keys (rising from (to - from)) = climbing in
    let c : Climbs from (before ++ (t ∷ (between ++ s ∷ after))) =
    subst (Climbs from) (sym up ∙ e) (climbs_keyed keys from (rising from (to - from)) (climbs_rising from (to - from)))
    in
    let above = climbs_after t between s after (climbs_after from before t (between ++ s ∷ after) c).1 in
    let m : Most to (before ++ (t ∷ (between ++ s ∷ after))) = subst (Most to) e (plan_most keys from to to (omega arith) (omega arith)) in
    let top : s ≤ to = most_at to (before ++ t ∷ between) s after (rw (append_assoc before (t ∷ between) (s ∷ after)) m) in
    omega (arith, above.0, top)
  where
    climbing : plan keys from to ≡ keyed keys (rising from (to - from))
    climbing = go (ltb from to) refl
      where
        go : (b : Bool) → ltb from to ≡ b →
            cond b (keyed keys (rising from (to - from))) (reverse (keyed keys (rising to (from - to))))
            ≡ keyed keys (rising from (to - from))
        go true f = refl
        go false f = let ge : to ≤ from = ltb-false from to f in absurd (omega arith)

-- each slot has its entry
slot_entry : (xs : List Slot) (es : List Event) (x : Slot) → Fill xs es → Has xs x → (e : Event) × (Has es e × Fits x e)
slot_entry [] es x f h = absurd h
slot_entry (y ∷ xs) [] x f h = absurd f
slot_entry (y ∷ xs) (e ∷ es) x f (inl s) = (e, (inl refl, rw s at f.0))
slot_entry (y ∷ xs) (e ∷ es) x f (inr h) = let r = slot_entry xs es x f.1 h in (r.0, (inr r.1.0, r.1.1))

slot_in : (c : ℕ) (keys : ℕ → List ℕ) (xs : List Crossing) (y : Crossing) (x : Slot) → Has xs y → Has (slots_of c keys y) x →
    Has (slots c keys xs) x
slot_in c keys [] y x h k = absurd h
slot_in c keys (z ∷ xs) y x (inl s) k = has_left (slots_of c keys z) (slots c keys xs) x (rw s k)
slot_in c keys (z ∷ xs) y x (inr h) k = has_right (slots_of c keys z) (slots c keys xs) x (slot_in c keys xs y x h k)

-- a teardown may fail in a walk above 100 alone
down_fails : (s : ℕ) → can_fail_walking Down (section_at s) ≡ true → 100 < s
down_fails s h = go (leb s 62) (leb s 100) refl h
  where
    go : (a b : Bool) → leb s 100 ≡ b → can_fail_walking Down (cond a Prepare (cond b Starting Online)) ≡ true → 100 < s
    go true b e h = absurd (false≢true h)
    go false true e h = absurd (false≢true h)
    go false false e h = leb-false s 100 e

-- the entry of the slot that failed on the way back
failed_high : (c t i : ℕ) (b : Bool) (e : Event) →
    Fits (record { cpu = c; state = t; inst = i; dir = Down; place = place.Back; first = b; fails = true }) e → CanCome e → 100 < t
failed_high c t i b (Call seat cpu state inst dir how) f k =
    down_fails t (rw (f.1, f.3) at (k f.4))
failed_high c t i b e f k = absurd f

-- where a walk up is stuck, when its faults can come
pub stuck_between : (c : ℕ) (keys : ℕ → List ℕ) (from to at : ℕ) (xs : List Crossing) (es : List Event) → from < to →
    IsStuck keys (direction from to) (plan keys from to) at xs → Fill (slots c keys xs) es →
    ((e : Event) → Has es e → CanCome e) → (100 < at) × (at < to)
stuck_between c keys from to at xs es l h f come =
    let up : direction from to ≡ Up = ap (λ b. cond b Up Down) (lt-ltb from to l) in
    going (subst (λ d. IsStuck keys d (plan keys from to) at xs) up h)
  where
    going : IsStuck keys Up (plan keys from to) at xs → (100 < at) × (at < to)
    going s =
        let y : Crossing = failed place.Back Down s.stuck_state s.stuck_earlier s.stuck_inst in
        let x : Slot = record {
          cpu = c;
          state = s.stuck_state;
          inst = s.stuck_inst;
          dir = Down;
          place = place.Back;
          first = is_empty s.stuck_earlier;
          fails = true;
        } in
        let back : List Crossing = crossed place.Back Down (reverse s.between) ++ y ∷ [] in
        let up : List Crossing =
        crossed place.Forward Up s.between ++ (failed place.Forward Up s.state s.earlier s.inst ∷ back) in
        let there : Has xs y =
        rw s.crossings_are
        (has_right (crossed place.Forward Up s.before) (done place.Forward Up s.stuck_state ∷ up) y
        (inr (has_right (crossed place.Forward Up s.between) (failed place.Forward Up s.state s.earlier s.inst ∷ back) y
        (inr (has_right (crossed place.Back Down (reverse s.between)) (y ∷ []) y (inl refl))))))
        in
        let fails : Has (slots_of c keys y) x =
        has_right (visit c place.Back Down s.stuck_state true s.stuck_earlier)
        (x ∷ visit c place.Part Up s.stuck_state false s.stuck_earlier) x (inl refl)
        in
        let of : Has (slots c keys xs) x = slot_in c keys xs y x there fails in
        let r = slot_entry (slots c keys xs) es x f of in
        rw s.at_is (
          failed_high c s.stuck_state s.stuck_inst (is_empty s.stuck_earlier) r.0 r.1.1 (come r.0 r.1.0),
          stuck_below keys from to s.before s.stuck_state s.between s.state s.after l s.plan_is,
        )

-- What is in flight ends in the window, or is in flight at its end.
use Rattle.std.proofs.Common.{◌≡◌, ℕ, zero, suc, ◌+◌, ◌-◌, ◌<◌, ◌≤◌, Bool, true, false, cond, eqb, is_some, Option, Some, None, List, [], ◌∷◌, ◌++◌, length, take, get_or, refl, sym, ap, ◌∙◌, inl, inr, ◌⊎◌, arith}
use Rattle.std.specs.Prelude.{slice_get}
use Rattle.std.proofs.lemmas.List.{take_more}
use Rattle.std.proofs.lemmas.Bool.{true≢false, or_parts, eqb-true}
use Rattle.hp_states.proofs.Basics.{none_of, none_some}
use Rattle.hp_event.specs.declared.op.Op.{Op}
use Rattle.hp_event.specs.declared.op.Op.TheVariants.{Setup, Remove, Add, Del, Lock}
use Rattle.hp_event.specs.declared.event.Role.TheVariants.{Client}
use Rattle.hp_event.specs.declared.head.Head.{Head}
use Rattle.hp_event.specs.declared.event.Event.{Event}
use Rattle.hp_event.specs.declared.event.Event.TheVariants.{Admit, Enter, WalkBegin, WalkEnd, OpEnd, RegBegin, RegEnd, ReadLock, ReadUnlock}
use Rattle.hp_model.specs.Lawful.{Stands, IsLawful}
use Rattle.hp_model.specs.MapLock.{Operation, operation}
use Rattle.hp_model.specs.Readers.{reading_since, is_reading}
use Rattle.hp_model.specs.RefusalsAtOnce.{refusals_at_once}
use Rattle.hp_model.specs.Registrations.{Registration, registration, is_registering}
use Rattle.hp_model.specs.StandsRegistrations.{RegBegins}
use Rattle.hp_model.specs.StandsSeats.{ReadLocks}
use Rattle.hp_model.specs.Waits.{wait_to_register}
use Rattle.hp_model.specs.Walks.{Walk, walk}
use Rattle.hp_model.proofs.BatchLemmas.{begins_still}
use Rattle.hp_model.proofs.EntryProcessors.{present_below}
use Rattle.hp_model.proofs.EntryStays.{walk_kept}
use Rattle.hp_model.proofs.Induction.{held}
use Rattle.hp_model.proofs.Laws.{operation_push, registration_push, walk_push, reading_since_push}
use Rattle.hp_model.proofs.Owners.{map_free}
use Rattle.hp_model.proofs.Passing.{none_holds, passed}
use Rattle.hp_model.proofs.WaitLemmas.{is_writing, register_waits}
use Rattle.hp_timeline.specs.declared.window.Window.{Window}
use Rattle.hp_timeline.specs.Windows.{IsWindow}
use Rattle.hp_timeline.specs.Laws.{EndsOperation, EndsRegistration, EndsWalk, EndsSection, Ends, EachEndsOrGoes, EndsOrGoes}
use Rattle.hp_timeline.proofs.Clients.{reader_once}
use Rattle.hp_timeline.proofs.Events.{got, lawful_take, stands_at}

-- ---- whatever is in flight ends with an event, or is in flight after it

data After {X : Type 0} (in_flight : List Event → Option X) (IsEnd : Event → Type 0) (xs : List Event) (of : X) (e : Event) : Type 0 where
  ends : IsEnd e → After in_flight IsEnd xs of e
  goes : in_flight (xs ++ e ∷ []) ≡ Some of → After in_flight IsEnd xs of e

-- and so it does over many events
module _ {X : Type 0} (in_flight : List Event → Option X) (IsEnd : Event → Type 0) (head : Head)
    (step : (xs : List Event) (of : X) (e : Event) → IsLawful head xs → Stands head xs e → in_flight xs ≡ Some of → After in_flight IsEnd xs of e) where
  earlier : (events : List Event) (k n : ℕ) (of : X) →
      Ends in_flight IsEnd events (k + 1) n of ⊎ (in_flight (take n events) ≡ Some of) →
      Ends in_flight IsEnd events k n of ⊎ (in_flight (take n events) ≡ Some of)
  earlier events k n of (inl h) = let a = h.at_least in inl (record {
    place = h.place;
    at_least = omega (arith, a);
    below = h.below;
    event = h.event;
    at = h.at;
    is_end = h.is_end;
    held = h.held;
  })
  earlier events k n of (inr h) = inr h

  from_on : (events : List Event) (n : ℕ) → IsLawful head events → n ≤ length events → (d k : ℕ) → k + d ≡ n → (of : X) →
      in_flight (take k events) ≡ Some of → Ends in_flight IsEnd events k n of ⊎ (in_flight (take n events) ≡ Some of)
  from_on events n lawful low zero k e of h = let same : k ≡ n = omega arith in inr (rw same at h)
  from_on events n lawful low (suc d) k e of h =
      let b : k < length events = omega (arith, e, low) in
      let x : Event = get_or events k (Admit 0 Client) in
      let more : take (k + 1) events ≡ take k events ++ x ∷ [] = take_more events k (Admit 0 Client) b in
      go x (got events k b) more
      (step (take k events) of x (lawful_take head events k lawful) (stands_at head events k (Admit 0 Client) b lawful) h)
      (λ held. from_on events n lawful low d (k + 1) (omega (arith, e)) of held)
    where
      go : (x : Event) → slice_get events k ≡ Some x → take (k + 1) events ≡ take k events ++ x ∷ [] →
          After in_flight IsEnd (take k events) of x →
          (in_flight (take (k + 1) events) ≡ Some of → Ends in_flight IsEnd events (k + 1) n of ⊎ (in_flight (take n events) ≡ Some of)) →
          Ends in_flight IsEnd events k n of ⊎ (in_flight (take n events) ≡ Some of)
      go x is more (ends end) rest = inl (record {
        place = k;
        at_least = omega arith;
        below = omega (arith, e);
        event = x;
        at = is;
        is_end = end;
        held = h;
      })
      go x is more (goes held) rest = earlier events k n of (rest (ap in_flight more ∙ held))

  each_ends_or_goes : (events : List Event) (w : Window) → IsLawful head events → IsWindow w (length events) →
      EachEndsOrGoes in_flight IsEnd events w
  each_ends_or_goes events w lawful h = λ k of low. from_on events w.until lawful h.within (w.until - k) k (omega (arith, low)) of

-- ---- operations

operation_after : (head : Head) (xs : List Event) (of : Operation) (e : Event) → IsLawful head xs → Stands head xs e →
    operation xs ≡ Some of → After operation EndsOperation xs of e
operation_after head xs of (Enter seat op) lawful stands h =
    let free : operation xs ≡ None = map_free xs op stands.0.takes_map stands.0.passes.not_waiting in
    absurd (none_some of (sym free ∙ h))
operation_after head xs of (OpEnd seat answer) lawful stands h = ends tt
operation_after head xs of e lawful stands h = goes (operation_push xs e ∙ h)

-- ---- registrations

free_to_register : (xs : List Event) → is_some (wait_to_register xs) ≡ false → registration xs ≡ None
free_to_register xs h = none_of (registration xs) (or_parts (is_writing xs) (is_registering xs) (sym (register_waits xs) ∙ h)).1

registration_free : (head : Head) (xs : List Event) (seat state : ℕ) (op : Op) → RegBegins head xs seat state op → registration xs ≡ None
registration_free head xs seat state (Setup asked sub form) b = free_to_register xs b.passes.not_waiting
registration_free head xs seat state (Remove asked form) b = free_to_register xs b.passes.not_waiting
registration_free head xs seat state (Add asked inst form) b = free_to_register xs b.passes.not_waiting
registration_free head xs seat state (Del asked inst form) b = free_to_register xs b.passes.not_waiting
registration_free head xs seat state op b = absurd (none_some state b.state_is)

registration_after : (head : Head) (xs : List Event) (of : Registration) (e : Event) → IsLawful head xs → Stands head xs e →
    registration xs ≡ Some of → After registration EndsRegistration xs of e
registration_after head xs of (RegBegin seat state op) lawful stands h =
    absurd (none_some of (sym (registration_free head xs seat state op stands.0) ∙ h))
registration_after head xs of (RegEnd seat answer) lawful stands h = ends tt
registration_after head xs of e lawful stands h = goes (registration_push xs e ∙ h)

-- ---- walks

walk_after : (c : ℕ) (head : Head) (xs : List Event) (of : Walk) (e : Event) → IsLawful head xs → Stands head xs e →
    walk c xs ≡ Some of → After (walk c) (EndsWalk c) xs of e
walk_after c head xs of (WalkBegin seat cpu from to) lawful stands h = go (eqb cpu c) refl
  where
    go : (b : Bool) → eqb cpu c ≡ b → After (walk c) (EndsWalk c) xs of (WalkBegin seat cpu from to)
    go true e =
        let same : cpu ≡ c = eqb-true cpu c e in
        let still : walk c xs ≡ None =
        ap (λ n. walk n xs) (sym same) ∙ begins_still head xs seat cpu from to (held head xs lawful).owners stands.0 in
        absurd (none_some of (sym still ∙ h))
    go false e = goes (walk_push c xs (WalkBegin seat cpu from to) ∙ rw e h)
walk_after c head xs of (WalkEnd seat cpu answer) lawful stands h = go (eqb cpu c) refl
  where
    go : (b : Bool) → eqb cpu c ≡ b → After (walk c) (EndsWalk c) xs of (WalkEnd seat cpu answer)
    go true e = ends (eqb-true cpu c e)
    go false e = goes (walk_push c xs (WalkEnd seat cpu answer) ∙ rw e h)
walk_after c head xs of e lawful stands h = goes (walk_push c xs e ∙ h)

-- ---- read sections

reads_not : (head : Head) (xs : List Event) (seat : ℕ) → ReadLocks head xs seat → is_reading seat xs ≡ false
reads_not head xs seat h =
    let p = passed head xs seat Lock h.free.idle h.passes.not_waiting h.passes.not_refused in
    (none_holds (refusals_at_once head xs seat Lock) p.0).0

section_after : (k : ℕ) (head : Head) (xs since : List Event) (e : Event) → IsLawful head xs → Stands head xs e →
    reading_since k xs ≡ Some since → After (reading_since k) (EndsSection k) xs since e
section_after k head xs since (ReadLock seat) lawful stands h = go (eqb seat k) refl
  where
    go : (b : Bool) → eqb seat k ≡ b → After (reading_since k) (EndsSection k) xs since (ReadLock seat)
    go true e =
        let same : seat ≡ k = eqb-true seat k e in
        let out : is_reading k xs ≡ false = ap (λ n. is_reading n xs) (sym same) ∙ reads_not head xs seat stands.0 in
        absurd (true≢false (sym (ap is_some h) ∙ out))
    go false e = goes (reading_since_push k xs (ReadLock seat) ∙ rw e h)
section_after k head xs since (ReadUnlock seat) lawful stands h = go (eqb seat k) refl
  where
    go : (b : Bool) → eqb seat k ≡ b → After (reading_since k) (EndsSection k) xs since (ReadUnlock seat)
    go true e = ends (eqb-true seat k e)
    go false e = goes (reading_since_push k xs (ReadUnlock seat) ∙ rw e h)
section_after k head xs since e lawful stands h = goes (reading_since_push k xs e ∙ h)

pub ends_or_goes : (head : Head) (events : List Event) (w : Window) → IsLawful head events → IsWindow w (length events) → EndsOrGoes head events w
ends_or_goes head events w lawful h = record {
  operations = each_ends_or_goes operation EndsOperation head (operation_after head) events w lawful h;
  registrations = each_ends_or_goes registration EndsRegistration head (registration_after head) events w lawful h;
  walks = λ c. each_ends_or_goes (walk c) (EndsWalk c) head (walk_after c head) events w lawful h;
  sections = λ k. each_ends_or_goes (reading_since k) (EndsSection k) head (section_after k head) events w lawful h;
  walk_drawn = λ c of is.
      present_below head c (walk_kept head (take w.until events) c of (lawful_take head events w.until lawful) is).present;
  section_drawn = λ k since is. reader_once head (take w.until events) k since (lawful_take head events w.until lawful) is;
}

-- The lines of the processors, one event further.
use Rattle.std.proofs.Common.{◌≡◌, ℕ, ◌+◌, ◌<◌, ◌≤◌, Bool, true, false, ◌==◌, if◌then◌else◌, Option, Some, None, List, [], ◌∷◌, ◌++◌, length, get_or, set, take, refl, sym, ap, ap₂, ◌∙◌, arith, append_assoc}
use Rattle.std.specs.List.{flat_map}
use Rattle.std.proofs.lemmas.List.{length-set, append-nil}
use Rattle.std.proofs.lemmas.Grind.{flat_map-append}
use Rattle.std.proofs.lemmas.Bool.Decides.{nat_tests}
use Rattle.hp_event.specs.declared.head.Head.{Head}
use Rattle.hp_event.specs.declared.event.Event.{Event}
use Rattle.hp_event.specs.declared.event.Event.TheVariants.{WalkBegin, Call, WalkEnd}
use Rattle.hp_model.specs.Settled.{settled, settled_step}
use Rattle.hp_model.specs.Shown.{shown, shown_in}
use Rattle.hp_model.specs.Walks.{walk, walk_step, walk_entries, entries_step}
use Rattle.hp_model.proofs.Laws.{walk_push, walk_entries_push, settled_push}
use Rattle.hp_print.proofs.ProcessorTallyStep.{get_or-set}
use Rattle.hp_timeline.specs.declared.window.Window.{Window}
use Rattle.hp_timeline.specs.Windows.{places_between}
use Rattle.hp_timeline.specs.Tracks.{Step, step_to, step_at, steps_between, step_text, start_text, track_below}
use Rattle.hp_timeline.specs.Scenes.{cpu_in, AreTracks}
use Rattle.hp_timeline.proofs.Places.{places_none, places_more}

-- ---- what another processor's events leave

shown_push : (head : Head) (c : ℕ) (xs : List Event) (e : Event) →
    shown head c (xs ++ e ∷ [])
    ≡ shown_in head (walk_step c (walk c xs) xs e) (entries_step c (walk_entries c xs) xs e) (settled_step c (settled c xs) xs e)
shown_push head c xs e = rw (walk_push, walk_entries_push, settled_push) refl

pub shown_apart : (head : Head) (c : ℕ) (xs : List Event) (e : Event) → ((d : ℕ) → cpu_in e ≡ Some d → (d == c) ≡ false) →
    shown head c (xs ++ e ∷ []) ≡ shown head c xs
shown_apart head c xs e h = shown_push head c xs e ∙ go e h
  where
    go : (e : Event) → ((d : ℕ) → cpu_in e ≡ Some d → (d == c) ≡ false) →
        shown_in head (walk_step c (walk c xs) xs e) (entries_step c (walk_entries c xs) xs e) (settled_step c (settled c xs) xs e)
        ≡ shown head c xs
    go (WalkBegin seat cpu from to) h = rw (h cpu refl) refl
    go (Call seat cpu state inst dir how) h = rw (h cpu refl) refl
    go (WalkEnd seat cpu answer) h = rw (h cpu refl) refl
    go e h = refl

pub step_none : (k a b : ℕ) → a ≡ b → step_to k a b ≡ []
step_none k a b e = rw (e, same b) refl
  where
    same : (n : ℕ) → (n == n) ≡ true
    same n = grind (arith, nat_tests)

-- ---- one place further

pub steps_more : (head : Head) (c : ℕ) (events : List Event) (a k : ℕ) → a ≤ k →
    steps_between head c events a (k + 1) ≡ steps_between head c events a k ++ step_at head c events k
steps_more head c events a k h =
    rw (places_more a k h, flat_map-append (step_at head c events) (places_between a k) (k ∷ []), append-nil) refl

track_more : (head : Head) (events : List Event) (w : Window) (k c : ℕ) → w.before ≤ k →
    track_below head events w (k + 1) c ≡ track_below head events w k c ++ flat_map (step_text w c) (step_at head c events k)
track_more head events w k c h =
    rw (
      steps_more head c events w.before k h,
      flat_map-append (step_text w c) (steps_between head c events w.before k) (step_at head c events k),
    )
    (sym (append_assoc (start_text c _) _ _))

track_same : (head : Head) (events : List Event) (w : Window) (k c : ℕ) → w.before ≤ k →
    shown head c (take k events) ≡ shown head c (take (k + 1) events) →
    track_below head events w (k + 1) c ≡ track_below head events w k c
track_same head events w k c h same = track_more head events w k c h ∙ rw (step_none k _ _ same, append-nil) refl

pub tracks_begin : (head : Head) (events : List Event) (w : Window) (c : ℕ) →
    track_below head events w w.before c ≡ start_text c (shown head c (take w.before events))
tracks_begin head events w c = rw (places_none, append-nil) refl

-- the event is of no processor
pub tracks_stay : (head : Head) (events : List Event) (w : Window) (k : ℕ) (e : Event) (tracks : List (List ℕ)) → w.before ≤ k →
    take (k + 1) events ≡ take k events ++ e ∷ [] → cpu_in e ≡ None → AreTracks head events w k tracks →
    AreTracks head events w (k + 1) tracks
tracks_stay head events w k e tracks b more none h = record {
  many = h.many;
  each = λ c l.
      h.each c l
      ∙ sym (track_same head events w k c b
      (sym (ap (shown head c) more ∙ shown_apart head c (take k events) e (λ d is. absurd (cc (none, is))))));
}

-- the event is of a processor
pub tracks_go : (head : Head) (events : List Event) (w : Window) (k d : ℕ) (e : Event) (tracks : List (List ℕ)) (piece : List ℕ) →
    w.before ≤ k → take (k + 1) events ≡ take k events ++ e ∷ [] → cpu_in e ≡ Some d →
    (d < head.possible → piece ≡ flat_map (step_text w d) (step_at head d events k)) → AreTracks head events w k tracks →
    AreTracks head events w (k + 1) (set tracks d (get_or tracks d [] ++ piece))
tracks_go head events w k d e tracks piece b more is made h = record {
  many = length-set tracks d (get_or tracks d [] ++ piece) ∙ h.many;
  each = λ c l. get_or-set tracks d c (get_or tracks d [] ++ piece) [] (rw h.many l) ∙ go c l (d == c) refl;
}
  where
    go : (c : ℕ) → c < head.possible → (t : Bool) → (d == c) ≡ t →
        (if t then get_or tracks d [] ++ piece else get_or tracks c []) ≡ track_below head events w (k + 1) c
    go c l true p =
        let same : d ≡ c = grind (arith, nat_tests) in
        let low : d < head.possible = omega (arith, same, l) in
        rw (made low)
        (rw same (ap (λ t. t ++ flat_map (step_text w c) (step_at head c events k)) (h.each c l) ∙ sym (track_more head events w k c b)))
    go c l false p =
        h.each c l
        ∙ sym (track_same head events w k c b
        (sym (ap (shown head c) more ∙ shown_apart head c (take k events) e (λ x e2. other x e2))))
      where
        other : (x : ℕ) → cpu_in e ≡ Some x → (x == c) ≡ false
        other x e2 = let same : d ≡ x = cc (is, e2) in rw (sym same) p

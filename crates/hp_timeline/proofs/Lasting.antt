-- What is appended of what lasts, event by event, and all of it.
use Rattle.std.proofs.Common.{◌≡◌, ℕ, ◌+◌, ◌-◌, ◌≤◌, Result, Ok, Err, OnOk, List, [], ◌∷◌, ◌++◌, length, take, refl, sym, ap, ap₂, ◌∙◌, append_assoc}
use Rattle.std.specs.List.{flat_map}
use Rattle.std.proofs.lemmas.List.{append-nil}
use Rattle.std.proofs.lemmas.Grind.{flat_map-append}
use Rattle.hp_event.specs.declared.head.Head.{Head}
use Rattle.hp_event.specs.declared.event.Event.{Event}
use Rattle.hp_model.specs.Lists.{numbers}
use Rattle.hp_timeline.specs.declared.scene.Scene.{Scene}
use Rattle.hp_timeline.specs.declared.sheet.Sheet.{Sheet}
use Rattle.hp_timeline.specs.declared.span.Span.{Span}
use Rattle.hp_timeline.specs.declared.window.Window.{Window}
use Rattle.hp_timeline.specs.Windows.{places_between, places}
use Rattle.hp_timeline.specs.Sheet.{sheet_of}
use Rattle.hp_timeline.specs.Spans.{ended_at, going, spans, span_text}
use Rattle.hp_timeline.specs.Tracks.{stop_text, track_text}
use Rattle.hp_timeline.specs.Scenes.{IsScene, AreTracks, going_in}
use Rattle.hp_timeline.specs.Picture.{spans_text, tracks_text}
use Rattle.hp_timeline.proofs.FirstTracks.{whole_tracks}
use Rattle.hp_timeline.proofs.Places.{places_none, places_more}
use Rattle.hp_timeline.proofs.SpansMade.{going_as}

pub on_ok_any : {A E : Type 0} (r : Result A E) (P : Type 0) → P → OnOk r P
on_ok_any (Ok x) P h = h
on_ok_any (Err x) P h = tt

pub on_ok_so : {A E : Type 0} (r : Result A E) (P Q : Type 0) → (P → Q) → OnOk r P → OnOk r Q
on_ok_so (Ok x) P Q f h = f h
on_ok_so (Err x) P Q f h = h

-- nothing yet
pub drawn_none : {X : Type 0} (text : X → List ℕ) (f : ℕ → List X) (a : ℕ) (old : List ℕ) →
    old ≡ old ++ flat_map text (flat_map f (places_between a a))
drawn_none text f a old = rw places_none (sym (append-nil old))

-- one place more
pub drawn_more : {X : Type 0} (text : X → List ℕ) (f : ℕ → List X) (a k : ℕ) (old mid new : List ℕ) → a ≤ k →
    mid ≡ old ++ flat_map text (flat_map f (places_between a k)) → new ≡ mid ++ flat_map text (f k) →
    new ≡ old ++ flat_map text (flat_map f (places_between a (k + 1)))
drawn_more text f a k old mid new b h e =
    let more : flat_map text (flat_map f (places_between a (k + 1))) ≡ flat_map text (flat_map f (places_between a k)) ++ flat_map text (f k) =
    ap (λ ks. flat_map text (flat_map f ks)) (places_more a k b)
    ∙ ap (λ xs. flat_map text xs) (flat_map-append f (places_between a k) (k ∷ []))
    ∙ flat_map-append text (flat_map f (places_between a k)) (f k ++ [])
    ∙ ap (λ xs. flat_map text (flat_map f (places_between a k)) ++ flat_map text xs) (append-nil (f k)) in
    e
    ∙ ap (λ xs. xs ++ flat_map text (f k)) h
    ∙ append_assoc old (flat_map text (flat_map f (places_between a k))) (flat_map text (f k))
    ∙ ap (λ xs. old ++ xs) (sym more)

all_spans : (head : Head) (events : List Event) (w : Window) (sheet : Sheet) (s : Scene) →
    sheet ≡ sheet_of head events w → IsScene head (take w.until events) s →
    flat_map (span_text sheet events) (flat_map (ended_at events) (places w))
    ++ flat_map (span_text sheet events) (going_in s (w.until - 1) sheet)
    ≡ spans_text head events w
unfolding spans_text
all_spans head events w sheet s is h =
    rw is
    (ap (λ xs. flat_map (span_text (sheet_of head events w) events) (flat_map (ended_at events) (places w)) ++ flat_map (span_text (sheet_of head events w) events) xs)
    (going_as head (take w.until events) s (w.until - 1) (sheet_of head events w) h refl refl)
    ∙ sym (flat_map-append (span_text (sheet_of head events w) events) (flat_map (ended_at events) (places w)) (going head (take w.until events) (w.until - 1))))

all_tracks : (head : Head) (events : List Event) (w : Window) (tracks : List (List ℕ)) → AreTracks head events w w.until tracks →
    flat_map (λ t. t ++ stop_text w) tracks ≡ tracks_text head events w
unfolding tracks_text
all_tracks head events w tracks h = whole_tracks head events w tracks h

pub lasting : (head : Head) (events : List Event) (w : Window) (sheet : Sheet) (s : Scene) (tracks : List (List ℕ)) (old mid next new : List ℕ) →
    sheet ≡ sheet_of head events w → IsScene head (take w.until events) s →
    AreTracks head events w w.until tracks →
    mid ≡ old ++ flat_map (span_text sheet events) (flat_map (ended_at events) (places w)) →
    next ≡ mid ++ flat_map (span_text sheet events) (going_in s (w.until - 1) sheet) →
    new ≡ next ++ flat_map (λ t. t ++ stop_text w) tracks →
    new ≡ old ++ (spans_text head events w ++ tracks_text head events w)
lasting head events w sheet s tracks old mid next new is scene lines first then last =
    last
    ∙ ap₂ (λ (x y : List ℕ). x ++ y)
    (then
    ∙ ap (λ xs. xs ++ flat_map (span_text sheet events) (going_in s (w.until - 1) sheet)) first
    ∙ append_assoc old _ _
    ∙ ap (λ xs. old ++ xs) (all_spans head events w sheet s is scene))
    (all_tracks head events w tracks lines)
    ∙ append_assoc old (spans_text head events w) (tracks_text head events w)

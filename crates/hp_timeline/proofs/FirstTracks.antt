-- The lines of the processors, at the beginning of the window, and the whole of them.
use Rattle.std.proofs.Common.{◌≡◌, ℕ, zero, suc, ◌<◌, ◌≤◌, ap₂, List, [], ◌∷◌, ◌++◌, map, take, length, get_or, refl, sym, ap, ◌∙◌, arith}
use Rattle.std.specs.List.{flat_map}
use Rattle.std.proofs.Math.Seq.{take-suc}
use Rattle.std.proofs.lemmas.Grind.{flat_map-append}
use Rattle.std.proofs.lemmas.List.{length-map, get_or-map}
use Rattle.hp_event.specs.declared.head.Head.{Head}
use Rattle.hp_event.specs.declared.event.Event.{Event}
use Rattle.hp_model.specs.Lists.{numbers}
use Rattle.hp_model.specs.Shown.{shown}
use Rattle.hp_model.proofs.SumLemmas.{length-numbers}
use Rattle.hp_timeline.specs.declared.scene.Lane.{Lane}
use Rattle.hp_timeline.specs.declared.scene.Scene.{Scene}
use Rattle.hp_timeline.specs.declared.window.Window.{Window}
use Rattle.hp_timeline.specs.Tracks.{start_text, stop_text, track_below, track_text}
use Rattle.hp_timeline.specs.Scenes.{lane_at, IsScene, AreTracks}
use Rattle.hp_timeline.proofs.Numbers.{number_at, each_below}
use Rattle.hp_timeline.proofs.TrackSteps.{tracks_begin}

pub first_tracks : (head : Head) (events : List Event) (w : Window) (s : Scene) (tracks : List (List ℕ)) →
    IsScene head (take w.before events) s →
    tracks ≡ map (λ c. start_text c (lane_at s.lanes.items c).shown) (numbers head.possible) →
    AreTracks head events w w.before tracks
first_tracks head events w s tracks h e = record {
  many = rw e (length-map (numbers head.possible) (λ c. start_text c (lane_at s.lanes.items c).shown) ∙ length-numbers head.possible);
  each = λ c l.
      rw e
      (get_or-map (λ k. start_text k (lane_at s.lanes.items k).shown) (numbers head.possible) c 0 [] (rw length-numbers l)
      ∙ ap (λ k. start_text k (lane_at s.lanes.items k).shown) (number_at head.possible c l)
      ∙ ap (λ (x : Lane). start_text c x.shown) (h.lanes_are c l)
      ∙ sym (tracks_begin head events w c));
}

take_all : (xs : List (List ℕ)) → take (length xs) xs ≡ xs
take_all [] = refl
take_all (x ∷ xs) = ap (λ ys. x ∷ ys) (take_all xs)

-- a list by its places
listed : (xs : List (List ℕ)) (f : ℕ → List ℕ) (w : List ℕ) (n : ℕ) → n ≤ length xs →
    ((k : ℕ) → k < length xs → get_or xs k [] ≡ f k) →
    flat_map (λ t. t ++ w) (take n xs) ≡ flat_map (λ k. f k ++ w) (numbers n)
listed xs f w zero b h = refl
listed xs f w (suc n) b h =
    let low : n < length xs = omega arith in
    let rest : flat_map (λ t. t ++ w) (take n xs) ≡ flat_map (λ k. f k ++ w) (numbers n) = listed xs f w n (omega arith) h in
    ap (λ ys. flat_map (λ t. t ++ w) ys) (take-suc xs n [] low)
    ∙ flat_map-append (λ t. t ++ w) (take n xs) (get_or xs n [] ∷ [])
    ∙ ap₂ (λ (x y : List ℕ). x ++ y) rest (ap (λ t. (t ++ w) ++ []) (h n low))
    ∙ sym (flat_map-append (λ k. f k ++ w) (numbers n) (n ∷ []))

pub whole_tracks : (head : Head) (events : List Event) (w : Window) (tracks : List (List ℕ)) → AreTracks head events w w.until tracks →
    flat_map (λ t. t ++ stop_text w) tracks ≡ flat_map (track_text head events w) (numbers head.possible)
whole_tracks head events w tracks h =
    ap (λ xs. flat_map (λ t. t ++ stop_text w) xs) (sym (take_all tracks))
    ∙ listed tracks (track_below head events w w.until) (stop_text w) (length tracks) (omega arith) (λ k l. h.each k (rw h.many at l))
    ∙ ap (λ n. flat_map (track_text head events w) (numbers n)) h.many

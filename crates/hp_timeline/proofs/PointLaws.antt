-- Points that are apart, and bytes that XML doesn't escape.
use Rattle.std.proofs.Common.{◌≡◌, ℕ, ◌+◌, ◌-◌, ◌*◌, ◌<◌, ◌≤◌, Bool, true, false, ◌==◌, ◌||◌, ◌&&◌, leb, eqb, cond, List, [], ◌∷◌, refl, ap, sym, ◌∙◌, arith}
use Rattle.std.specs.Prelude.{All, slice_index_or}
use Rattle.std.specs.List.{AllPass}
use Rattle.std.proofs.lemmas.Bool.Decides.{nat_tests}
use Rattle.std.proofs.lemmas.Bool.{eqb-true}
use Rattle.hp_states.specs.Names.{is_name_byte, IsName}
use Rattle.hp_event.specs.declared.head.Sub.{Sub}
use Rattle.hp_event.specs.declared.head.Head.{Head}
use Rattle.hp_model.specs.Heads.{IsSub, IsHead}
use Rattle.hp_timeline.specs.declared.window.Window.{Window}
use Rattle.hp_timeline.specs.Sheet.{edge, middle, height}
use Rattle.hp_timeline.specs.Laws.{AreApart, is_escaped, HasNoEscaped, NamesArePlain}

pub are_apart : (w : Window) → AreApart w
unfolding height middle edge
are_apart w = (λ c d s t low below same. (one_lane c d s t low below same, one_state c d s t low below same), λ j k from since same. omega arith)
  where
    one_lane : (c d s t : ℕ) → s ≤ 200 → t ≤ 200 → (390 + 240 * c) - s ≡ (390 + 240 * d) - t → c ≡ d
    one_lane c d s t low below same = omega arith

    one_state : (c d s t : ℕ) → s ≤ 200 → t ≤ 200 → (390 + 240 * c) - s ≡ (390 + 240 * d) - t → s ≡ t
    one_state c d s t low below same = omega arith

refused : (b n : ℕ) (t : Bool) → eqb b n ≡ t → is_name_byte b ≡ true → is_name_byte n ≡ false → t ≡ false
refused b n false e h never = refl
refused b n true e h never =
    let same : b ≡ n = eqb-true b n e in let bad : is_name_byte n ≡ true = rw same at h in absurd (cc (bad, never))

plain_byte : (b : ℕ) → is_name_byte b ≡ true → is_escaped b ≡ false
plain_byte b h =
    rw (
      refused b 34 (eqb b 34) refl h refl,
      refused b 38 (eqb b 38) refl h refl,
      refused b 39 (eqb b 39) refl h refl,
      refused b 60 (eqb b 60) refl h refl,
      refused b 62 (eqb b 62) refl h refl,
    )
    refl

plain_name : (bytes : List ℕ) → AllPass is_name_byte bytes → HasNoEscaped bytes
plain_name bytes h k d low = plain_byte (slice_index_or bytes k d) (h k d low)

plain_subs : (subs : List Sub) → All IsSub subs → All (λ (sub : Sub). HasNoEscaped sub.name) subs
plain_subs subs h k d low = let sub : IsSub (slice_index_or subs k d) = h k d low in plain_name _ sub.name_is.bytes

pub plain_names : (head : Head) → IsHead head → NamesArePlain head
plain_names head h = plain_subs head.subs h.subs_are

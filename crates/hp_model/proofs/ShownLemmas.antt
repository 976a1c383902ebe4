-- The shown state of a processor whose walk is in flight is the level of the crossings that are done, however its
-- entries are read.
use Rattle.std.proofs.Common.{◌≡◌, ℕ, ◌<◌, ◌≤◌, Bool, true, false, cond, not, ◌&&◌, ◌||◌, eqb, Some, List, [], ◌∷◌, ◌++◌, length, reverse, fold, refl, ap, sym, ◌∙◌, append_assoc, arith}
use Rattle.std.specs.List.{list_any}
use Rattle.std.proofs.lemmas.List.{reverse-append}
use Rattle.std.proofs.lemmas.Bool.{true≢false, eq-eqb, or_parts, or_right, or_from}
use Rattle.hp_states.specs.declared.dir.Dir.{Dir}
use Rattle.hp_states.specs.declared.place.Place.{Place}
use Rattle.hp_states.specs.declared.place.Place.TheVariants.{Forward, Back, Part}
use Rattle.hp_states.specs.Sections.{opposite}
use Rattle.hp_event.specs.declared.head.Head.{Head}
use Rattle.hp_event.specs.declared.event.Event.{Event}
use Rattle.hp_event.specs.declared.event.Event.TheVariants.{Call}
use Rattle.hp_model.specs.Lists.{occurs, is_empty}
use Rattle.hp_model.specs.Crossing.{Slot, Fits, Fill, Begin, visit, Crossing, done, failed, far, slots_of, slots, level}
use Rattle.hp_model.specs.Plan.{keyed, plan}
use Rattle.hp_model.specs.WalkShape.{Outcome, went, returned, stopped, crossed, IsWalkShape}
use Rattle.hp_model.specs.Walks.{Walk, walk, walk_entries}
use Rattle.hp_model.specs.Registered.{keys}
use Rattle.hp_model.specs.Shown.{is_last, shown_after, shown}
use Rattle.hp_model.specs.Reading.{IsPart, WalkReading}
use Rattle.hp_model.proofs.Counts.{occurs-append}

fold-append : {A B : Type 0} (f : B → A → B) (b : B) (xs ys : List A) → fold f b (xs ++ ys) ≡ fold f (fold f b xs) ys
fold-append f b [] ys = refl
fold-append f b (x ∷ xs) ys = fold-append f (f b x) xs ys

any-append : {A : Type 0} (p : A → Bool) (xs ys : List A) → list_any p xs ≡ false → list_any p ys ≡ false →
    list_any p (xs ++ ys) ≡ false
any-append p [] ys h k = k
any-append p (x ∷ xs) ys h k =
    let a = or_parts (p x) (list_any p xs) h in
    or_from (p x) (list_any p (xs ++ ys)) a.0 (any-append p xs ys a.1 k)

any-last : (p : ℕ → Bool) (xs : List ℕ) (y : ℕ) → list_any p (xs ++ y ∷ []) ≡ false → p y ≡ false
any-last p [] y h = (or_parts (p y) false h).0
any-last p (x ∷ xs) y h = any-last p xs y (or_parts (p x) (list_any p (xs ++ y ∷ [])) h).1

-- a slot moves the shown state where it is a done one of its state's last key
abbrev moves : (keys : ℕ → List ℕ) → Slot → Bool
moves keys x = not x.fails && is_last (keys x.state) x.inst

abbrev slot_shown : (keys : ℕ → List ℕ) → ℕ → Slot → ℕ
slot_shown keys at x = cond (moves keys x) (far x.dir x.state) at

fits_shown : (keys : ℕ → List ℕ) (at : ℕ) (x : Slot) (e : Event) → Fits x e → shown_after keys at e ≡ slot_shown keys at x
fits_shown keys at x (Call seat cpu state inst dir how) h = rw (h.1, h.2, h.3, h.4) refl
fits_shown keys at x e h = elim h [ ]

fill_shown : (keys : ℕ → List ℕ) (at : ℕ) (xs : List Slot) (es : List Event) → Fill xs es →
    fold (shown_after keys) at es ≡ fold (slot_shown keys) at xs
fill_shown keys at [] [] h = refl
fill_shown keys at [] (e ∷ es) h = elim h [ ]
fill_shown keys at (x ∷ xs) [] h = elim h [ ]
fill_shown keys at (x ∷ xs) (e ∷ es) h =
    rw (fits_shown keys at x e h.0) (fill_shown keys (slot_shown keys at x) xs es h.1)

slots_still : (keys : ℕ → List ℕ) (at : ℕ) (xs : List Slot) → list_any (moves keys) xs ≡ false →
    fold (slot_shown keys) at xs ≡ at
slots_still keys at [] h = refl
slots_still keys at (x ∷ xs) h =
    let a = or_parts (moves keys x) (list_any (moves keys) xs) h in rw a.0 (slots_still keys at xs a.1)

begin_still : (keys : ℕ → List ℕ) (at : ℕ) (xs : List Slot) (es : List Event) → Begin xs es →
    list_any (moves keys) xs ≡ false → fold (shown_after keys) at es ≡ at
begin_still keys at xs [] b h = refl
begin_still keys at [] (e ∷ es) b h = elim b [ ]
begin_still keys at (x ∷ xs) (e ∷ es) b h =
    let a = or_parts (moves keys x) (list_any (moves keys) xs) h in
    rw (fits_shown keys at x e b.0, a.0) (begin_still keys at xs es b.1 a.1)

or_step : (l a : Bool) (f at : ℕ) → cond a f (cond l f at) ≡ cond (l || a) f at
or_step true true f at = refl
or_step true false f at = refl
or_step false a f at = refl

visit_shown : (c : ℕ) (keys : ℕ → List ℕ) (p : Place) (d : Dir) (s : ℕ) (b : Bool) (at : ℕ) (is : List ℕ) →
    fold (slot_shown keys) at (visit c p d s b is) ≡ cond (list_any (is_last (keys s)) is) (far d s) at
visit_shown c keys p d s b at [] = refl
visit_shown c keys p d s b at (i ∷ is) =
    visit_shown c keys p d s false (cond (is_last (keys s) i) (far d s) at) is
    ∙ or_step (is_last (keys s) i) (list_any (is_last (keys s)) is) (far d s) at

visit_moves : (c : ℕ) (keys : ℕ → List ℕ) (p : Place) (d : Dir) (s : ℕ) (b : Bool) (is : List ℕ) →
    list_any (moves keys) (visit c p d s b is) ≡ list_any (is_last (keys s)) is
visit_moves c keys p d s b [] = refl
visit_moves c keys p d s b (i ∷ is) = ap (λ z. is_last (keys s) i || z) (visit_moves c keys p d s false is)

-- the last of a list is in it
all_last : (K : List ℕ) → is_empty K ≡ false → list_any (is_last K) K ≡ true
all_last [] h = absurd (true≢false h)
all_last (x ∷ []) h = rw (eq-eqb x x refl) refl
all_last (x ∷ (y ∷ ys)) h = or_right (is_last (y ∷ ys) x) (list_any (is_last (y ∷ ys)) (y ∷ ys)) (all_last (y ∷ ys) refl)

last-append : (xs : List ℕ) (y : ℕ) (ys : List ℕ) (j : ℕ) → is_last (xs ++ y ∷ ys) j ≡ is_last (y ∷ ys) j
last-append [] y ys j = refl
last-append (x ∷ []) y ys j = refl
last-append (x ∷ (z ∷ zs)) y ys j = last-append (z ∷ zs) y ys j

last_occurs : (xs : List ℕ) (j : ℕ) → is_last xs j ≡ true → 0 < occurs j xs
last_occurs [] j h = absurd (true≢false (sym h))
last_occurs (x ∷ []) j h = rw h (omega arith)
last_occurs (x ∷ (y ∷ ys)) j h = let r = last_occurs (y ∷ ys) j h in omega arith

any_none : (p : ℕ → Bool) (xs : List ℕ) → ((j : ℕ) → 0 < occurs j xs → p j ≡ true → ⊥) → list_any p xs ≡ false
any_none p [] h = refl
any_none p (x ∷ xs) h = go (p x) refl (any_none p xs (λ j o e. h j (omega (arith, o)) e))
  where
    there : 0 < occurs x (x ∷ xs)
    there = let e : eqb x x ≡ true = eq-eqb x x refl in rw e (omega arith)

    go : (b : Bool) → p x ≡ b → list_any p xs ≡ false → (b || list_any p xs) ≡ false
    go true e r = absurd (h x there e)
    go false e r = r

-- where each key is there once, none of the keys before another is the last
earlier_still : (K earlier : List ℕ) (i : ℕ) (later : List ℕ) → K ≡ earlier ++ i ∷ later → ((j : ℕ) → occurs j K ≤ 1) →
    list_any (is_last K) earlier ≡ false
earlier_still K earlier i later e once = any_none (is_last K) earlier (λ j o l. twice j o l)
  where
    twice : (j : ℕ) → 0 < occurs j earlier → is_last K j ≡ true → ⊥
    twice j o l =
        let l1 = rw (e, last-append earlier i later j) at l in
        let a = last_occurs (i ∷ later) j l1 in
        let b = rw e at (once j) in
        let n = occurs-append j earlier (i ∷ later) in
        absurd (omega arith)

failed_still : (c : ℕ) (keys : ℕ → List ℕ) (p : Place) (d : Dir) (s : ℕ) (earlier : List ℕ) (i : ℕ) →
    list_any (is_last (keys s)) earlier ≡ false → list_any (moves keys) (slots_of c keys (failed p d s earlier i)) ≡ false
failed_still c keys p d s earlier i h =
    any-append (moves keys) (visit c p d s true earlier) _ (visit_moves c keys p d s true earlier ∙ h)
    (visit_moves c keys Part (opposite d) s false earlier ∙ h)

-- part of a crossing that is to be done
part_still : (c : ℕ) (keys : ℕ → List ℕ) (p : Place) (d : Dir) (s : ℕ) (b : Bool) (at : ℕ) (seen is : List ℕ) (es : List Event) →
    keys s ≡ seen ++ is → ((j : ℕ) → occurs j (keys s) ≤ 1) → Begin (visit c p d s b is) es →
    length es < length (visit c p d s b is) → fold (shown_after keys) at es ≡ at
part_still c keys p d s b at seen [] es e once h short = absurd (omega arith)
part_still c keys p d s b at seen (i ∷ is) [] e once h short = refl
part_still c keys p d s b at seen (i ∷ []) (x ∷ es) e once h short = absurd (omega arith)
part_still c keys p d s b at seen (i ∷ (k ∷ ks)) (x ∷ es) e once h short =
    let slot : Slot = record { cpu = c; state = s; inst = i; dir = d; place = p; first = b; fails = false } in
    let e1 : keys s ≡ (seen ++ i ∷ []) ++ k ∷ ks = e ∙ sym (append_assoc seen (i ∷ []) (k ∷ ks)) in
    let still : is_last (keys s) i ≡ false = any-last (is_last (keys s)) seen i (earlier_still (keys s) (seen ++ i ∷ []) k ks e1 once) in
    rw (fits_shown keys at slot x h.0, still)
    (part_still c keys p d s false at (seen ++ i ∷ []) (k ∷ ks) es e1 once h.1 (omega arith))

-- crossings of states with a key, and failed at one of their keys
abbrev Sound : (keys : ℕ → List ℕ) → List Crossing → Type 0
Sound keys [] = Unit {0}
Sound keys (done p d s ∷ xs) = (is_empty (keys s) ≡ false) × Sound keys xs
Sound keys (failed p d s earlier i ∷ xs) = ((later : List ℕ) × (keys s ≡ earlier ++ i ∷ later)) × Sound keys xs

level_shown : (c : ℕ) (keys : ℕ → List ℕ) (a : ℕ) (xs : List Crossing) → ((s j : ℕ) → occurs j (keys s) ≤ 1) → Sound keys xs →
    fold (slot_shown keys) a (slots c keys xs) ≡ level a xs
level_shown c keys a [] once h = refl
level_shown c keys a (done p d s ∷ xs) once h =
    rw (
      fold-append (slot_shown keys) a (visit c p d s true (keys s)) (slots c keys xs),
      visit_shown c keys p d s true a (keys s),
      all_last (keys s) h.0,
    )
    (level_shown c keys (far d s) xs once h.1)
level_shown c keys a (failed p d s earlier i ∷ xs) once h =
    let still = failed_still c keys p d s earlier i (earlier_still (keys s) earlier i h.0.0 h.0.1 (once s)) in
    rw (
      fold-append (slot_shown keys) a (slots_of c keys (failed p d s earlier i)) (slots c keys xs),
      slots_still keys a (slots_of c keys (failed p d s earlier i)) still,
    )
    (level_shown c keys a xs once h.1)

Sound-append : (keys : ℕ → List ℕ) (xs ys : List Crossing) → Sound keys xs → Sound keys ys → Sound keys (xs ++ ys)
Sound-append keys [] ys h k = k
Sound-append keys (done p d s ∷ xs) ys h k = (h.0, Sound-append keys xs ys h.1 k)
Sound-append keys (failed p d s earlier i ∷ xs) ys h k = (h.0, Sound-append keys xs ys h.1 k)

Sound_split : (keys : ℕ → List ℕ) (xs ys : List Crossing) → Sound keys (xs ++ ys) → Sound keys xs × Sound keys ys
Sound_split keys [] ys h = (tt, h)
Sound_split keys (done p d s ∷ xs) ys h = let r = Sound_split keys xs ys h.1 in ((h.0, r.0), r.1)
Sound_split keys (failed p d s earlier i ∷ xs) ys h = let r = Sound_split keys xs ys h.1 in ((h.0, r.0), r.1)

abbrev Keyed : (keys : ℕ → List ℕ) → List ℕ → Type 0
Keyed keys [] = Unit {0}
Keyed keys (s ∷ ss) = (is_empty (keys s) ≡ false) × Keyed keys ss

Keyed-append : (keys : ℕ → List ℕ) (xs ys : List ℕ) → Keyed keys xs → Keyed keys ys → Keyed keys (xs ++ ys)
Keyed-append keys [] ys h k = k
Keyed-append keys (x ∷ xs) ys h k = (h.0, Keyed-append keys xs ys h.1 k)

Keyed_split : (keys : ℕ → List ℕ) (xs ys : List ℕ) → Keyed keys (xs ++ ys) → Keyed keys xs × Keyed keys ys
Keyed_split keys [] ys h = (tt, h)
Keyed_split keys (x ∷ xs) ys h = let r = Keyed_split keys xs ys h.1 in ((h.0, r.0), r.1)

Keyed-reverse : (keys : ℕ → List ℕ) (xs : List ℕ) → Keyed keys xs → Keyed keys (reverse xs)
Keyed-reverse keys [] h = tt
Keyed-reverse keys (x ∷ xs) h =
    rw (reverse-append (x ∷ []) xs) (Keyed-append keys (reverse xs) (x ∷ []) (Keyed-reverse keys xs h.1) (h.0, tt))

Keyed-keyed : (keys : ℕ → List ℕ) (xs : List ℕ) → Keyed keys (keyed keys xs)
Keyed-keyed keys [] = tt
Keyed-keyed keys (x ∷ xs) = go (is_empty (keys x)) refl (Keyed-keyed keys xs)
  where
    go : (b : Bool) → is_empty (keys x) ≡ b → Keyed keys (keyed keys xs) →
        Keyed keys (cond (not b) (x ∷ keyed keys xs) (keyed keys xs))
    go true e h = h
    go false e h = (e, h)

plan_keyed : (keys : ℕ → List ℕ) (from to : ℕ) (b : Bool) (xs ys : List ℕ) →
    Keyed keys (cond b (keyed keys xs) (reverse (keyed keys ys)))
plan_keyed keys from to true xs ys = Keyed-keyed keys xs
plan_keyed keys from to false xs ys = Keyed-reverse keys (keyed keys ys) (Keyed-keyed keys ys)

crossed_sound : (keys : ℕ → List ℕ) (p : Place) (d : Dir) (ss : List ℕ) → Keyed keys ss → Sound keys (crossed p d ss)
crossed_sound keys p d [] h = tt
crossed_sound keys p d (s ∷ ss) h = (h.0, crossed_sound keys p d ss h.1)

shape_sound : (keys : ℕ → List ℕ) (d : Dir) (plan : List ℕ) (xs : List Crossing) (o : Outcome) → IsWalkShape keys d plan xs o →
    Keyed keys plan → Sound keys xs
shape_sound keys d plan xs went h k = rw h (crossed_sound keys Forward d plan k)
shape_sound keys d plan xs returned h k =
    let a = Keyed_split keys h.before (h.state ∷ h.after) (rw h.plan_is at k) in
    rw h.crossings_are
    (Sound-append keys (crossed Forward d h.before) _ (crossed_sound keys Forward d h.before a.0)
    ((h.later, h.keys_are), crossed_sound keys Back (opposite d) (reverse h.before) (Keyed-reverse keys h.before a.0)))
shape_sound keys d plan xs (stopped at) h k =
    let a = Keyed_split keys h.before (h.stuck_state ∷ (h.between ++ h.state ∷ h.after)) (rw h.plan_is at k) in
    let b = Keyed_split keys h.between (h.state ∷ h.after) a.1.1 in
    rw h.crossings_are
    (Sound-append keys (crossed Forward d h.before) _ (crossed_sound keys Forward d h.before a.0) (
      a.1.0,
      Sound-append keys (crossed Forward d h.between) _ (crossed_sound keys Forward d h.between b.0) (
        (h.later, h.keys_are),
        Sound-append keys (crossed Back (opposite d) (reverse h.between)) _
            (crossed_sound keys Back (opposite d) (reverse h.between) (Keyed-reverse keys h.between b.0))
            ((h.stuck_later, h.stuck_keys_are), tt),
      ),
    ))

part_shown : (c : ℕ) (keys : ℕ → List ℕ) (at : ℕ) (next : List Crossing) (part : List Event) →
    ((s j : ℕ) → occurs j (keys s) ≤ 1) → Sound keys next → IsPart c keys next part → fold (shown_after keys) at part ≡ at
part_shown c keys at [] part once k h = rw h refl
part_shown c keys at (done p d s ∷ xs) part once k h = part_still c keys p d s true at [] (keys s) part refl (once s) h.0 h.1
part_shown c keys at (failed p d s earlier i ∷ xs) part once k h =
    begin_still keys at (slots_of c keys (failed p d s earlier i)) part h.0
    (failed_still c keys p d s earlier i (earlier_still (keys s) earlier i k.0.0 k.0.1 (once s)))

-- what is shown during a walk, by any reading of its entries
pub reading_shown : (head : Head) (c : ℕ) (w : Walk) (events : List Event) → walk c events ≡ Some w →
    ((s j : ℕ) → occurs j (keys head w.before s) ≤ 1) →
    (r : WalkReading head c w (walk_entries c events)) → shown head c events ≡ level w.from r.reading.whole
reading_shown head c w events e once r =
    let K = keys head w.before in
    let q = r.reading in
    let sound = shape_sound K _ (plan K w.from w.to) r.crossings r.outcome r.shape (plan_keyed K w.from w.to _ _ _) in
    let parts = Sound_split K q.whole q.next (rw q.crossings_are at sound) in
    let still : fold (shown_after K) (level w.from q.whole) q.part ≡ level w.from q.whole =
    part_shown c K (level w.from q.whole) q.next q.part once parts.1 q.is_part in
    rw (
      e,
      q.entries_are,
      fold-append (shown_after K) w.from q.done_entries q.part,
      fill_shown K w.from (slots c K q.whole) q.done_entries q.filled,
      level_shown c K w.from q.whole once parts.0,
    )
    still

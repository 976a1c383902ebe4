-- What the rows' tests say of walks, readers and registrations: none is in flight.
use Rattle.std.proofs.Common.{◌≡◌, ℕ, ◌+◌, Bool, true, false, cond, not, eqb, ltb, is_some, Option, Some, None, List, [], ◌∷◌, ◌++◌, refl, ap, sym, ◌∙◌, arith}
use Rattle.std.proofs.lemmas.Bool.{true≢false}
use Rattle.std.proofs.lemmas.Bool.Decides.{nat_tests}
use Rattle.hp_states.proofs.Basics.{none_of}
use Rattle.hp_event.specs.declared.event.Event.{Event}
use Rattle.hp_event.specs.declared.event.Event.TheVariants.{WalkBegin, WalkEnd, ReadLock, ReadUnlock}
use Rattle.hp_model.specs.Journal.{over_from}
use Rattle.hp_model.specs.Lists.{occurs, among, without, is_empty}
use Rattle.hp_model.specs.Walks.{Walk, walk, walk_step, walking, walking_step, is_walking}
use Rattle.hp_model.specs.Readers.{reading_since, reading_since_step, readers, readers_step, is_read}
use Rattle.hp_model.proofs.Counts.{occurs-append}
use Rattle.hp_model.proofs.ListLemmas.{occurs-without, none_among}

pub empty_of : (xs : List ℕ) → not (is_empty xs) ≡ false → xs ≡ []
empty_of [] h = refl
empty_of (x ∷ xs) h = absurd (true≢false h)

-- a number taken out, and put in again
among_of : (n : ℕ) (c k : ℕ) → ltb 0 (cond (eqb c k) 0 n + (cond (eqb k c) 1 0 + 0)) ≡ cond (eqb k c) true (ltb 0 n)
among_of n c k = grind (arith, nat_tests)

among_none : (n : ℕ) (c k : ℕ) → ltb 0 (cond (eqb c k) 0 n) ≡ cond (eqb k c) false (ltb 0 n)
among_none n c k = grind (arith, nat_tests)

pub among-in : (c k : ℕ) (ws : List ℕ) → among c (without k ws ++ k ∷ []) ≡ cond (eqb k c) true (among c ws)
among-in c k ws = rw (occurs-append c (without k ws) (k ∷ []), occurs-without k c ws) (among_of (occurs c ws) c k)

pub among-out : (c k : ℕ) (ws : List ℕ) → among c (without k ws) ≡ cond (eqb k c) false (among c ws)
among-out c k ws = rw (occurs-without k c ws) (among_none (occurs c ws) c k)

pub some_in : {A : Type 0} (b : Bool) (x : A) (o : Option A) → cond b true (is_some o) ≡ is_some (cond b (Some x) o)
some_in true x o = refl
some_in false x o = refl

pub none_in : {A : Type 0} (b : Bool) (o : Option A) → cond b false (is_some o) ≡ is_some (cond b None o)
none_in true o = refl
none_in false o = refl

walking_one : (c : ℕ) (before : List Event) (e : Event) (ws : List ℕ) (w : Option Walk) → among c ws ≡ is_some w →
    among c (walking_step ws before e) ≡ is_some (walk_step c w before e)
walking_one c before (WalkBegin seat cpu from to) ws w h =
    among-in c cpu ws
    ∙ (rw h refl ∙ some_in (eqb cpu c) (record { seat = seat; from = from; to = to; before = before }) w)
walking_one c before (WalkEnd seat cpu answer) ws w h = among-out c cpu ws ∙ (rw h refl ∙ none_in (eqb cpu c) w)
walking_one c before e ws w h = h

walking_from : (c : ℕ) (before es : List Event) (ws : List ℕ) (w : Option Walk) → among c ws ≡ is_some w →
    among c (over_from walking_step ws before es) ≡ is_some (over_from (walk_step c) w before es)
walking_from c before [] ws w h = h
walking_from c before (e ∷ es) ws w h =
    walking_from c (before ++ e ∷ []) es (walking_step ws before e) (walk_step c w before e) (walking_one c before e ws w h)

-- the processors that walk are those with a walk in flight
pub walking_is : (c : ℕ) (xs : List Event) → among c (walking xs) ≡ is_some (walk c xs)
unfolding walking walk
walking_is c xs = walking_from c [] xs [] None refl

pub walk_none : (xs : List Event) → is_walking xs ≡ false → (c : ℕ) → walk c xs ≡ None
walk_none xs h c =
    none_of (walk c xs) (sym (walking_is c xs) ∙ (rw (empty_of (walking xs) h) refl))

-- and the other way round: where no processor has one none walks
pub none_walking : (xs : List Event) → ((c : ℕ) → walk c xs ≡ None) → walking xs ≡ []
none_walking xs h = none_among (walking xs) (λ c. walking_is c xs ∙ ap is_some (h c))

reader_one : (k : ℕ) (before : List Event) (e : Event) (ws : List ℕ) (o : Option (List Event)) → among k ws ≡ is_some o →
    among k (readers_step ws before e) ≡ is_some (reading_since_step k o before e)
reader_one k before (ReadLock seat) ws o h = among-in k seat ws ∙ (rw h refl ∙ some_in (eqb seat k) before o)
reader_one k before (ReadUnlock seat) ws o h = among-out k seat ws ∙ (rw h refl ∙ none_in (eqb seat k) o)
reader_one k before e ws o h = h

reader_from : (k : ℕ) (before es : List Event) (ws : List ℕ) (o : Option (List Event)) → among k ws ≡ is_some o →
    among k (over_from readers_step ws before es) ≡ is_some (over_from (reading_since_step k) o before es)
reader_from k before [] ws o h = h
reader_from k before (e ∷ es) ws o h =
    reader_from k (before ++ e ∷ []) es (readers_step ws before e) (reading_since_step k o before e)
    (reader_one k before e ws o h)

-- the seats that read are those with a ReadLock and no ReadUnlock after it
pub readers_are : (k : ℕ) (xs : List Event) → among k (readers xs) ≡ is_some (reading_since k xs)
unfolding readers reading_since
readers_are k xs = reader_from k [] xs [] None refl

pub reader_none : (xs : List Event) → is_read xs ≡ false → (k : ℕ) → reading_since k xs ≡ None
reader_none xs h k =
    none_of (reading_since k xs) (sym (readers_are k xs) ∙ (rw (empty_of (readers xs) h) refl))

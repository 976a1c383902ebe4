-- What one entry more changes of the faults that there were, and of the state that is shown.
use Rattle.std.proofs.Common.{◌≡◌, ◌≢◌, ℕ, zero, suc, ◌+◌, ◌<◌, true, false, Some, None, Option, List, [], ◌∷◌, ◌++◌, length, map, refl, ap, sym, ◌∙◌, arith}
use Rattle.std.specs.Prelude.{slice_index, AllPairs, fold}
use Rattle.std.proofs.lemmas.List.Elements.{filter_map-append}
use Rattle.std.proofs.lemmas.List.Sums.{fold-append}
use Rattle.std.proofs.lemmas.Bool.{ne_eqb, eq-eqb, false≢true}
use Rattle.hp_event.specs.declared.event.Event.{Event}
use Rattle.hp_event.specs.declared.event.Event.TheVariants.{Call}
use Rattle.hp_event.specs.declared.how.How.{How}
use Rattle.hp_event.specs.declared.how.How.TheVariants.{RanOk, RanFault, Injected, Empty, Presumed, Overruled}
use Rattle.hp_states.specs.declared.dir.Dir.{Dir}
use Rattle.hp_states.specs.Crossings.{state_after}
use Rattle.hp_model.specs.Entries.{is_done, fault_of, codes_of_faults}
use Rattle.hp_model.specs.Faults.{Faulty, faulty, faulty_at, faults}
use Rattle.hp_model.specs.Shown.{is_last, shown_after}

-- the fault of an entry, if it is one
abbrev pub fault_at : (state : ℕ) → How → List Faulty
fault_at s how = here (faulty_at s (fault_of how))
  where
    here : Option Faulty → List Faulty
    here None = []
    here (Some f) = f ∷ []

pub faults_more : (es : List Event) (seat c s i : ℕ) (d : Dir) (how : How) →
    faults (es ++ Call seat c s i d how ∷ []) ≡ faults es ++ fault_at s how
faults_more es seat c s i d how = filter_map-append faulty es (Call seat c s i d how ∷ []) ∙ ap (λ fs. faults es ++ fs) (go how)
  where
    go : (how : How) → faults (Call seat c s i d how ∷ []) ≡ fault_at s how
    go RanOk = refl
    go (RanFault code) = refl
    go Injected = refl
    go Empty = refl
    go Presumed = refl
    go (Overruled code) = refl

-- a done entry is no fault, and a fault has a code
pub done_none : (how : How) → is_done how ≡ true → fault_of how ≡ None
done_none RanOk h = refl
done_none (RanFault code) h = absurd (false≢true h)
done_none Injected h = absurd (false≢true h)
done_none Empty h = refl
done_none Presumed h = refl
done_none (Overruled code) h = refl

pub none_done : (how : How) → fault_of how ≡ None → is_done how ≡ true
none_done RanOk h = refl
none_done (RanFault code) h = cc
none_done Injected h = cc
none_done Empty h = refl
none_done Presumed h = refl
none_done (Overruled code) h = refl

pub some_fails : (how : How) (code : ℕ) → fault_of how ≡ Some code → is_done how ≡ false
some_fails RanOk code h = cc
some_fails (RanFault e) code h = refl
some_fails Injected code h = refl
some_fails Empty code h = cc
some_fails Presumed code h = cc
some_fails (Overruled e) code h = cc

-- the codes of the faults
pub codes_are : (es : List Event) → codes_of_faults es ≡ map (λ f. f.code) (faults es)
codes_are [] = refl
codes_are (Call seat c s i d how ∷ es) = go how (codes_are es)
  where
    go : (how : How) → codes_of_faults es ≡ map (λ f. f.code) (faults es) →
        codes_of_faults (Call seat c s i d how ∷ es) ≡ map (λ f. f.code) (faults (Call seat c s i d how ∷ es))
    go RanOk h = h
    go (RanFault code) h = ap (λ cs. code ∷ cs) h
    go Injected h = rw h refl
    go Empty h = h
    go Presumed h = h
    go (Overruled code) h = h
codes_are (e ∷ es) = codes_are es

-- the last key of a state
pub last_is : (xs : List ℕ) (k : ℕ) → k + 1 ≡ length xs → is_last xs (slice_index xs k) ≡ true
last_is [] k e = absurd (omega arith)
last_is (x ∷ []) zero e = eq-eqb x x refl
last_is (x ∷ []) (suc k) e = absurd (omega arith)
last_is (x ∷ (y ∷ ys)) zero e = absurd (omega arith)
last_is (x ∷ (y ∷ ys)) (suc k) e = last_is (y ∷ ys) k (omega arith)

-- the instances of a state are all different
abbrev pub IsDistinct : List ℕ → Type 0
IsDistinct xs = AllPairs (λ i j. i ≢ j) xs

not_last : (xs : List ℕ) (i : ℕ) → ((j : ℕ) → j + 1 ≡ length xs → slice_index xs j ≢ i) → is_last xs i ≡ false
not_last [] i h = refl
not_last (x ∷ []) i h = ne_eqb x i (h 0 refl)
not_last (x ∷ (y ∷ ys)) i h = not_last (y ∷ ys) i (λ j e. h (suc j) (omega (arith, e)))

pub last_not : (xs : List ℕ) (k : ℕ) → IsDistinct xs → k + 1 < length xs → is_last xs (slice_index xs k) ≡ false
last_not xs k distinct before =
    not_last xs (slice_index xs k) (λ j e same. distinct k j 0 (omega arith) (omega arith) (sym same))

-- what is shown after one entry more
pub shown_more : (keys : ℕ → List ℕ) (from : ℕ) (es : List Event) (e : Event) (shown : ℕ) →
    shown ≡ fold (shown_after keys) from es → shown_after keys shown e ≡ fold (shown_after keys) from (es ++ e ∷ [])
shown_more keys from es e shown h = rw (fold-append (shown_after keys) from es (e ∷ []), h) refl

pub shown_fault : (keys : ℕ → List ℕ) (shown seat c s i : ℕ) (d : Dir) (how : How) → is_done how ≡ false →
    shown_after keys shown (Call seat c s i d how) ≡ shown
shown_fault keys shown seat c s i d how fails = rw fails refl

pub shown_earlier : (keys : ℕ → List ℕ) (shown seat c s k : ℕ) (d : Dir) (how : How) → is_done how ≡ true →
    IsDistinct (keys s) → k + 1 < length (keys s) →
    shown_after keys shown (Call seat c s (slice_index (keys s) k) d how) ≡ shown
shown_earlier keys shown seat c s k d how done distinct before = rw (done, last_not (keys s) k distinct before) refl

pub shown_last : (keys : ℕ → List ℕ) (shown seat c s k : ℕ) (d : Dir) (how : How) → is_done how ≡ true →
    k + 1 ≡ length (keys s) → shown_after keys shown (Call seat c s (slice_index (keys s) k) d how) ≡ state_after d s
shown_last keys shown seat c s k d how done last = rw (done, last_is (keys s) k last) refl

-- The processors of a machine at its start.
use Rattle.std.proofs.Common.{◌≡◌, ℕ, zero, suc, ◌+◌, ◌<◌, ◌≤◌, Bool, true, false, None, List, [], ◌∷◌, ◌++◌, length, get_or, cond, eqb, ltb, length-append, refl, sym, ap, ◌∙◌, arith}
use Rattle.std.specs.Prelude.{replicate, map, fold, slice_set, slice_index}
use Rattle.std.proofs.lemmas.Bool.{ltb-true, ltb-false, ne_eqb}
use Rattle.std.proofs.lemmas.List.{length-replicate, get_or_append_left, get_or_push}
use Rattle.hp_model.proofs.Going.{none_counted}
use Rattle.hp_states.specs.CpuSets.{has}
use Rattle.hp_states.specs.declared.cpu_set.CpuSet.{CpuSet}
use Rattle.hp_states.specs.Sections.{is_online_state}
use Rattle.hp_states.specs.declared.limits.TheConstants.{MAX_CPUS, ONLINE}
use Rattle.hp_event.specs.declared.head.Head.{Head}
use Rattle.hp_model.specs.Heads.{IsHead}
use Rattle.hp_model.specs.Armed.{armed}
use Rattle.hp_model.specs.Processors.{is_present}
use Rattle.hp_model.specs.Settled.{settled}
use Rattle.hp_account.specs.Flags.{AreFlags}
use Rattle.hp_account.specs.Processors.{IsSound, IsStanding}
use Rattle.hp_account.proofs.PlaceLemmas.{at_place-none}

offline_flags : (n : ℕ) → replicate n false ≡ map is_online_state (replicate n 0)
offline_flags zero = refl
offline_flags (suc n) = ap (λ xs. false ∷ xs) (offline_flags n)

zero_more : (k : ℕ) → k + 0 ≡ k
zero_more k = omega arith

more : (k n : ℕ) → fold (λ (m x : ℕ). m + cond (is_online_state x) 1 0) k (replicate n 0) ≡ k
more k zero = refl
more k (suc n) = more (k + 0) n ∙ zero_more k

stands_at : (n c : ℕ) → slice_index (slice_set (replicate (suc n) 0) 0 200) c ≡ cond (eqb c 0) 200 0
stands_at n zero = refl
stands_at n (suc c) = let far : eqb (suc c) 0 ≡ false = ne_eqb (suc c) 0 (λ same. absurd (omega (arith, same))) in rw far (none_counted n c)

first_online : (b : Bool) → b ≡ is_online_state (cond b 200 0)
first_online true = refl
first_online false = refl

pub sound_none : (n : ℕ) (set : CpuSet) → 0 < n → n ≤ MAX_CPUS → ((c : ℕ) → has set c ≡ eqb c 0) →
    IsSound (slice_set (replicate n 0) 0 200) (slice_set (replicate n false) 0 true) set 1
sound_none zero set above few first = absurd (omega arith)
sound_none (suc n) set above few first =
    let all : length {A = ℕ} (replicate n 0) ≡ n = length-replicate n 0 in
    record {
      few = omega (arith, few, all);
      online_is = ap (λ xs. true ∷ xs) (offline_flags n);
      set_is = λ c. first c ∙ (first_online (eqb c 0) ∙ sym (ap is_online_state (stands_at n c)));
      counts = sym (more 1 n);
    }

first_at : (n c : ℕ) → slice_index (slice_set (replicate n 0) 0 200) c ≤ ONLINE
first_at zero c = omega arith
first_at (suc n) zero = omega arith
first_at (suc n) (suc c) = rw (none_counted n c) (omega arith)

pub standing_none : (head : Head) (present : List Bool) → IsHead head → AreFlags (is_present head) head.possible present →
    IsStanding head []
    (record { settled = slice_set (replicate head.possible 0) 0 200; armed = replicate head.possible None; present = present })
unfolding settled armed
standing_none head present h flags = record {
  cpus = all head.possible;
  settled_is = λ c below. at head.possible c below;
  highest = λ c. first_at head.possible c;
  armed_cpus = length-replicate head.possible None;
  armed_is = λ c below. at_place-none head.possible c;
  present_is = flags;
}
  where
    all : (n : ℕ) → length {A = ℕ} (slice_set (replicate n 0) 0 200) ≡ n
    all zero = refl
    all (suc n) = ap suc (length-replicate n 0)

    at : (n c : ℕ) → c < n → slice_index (slice_set (replicate n 0) 0 200) c ≡ cond (eqb c 0) 200 0
    at zero c below = absurd (omega arith)
    at (suc n) c below = stands_at n c

-- one processor more has its flag
pub flags_more : (test : ℕ → Bool) (n : ℕ) (flags : List Bool) (b : Bool) → AreFlags test n flags → b ≡ test n →
    AreFlags test (n + 1) (flags ++ b ∷ [])
flags_more test n flags b h is = record {
  places = length-append flags (b ∷ []) ∙ ap (λ k. k + 1) h.places;
  each = λ c below. go c below (ltb c n) refl;
}
  where
    go : (c : ℕ) → c < n + 1 → (q : Bool) → ltb c n ≡ q → get_or (flags ++ b ∷ []) c false ≡ test c
    go c below true e =
        let inside = ltb-true c n e in
        let all = h.places in
        get_or_append_left flags (b ∷ []) false c (omega (arith, inside, all)) ∙ h.each c inside
    go c below false e =
        let same : c ≡ n = let past = ltb-false c n e in omega (arith, below, past) in
        let all : length flags ≡ c = h.places ∙ sym same in
        get_or_push flags b false c all ∙ is ∙ ap test (sym same)

pub flags_none : (test : ℕ → Bool) → AreFlags test 0 []
flags_none test = record { places = refl; each = λ c below. absurd (omega (arith, below)) }

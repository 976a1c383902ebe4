-- How many processors are online after one of them stands elsewhere.
use Rattle.std.proofs.Common.{◌≡◌, ℕ, ◌+◌, ◌<◌, Bool, true, false, cond, eqb, List, length, get_or, get_or-set_same, get_or-set_other, refl, ap, ◌∙◌, arith, sym}
use Rattle.std.specs.Prelude.{slice_set}
use Rattle.std.specs.List.{count_by}
use Rattle.std.proofs.Math.ListN.{set}
use Rattle.std.proofs.lemmas.List.Sums.{sum_by-set}
use Rattle.std.proofs.lemmas.List.{map-set}
use Rattle.std.proofs.lemmas.Bool.{eqb-true, eqb-false}
use Rattle.std.proofs.Common.{length-set}
use Rattle.hp_states.specs.CpuSets.{has}
use Rattle.hp_states.specs.declared.cpu_set.CpuSet.{CpuSet}
use Rattle.hp_states.specs.Sections.{is_online_state}
use Rattle.hp_account.specs.Processors.{IsSound, IsOnlineSet, one_if}

abbrev one : Bool → ℕ
one b = cond b 1 0

pub count_after : (xs : List ℕ) (c s : ℕ) → c < length xs →
    count_by is_online_state (set xs c s) + one (is_online_state (get_or xs c 0))
    ≡ count_by is_online_state xs + one (is_online_state s)
count_after xs c s below = sum_by-set (λ x. one (is_online_state x)) xs c s 0 below

-- a processor that stands elsewhere is in the set from there on where it is online, and else isn't
set_after : (xs : List ℕ) (old new : CpuSet) (c s : ℕ) → c < length xs → IsOnlineSet xs old →
    ((o : ℕ) → has new o ≡ cond (eqb o c) (is_online_state s) (has old o)) → IsOnlineSet (slice_set xs c s) new
set_after xs old new c s below is marked o = marked o ∙ go (eqb o c) refl
  where
    go : (b : Bool) → eqb o c ≡ b → cond b (is_online_state s) (has old o) ≡ is_online_state (get_or (set xs c s) o 0)
    go true e =
        let here : get_or (set xs c s) o 0 ≡ s =
        ap (λ n. get_or (set xs c s) n 0) (eqb-true o c e) ∙ get_or-set_same xs c s 0 below in
        sym (ap is_online_state here)
    go false e = is o ∙ sym (ap is_online_state (get_or-set_other xs c o s 0 (eqb-false o c e)))

-- beside the settled states stand which are online, and how many
pub sound_after : (xs : List ℕ) (flags : List Bool) (old new : CpuSet) (n c s after : ℕ) → IsSound xs flags old n →
    c < length xs → ((o : ℕ) → has new o ≡ cond (eqb o c) (is_online_state s) (has old o)) →
    after + one_if (is_online_state (get_or xs c 0)) ≡ n + one_if (is_online_state s) →
    IsSound (slice_set xs c s) (slice_set flags c (is_online_state s)) new after
sound_after xs flags old new n c s after sound below marked counts =
    let f = sound.few in
    let h = sound.counts in
    let k = count_after xs c s below in
    record {
      few = rw length-set f;
      online_is = rw (sound.online_is) (sym (map-set is_online_state xs c s));
      set_is = set_after xs old new c s below sound.set_is marked;
      counts = omega (arith, counts, h, k);
    }

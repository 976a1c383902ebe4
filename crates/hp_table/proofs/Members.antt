-- What stays so of a table when an instance comes or goes.
use Rattle.std.proofs.Common.{◌≡◌, ℕ, zero, suc, ◌+◌, ◌-◌, ◌<◌, ◌≤◌, Bool, true, false, not, ◌||◌, eqb, leb, Option, Some, None, IsSome, List, length, refl, arith}
use Rattle.std.specs.Prelude.{filter, Result, Ok, Err, OnOk, OnErr}
use Rattle.std.specs.Result.{is_err}
use Rattle.std.proofs.lemmas.Bool.{false≢true, true≢false, leb-false, and_parts, not-true}
use Rattle.hp_states.specs.declared.limits.TheConstants.{MAX_INSTANCES, MAX_TABLE_INSTANCES}
use Rattle.hp_table.specs.Step.{Step, step_at, changed_at}
use Rattle.hp_table.specs.Instances.{is_multi, is_among, has_instance, instances_of, instance_count, takes, CanAdd, with_instance, without_instance}
use Rattle.hp_table.specs.Sound.{IsSoundStep}
use Rattle.hp_table.specs.Inside.{IsCounted}
use Rattle.hp_table.proofs.Places.{within_places}
use Rattle.hp_table.proofs.Counts.{count_part}
use Rattle.hp_table.proofs.Steps.{sound-with, sound-without, one_less}
use Rattle.hp_table.proofs.Tables.{counted_changed}

multi_there : (place : Option Step) → is_multi place ≡ true → IsSome place
multi_there None multi = multi
multi_there (Some step) multi = refl

-- a state that takes an instance is registered
pub takes_there : (places : List (Option Step)) (s inst : ℕ) → takes places s inst ≡ true → IsSome (step_at places s)
takes_there places s inst takes = multi_there (step_at places s) ((and_parts _ _ takes).1)

-- and so is one that has an instance
pub has_there : (places : List (Option Step)) (s inst : ℕ) → has_instance places s inst ≡ true → IsSome (step_at places s)
has_there places s inst has = go (step_at places s) has
  where
    go : (place : Option Step) → is_among inst (instances_of place) ≡ true → IsSome place
    go None has = has
    go (Some step) has = refl

neither : (a b : Bool) → (a || b) ≡ false → (a ≡ false) × (b ≡ false)
neither true b e = absurd (true≢false e)
neither false b e = (refl, e)

pub positive : (n : ℕ) → eqb n 0 ≡ false → 0 < n
positive zero e = absurd (true≢false e)
positive (suc n) e = omega arith

pub counted_added : (places : List (Option Step)) (s count inst : ℕ) (step : Step) → step_at places s ≡ Some step → CanAdd places s inst →
    IsCounted places count → IsCounted (changed_at places s (with_instance inst)) (count + 1)
counted_added places s count inst step there can was =
    let takes = rw there at can.taken in
    let both : (not (eqb inst 0) ≡ true) × (step.kept.multi ≡ true) = and_parts _ _ takes in
    let new : is_among inst step.insts ≡ false = rw there at can.new in
    let room = rw there at can.room in
    let rooms : (leb MAX_INSTANCES (length step.insts) ≡ false) × (leb MAX_TABLE_INSTANCES (instance_count places) ≡ false) = neither _ _ room in
    let few : length step.insts < MAX_INSTANCES = leb-false _ _ rooms.0 in
    let all : instance_count places < MAX_TABLE_INSTANCES = leb-false _ _ rooms.1 in
    let sound : IsSoundStep step = rw there at (was.sound.steps s) in
    counted_changed places s count (count + 1) (with_instance inst) step there
    (sound-with inst step (positive inst (not-true _ both.0)) both.1 new few sound) (omega arith) (omega (arith, was.counts)) was

pub counted_removed : (places : List (Option Step)) (s count inst : ℕ) (step : Step) → step_at places s ≡ Some step → has_instance places s inst ≡ true →
    IsCounted places count → (1 ≤ count) × IsCounted (changed_at places s (without_instance inst)) (count - 1)
counted_removed places s count inst step there has was =
    let has : is_among inst step.insts ≡ true = rw there at has in
    let sound : IsSoundStep step = rw there at (was.sound.steps s) in
    let less : length (filter (λ i. not (eqb i inst)) step.insts) + 1 ≡ length step.insts = one_less inst step.insts sound.distinct has in
    let part : length step.insts ≤ instance_count places = rw there at (count_part places s (within_places places s step there)) in
    let few : instance_count places ≤ MAX_TABLE_INSTANCES = was.sound.few in
    let some : 1 ≤ count = omega (arith, was.counts) in (
      some,
      counted_changed places s count (count - 1) (without_instance inst) step there (sound-without inst step sound) (omega (arith, less)) (omega (arith, was.counts)) was,
    )

-- what a call's answer says
pub at_err : {E : Type 0} (r : Result Unit E) (P : Type 0) → is_err r ≡ true → OnErr r P → P
at_err (Ok x) P e h = absurd (false≢true e)
at_err (Err x) P e h = h

pub at_ok : {E : Type 0} (r : Result Unit E) (P : Type 0) → is_err r ≡ false → OnOk r P → P
at_ok (Ok x) P e h = h
at_ok (Err x) P e h = absurd (true≢false e)

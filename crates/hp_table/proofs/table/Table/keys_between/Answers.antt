use Rattle.std.proofs.Common.{◌≡◌, ℕ, ◌+◌, ◌<◌, ◌≤◌, List, Option, length, take, min, arith}
use Rattle.std.specs.Prelude.{sum_by}
use Rattle.hp_states.specs.declared.limits.TheConstants.{MAX_TABLE_INSTANCES, ONLINE}
use Rattle.hp_table.specs.Step.{Step, step_at}
use Rattle.hp_table.specs.Instances.{instance_count}
use Rattle.hp_table.specs.Keys.{keys_of}
use Rattle.hp_table.specs.Named.{IsNextRegistered}
use Rattle.hp_table.specs.Sound.{IsSound}
use Rattle.hp_table.proofs.Counts.{keys_are, keys_few, keys_more, keys_skip, keys_within}
use Rattle.std.proofs.lemmas.List.Sums.{sum_by-take-le}
use Rattle.hp_table.proofs.table.Table.keys_between.Goals as goal

pub overflow_add-keys : goal.overflow_add-keys
overflow_add-keys g c =
    let places : List (Option Step) = c.args.self.now in
    let sound : IsSound places = rw (← c.self.view_is) c.self.invariant.counted.sound in
    let states : length places ≡ ONLINE + 1 = sound.states in
    let few : instance_count places ≤ MAX_TABLE_INSTANCES = sound.few in
    let next : IsNextRegistered places c.loop-state.from c.min-top.result c.in-Some.state = rw c.in-Some.is at c.next_registered.ensures.some in
    let inside : c.in-Some.state < length places = omega (arith, c.min-top.ensures, next.at_most) in
    let skip : sum_by keys_of (take c.in-Some.state places) ≡ sum_by keys_of (take c.loop-state.from places) =
    keys_skip places c.loop-state.from c.in-Some.state next.at_least next.none_below in
    let within : c.loop-state.keys + keys_of (step_at places c.in-Some.state) ≤ instance_count places + length places =
    keys_within places c.in-Some.state c.loop-state.keys (min c.args.low (min c.args.high ONLINE) + 1) inside (omega (arith, c.loop-state.invariant.so_far, skip)) in
    omega (arith, c.key_count_at-keys.ensures.keys)

pub loop-state-preserved : goal.loop-state-preserved
loop-state-preserved g c =
    let places : List (Option Step) = c.args.self.now in
    let sound : IsSound places = rw (← c.self.view_is) c.self.invariant.counted.sound in
    let states : length places ≡ ONLINE + 1 = sound.states in
    let next : IsNextRegistered places c.loop-state.from c.min-top.result c.in-Some.state = rw c.in-Some.is at c.next_registered.ensures.some in
    let inside : c.in-Some.state < length places = omega (arith, c.min-top.ensures, next.at_most) in
    let skip : sum_by keys_of (take c.in-Some.state places) ≡ sum_by keys_of (take c.loop-state.from places) =
    keys_skip places c.loop-state.from c.in-Some.state next.at_least next.none_below in
    let more : sum_by keys_of (take (c.in-Some.state + 1) places) ≡ sum_by keys_of (take c.in-Some.state places) + keys_of (step_at places c.in-Some.state) =
    keys_more places c.in-Some.state inside in
    record {
      so_far = omega (arith, c.key_count_at-keys.ensures.keys, c.loop-state.invariant.so_far, skip, more);
      within = omega (arith, c.min-top.ensures, next.at_most);
    }

pub returns-clause-keys : goal.returns-clause-keys
returns-clause-keys g c =
    let places : List (Option Step) = c.args.self.now in
    let sound : IsSound places = rw (← c.self.view_is) c.self.invariant.counted.sound in
    let top : ℕ = min c.args.high ONLINE in
    let skip : sum_by keys_of (take (top + 1) places) ≡ sum_by keys_of (take c.loop-state.from places) =
    keys_skip places c.loop-state.from (top + 1) c.loop-state.invariant.within
    (λ t at_least less. c.in_default.ensures.none t at_least (omega (arith, c.min-top.ensures))) in
    keys_are places ONLINE c.args.low c.args.high c.loop-state.keys sound.states (omega (arith, skip, c.loop-state.invariant.so_far))

pub returns-clause-within : goal.returns-clause-within
returns-clause-within g c =
    let places : List (Option Step) = c.args.self.now in
    let sound : IsSound places = rw (← c.self.view_is) c.self.invariant.counted.sound in
    let states : length places ≡ ONLINE + 1 = sound.states in
    let few : instance_count places ≤ MAX_TABLE_INSTANCES = sound.few in
    let part : sum_by keys_of (take c.loop-state.from places) ≤ sum_by keys_of places = sum_by-take-le keys_of places c.loop-state.from in
    let all : sum_by keys_of places ≤ instance_count places + length places = keys_few places in
    omega (arith, c.loop-state.invariant.so_far)

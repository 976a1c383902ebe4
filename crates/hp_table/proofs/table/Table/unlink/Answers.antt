use Rattle.std.proofs.Common.{true, ◌≡◌, ◌-◌, ◌≤◌, Some, IsSome, List, Option}
use Rattle.hp_table.specs.Step.{Step, step_at, changed_at}
use Rattle.hp_table.specs.Instances.{has_instance, without_instance}
use Rattle.hp_table.specs.Inside.{IsCounted}
use Rattle.hp_table.proofs.Marked.{inside_written}
use Rattle.hp_table.proofs.Places.{found_there, written}
use Rattle.hp_table.proofs.Members.{has_there, counted_removed}
use Rattle.hp_table.proofs.table.Table.unlink.Goals as goal

pub overflow_sub-self : goal.overflow_sub-self
overflow_sub-self g c =
    let places : List (Option Step) = c.self.inside.places.items in
    let has : has_instance places c.args.state c.args.inst ≡ true = rw c.self.view_is c.requires in
    let some : IsSome (step_at places c.args.state) = has_there places c.args.state c.args.inst has in
    let there : step_at places c.args.state ≡ Some c.in-Some.step = found_there places c.args.state _ _ some c.index_mut.ensures.value c.in-Some.is in
    let less : (1 ≤ c.self.inside.count) × IsCounted (changed_at places c.args.state (without_instance c.args.inst)) (c.self.inside.count - 1) =
    counted_removed places c.args.state c.self.inside.count c.args.inst _ there has c.self.invariant.counted in
    less.0

pub invariant_of-self : goal.invariant_of-self
invariant_of-self g c =
    let places : List (Option Step) = c.self.inside.places.items in
    let has : has_instance places c.args.state c.args.inst ≡ true = rw c.self.view_is c.requires in
    let some : IsSome (step_at places c.args.state) = has_there places c.args.state c.args.inst has in
    let there : step_at places c.args.state ≡ Some c.in-Some.step = found_there places c.args.state _ _ some c.index_mut.ensures.value c.in-Some.is in
    let less : (1 ≤ c.self.inside.count) × IsCounted (changed_at places c.args.state (without_instance c.args.inst)) (c.self.inside.count - 1) =
    counted_removed places c.args.state c.self.inside.count c.args.inst _ there has c.self.invariant.counted in
    inside_written places c.args.state (c.self.inside.count - 1) (without_instance c.args.inst) _ _ c.self.inside.states there c.remove.ensures
    less.1 c.self.invariant.marked

pub returns : goal.returns
returns g c =
    let places : List (Option Step) = c.self.inside.places.items in
    let has : has_instance places c.args.state c.args.inst ≡ true = rw c.self.view_is c.requires in
    let some : IsSome (step_at places c.args.state) = has_there places c.args.state c.args.inst has in
    let there : step_at places c.args.state ≡ Some c.in-Some.step = found_there places c.args.state _ _ some c.index_mut.ensures.value c.in-Some.is in
    let less : (1 ≤ c.self.inside.count) × IsCounted (changed_at places c.args.state (without_instance c.args.inst)) (c.self.inside.count - 1) =
    counted_removed places c.args.state c.self.inside.count c.args.inst _ there has c.self.invariant.counted in
    rw (← c.self.view_is) (written places c.args.state (without_instance c.args.inst) _ _ there c.remove.ensures)

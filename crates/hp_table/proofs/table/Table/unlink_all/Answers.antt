-- The instances of the state are out, and the table counts those that are left.
use Rattle.std.proofs.Common.{◌≡◌, ◌-◌, Some, IsSome, List, Option, length, ap, ◌∙◌}
use Rattle.hp_table.specs.Step.{Step, step_at, bare}
use Rattle.hp_table.specs.Instances.{instances_of, instances_at}
use Rattle.hp_table.proofs.Marked.{inside_written}
use Rattle.hp_table.proofs.Places.{found_there, written}
use Rattle.hp_table.proofs.Clearing.{counted_cleared}
use Rattle.hp_table.proofs.table.Table.unlink_all.Goals as goal

pub overflow_sub-self : goal.overflow_sub-self
overflow_sub-self g c =
    let places : List (Option Step) = c.self.inside.places.items in
    let some : IsSome (step_at places c.args.state) = rw c.self.view_is c.requires in
    let there : step_at places c.args.state ≡ Some c.in-Some.step = found_there places c.args.state _ _ some c.index_mut.ensures.value c.in-Some.is in
    let all : c.instances.result.now ≡ instances_at places c.args.state = rw c.self.view_is c.instances.ensures.all in
    let many : length c.instances.result.now ≡ length c.in-Some.step.insts = ap length (all ∙ ap instances_of there) in
    let less = counted_cleared places c.args.state c.self.inside.count _ there c.self.invariant.counted in
    rw many less.0

pub invariant_of-self : goal.invariant_of-self
invariant_of-self g c =
    let places : List (Option Step) = c.self.inside.places.items in
    let some : IsSome (step_at places c.args.state) = rw c.self.view_is c.requires in
    let there : step_at places c.args.state ≡ Some c.in-Some.step = found_there places c.args.state _ _ some c.index_mut.ensures.value c.in-Some.is in
    let all : c.instances.result.now ≡ instances_at places c.args.state = rw c.self.view_is c.instances.ensures.all in
    let many : length c.instances.result.now ≡ length c.in-Some.step.insts = ap length (all ∙ ap instances_of there) in
    let less = counted_cleared places c.args.state c.self.inside.count _ there c.self.invariant.counted in
    rw many
    (inside_written places c.args.state (c.self.inside.count - length c.in-Some.step.insts) (λ step. bare step.kept) _ _ c.self.inside.states
    there c.clear.ensures less.1 c.self.invariant.marked)

pub returns : goal.returns
returns g c =
    let places : List (Option Step) = c.self.inside.places.items in
    let some : IsSome (step_at places c.args.state) = rw c.self.view_is c.requires in
    let there : step_at places c.args.state ≡ Some c.in-Some.step = found_there places c.args.state _ _ some c.index_mut.ensures.value c.in-Some.is in
    rw (← c.self.view_is) (written places c.args.state (λ step. bare step.kept) _ _ there c.clear.ensures)

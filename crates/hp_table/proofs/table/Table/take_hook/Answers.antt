use Rattle.std.proofs.Common.{◌≡◌, Some, IsSome, List, Option, refl}
use Rattle.hp_table.specs.Step.{Step, step_at, lent_step}
use Rattle.hp_table.proofs.Marked.{inside_written}
use Rattle.hp_table.proofs.Places.{found_there, written}
use Rattle.hp_table.proofs.Tables.{counted_kept}
use Rattle.hp_table.proofs.table.Table.take_hook.Goals as goal

pub invariant_of-self : goal.invariant_of-self
invariant_of-self g c =
    let places : List (Option Step) = c.self.inside.places.items in
    let some : IsSome (step_at places c.args.state) = rw c.self.view_is c.requires in
    let there : step_at places c.args.state ≡ Some c.in-Some.step = found_there places c.args.state _ _ some c.index_mut.ensures.value c.in-Some.is in
    inside_written places c.args.state c.self.inside.count lent_step _ _ c.self.inside.states there c.lend.ensures.lent
    (counted_kept places c.args.state c.self.inside.count lent_step _ there refl refl c.self.invariant.counted)
    c.self.invariant.marked

pub returns-clause-some : goal.returns-clause-some
returns-clause-some g c =
    let places : List (Option Step) = c.self.inside.places.items in
    let some : IsSome (step_at places c.args.state) = rw c.self.view_is c.requires in
    let there : step_at places c.args.state ≡ Some c.in-Some.step = found_there places c.args.state _ _ some c.index_mut.ensures.value c.in-Some.is in
    rw (← c.self.view_is, there) c.lend.ensures.some

pub returns-clause-hook : goal.returns-clause-hook
returns-clause-hook g c =
    let places : List (Option Step) = c.self.inside.places.items in
    let some : IsSome (step_at places c.args.state) = rw c.self.view_is c.requires in
    let there : step_at places c.args.state ≡ Some c.in-Some.step = found_there places c.args.state _ _ some c.index_mut.ensures.value c.in-Some.is in
    rw (← c.self.view_is, there) c.lend.ensures.hook

pub returns-clause-lent : goal.returns-clause-lent
returns-clause-lent g c =
    let places : List (Option Step) = c.self.inside.places.items in
    let some : IsSome (step_at places c.args.state) = rw c.self.view_is c.requires in
    let there : step_at places c.args.state ≡ Some c.in-Some.step = found_there places c.args.state _ _ some c.index_mut.ensures.value c.in-Some.is in
    rw (← c.self.view_is) (written places c.args.state lent_step _ _ there c.lend.ensures.lent)

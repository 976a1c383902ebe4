use Rattle.std.proofs.Common.{◌≡◌, Some, IsSome, List, Option, false, refl}
use Rattle.hp_table.specs.Step.{Step, step_at, step_with}
use Rattle.hp_table.proofs.Placed.{home_there}
use Rattle.hp_table.proofs.Marked.{inside_written}
use Rattle.hp_table.proofs.Places.{found_there, none_there, written}
use Rattle.hp_table.proofs.Tables.{counted_kept}
use Rattle.hp_table.proofs.table.Table.restore.Goals as goal

pub restore-requires : goal.restore-requires
restore-requires g c =
    let places : List (Option Step) = c.self.inside.places.items in
    let some : IsSome (step_at places c.args.state) = rw c.self.view_is c.requires.registered in
    let there : step_at places c.args.state ≡ Some c.in-Some.step = found_there places c.args.state _ _ some c.index_mut.ensures.value c.in-Some.is in
    home_there places c.args.state c.in-Some.step false there (rw c.self.view_is c.requires.lent)

pub unreachable-requires : goal.unreachable-requires
unreachable-requires g c =
    let places : List (Option Step) = c.self.inside.places.items in
    let some : IsSome (step_at places c.args.state) = rw c.self.view_is c.requires.registered in
    none_there places c.args.state _ some c.index_mut.ensures.value c.in-None.is

pub invariant_of-self : goal.invariant_of-self
invariant_of-self g c =
    let places : List (Option Step) = c.self.inside.places.items in
    let some : IsSome (step_at places c.args.state) = rw c.self.view_is c.requires.registered in
    let there : step_at places c.args.state ≡ Some c.in-Some.step = found_there places c.args.state _ _ some c.index_mut.ensures.value c.in-Some.is in
    inside_written places c.args.state c.self.inside.count (step_with _) _ _ c.self.inside.states there c.restore.ensures
    (counted_kept places c.args.state c.self.inside.count (step_with _) _ there refl refl c.self.invariant.counted)
    c.self.invariant.marked

pub returns : goal.returns
returns g c =
    let places : List (Option Step) = c.self.inside.places.items in
    let some : IsSome (step_at places c.args.state) = rw c.self.view_is c.requires.registered in
    let there : step_at places c.args.state ≡ Some c.in-Some.step = found_there places c.args.state _ _ some c.index_mut.ensures.value c.in-Some.is in
    rw (← c.self.view_is) (written places c.args.state (step_with _) _ _ there c.restore.ensures)

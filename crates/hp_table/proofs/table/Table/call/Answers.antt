use Rattle.std.proofs.Common.{◌≡◌, Some, IsSome, List, Option, refl}
use Rattle.hp_states.specs.Rules.{Site, site_at}
use Rattle.hp_table.specs.Step.{Step, step_at, called_step}
use Rattle.hp_table.proofs.Marked.{inside_written}
use Rattle.hp_table.proofs.Places.{found_there, written}
use Rattle.hp_table.proofs.Tables.{counted_kept}
use Rattle.hp_table.proofs.table.Table.call.Goals as goal

pub invariant_of-self : goal.invariant_of-self
invariant_of-self g c =
    let places : List (Option Step) = c.self.inside.places.items in
    let site : Site = site_at c.args.cpu c.args.inst c.args.dir in
    let some : IsSome (step_at places c.args.state) = rw c.self.view_is c.requires.registered in
    let there : step_at places c.args.state ≡ Some c.in-Some.step = found_there places c.args.state _ _ some c.index_mut.ensures.value c.in-Some.is in
    inside_written places c.args.state c.self.inside.count (called_step site) _ _ c.self.inside.states there c.call.ensures.called
    (counted_kept places c.args.state c.self.inside.count (called_step site) _ there refl refl c.self.invariant.counted)
    c.self.invariant.marked

pub returns-clause-answer : goal.returns-clause-answer
returns-clause-answer g c =
    let places : List (Option Step) = c.self.inside.places.items in
    let site : Site = site_at c.args.cpu c.args.inst c.args.dir in
    let some : IsSome (step_at places c.args.state) = rw c.self.view_is c.requires.registered in
    let there : step_at places c.args.state ≡ Some c.in-Some.step = found_there places c.args.state _ _ some c.index_mut.ensures.value c.in-Some.is in
    rw (← c.self.view_is, there) c.call.ensures.answer

pub returns-clause-called : goal.returns-clause-called
returns-clause-called g c =
    let places : List (Option Step) = c.self.inside.places.items in
    let site : Site = site_at c.args.cpu c.args.inst c.args.dir in
    let some : IsSome (step_at places c.args.state) = rw c.self.view_is c.requires.registered in
    let there : step_at places c.args.state ≡ Some c.in-Some.step = found_there places c.args.state _ _ some c.index_mut.ensures.value c.in-Some.is in
    rw (← c.self.view_is) (written places c.args.state (called_step site) _ _ there c.call.ensures.called)

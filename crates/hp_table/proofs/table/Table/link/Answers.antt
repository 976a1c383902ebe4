use Rattle.std.proofs.Common.{◌≡◌, ◌+◌, Some, IsSome, List, Option, sym, ◌∙◌}
use Rattle.hp_table.specs.Step.{Step, step_at}
use Rattle.hp_table.specs.Instances.{CanAdd, with_instance}
use Rattle.hp_table.proofs.Marked.{inside_written}
use Rattle.hp_table.proofs.Places.{found_there, none_there, written, set_same}
use Rattle.hp_table.proofs.Members.{takes_there, counted_added, at_err, at_ok}
use Rattle.hp_table.proofs.table.Table.link.Goals as goal

pub invariant_of-self : goal.invariant_of-self
invariant_of-self g c =
    let places : List (Option Step) = c.self.inside.places.items in
    let can : CanAdd places c.args.state c.args.inst = rw c.self.view_is c.requires in
    let some : IsSome (step_at places c.args.state) = takes_there places c.args.state c.args.inst can.taken in
    let there : step_at places c.args.state ≡ Some c.in-Some.step = found_there places c.args.state _ _ some c.index_mut.ensures.value c.in-Some.is in
    let same : c.add.new.self ≡ c.in-Some.step = at_err c.add.result _ (sym c.is_err.ensures.value ∙ c.if-is_err.true) c.add.ensures.err in
    rw (same, set_same places c.args.state (Some c.in-Some.step) there) c.self.invariant

pub returns-then-is_err-clause-err : goal.returns-then-is_err-clause-err
returns-then-is_err-clause-err g c =
    let places : List (Option Step) = c.self.inside.places.items in
    let can : CanAdd places c.args.state c.args.inst = rw c.self.view_is c.requires in
    let some : IsSome (step_at places c.args.state) = takes_there places c.args.state c.args.inst can.taken in
    let there : step_at places c.args.state ≡ Some c.in-Some.step = found_there places c.args.state _ _ some c.index_mut.ensures.value c.in-Some.is in
    let same : c.add.new.self ≡ c.in-Some.step = at_err c.add.result _ (sym c.is_err.ensures.value ∙ c.if-is_err.true) c.add.ensures.err in
    rw (same, set_same places c.args.state (Some c.in-Some.step) there) c.self.view_is

pub unreachable-requires : goal.unreachable-requires
unreachable-requires g c =
    let places : List (Option Step) = c.self.inside.places.items in
    let can : CanAdd places c.args.state c.args.inst = rw c.self.view_is c.requires in
    let some : IsSome (step_at places c.args.state) = takes_there places c.args.state c.args.inst can.taken in
    none_there places c.args.state _ some c.index_mut.ensures.value c.in-None.is

pub invariant_of-self-2 : goal.invariant_of-self-2
invariant_of-self-2 g c =
    let places : List (Option Step) = c.self.inside.places.items in
    let can : CanAdd places c.args.state c.args.inst = rw c.self.view_is c.requires in
    let some : IsSome (step_at places c.args.state) = takes_there places c.args.state c.args.inst can.taken in
    let there : step_at places c.args.state ≡ Some c.in-Some.step = found_there places c.args.state _ _ some c.index_mut.ensures.value c.in-Some.is in
    let added : c.add.new.self ≡ with_instance c.args.inst c.in-Some.step = at_ok c.add.result _ (sym c.is_err.ensures.value ∙ c.if-is_err.false) c.add.ensures.ok in
    inside_written places c.args.state (c.self.inside.count + 1) (with_instance c.args.inst) _ _ c.self.inside.states there added
    (counted_added places c.args.state c.self.inside.count c.args.inst _ there can c.self.invariant.counted)
    c.self.invariant.marked

pub returns-clause-added : goal.returns-clause-added
returns-clause-added g c =
    let places : List (Option Step) = c.self.inside.places.items in
    let can : CanAdd places c.args.state c.args.inst = rw c.self.view_is c.requires in
    let some : IsSome (step_at places c.args.state) = takes_there places c.args.state c.args.inst can.taken in
    let there : step_at places c.args.state ≡ Some c.in-Some.step = found_there places c.args.state _ _ some c.index_mut.ensures.value c.in-Some.is in
    let added : c.add.new.self ≡ with_instance c.args.inst c.in-Some.step = at_ok c.add.result _ (sym c.is_err.ensures.value ∙ c.if-is_err.false) c.add.ensures.ok in
    rw (← c.self.view_is) (written places c.args.state (with_instance c.args.inst) _ _ there added)

use Rattle.std.proofs.Common.{◌≡◌, ℕ, ◌<◌, length, Some, IsSome, List, [], Option, sym, ap, ◌∙◌}
use Rattle.hp_table.specs.Kept.{Kept}
use Rattle.hp_table.specs.Step.{Step, step_at, bare}
use Rattle.hp_table.specs.Instances.{instances_at}
use Rattle.hp_table.proofs.Places.{found_there, none_there, within_places}
use Rattle.hp_table.proofs.Marked.{marked_less}
use Rattle.hp_table.proofs.Tables.{counted_uninstalled}
use Rattle.hp_table.proofs.table.Table.take_out.Goals as goal

is_bare : (step : Step) (kept : Kept) → kept ≡ step.kept → step.insts ≡ [] → Some step ≡ Some (bare kept)
is_bare step kept same none =
    ap (λ (xs : List ℕ). Some (record { kept = step.kept; insts = xs })) none ∙ ap (λ (k : Kept). Some (bare k)) (sym same)

pub invariant_of-self : goal.invariant_of-self
invariant_of-self g c =
    let places : List (Option Step) = c.self.inside.places.items in
    let some : IsSome (step_at places c.args.state) = rw c.self.view_is c.requires.registered in
    let read : c.index_mut.result.now ≡ Some c.in-Some.step = sym c.take-2.ensures.value ∙ c.in-Some.is in
    let there : step_at places c.args.state ≡ Some c.in-Some.step = found_there places c.args.state _ _ some c.index_mut.ensures.value read in
    let none : instances_at places c.args.state ≡ [] = rw c.self.view_is c.requires.no_instances in
    let none : c.in-Some.step.insts ≡ [] = rw there at none in
    let within : c.args.state < length places = within_places places c.args.state c.in-Some.step there in
    rw c.take-2.ensures.after (record {
      counted = counted_uninstalled places c.args.state c.self.inside.count c.in-Some.step there none c.self.invariant.counted;
      marked = marked_less places c.args.state c.self.inside.states _ within c.self.invariant.marked c.take.ensures;
    })

pub returns-clause-record_there : goal.returns-clause-record_there
returns-clause-record_there g c =
    let places : List (Option Step) = c.self.inside.places.items in
    let some : IsSome (step_at places c.args.state) = rw c.self.view_is c.requires.registered in
    let read : c.index_mut.result.now ≡ Some c.in-Some.step = sym c.take-2.ensures.value ∙ c.in-Some.is in
    let there : step_at places c.args.state ≡ Some c.in-Some.step = found_there places c.args.state _ _ some c.index_mut.ensures.value read in
    let none : instances_at places c.args.state ≡ [] = rw c.self.view_is c.requires.no_instances in
    let none : c.in-Some.step.insts ≡ [] = rw there at none in
    rw (← c.self.view_is) (there ∙ is_bare c.in-Some.step c.into_record.result c.into_record.ensures none)

pub unreachable-requires : goal.unreachable-requires
unreachable-requires g c =
    let places : List (Option Step) = c.self.inside.places.items in
    let some : IsSome (step_at places c.args.state) = rw c.self.view_is c.requires.registered in
    none_there places c.args.state _ some c.index_mut.ensures.value (sym c.take-2.ensures.value ∙ c.in-None.is)

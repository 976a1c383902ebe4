use Rattle.std.proofs.Common.{◌≡◌, refl, ap, ◌∙◌}
use Rattle.hp_machine.specs.Contents.{Contents}
use Rattle.hp_machine.proofs.SetsSaid.{lists_impossible}
use Rattle.hp_machine.proofs.machine.Machine.refusal_at_once.Goals as goal

pub returns-in-UpMany : goal.returns-in-UpMany
returns-in-UpMany g c =
    let head = c.head-head.result.now in
    let there =
    c.is_some.ensures ∙ lists_impossible head c.in-UpMany.set c.first_from.result c.first_from.ensures.some c.first_from.ensures.none in
    let same : head ≡ c.args.self.now.head = c.head-head.ensures ∙ ap (λ (m : Contents). m.head) c.self.view_is in
    c.refused_reader-in-UpMany.ensures ∙ rw (c.in-UpMany.is, c.is_reading-reading.ensures, there, same) refl

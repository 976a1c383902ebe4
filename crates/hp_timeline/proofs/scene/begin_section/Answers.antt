use Rattle.std.proofs.Common.{◌≡◌, ◌==◌, if◌then◌else◌, Some, None, ap, ◌∙◌}
use Rattle.hp_timeline.proofs.Sections.{written}
use Rattle.hp_timeline.proofs.scene.begin_section.Goals as goal

pub returns : goal.returns
returns c = λ k.
    written c.reach.new.sections.items c.args.seat k (Some c.args.place) None c.in_ok-reach.ensures.reached
    ∙ ap (λ o. if c.args.seat == k then Some c.args.place else o) (c.in_ok-reach.ensures.same k)

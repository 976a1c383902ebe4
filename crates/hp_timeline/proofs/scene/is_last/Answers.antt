use Rattle.std.proofs.Common.{ap, sym, ◌∙◌}
use Rattle.hp_timeline.proofs.LastKey.{is_one, last_is}
use Rattle.hp_timeline.proofs.scene.is_last.Goals as goal

pub returns-in-Some : goal.returns-in-Some
returns-in-Some c =
    sym
    (last_is c.args.insts.now c.args.inst
    ∙ ap (λ o. is_one o c.args.inst) (sym c.last.ensures.value ∙ sym c.copied.ensures ∙ c.in-Some.is))

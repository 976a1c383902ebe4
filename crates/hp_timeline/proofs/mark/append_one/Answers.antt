use Rattle.std.proofs.Common.{ap, ◌++◌, ◌∙◌}
use Rattle.hp_timeline.proofs.Lasting.{on_ok_so}
use Rattle.hp_timeline.proofs.RanMarks.{ran_is}
use Rattle.hp_timeline.proofs.mark.append_one.Goals as goal

pub returns-then-is_short : goal.returns-then-is_short
returns-then-is_short c =
    on_ok_so c.append_ran.result _ _
    (λ made.
    made
    ∙ ap (λ bytes. c.args.out.now.items ++ bytes)
    (ran_is c.args.window c.args.events.now c.args.mark c.args.seat c.args.inst _ _ c.middle.ensures.value c.height.ensures.value c.in-RanOk.is
    c.requires))
    c.append_ran.ensures

pub append_entry-requires : goal.append_entry-requires
append_entry-requires c = record { seat = c.args.seat; inst = c.args.inst; event = c.requires }

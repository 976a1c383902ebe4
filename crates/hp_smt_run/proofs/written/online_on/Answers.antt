use Rattle.std.proofs.Common.{◌∷◌, [], ◌++◌, ap, sym, ◌∙◌}
use Rattle.hp_smt_run.proofs.Online.{with_one, without_one}
use Rattle.hp_smt_run.proofs.written.online_on.Goals as goal
use Rattle.hp_smt_run.proofs.written.online_on.Goals.{then-online+in_ok-push, else-online}

pub loop-cpu-preserved : goal.loop-cpu-preserved
loop-cpu-preserved g c =
    let events = c.args.board.now.events in
    let cpu = c.loop-cpu.cpu in
    elim c.if-online.branch [
      | then-online+in_ok-push w ↦
          ap (λ v. v.items) w.found-is
          ∙ (w.in_ok-push.ensures.items
          ∙ (ap (λ z. z ++ cpu ∷ []) c.loop-cpu.invariant ∙ sym (with_one events cpu (sym c.online.ensures ∙ w.if-online.true))))
      | else-online w ↦
          ap (λ v. v.items) w.found-is
          ∙ (c.loop-cpu.invariant ∙ sym (without_one events cpu (sym c.online.ensures ∙ w.if-online.false)))
    ]

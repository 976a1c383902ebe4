use Rattle.std.proofs.Common.{◌≡◌, false, get_or, refl, ap, ◌∙◌, arith}
use Rattle.std.specs.Prelude.{filter, length}
use Rattle.std.proofs.lemmas.Int.{to_z-of_z}
use Rattle.hp_event.specs.declared.op.Op.TheVariants as op
use Rattle.hp_event.specs.declared.event.Event.TheVariants.{Enter}
use Rattle.hp_model.specs.Lists.{numbers}
use Rattle.hp_model.specs.Settled.{is_online}
use Rattle.hp_model.specs.Sequence.{primary_of}
use Rattle.hp_model.proofs.Laws.{answers_push}
use Rattle.hp_suspend.proofs.Places.{tested_places}
use Rattle.hp_suspend.proofs.freeze.Freeze.begin.Goals as goal

pub returns : goal.returns
returns c head before seat h =
    let left : c.left_online.result
    ≡ primary_of c.args.primary (filter (λ d. get_or c.args.online.now d false) (numbers (length c.args.online.now))) =
    grind (arith, to_z-of_z)
    in
    record {
      primary_is =
          left
          ∙ ap (primary_of c.args.primary) (tested_places head (λ d. is_online d before) c.args.online.now false (λ d on. on) h);
      ended_is = rw (answers_push before (Enter seat (op.Freeze c.args.primary))) refl;
    }

use Rattle.std.proofs.Common.{Some, sym, subst}
use Rattle.hp_event.specs.declared.event.File.{File}
use Rattle.hp_hint.specs.Forms.{IsGood}
use Rattle.hp_hint.specs.LineForms.{shown_form}
use Rattle.hp_hint.proofs.Good.{states_good}
use Rattle.hp_hint.proofs.form.good_shown.Goals as goal

pub returns-in-States : goal.returns-in-States
returns-in-States g c =
    subst (λ (f : File). IsGood (shown_form c.args.measure (Some f)) (g.W.Words.left c.args.words.now) 0) (sym c.in-States.is)
    (states_good c.args.measure (g.W.Words.left c.args.words.now))

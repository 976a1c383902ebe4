use Rattle.std.proofs.Common.{◌∙◌, Some, sym, subst}
use Rattle.hp_text.proofs.SetLoop.{taken, none_taken}
use Rattle.hp_hint.specs.Forms.{IsGood}
use Rattle.hp_hint.specs.LineForms.{show_form}
use Rattle.hp_hint.proofs.Good.{short, show_can, show_bad, show_onto, counted}
use Rattle.hp_hint.proofs.form.good_show.Goals as goal

pub returns-in_default : goal.returns-in_default
returns-in_default g c =
    subst (λ x. IsGood (show_form c.args.measure) x 0) (sym (none_taken (g.W.Words.left c.args.words.now) c.in_default.ensures.word)) (short (show_form c.args.measure) (show_can c.args.measure))

pub returns-in-None : goal.returns-in-None
returns-in-None g c =
    let is = taken c.in-Some.name.now (g.W.Words.left c.next_word.new.self) (g.W.Words.left c.args.words.now) c.in-Some.ensures.word c.in-Some.ensures.rest in
    subst (λ x. IsGood (show_form c.args.measure) x 0) (sym is) (show_bad c.args.measure c.in-Some.name.now (g.W.Words.left c.next_word.new.self) (sym c.file_of.ensures ∙ c.in-None.is))

pub returns-in-Some-file_of : goal.returns-in-Some-file_of
returns-in-Some-file_of g c =
    let is = taken c.in-Some.name.now (g.W.Words.left c.next_word.new.self) (g.W.Words.left c.args.words.now) c.in-Some.ensures.word c.in-Some.ensures.rest in
    counted (show_form c.args.measure) (g.W.Words.left c.args.words.now) c.in-Some.name.now (g.W.Words.left c.next_word.new.self) c.good_shown.result is
    (show_onto c.args.measure c.in-Some.name.now (g.W.Words.left c.next_word.new.self) (Some c.in-Some-file_of.file) c.good_shown.result (sym c.file_of.ensures ∙ c.in-Some-file_of.is) c.good_shown.ensures)

use Rattle.std.proofs.Common.{◌≡◌, ◌∙◌, true, false, sym, subst}
use Rattle.hp_text.proofs.SetLoop.{taken, none_taken}
use Rattle.hp_hint.specs.Forms.{IsGood, fits, are_several}
use Rattle.hp_hint.proofs.Good.{short, several_can, several_bad, several_onto, counted}
use Rattle.hp_hint.proofs.form.good_several.Goals as goal

pub returns-in_default : goal.returns-in_default
returns-in_default g c =
    subst (λ x. IsGood (are_several c.args.measure c.args.field) x 0) (sym (none_taken (g.W.Words.left c.args.words.now) c.in_default.ensures.word)) (short (are_several c.args.measure c.args.field) (several_can c.args.measure c.args.field))

pub returns-then-not-fits : goal.returns-then-not-fits
returns-then-not-fits g c =
    let is = taken c.in-Some.first.now (g.W.Words.left c.next_word.new.self) (g.W.Words.left c.args.words.now) c.in-Some.ensures.word c.in-Some.ensures.rest in
    let other : fits c.args.measure c.args.field c.in-Some.first.now ≡ false = sym c.fits.ensures ∙ c.if-not-fits.true in
    subst (λ x. IsGood (are_several c.args.measure c.args.field) x 0) (sym is) (several_bad c.args.measure c.args.field c.in-Some.first.now (g.W.Words.left c.next_word.new.self) other)

pub returns : goal.returns
returns g c =
    let is = taken c.in-Some.first.now (g.W.Words.left c.next_word.new.self) (g.W.Words.left c.args.words.now) c.in-Some.ensures.word c.in-Some.ensures.rest in
    let one : fits c.args.measure c.args.field c.in-Some.first.now ≡ true = sym c.fits.ensures ∙ c.if-not-fits.false in
    counted (are_several c.args.measure c.args.field) (g.W.Words.left c.args.words.now) c.in-Some.first.now (g.W.Words.left c.next_word.new.self) c.good_more.result is
    (several_onto c.args.measure c.args.field c.in-Some.first.now (g.W.Words.left c.next_word.new.self) c.good_more.result one c.good_more.ensures)

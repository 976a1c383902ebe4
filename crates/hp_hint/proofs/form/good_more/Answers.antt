use Rattle.std.proofs.Common.{◌≡◌, ◌∙◌, suc, true, false, length, sym, ap, subst, arith}
use Rattle.std.specs.List.{list_all}
use Rattle.hp_text.proofs.SetLoop.{taken, none_taken}
use Rattle.hp_hint.specs.Forms.{IsGood, fits}
use Rattle.hp_hint.proofs.Good.{more_none, more_bad, more_onto}
use Rattle.hp_hint.proofs.form.good_more.Goals as goal

pub returns-then-not-fits : goal.returns-then-not-fits
returns-then-not-fits g c =
    let is = taken c.in-Some.word.now (g.W.Words.left c.next_word.new.self) (g.W.Words.left c.loop-word.words) c.in-Some.ensures.word c.in-Some.ensures.rest in
    let other : fits c.args.measure c.args.field c.in-Some.word.now ≡ false = sym c.fits.ensures ∙ c.if-not-fits.true in
    let none = more_bad c.args.measure c.args.field c.in-Some.word.now (g.W.Words.left c.next_word.new.self) other in
    c.loop-word.invariant.rest 0 c.loop-word.good (subst (λ x. IsGood (list_all (fits c.args.measure c.args.field)) x 0) (sym is) none) (omega arith)

pub loop-word-preserved : goal.loop-word-preserved
loop-word-preserved g c =
    let is = taken c.in-Some.word.now (g.W.Words.left c.next_word.new.self) (g.W.Words.left c.loop-word.words) c.in-Some.ensures.word c.in-Some.ensures.rest in
    let one : fits c.args.measure c.args.field c.in-Some.word.now ≡ true = sym c.fits.ensures ∙ c.if-not-fits.false in
    let count = c.loop-word.invariant.count in
    let longer = ap length is in
    record {
      rest = λ n m good e. c.loop-word.invariant.rest (suc n) m
          (subst (λ x. IsGood (list_all (fits c.args.measure c.args.field)) x (suc n)) (sym is) (more_onto c.args.measure c.args.field c.in-Some.word.now (g.W.Words.left c.next_word.new.self) n one good)) (omega (arith, e));
      count = omega (arith, count, longer);
    }

pub returns : goal.returns
returns g c =
    let is = none_taken (g.W.Words.left c.loop-word.words) c.in_default.ensures.word in
    c.loop-word.invariant.rest 0 c.loop-word.good (subst (λ x. IsGood (list_all (fits c.args.measure c.args.field)) x 0) (sym is) (more_none c.args.measure c.args.field)) (omega arith)

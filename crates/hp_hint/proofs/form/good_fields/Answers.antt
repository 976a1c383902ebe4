use Rattle.std.proofs.Common.{◌≡◌, ◌∙◌, ◌∷◌, ◌+◌, suc, [], true, false, length, get_or, drop, refl, sym, ap, subst, arith}
use Rattle.std.proofs.lemmas.List.{drop_all}
use Rattle.hp_states.proofs.Basics.{drop_at}
use Rattle.hp_text.proofs.SetLoop.{taken, none_taken}
use Rattle.hp_hint.specs.declared.field.Field.TheVariants.{Possible}
use Rattle.hp_hint.specs.Forms.{IsGood, fits, are_fields}
use Rattle.hp_hint.proofs.Good.{short, fields_can, field_bad, field_onto}
use Rattle.hp_hint.proofs.form.good_fields.Goals as goal

pub returns-in_default : goal.returns-in_default
returns-in_default g c =
    let is = none_taken (g.W.Words.left c.loop-field.words) c.in_default.ensures.word in
    c.loop-field.invariant.rest 0 c.loop-field.good
    (subst (λ x. IsGood (are_fields c.args.measure (drop c.loop-field.field-index c.args.fields.now) c.args.ending) x 0) (sym is)
    (short (are_fields c.args.measure (drop c.loop-field.field-index c.args.fields.now) c.args.ending) (fields_can c.args.measure (drop c.loop-field.field-index c.args.fields.now) c.args.ending)))
    (omega arith)

pub returns-then-not-fits : goal.returns-then-not-fits
returns-then-not-fits g c =
    let is = taken c.in-Some.word.now (g.W.Words.left c.next_word.new.self) (g.W.Words.left c.loop-field.words) c.in-Some.ensures.word c.in-Some.ensures.rest in
    let field = get_or c.args.fields.now c.loop-field.field-index Possible in
    let later = drop (c.loop-field.field-index + 1) c.args.fields.now in
    let now : drop c.loop-field.field-index c.args.fields.now ≡ field ∷ later = drop_at c.args.fields.now c.loop-field.field-index Possible c.loop-field-test.true in
    let other : fits c.args.measure field c.in-Some.word.now ≡ false = sym c.fits.ensures ∙ c.if-not-fits.true in
    let none = field_bad c.args.measure field later c.args.ending c.in-Some.word.now (g.W.Words.left c.next_word.new.self) other in
    c.loop-field.invariant.rest 0 c.loop-field.good
    (subst (λ x. IsGood (are_fields c.args.measure x c.args.ending) (g.W.Words.left c.loop-field.words) 0) (sym now)
    (subst (λ x. IsGood (are_fields c.args.measure (field ∷ later) c.args.ending) x 0) (sym is) none))
    (omega arith)

pub loop-field-preserved : goal.loop-field-preserved
loop-field-preserved g c =
    let is = taken c.in-Some.word.now (g.W.Words.left c.next_word.new.self) (g.W.Words.left c.loop-field.words) c.in-Some.ensures.word c.in-Some.ensures.rest in
    let field = get_or c.args.fields.now c.loop-field.field-index Possible in
    let later = drop (c.loop-field.field-index + 1) c.args.fields.now in
    let now : drop c.loop-field.field-index c.args.fields.now ≡ field ∷ later = drop_at c.args.fields.now c.loop-field.field-index Possible c.loop-field-test.true in
    let one : fits c.args.measure field c.in-Some.word.now ≡ true = sym c.fits.ensures ∙ c.if-not-fits.false in
    let count = c.loop-field.invariant.count in
    let longer = ap length is in
    record {
      rest = λ n m good e. c.loop-field.invariant.rest (suc n) m
          (subst (λ x. IsGood (are_fields c.args.measure x c.args.ending) (g.W.Words.left c.loop-field.words) (suc n)) (sym now)
          (subst (λ x. IsGood (are_fields c.args.measure (field ∷ later) c.args.ending) x (suc n)) (sym is)
          (field_onto c.args.measure field later c.args.ending c.in-Some.word.now (g.W.Words.left c.next_word.new.self) n one good)))
          (omega (arith, e));
      count = omega (arith, count, longer);
    }

pub returns : goal.returns
returns g c =
    let none : drop c.loop-field.field-index c.args.fields.now ≡ [] = drop_all c.loop-field.field-index c.args.fields.now c.loop-field-test.false in
    c.loop-field.invariant.rest c.good_ending.result (c.loop-field.good + c.good_ending.result)
    (subst (λ x. IsGood (are_fields c.args.measure x c.args.ending) (g.W.Words.left c.loop-field.words) c.good_ending.result) (sym none) c.good_ending.ensures)
    refl

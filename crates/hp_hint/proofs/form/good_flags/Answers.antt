use Rattle.std.proofs.Common.{◌≡◌, ◌∙◌, ◌∷◌, ◌+◌, suc, true, false, sym, subst, arith}
use Rattle.std.specs.Prelude.{codes}
use Rattle.hp_text.proofs.SetLoop.{taken, none_taken}
use Rattle.hp_hint.specs.Forms.{IsGood, ends}
use Rattle.hp_hint.specs.declared.form.Ending.TheVariants.{Flags}
use Rattle.hp_hint.proofs.Good.{as_text, short, ending_can, flags_locked, flags_bad, flags_nocalls}
use Rattle.hp_hint.proofs.form.good_flags.Goals as goal

pub returns-then-eq : goal.returns-then-eq
returns-then-eq g c =
    let is = taken c.in-Some.first.now (g.W.Words.left c.next_word.new.self) (g.W.Words.left c.args.words.now) c.in-Some.ensures.word c.in-Some.ensures.rest in
    subst (λ x. IsGood (ends c.args.measure Flags) x 1) (sym is) (flags_locked c.args.measure c.in-Some.first.now (g.W.Words.left c.next_word.new.self) (as_text c.in-Some.first.now c.as_slice.result.now (codes "locked") true c.as_slice.ensures (sym c.eq.ensures ∙ c.if-eq.true)))

pub returns-then-eq-2 : goal.returns-then-eq-2
returns-then-eq-2 g c =
    let is = taken c.in-Some.first.now (g.W.Words.left c.next_word.new.self) (g.W.Words.left c.args.words.now) c.in-Some.ensures.word c.in-Some.ensures.rest in
    let nocalls = as_text c.in-Some.first.now c.as_slice-2.result.now (codes "nocalls") true c.as_slice-2.ensures (sym c.eq-2.ensures ∙ c.if-eq-2.true) in
    let good = flags_nocalls c.args.measure c.in-Some.first.now (g.W.Words.left c.next_word.new.self) c.good_locked.result nocalls c.good_locked.ensures in
    let count : suc c.good_locked.result ≡ 1 + c.good_locked.result = omega arith in
    subst (λ x. IsGood (ends c.args.measure Flags) x (1 + c.good_locked.result)) (sym is) (subst (λ n. IsGood (ends c.args.measure Flags) (c.in-Some.first.now ∷ g.W.Words.left c.next_word.new.self) n) count good)

pub returns : goal.returns
returns g c =
    let is = taken c.in-Some.first.now (g.W.Words.left c.next_word.new.self) (g.W.Words.left c.args.words.now) c.in-Some.ensures.word c.in-Some.ensures.rest in
    subst (λ x. IsGood (ends c.args.measure Flags) x 0) (sym is) (flags_bad c.args.measure c.in-Some.first.now (g.W.Words.left c.next_word.new.self) (as_text c.in-Some.first.now c.as_slice-2.result.now (codes "nocalls") false c.as_slice-2.ensures (sym c.eq-2.ensures ∙ c.if-eq-2.false)) (as_text c.in-Some.first.now c.as_slice.result.now (codes "locked") false c.as_slice.ensures (sym c.eq.ensures ∙ c.if-eq.false)))

pub returns-in_default : goal.returns-in_default
returns-in_default g c =
    subst (λ x. IsGood (ends c.args.measure Flags) x 0) (sym (none_taken (g.W.Words.left c.args.words.now) c.in_default.ensures.word)) (short (ends c.args.measure Flags) (ending_can c.args.measure Flags))

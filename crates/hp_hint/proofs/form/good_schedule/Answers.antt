use Rattle.std.proofs.Common.{◌∙◌, true, false, sym, subst}
use Rattle.std.specs.Prelude.{codes}
use Rattle.hp_text.proofs.SetLoop.{taken, none_taken}
use Rattle.hp_hint.specs.Forms.{IsGood}
use Rattle.hp_hint.specs.LineForms.{schedule_form}
use Rattle.hp_hint.proofs.Good.{as_text, short, schedule_can, rounds_good, turns_good, mix_good, schedule_bad, counted}
use Rattle.hp_hint.proofs.form.good_schedule.Goals as goal

pub returns-in_default : goal.returns-in_default
returns-in_default g c =
    subst (λ x. IsGood (schedule_form c.args.measure) x 0) (sym (none_taken (g.W.Words.left c.args.words.now) c.in_default.ensures.word)) (short (schedule_form c.args.measure) (schedule_can c.args.measure))

pub returns-then-eq : goal.returns-then-eq
returns-then-eq g c =
    let is = taken c.in-Some.name.now (g.W.Words.left c.next_word.new.self) (g.W.Words.left c.args.words.now) c.in-Some.ensures.word c.in-Some.ensures.rest in
    let rounds = as_text c.in-Some.name.now c.as_slice.result.now (codes "rounds") true c.as_slice.ensures (sym c.eq.ensures ∙ c.if-eq.true) in
    subst (λ x. IsGood (schedule_form c.args.measure) x 1) (sym is) (rounds_good c.args.measure c.in-Some.name.now (g.W.Words.left c.next_word.new.self) rounds)

pub returns-then-eq-2 : goal.returns-then-eq-2
returns-then-eq-2 g c =
    let is = taken c.in-Some.name.now (g.W.Words.left c.next_word.new.self) (g.W.Words.left c.args.words.now) c.in-Some.ensures.word c.in-Some.ensures.rest in
    let rounds = as_text c.in-Some.name.now c.as_slice.result.now (codes "rounds") false c.as_slice.ensures (sym c.eq.ensures ∙ c.if-eq.false) in
    let turns = as_text c.in-Some.name.now c.as_slice-2.result.now (codes "turns") true c.as_slice-2.ensures (sym c.eq-2.ensures ∙ c.if-eq-2.true) in
    counted (schedule_form c.args.measure) (g.W.Words.left c.args.words.now) c.in-Some.name.now (g.W.Words.left c.next_word.new.self) c.good_several.result is
    (turns_good c.args.measure c.in-Some.name.now (g.W.Words.left c.next_word.new.self) c.good_several.result rounds turns c.good_several.ensures)

pub returns-then-eq-3 : goal.returns-then-eq-3
returns-then-eq-3 g c =
    let is = taken c.in-Some.name.now (g.W.Words.left c.next_word.new.self) (g.W.Words.left c.args.words.now) c.in-Some.ensures.word c.in-Some.ensures.rest in
    let rounds = as_text c.in-Some.name.now c.as_slice.result.now (codes "rounds") false c.as_slice.ensures (sym c.eq.ensures ∙ c.if-eq.false) in
    let turns = as_text c.in-Some.name.now c.as_slice-2.result.now (codes "turns") false c.as_slice-2.ensures (sym c.eq-2.ensures ∙ c.if-eq-2.false) in
    let mix = as_text c.in-Some.name.now c.as_slice-3.result.now (codes "mix") true c.as_slice-3.ensures (sym c.eq-3.ensures ∙ c.if-eq-3.true) in
    counted (schedule_form c.args.measure) (g.W.Words.left c.args.words.now) c.in-Some.name.now (g.W.Words.left c.next_word.new.self) c.good_fields.result is
    (mix_good c.args.measure c.in-Some.name.now (g.W.Words.left c.next_word.new.self) c.good_fields.result rounds turns mix c.good_fields.ensures)

pub returns : goal.returns
returns g c =
    let is = taken c.in-Some.name.now (g.W.Words.left c.next_word.new.self) (g.W.Words.left c.args.words.now) c.in-Some.ensures.word c.in-Some.ensures.rest in
    let rounds = as_text c.in-Some.name.now c.as_slice.result.now (codes "rounds") false c.as_slice.ensures (sym c.eq.ensures ∙ c.if-eq.false) in
    let turns = as_text c.in-Some.name.now c.as_slice-2.result.now (codes "turns") false c.as_slice-2.ensures (sym c.eq-2.ensures ∙ c.if-eq-2.false) in
    let mix = as_text c.in-Some.name.now c.as_slice-3.result.now (codes "mix") false c.as_slice-3.ensures (sym c.eq-3.ensures ∙ c.if-eq-3.false) in
    subst (λ x. IsGood (schedule_form c.args.measure) x 0) (sym is) (schedule_bad c.args.measure c.in-Some.name.now (g.W.Words.left c.next_word.new.self) rounds turns mix)

use Rattle.std.proofs.Common.{◌≡◌, ◌∙◌, ◌∷◌, ◌+◌, ◌^◌, ◌<◌, true, length, refl, sym, ap, subst, arith}
use Rattle.std.specs.Option.{option_map}
use Rattle.hp_text.proofs.SetLoop.{taken}
use Rattle.hp_script.specs.Words.{words}
use Rattle.hp_script.specs.Statements.{statement_in}
use Rattle.hp_script.specs.Refusals.{is_out_of_range}
use Rattle.hp_hint.specs.Verbs.{read_as}
use Rattle.hp_hint.specs.Forms.{AreFew}
use Rattle.hp_hint.specs.Faults.{IsFirstOutOfRange}
use Rattle.hp_hint.proofs.LineWords.{few_words}
use Rattle.hp_hint.proofs.OutOfRange.{first_out}
use Rattle.hp_hint.proofs.ranges.number_at_fault.Goals as goal

pub good_words-requires : goal.good_words-requires
good_words-requires c =
    let is : words c.args.line.now ≡ c.in-Some.first.now ∷ c.next_word.new.self = sym c.of-words.ensures ∙ taken c.in-Some.first.now c.next_word.new.self c.of-words.result c.in-Some.ensures.word c.in-Some.ensures.rest in
    let few = few_words c.args.line.now in
    let more = ap length is in
    let short = c.requires.few in
    let all : AreFew c.next_word.new.self = omega (arith, few, more, short) in
    λ k. ((refl, tt), (all, sym c.has_lines.ensures ∙ c.if-not-has_lines.false))

pub overflow_add-result : goal.overflow_add-result
overflow_add-result c =
    let is : words c.args.line.now ≡ c.in-Some.first.now ∷ c.next_word.new.self = sym c.of-words.ensures ∙ taken c.in-Some.first.now c.next_word.new.self c.of-words.result c.in-Some.ensures.word c.in-Some.ensures.rest in
    let few = few_words c.args.line.now in
    let more = ap length is in
    let short = c.requires.few in
    let good = c.good_words.ensures.few in
    omega (arith, few, more, short, good)

pub returns : goal.returns
returns c =
    let is : words c.args.line.now ≡ c.in-Some.first.now ∷ c.next_word.new.self = sym c.of-words.ensures ∙ taken c.in-Some.first.now c.next_word.new.self c.of-words.result c.in-Some.ensures.word c.in-Some.ensures.rest in
    let fits = c.ranges.possible.fits in
    let small : c.args.possible < 2 ^ 32 = omega (arith, fits) in
    subst (λ x. IsFirstOutOfRange c.args.possible x (1 + c.good_words.result)) (sym is)
    (first_out c.args.possible c.in-Some.first.now c.next_word.new.self c.in-Some-verb_of.verb c.good_words.result small
    (sym c.verb_of.ensures ∙ ap (λ v. option_map read_as v) c.in-Some-verb_of.is)
    (subst (λ x. is_out_of_range c.args.possible (statement_in x) ≡ true) is c.requires.bad) c.good_words.ensures)

use Rattle.std.proofs.Common.{◌≡◌, ◌∙◌, ◌∷◌, [], length, refl, sym, ap, subst, arith}
use Rattle.std.specs.Option.{option_map}
use Rattle.hp_text.proofs.SetLoop.{taken, none_taken}
use Rattle.hp_script.specs.Words.{words}
use Rattle.hp_hint.specs.Verbs.{read_as}
use Rattle.hp_hint.specs.Forms.{IsGood, AreFew}
use Rattle.hp_hint.specs.Faults.{is_line}
use Rattle.hp_hint.proofs.Good.{counted}
use Rattle.hp_hint.proofs.LineWords.{few_words, form_has_lines, line_short, line_unknown, line_known}
use Rattle.hp_hint.proofs.fault.good_words_of.Goals as goal

pub returns-in_default : goal.returns-in_default
returns-in_default c =
    let none : words c.args.line.now ≡ [] = sym c.of-words.ensures ∙ none_taken c.of-words.result c.in_default.ensures.word in
    subst (λ x. IsGood is_line x 0) (sym none) line_short

pub good_words-requires : goal.good_words-requires
good_words-requires c =
    let is : words c.args.line.now ≡ c.in-Some.first.now ∷ c.next_word.new.self = sym c.of-words.ensures ∙ taken c.in-Some.first.now c.next_word.new.self c.of-words.result c.in-Some.ensures.word c.in-Some.ensures.rest in
    let few = few_words c.args.line.now in
    let more = ap length is in
    let short = c.requires in
    let all : AreFew c.next_word.new.self = omega (arith, few, more, short) in
    λ k. ((refl, tt), (all, form_has_lines c.in-Some-verb_of.verb))

pub overflow_add-result : goal.overflow_add-result
overflow_add-result c =
    let is : words c.args.line.now ≡ c.in-Some.first.now ∷ c.next_word.new.self = sym c.of-words.ensures ∙ taken c.in-Some.first.now c.next_word.new.self c.of-words.result c.in-Some.ensures.word c.in-Some.ensures.rest in
    let few = few_words c.args.line.now in
    let more = ap length is in
    let short = c.requires in
    let good = c.good_words.ensures.few in
    omega (arith, few, more, short, good)

pub returns-in-None : goal.returns-in-None
returns-in-None c =
    let is : words c.args.line.now ≡ c.in-Some.first.now ∷ c.next_word.new.self = sym c.of-words.ensures ∙ taken c.in-Some.first.now c.next_word.new.self c.of-words.result c.in-Some.ensures.word c.in-Some.ensures.rest in
    subst (λ x. IsGood is_line x 0) (sym is)
    (line_unknown c.in-Some.first.now c.next_word.new.self (sym c.verb_of.ensures ∙ ap (λ v. option_map read_as v) c.in-None.is))

pub returns-in-Some-verb_of : goal.returns-in-Some-verb_of
returns-in-Some-verb_of c =
    let is : words c.args.line.now ≡ c.in-Some.first.now ∷ c.next_word.new.self = sym c.of-words.ensures ∙ taken c.in-Some.first.now c.next_word.new.self c.of-words.result c.in-Some.ensures.word c.in-Some.ensures.rest in
    counted is_line (words c.args.line.now) c.in-Some.first.now c.next_word.new.self c.good_words.result is
    (line_known c.in-Some.first.now c.next_word.new.self c.in-Some-verb_of.verb c.good_words.result
    (sym c.verb_of.ensures ∙ ap (λ v. option_map read_as v) c.in-Some-verb_of.is) c.good_words.ensures)

use Rattle.std.proofs.Common.{◌≡◌, ◌∙◌, ◌∷◌, Some, sym, ap}
use Rattle.std.specs.Option.{option_map}
use Rattle.hp_text.proofs.SetLoop.{taken}
use Rattle.hp_script.specs.Words.{words}
use Rattle.hp_hint.specs.Verbs.{read_as}
use Rattle.hp_hint.proofs.Possibles.{cpus_line}
use Rattle.hp_hint.proofs.context.Context.take.Goals as goal

pub returns-in-Ok : goal.returns-in-Ok
returns-in-Ok c =
    let is : words c.args.line.now ≡ c.in-Some.first.now ∷ c.next_word.new.self = sym c.of-words.ensures ∙ taken c.in-Some.first.now c.next_word.new.self c.of-words.result c.in-Some.ensures.word c.in-Some.ensures.rest in
    cpus_line c.args.self.now.possible c.in-Ok.possible c.args.line.now c.in-Some.first.now c.next_word.new.self is
    (sym c.verb_of.ensures ∙ ap (λ v. option_map read_as v) (c.in-Some-Cpus.is ∙ ap (λ v. Some v) c.in-Some-Cpus.field-0-is))
    (sym c.number_alone.ensures ∙ c.in-Ok.is)

use Rattle.std.proofs.Common.{sym, ap, ◌∙◌}
use Rattle.hp_replay.specs.WordsLeft.{words_left}
use Rattle.hp_replay.specs.Readers.{done}
use Rattle.hp_replay.proofs.WordForms.{some_word}
use Rattle.hp_replay.proofs.words.Words.done.Goals as goal

pub returns-in-Some : goal.returns-in-Some
returns-in-Some g c = some_word c.args.value c.in-Some.field-0.now ∙ ap (λ left. done c.args.value (words_left left)) (sym c.in-Some.is) ∙ ap (done c.args.value) c.self.view_is

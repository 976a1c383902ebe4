use Rattle.std.proofs.Common.{sym, ap, ◌∙◌}
use Rattle.hp_model.specs.Lists.{is_empty}
use Rattle.hp_replay.specs.WordsLeft.{words_left}
use Rattle.hp_replay.proofs.WordForms.{more_words}
use Rattle.hp_replay.proofs.words.Words.is_done.Goals as goal

pub returns-in-Some : goal.returns-in-Some
returns-in-Some c = more_words c.in-Some.field-0.now ∙ ap (λ left. is_empty (words_left left)) (sym c.in-Some.is) ∙ ap (λ ws. is_empty ws) c.self.view_is

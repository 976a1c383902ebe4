use Rattle.std.proofs.lemmas.Result.{on_ok_weaker}
use Rattle.hp_model.specs.Words.{line}
use Rattle.hp_script.specs.Generated.{setup_words, setup_lines}
use Rattle.hp_script.proofs.Appended.{push, last}
use Rattle.hp_script.proofs.generator.append_setups.Goals as goal

pub returns : goal.returns
unfolding setup_lines
returns c =
    on_ok_weaker c.append_setup-12.result
    (λ e. push _ _ (line (setup_words 10 1)) _ _ c.in_ok-append_setup.ensures
    (push _ _ (line (setup_words 30 2)) _ _ c.in_ok-append_setup-2.ensures
    (push _ _ (line (setup_words 41 3)) _ _ c.in_ok-append_setup-3.ensures
    (push _ _ (line (setup_words 42 4)) _ _ c.in_ok-append_setup-4.ensures
    (push _ _ (line (setup_words 70 5)) _ _ c.in_ok-append_setup-5.ensures
    (push _ _ (line (setup_words 80 6)) _ _ c.in_ok-append_setup-6.ensures
    (push _ _ (line (setup_words 110 7)) _ _ c.in_ok-append_setup-7.ensures
    (push _ _ (line (setup_words 120 8)) _ _ c.in_ok-append_setup-8.ensures
    (push _ _ (line (setup_words 141 9)) _ _ c.in_ok-append_setup-9.ensures
    (push _ _ (line (setup_words 150 10)) _ _ c.in_ok-append_setup-10.ensures
    (push _ _ (line (setup_words 160 11)) _ _ c.in_ok-append_setup-11.ensures
    (last _ _ (line (setup_words 180 12)) e))))))))))))
    c.append_setup-12.ensures

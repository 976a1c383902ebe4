use Rattle.std.proofs.Common.{ℕ, List, ◌∷◌, ◌++◌, ap, ◌∙◌}
use Rattle.std.specs.Prelude.{codes, decimal}
use Rattle.std.proofs.lemmas.Result.{on_ok_weaker}
use Rattle.hp_script.specs.Generated.{schedule_words}
use Rattle.hp_script.proofs.Appended.{push, line_end}
use Rattle.hp_script.proofs.generator.append_schedule.Goals as goal

pub returns : goal.returns
unfolding schedule_words
returns c =
    on_ok_weaker c.append_line.result
    (λ e. push c.args.out.now.items c.extend_from_slice.new.self.items (codes "schedule mix") _ c.append_line.new.out.items c.in_ok-extend_from_slice.ensures.items
    (push _ _ _ _ _ c.in_ok-append_number.ensures e)
    ∙ ap (λ (w : List ℕ). c.args.out.now.items ++ (codes "schedule mix" ++ 32 ∷ w)) (line_end (decimal c.args.seed) (decimal 10000)))
    c.append_line.ensures

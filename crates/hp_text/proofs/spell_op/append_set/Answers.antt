use Rattle.std.proofs.Common.{ap, sym, ◌∙◌, append_assoc, ◌∷◌, ◌++◌, map, decimal, arith}
use Rattle.std.proofs.lemmas.List.{append-nil}
use Rattle.hp_model.specs.Words.{spaced}
use Rattle.hp_states.specs.CpuSets.{IsLowestFrom}
use Rattle.hp_text.proofs.SetText.{below, with_next, all_listed}
use Rattle.hp_text.proofs.spell_op.append_set.Goals as goal

pub loop-cpu-init : goal.loop-cpu-init
loop-cpu-init c = record { text = sym (append-nil c.args.out.now.items); within = omega arith }

pub loop-cpu-smaller : goal.loop-cpu-smaller
loop-cpu-smaller c =
    let next : IsLowestFrom c.args.set.now c.loop-cpu.from c.in-Some.cpu = c.in-Some.ensures.some in
    omega (arith, next.at_least, next.within)

pub loop-cpu-preserved : goal.loop-cpu-preserved
loop-cpu-preserved c =
    let next : IsLowestFrom c.args.set.now c.loop-cpu.from c.in-Some.cpu = c.in-Some.ensures.some in
    record {
      text =
          c.in_ok-append_number.ensures
          ∙ (ap (λ xs. xs ++ 32 ∷ decimal c.in-Some.cpu) c.loop-cpu.invariant.text
          ∙ (append_assoc c.args.out.now.items (spaced (map decimal (below c.args.set.now c.loop-cpu.from))) (32 ∷ decimal c.in-Some.cpu)
          ∙ ap (λ xs. c.args.out.now.items ++ xs) (sym (with_next c.args.set.now c.loop-cpu.from c.in-Some.cpu next))));
      within = let w = next.within in omega arith;
    }

pub returns : goal.returns
returns c =
    c.loop-cpu.invariant.text
    ∙ ap (λ xs. c.args.out.now.items ++ spaced (map decimal xs)) (sym (all_listed c.args.set.now c.loop-cpu.from c.loop-cpu.invariant.within c.in_default.ensures.none))

use Rattle.std.proofs.Common.{ℕ, List, ◌++◌, sym, ap, ◌∙◌}
use Rattle.std.specs.List.{flat_map}
use Rattle.std.proofs.lemmas.List.Concat.{flat_map-append}
use Rattle.hp_model.specs.Words.{line}
use Rattle.hp_script.specs.Generated.{state_behind, heading, actors, generated}
use Rattle.hp_script.proofs.generator.generate.Goals as goal

pub returns : goal.returns
unfolding generated
returns c =
    let seed = c.args.seed in
    let size = c.args.size in
    c.in_ok-append_actors.ensures
    ∙ ap (λ (w : List ℕ). w ++ flat_map line (actors size c.append_heading.new.draws.state)) c.in_ok-append_heading.ensures.text
    ∙ ap (λ (w : List ℕ). (w ++ flat_map line (heading seed)) ++ flat_map line (actors size c.append_heading.new.draws.state)) c.new-out.ensures.items
    ∙ ap (λ (x : ℕ). flat_map line (heading seed) ++ flat_map line (actors size x)) c.in_ok-append_heading.ensures.state
    ∙ sym (flat_map-append line (heading seed) (actors size (state_behind 4 seed)))

use Rattle.std.proofs.Common.{◌&&◌, false, get_or, sym, ap, ◌∙◌}
use Rattle.std.specs.Prelude.{length}
use Rattle.std.proofs.lemmas.Bool.{lt-ltb, le-ltb}
use Rattle.hp_suspend.proofs.Places.{among_places}
use Rattle.hp_suspend.proofs.freeze.is_online.Goals as goal

pub returns-then-cpu-online : goal.returns-then-cpu-online
returns-then-cpu-online c =
    sym (among_places (λ d. get_or c.args.online.now d false) (length c.args.online.now) c.args.cpu
    ∙ ap (λ b. b && get_or c.args.online.now c.args.cpu false) (lt-ltb c.args.cpu (length c.args.online.now) c.if-cpu-online.true))

pub returns-else-cpu-online : goal.returns-else-cpu-online
returns-else-cpu-online c =
    let off = le-ltb c.args.cpu (length c.args.online.now) c.if-cpu-online.false in
    off
    ∙ sym (among_places (λ d. get_or c.args.online.now d false) (length c.args.online.now) c.args.cpu
    ∙ ap (λ b. b && get_or c.args.online.now c.args.cpu false) off)

use Rattle.std.proofs.Common.{◌≡◌, ◌++◌, take, arith, ap, ◌∙◌}
use Rattle.std.specs.List.{flat_map}
use Rattle.std.proofs.lemmas.Grind.{common_steps}
use Rattle.std.proofs.lemmas.Result.{on_ok_weaker}
use Rattle.hp_smt_run.specs.Playing.{written_as}
use Rattle.hp_play.specs.ControlText.{write_line}
use Rattle.hp_play.proofs.ControlLines.{control_by_pieces}
use Rattle.hp_play.proofs.control_text.append_control_text.Goals as goal

pub returns : goal.returns
returns c =
    let out = c.args.out.now.items in
    let writes = c.args.writes.now in
    let all : take c.loop-written.written-index writes ≡ writes = grind (arith, common_steps) in
    on_ok_weaker c.end_line.result (λ ended.
    control_by_pieces out c.loop-written.out.items c.append.new.out.items c.append_count.new.out.items c.end_line.new.out.items writes
    c.args.denied (c.loop-written.invariant ∙ ap (λ ws. out ++ flat_map (λ w. write_line (written_as w)) ws) all) c.in_ok-append.ensures
    c.in_ok-append_count.ensures ended) c.end_line.ensures

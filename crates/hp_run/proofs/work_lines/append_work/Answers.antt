use Rattle.std.proofs.Common.{◌≡◌, ◌++◌, ap, ◌∙◌}
use Rattle.std.specs.Prelude.{flat_map, codes}
use Rattle.hp_run.specs.WorkLines.{list_line, drained_line}
use Rattle.hp_run.proofs.Lines.{lines_appended}
use Rattle.hp_run.proofs.work_lines.append_work.Goals as goal

pub returns : goal.returns
returns g c =
    let d = c.in_ok-drain.drain in
    lines_appended c.args.state c.args.journal.now.events c.in_ok-queues.queues d c.args.out.now.items c.append_list.new.out.items
    c.append_queues.new.out.items c.append_list-2.new.out.items c.in_ok-queues.ensures c.in_ok-drain.ensures
    (c.in_ok-append_list.ensures ∙ ap (λ xs. c.args.out.now.items ++ list_line (codes "ran") xs) c.as_slice.ensures)
    (c.in_ok-append_queues.ensures ∙ ap (λ qs. c.append_list.new.out.items ++ flat_map drained_line qs) c.as_slice-2.ensures)
    (c.in_ok-append_list-2.ensures ∙ ap (λ xs. c.append_queues.new.out.items ++ list_line (codes "unbound") xs) c.as_slice-3.ensures)

use Rattle.std.proofs.Common.{◌≡◌, ◌∙◌, length, arith, ap, ◌++◌, map, filter, decimal}
use Rattle.hp_model.specs.Lists.{among, numbers}
use Rattle.hp_print.proofs.Lists.{ended_list, spaced-frozen}
use Rattle.hp_print.proofs.summary_lines.append_frozen_list.Goals as goal

pub returns : goal.returns
returns c =
    let made =
    c.in_ok-append_each_frozen.ensures
    ∙ ap (λ ys. c.args.out.now.items ++ ys) (spaced-frozen c.args.frozen.now (numbers c.args.possible))
    in
    let e = c.in_ok-end_list.ensures in
    let s : c.len-start.result ≡ length c.args.out.now.items = omega arith in
    rw (e, s)
    (ended_list c.args.out.now.items c.append_each_frozen.new.out.items
    (map decimal (filter (λ x. among x c.args.frozen.now) (numbers c.args.possible))) made)

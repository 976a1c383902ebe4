use Rattle.std.proofs.Common.{◌≡◌, ◌∙◌, length, arith, ap, ◌++◌, map}
use Rattle.hp_model.specs.Summary.{key_word}
use Rattle.hp_print.specs.TallyText.{keys_of}
use Rattle.hp_print.proofs.Lists.{ended_list, spaced-keys}
use Rattle.hp_print.proofs.summary_lines.append_keys.Goals as goal

pub returns : goal.returns
returns c =
    let made = c.in_ok-append_each_key.ensures ∙ ap (λ ys. c.args.out.now.items ++ ys) (spaced-keys c.args.counts.now) in
    let e = c.in_ok-end_list.ensures in
    let s : c.len-start.result ≡ length c.args.out.now.items = omega arith in
    rw (e, s) (ended_list c.args.out.now.items c.append_each_key.new.out.items (map key_word (keys_of c.args.counts.now)) made)

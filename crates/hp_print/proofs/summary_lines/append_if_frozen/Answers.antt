use Rattle.std.proofs.Common.{◌≡◌, sym, ◌∙◌, true, false}
use Rattle.std.proofs.lemmas.List.{append-nil}
use Rattle.hp_event.proofs.Among.{among_any}
use Rattle.hp_model.specs.Lists.{among}
use Rattle.hp_print.proofs.summary_lines.append_if_frozen.Goals as goal

pub returns-then-contains : goal.returns-then-contains
returns-then-contains c =
    let there : among c.args.cpu c.args.frozen.now ≡ true =
    sym (c.contains.ensures.value ∙ among_any c.args.cpu c.args.frozen.now) ∙ c.if-contains.true
    in
    rw there c.append_number.ensures

pub returns-else-contains : goal.returns-else-contains
returns-else-contains c =
    let there : among c.args.cpu c.args.frozen.now ≡ false =
    sym (c.contains.ensures.value ∙ among_any c.args.cpu c.args.frozen.now) ∙ c.if-contains.false
    in
    rw there (sym (append-nil c.args.out.now.items))

use Rattle.std.proofs.Common.{◌<◌, ◌≡◌, length, get_or, rules, ◌∙◌}
use Rattle.std.proofs.lemmas.Grind.{get_or_default_zero}
use Rattle.hp_account.proofs.OnlineCount.{sound_after}
use Rattle.hp_account.proofs.processors.Processors.settle.Goals as goal

pub invariant_of-self : goal.invariant_of-self
invariant_of-self c =
    let xs = c.self.inside.settled.items in
    let below : c.args.cpu < length xs = search rules in
    let read : c.index.result.now ≡ get_or xs c.args.cpu 0 =
    c.index.ensures ∙ get_or_default_zero xs c.args.cpu c.index.result.now below in
    sound_after xs c.self.inside.online.items c.self.inside.online_set c.mark.new.set c.self.inside.online_count c.args.cpu
    c.args.state c.count_after-self-inside.result c.self.invariant below c.mark.ensures (rw (← read) c.count_after-self-inside.ensures)

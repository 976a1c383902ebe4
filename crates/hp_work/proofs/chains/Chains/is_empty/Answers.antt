use Rattle.std.proofs.Common.{eqb, sym, ap, ◌∙◌, length}
use Rattle.hp_work.specs.Lists.{list}
use Rattle.hp_work.proofs.Chaining.{many_at}
use Rattle.hp_work.proofs.chains.Chains.is_empty.Goals as goal

pub returns : goal.returns
returns c =
    let many = many_at c.self.inside.nodes c.self.inside.chains c.args.place in
    ap (λ n. eqb n 0) (sym many ∙ ap (λ ls. length (list ls c.args.place)) c.self.view_is)

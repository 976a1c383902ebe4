use Rattle.std.proofs.Common.{◌≡◌, [], sym, subst, ◌∙◌}
use Rattle.hp_work.specs.Follows.{OpensBy}
use Rattle.hp_work.specs.Inside.{places}
use Rattle.hp_work.specs.Work.{none_put}
use Rattle.hp_work.proofs.Sets.{places_none}
use Rattle.hp_work.proofs.Sound.{made, none_is}
use Rattle.hp_work.proofs.Following.{opens_none}
use Rattle.hp_work.proofs.queues.Queues.new.Goals as goal

made_is : (c : goal.In_ok-new) → made c.args.state (places c.none.result) c.in_ok-new.field-0 c.reserve.new.self.items ≡ none_put c.args.state
made_is c =
    none_is c.args.state (places c.none.result) c.in_ok-new.field-0 c.reserve.new.self.items (places_none c.none.result c.none.ensures)
    c.in_ok-new.ensures (c.reserve.ensures.items ∙ c.new-ran.ensures.items)

pub returns-clause-none : goal.returns-clause-none
returns-clause-none c = made_is c

pub returns-clause-opens : goal.returns-clause-opens
returns-clause-opens c = subst (OpensBy []) (sym (made_is c)) (opens_none c.args.state)

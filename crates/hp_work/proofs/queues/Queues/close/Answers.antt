use Rattle.std.proofs.Common.{◌≡◌, ap, sym, ◌∙◌, length}
use Rattle.hp_states.specs.declared.dir.Dir.TheVariants.{Down}
use Rattle.hp_work.specs.Changes.{moves}
use Rattle.hp_work.specs.Inside.{work}
use Rattle.hp_work.specs.Work.{Work}
use Rattle.hp_work.proofs.Sets.{length-places}
use Rattle.hp_work.proofs.Sound.{sound_moved, closes_is, not_there}
use Rattle.hp_work.proofs.queues.Queues.close.Goals as goal

pub append-requires-clause-other : goal.append-requires-clause-other
append-requires-clause-other c =
    c.lowest_place-to.ensures.other c.args.cpu c.requires (not_there c.self.inside.opened c.take.new.self c.args.cpu c.take.ensures)

closed_is : (c : goal.After-append) →
    work (record c.self.inside { opened = c.take.new.self; lists = c.append.new.self }) ≡ moves Down c.args.cpu (work c.self.inside)
closed_is c =
    closes_is c.self.inside c.args.cpu c.lowest_place-to.result c.take.new.self c.append.new.self c.requires c.take.ensures
    c.lowest_place-to.ensures.exactly c.append.ensures

pub invariant_of-self : goal.invariant_of-self
invariant_of-self c = sound_moved c.self.inside Down c.args.cpu c.take.new.self c.append.new.self (closed_is c) c.requires c.self.invariant

pub returns-clause-exactly : goal.returns-clause-exactly
returns-clause-exactly c = closed_is c ∙ ap (moves Down c.args.cpu) c.self.view_is

pub returns-clause-places : goal.returns-clause-places
returns-clause-places c = ap (λ (w : Work). length w.opened) (sym c.self.view_is) ∙ length-places c.self.inside.opened

use Rattle.std.proofs.Common.{◌≡◌, ap, sym, ◌∙◌, length}
use Rattle.hp_states.specs.declared.dir.Dir.TheVariants.{Up}
use Rattle.hp_work.specs.Changes.{moves}
use Rattle.hp_work.specs.Inside.{work}
use Rattle.hp_work.specs.Work.{Work}
use Rattle.hp_work.proofs.Sets.{length-places}
use Rattle.hp_work.proofs.Sound.{sound_moved, opens_is}
use Rattle.hp_work.proofs.queues.Queues.open.Goals as goal

opened_is : (c : goal.After-append) → work (record c.self.inside { opened = c.put.new.self; lists = c.append.new.self }) ≡ moves Up c.args.cpu (work c.self.inside)
opened_is c = opens_is c.self.inside c.args.cpu c.put.new.self c.append.new.self c.requires c.put.ensures c.append.ensures

pub invariant_of-self : goal.invariant_of-self
invariant_of-self c = sound_moved c.self.inside Up c.args.cpu c.put.new.self c.append.new.self (opened_is c) c.requires c.self.invariant

pub returns-clause-exactly : goal.returns-clause-exactly
returns-clause-exactly c = opened_is c ∙ ap (moves Up c.args.cpu) c.self.view_is

pub returns-clause-places : goal.returns-clause-places
returns-clause-places c = ap (λ (w : Work). length w.opened) (sym c.self.view_is) ∙ length-places c.self.inside.opened

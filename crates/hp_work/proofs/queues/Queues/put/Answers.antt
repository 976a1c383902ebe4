use Rattle.std.proofs.Common.{◌∙◌, ap, refl, arith}
use Rattle.hp_work.specs.Work.{Work}
use Rattle.hp_work.proofs.Sound.{open_is, sound_put}
use Rattle.hp_work.proofs.queues.Queues.put.Goals as goal

pub returns-then-not-has-clause-offline : goal.returns-then-not-has-clause-offline
returns-then-not-has-clause-offline c =
    let o = open_is c.self.inside.opened c.args.self.now c.args.cpu c.has.result (ap (λ (w : Work). w.opened) c.self.view_is) c.requires c.has.ensures
    ∙ c.if-not-has.true in
    (λ _. o, λ _. refl)

pub returns-then-not-has-clause-full : goal.returns-then-not-has-clause-full
returns-then-not-has-clause-full c =
    let o = open_is c.self.inside.opened c.args.self.now c.args.cpu c.has.result (ap (λ (w : Work). w.opened) c.self.view_is) c.requires c.has.ensures
    ∙ c.if-not-has.true in
    (λ e. absurd (cc), λ f. let t = f.0 in absurd (cc))

pub returns-then-self-ge-MAX_ITEMS-clause-offline : goal.returns-then-self-ge-MAX_ITEMS-clause-offline
returns-then-self-ge-MAX_ITEMS-clause-offline c =
    let o = open_is c.self.inside.opened c.args.self.now c.args.cpu c.has.result (ap (λ (w : Work). w.opened) c.self.view_is) c.requires c.has.ensures
    ∙ c.if-not-has.false in
    (λ e. absurd (cc), λ f. absurd (cc))

pub returns-then-self-ge-MAX_ITEMS-clause-full : goal.returns-then-self-ge-MAX_ITEMS-clause-full
returns-then-self-ge-MAX_ITEMS-clause-full c =
    let o = open_is c.self.inside.opened c.args.self.now c.args.cpu c.has.result (ap (λ (w : Work). w.opened) c.self.view_is) c.requires c.has.ensures
    ∙ c.if-not-has.false in
    let put = ap (λ (w : Work). w.put) c.self.view_is in
    (λ _. (o, omega (arith, put)), λ _. refl)

pub invariant_of-self : goal.invariant_of-self
invariant_of-self c = sound_put c.self.inside c.args.cpu c.push.new.self c.push.ensures c.requires (omega arith) c.self.invariant

pub returns-clause-offline : goal.returns-clause-offline
returns-clause-offline c =
    let o = open_is c.self.inside.opened c.args.self.now c.args.cpu c.has.result (ap (λ (w : Work). w.opened) c.self.view_is) c.requires c.has.ensures
    ∙ c.if-not-has.false in
    (λ e. absurd (cc), λ f. absurd (cc))

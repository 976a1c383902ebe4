use Rattle.std.proofs.Common.{w32, ◌∙◌, ap, refl}
use Rattle.std.proofs.lemmas.Int.{to_z-of_z}
use Rattle.hp_pcount.specs.Tally.{Tally}
use Rattle.hp_pcount.proofs.Sets.{open_is}
use Rattle.hp_pcount.proofs.counters.Counters.add.Goals as goal

pub raise-requires : goal.raise-requires
raise-requires c = record {
  cpu = c.requires.cpu;
  few = c.requires.few;
  opened =
      open_is c.self.inside.opened c.args.self.now c.args.cpu c.has.result (ap (λ (t : Tally). t.opened) c.self.view_is) c.requires.cpu
      c.has.ensures
      ∙ c.if-not-has.false;
}

pub returns-then-not-has-clause-offline : goal.returns-then-not-has-clause-offline
returns-then-not-has-clause-offline c = (
  λ _.
      open_is c.self.inside.opened c.args.self.now c.args.cpu c.has.result (ap (λ (t : Tally). t.opened) c.self.view_is)
      c.requires.cpu c.has.ensures
      ∙ c.if-not-has.true,
  λ _. refl,
)

pub returns-then-not-has-clause-exactly : goal.returns-then-not-has-clause-exactly
returns-then-not-has-clause-exactly c =
    let e = (returns-then-not-has-clause-offline c).0 refl in
    rw e refl

pub returns-clause-offline : goal.returns-clause-offline
returns-clause-offline c =
    let o = open_is c.self.inside.opened c.args.self.now c.args.cpu c.has.result (ap (λ (t : Tally). t.opened) c.self.view_is)
    c.requires.cpu c.has.ensures
    ∙ c.if-not-has.false in
    (λ e. absurd (cc), λ f. absurd (cc))

pub returns-clause-exactly : goal.returns-clause-exactly
returns-clause-exactly c =
    let o = open_is c.self.inside.opened c.args.self.now c.args.cpu c.has.result (ap (λ (t : Tally). t.opened) c.self.view_is)
    c.requires.cpu c.has.ensures
    ∙ c.if-not-has.false in
    rw o (rw (to_z-of_z w32 c.args.by c.ranges.by) at c.raise.ensures.exactly)

pub returns-clause-rises : goal.returns-clause-rises
returns-clause-rises c = rw (to_z-of_z w32 c.args.by c.ranges.by) at c.raise.ensures.rises

pub returns-clause-total : goal.returns-clause-total
returns-clause-total c = rw (to_z-of_z w32 c.args.by c.ranges.by) at c.raise.ensures.total

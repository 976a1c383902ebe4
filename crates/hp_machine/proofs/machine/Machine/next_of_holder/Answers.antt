use Rattle.std.proofs.Common.{◌≡◌, ◌∙◌, ap, sym, subst}
use Rattle.hp_model.specs.Sequence.{Next, walks, ends}
use Rattle.hp_suspend.specs.Asked.{meaning}
use Rattle.hp_machine.specs.Between.{Gives}
use Rattle.hp_machine.specs.Contents.{Contents}
use Rattle.hp_machine.specs.Next.{IsNext}
use Rattle.hp_machine.proofs.BusyNext.{few_walks, end_said, wait_said, not_waiting}
use Rattle.hp_machine.proofs.machine.Machine.next_of_holder.Given as given
use Rattle.hp_machine.proofs.machine.Machine.next_of_holder.Goals as goal
use Rattle.hp_machine.proofs.machine.Machine.next_of_holder.Goals.{After-next}

pub next-requires-clause-few : goal.next-requires-clause-few
next-requires-clause-few g c =
    let j = c.self.inside.journal in
    few_walks j.head j.events c.args.held.now c.self.invariant.kept.lawful (rw (sym c.self.view_is) at c.requires.held)

gives : (g : given.Over) (c : After-next g) (what : Next) → meaning c.next.result ≡ what →
    Gives c.args.self.now.head c.args.self.now.events c.args.held.now.seat what
gives g c what is =
    let j = c.self.inside.journal in
    let i = c.self.invariant.kept in
    let held = rw (sym c.self.view_is) at c.requires.held in
    let b = rw (sym c.self.view_is) at c.requires.between in
    subst (λ (m : Contents). Gives m.head m.events c.args.held.now.seat what) c.self.view_is
    (record {
      between = b;
      what_is =
          sym (c.next.ensures j.head j.events b.of i.lawful held b.held b.no_walk i.account.processors i.account.suspended) ∙ is;
    })

pub returns-in-Ended : goal.returns-in-Ended
returns-in-Ended g c =
    let m = c.args.self.now in
    let k = c.args.held.now.seat in
    let answer = c.in-Ended.answer in
    let given = gives g (goal.at.returns-in-Ended g c).After-next (ends answer) (ap meaning c.in-Ended.is) in
    λ op. subst (λ n. IsNext m.head m.events k op n) (sym c.end.ensures) (end_said m.head m.events k answer given op)

pub returns-in-Some : goal.returns-in-Some
returns-in-Some g c =
    let m = c.args.self.now in
    let ask = c.in-Walk.ask in
    let given = gives g (goal.at.returns-in-Some g c).After-next (walks ask.cpu ask.to) (ap meaning c.in-Walk.is) in
    wait_said m.head m.events c.args.held.now.seat ask.cpu ask.to c.in-Some.why given (sym c.in-Some.is ∙ c.wait_to_walk.ensures)

pub next_walk-requires-clause-asked : goal.next_walk-requires-clause-asked
next_walk-requires-clause-asked g c =
    let ask = c.in-Walk.ask in
    gives g (goal.at.next_walk-requires-clause-asked g c).After-next (walks ask.cpu ask.to) (ap meaning c.in-Walk.is)

pub next_walk-requires-clause-free : goal.next_walk-requires-clause-free
next_walk-requires-clause-free g c =
    not_waiting c.args.self.now.events (sym c.in-None.is ∙ c.wait_to_walk.ensures)

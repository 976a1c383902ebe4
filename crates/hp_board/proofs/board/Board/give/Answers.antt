use Rattle.std.proofs.Common.{◌&&◌, not, eqb, ◌≡◌, ◌∙◌, Some, IfSome, ap, sym, subst}
use Rattle.hp_event.specs.declared.aside.Aside.{Aside}
use Rattle.hp_states.specs.CpuSets.{has}
use Rattle.hp_states.specs.Rules.{site_at}
use Rattle.hp_model.proofs.DueGives.{due_stands}
use Rattle.hp_hook.specs.Counted.{counted}
use Rattle.hp_table.specs.Kept.{answer_at}
use Rattle.hp_table.specs.Step.{Step, is_home}
use Rattle.hp_account.specs.Entries.{entry_event}
use Rattle.hp_board.specs.Answered.{IsAnswered}
use Rattle.hp_board.specs.Contents.{Contents}
use Rattle.hp_board.specs.Loans.{loan}
use Rattle.hp_board.proofs.Loans.{IsLentBy, lent_by, nothing_due}
use Rattle.hp_board.proofs.LoansStay.{Goes, TakenFrom, given as goes_home, given_home, given_others, out_stays}
use Rattle.hp_board.proofs.board.Board.give.Given as given
use Rattle.hp_board.proofs.board.Board.give.Goals as goal
use Rattle.hp_board.proofs.board.Board.give.Goals.{In-Some, After-make_answered}

pub unreachable-requires : goal.unreachable-requires
unreachable-requires g c =
    let b = c.self.inside.machine in
    nothing_due b c.args.by c.args.back c.in-None.ensures
    (subst (λ (b : Contents). loan b c.args.by ≡ Some c.args.back) (sym c.self.view_is) c.requires)

pub make_answered-requires-clause-stands : goal.make_answered-requires-clause-stands
make_answered-requires-clause-stands g c =
    let b = c.self.inside.machine in
    (due_stands b.head b.events c.args.by (entry_event b.head b.events c.in-Some.entry) c.in-Some.ensures).0

lent_it : (g : given.Over) (c : In-Some g) → IsLentBy c.self.inside.machine c.in-Some.entry c.args.back
lent_it g c =
    let b = c.self.inside.machine in
    lent_by b c.args.by c.in-Some.entry c.args.back c.sound.ensures.lawful c.self.invariant.out c.in-Some.ensures
    (subst (λ (b : Contents). loan b c.args.by ≡ Some c.args.back) (sym c.self.view_is) c.requires)

pub make_answered-requires-clause-lent : goal.make_answered-requires-clause-lent
make_answered-requires-clause-lent g c =
    let is = lent_it g (goal.at.make_answered-requires-clause-lent g c).In-Some in ap is_home is.there ∙ is.away

pub make_answered-requires-clause-by_hook : goal.make_answered-requires-clause-by_hook
make_answered-requires-clause-by_hook g c = (lent_it g (goal.at.make_answered-requires-clause-by_hook g c).In-Some).made_by

pub make_answered-requires-clause-back : goal.make_answered-requires-clause-back
make_answered-requires-clause-back g c =
    let is = lent_it g (goal.at.make_answered-requires-clause-back g c).In-Some in
    let x = c.in-Some.entry in
    let hook = c.back.inside.hook in
    let answered =
    subst (λ (a : Aside). IsAnswered a (g.H.Hook.counts hook) c.back.inside.answer)
    (c.back.view_is ∙ is.aside_is) c.back.invariant in
    subst (λ o. IfSome o (λ (step : Step). g.H.Hook.counts hook ≡ counted step.kept.counts (site_at x.cpu x.key.inst x.dir)))
    (sym is.there) answered.counts_are

pub make_answered-requires-clause-answer : goal.make_answered-requires-clause-answer
make_answered-requires-clause-answer g c =
    let is = lent_it g (goal.at.make_answered-requires-clause-answer g c).In-Some in
    let x = c.in-Some.entry in
    let hook = c.back.inside.hook in
    let answered =
    subst (λ (a : Aside). IsAnswered a (g.H.Hook.counts hook) c.back.inside.answer)
    (c.back.view_is ∙ is.aside_is) c.back.invariant in
    subst (λ o. IfSome o (λ (step : Step). c.back.inside.answer ≡ answer_at step.kept (site_at x.cpu x.key.inst x.dir))) (sym is.there) answered.answer_is

goes : (g : given.Over) (c : After-make_answered g) →
    Goes c.self.inside.machine c.make_answered.new.machine
    × TakenFrom c.self.inside.machine.lent c.make_answered.new.machine.lent c.args.back.cpu
    × (loan c.self.inside.machine c.args.by ≡ Some c.args.back)
goes g c =
    let b = c.self.inside.machine in
    let n = c.make_answered.new.machine in
    let e = entry_event b.head b.events c.in-Some.entry in
    let lent = subst (λ (b : Contents). loan b c.args.by ≡ Some c.args.back) (sym c.self.view_is) c.requires in
    let is = lent_by b c.args.by c.in-Some.entry c.args.back c.sound.ensures.lawful c.self.invariant.out c.in-Some.ensures lent in
    let taken = subst (TakenFrom b.lent n.lent) (sym is.cpu_is) c.make_answered.ensures.taken in
    let stands = (due_stands b.head b.events c.args.by e c.in-Some.ensures).0 in
    let h = goes_home b c.args.by c.args.back e n.lent c.sound.ensures.lawful c.self.invariant.out lent c.in-Some.ensures stands taken in
    (subst (Goes b) (sym c.make_answered.ensures.made) h, taken, lent)

pub invariant_of-self : goal.invariant_of-self
invariant_of-self g c =
    let h = goes g (goal.at.invariant_of-self g c).After-make_answered in
    record {
      out =
          out_stays c.self.inside.machine c.make_answered.new.machine c.self.invariant.out h.0;
      called = c.make_answered.ensures.called;
    }

pub returns-clause-home : goal.returns-clause-home
returns-clause-home g c =
    let h = goes g (goal.at.returns-clause-home g c).After-make_answered in
    given_home c.self.inside.machine c.make_answered.new.machine c.args.by c.args.back c.self.invariant.out h.0 h.2 h.1

pub returns-clause-stays : goal.returns-clause-stays
returns-clause-stays g c = λ k other.
    let h = goes g (goal.at.returns-clause-stays g c).After-make_answered in
    given_others c.self.inside.machine c.make_answered.new.machine c.args.by k c.args.back c.self.invariant.out h.0 h.2 h.1 other
    ∙ ap (λ (z : Contents). loan z k) c.self.view_is

pub returns-clause-taken : goal.returns-clause-taken
returns-clause-taken g c = λ cpu.
    let h = goes g (goal.at.returns-clause-taken g c).After-make_answered in
    h.1 cpu ∙ ap (λ (b : Contents). not (eqb cpu c.args.back.cpu) && has b.lent cpu) c.self.view_is

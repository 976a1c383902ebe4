use Rattle.std.proofs.Common.{◌≡◌, ◌∙◌, None, refl, ap, sym, subst}
use Rattle.hp_event.specs.declared.event.Event.TheVariants.{Leave}
use Rattle.hp_model.specs.Lawful.{Stands}
use Rattle.hp_model.proofs.DueGives.{due_nothing}
use Rattle.hp_called.specs.Called.{IsCalled}
use Rattle.hp_board.specs.Contents.{Contents}
use Rattle.hp_board.specs.Loans.{AreOut, loan, loan_of}
use Rattle.hp_board.proofs.Following.{after_leave}
use Rattle.hp_board.proofs.KeptOut.{calm_seat}
use Rattle.hp_board.proofs.LoansStay.{goes_on, loans_stay, out_stays}
use Rattle.hp_board.proofs.board.Board.leave.Goals as goal

pub invariant_of-self : goal.invariant_of-self
invariant_of-self g c =
    let b = c.self.inside.machine in
    let e = Leave c.args.by in
    let stands = subst (λ (b : Contents). Stands b.head b.events e) (sym c.self.view_is) c.requires in
    let none = (due_nothing b.head b.events c.args.by).1 stands.0.no_entry_due in
    let nothing : loan b c.args.by ≡ None = ap (λ e. loan_of e b.lent b.places) none in
    record {
      out =
          subst AreOut (sym c.leave.ensures.left)
          (out_stays b _ c.self.invariant.out
          (goes_on b c.args.by e c.sound.ensures.lawful c.self.invariant.out stands refl nothing (calm_seat b e refl (λ c. refl))));
      called =
          subst (λ (m : Contents). IsCalled m.head m.events c.self.inside.called) (sym c.leave.ensures.left)
          (after_leave b c.args.by c.self.inside.called c.sound.ensures.lawful stands c.self.invariant.called);
    }

pub returns-clause-stays : goal.returns-clause-stays
returns-clause-stays g c = λ k.
    let b = c.self.inside.machine in
    let e = Leave c.args.by in
    let stands = subst (λ (b : Contents). Stands b.head b.events e) (sym c.self.view_is) c.requires in
    let none = (due_nothing b.head b.events c.args.by).1 stands.0.no_entry_due in
    let nothing : loan b c.args.by ≡ None = ap (λ e. loan_of e b.lent b.places) none in
    ap (λ (z : Contents). loan z k) c.leave.ensures.left
    ∙ (loans_stay b c.args.by e c.sound.ensures.lawful c.self.invariant.out stands refl nothing
    (calm_seat b e refl (λ c. refl)) k
    ∙ ap (λ (z : Contents). loan z k) c.self.view_is)

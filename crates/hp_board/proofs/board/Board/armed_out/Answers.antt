use Rattle.std.proofs.Common.{◌≡◌, ℕ, true, false, not, is_some, Option, ◌∙◌, ap, sym, subst}
use Rattle.std.specs.Prelude.{option_map}
use Rattle.hp_model.specs.Lawful.{IsLawful}
use Rattle.hp_model.specs.Registrations.{Registration, registration}
use Rattle.hp_model.specs.Walks.{walk}
use Rattle.hp_board.specs.Contents.{Contents}
use Rattle.hp_board.specs.Loans.{AreOut}
use Rattle.hp_board.proofs.KeptOut.{walks_where}
use Rattle.hp_board.proofs.LentEntries.{out_entry}
use Rattle.hp_board.proofs.board.Board.armed_out.Goals as goal

abbrev registers : Contents → Option ℕ
registers b = option_map (λ (r : Registration). r.seat) (registration b.events)

pub returns-then-is_some-clause-none : goal.returns-then-is_some-clause-none
returns-then-is_some-clause-none g c = λ s o same.
    let b = c.args.self.now in
    let lawful = subst (λ (b : Contents). IsLawful b.head b.events) c.self.view_is c.sound.ensures.lawful in
    let some : is_some (registers b) ≡ true =
    subst (λ (b : Contents). is_some (registers b) ≡ true) c.self.view_is
    (ap is_some (sym c.registrar.ensures) ∙ (sym c.is_some.ensures ∙ c.if-is_some.true)) in
    ap (λ z. is_some (walk z b.events)) (sym same) ∙ (walks_where b s o lawful ∙ ap not some)

pub returns-clause-some : goal.returns-clause-some
returns-clause-some g c =
    let b = c.args.self.now in
    let lawful = subst (λ (b : Contents). IsLawful b.head b.events) c.self.view_is c.sound.ensures.lawful in
    let out = subst AreOut c.self.view_is c.self.invariant.out in
    let none : is_some (registers b) ≡ false =
    subst (λ (b : Contents). is_some (registers b) ≡ false) c.self.view_is
    (ap is_some (sym c.registrar.ensures) ∙ (sym c.is_some.ensures ∙ c.if-is_some.false)) in
    let lent = sym c.is_lent.ensures ∙ c.if-not-is_lent.false in
    let x = c.lent_entry.result in
    let o = out_entry b c.args.cpu x lawful out lent c.lent_entry.ensures.due c.lent_entry.ensures.cpu in
    (o.0, o.1, ap (λ z. is_some (walk z b.events)) (sym o.1) ∙ (walks_where b x.key.state o.0 lawful ∙ ap not none))

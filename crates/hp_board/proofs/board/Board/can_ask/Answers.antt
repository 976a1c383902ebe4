use Rattle.std.proofs.Common.{◌≡◌, false, ◌∙◌, ap, sym}
use Rattle.hp_model.proofs.NextStands.{client_is}
use Rattle.hp_states.proofs.Basics.{none_of}
use Rattle.hp_model.specs.FirstEvent.{is_client}
use Rattle.hp_model.specs.Seats.{role_of}
use Rattle.hp_model.specs.Subsystems.{names_sub}
use Rattle.hp_board.specs.Contents.{Contents}
use Rattle.hp_board.proofs.board.Board.can_ask.Goals as goal

pub returns-clause-nothing : goal.returns-clause-nothing
returns-clause-nothing g c = λ yes. none_of _ (sym c.has_lent.ensures ∙ c.if-has_lent.false)

pub returns-clause-allowed : goal.returns-clause-allowed
returns-clause-allowed g c = λ yes.
    let head : c.args.self.now.head ≡ c.head.result.now =
    sym (c.head.ensures ∙ (c.journal.ensures.head ∙ ap (λ (b : Contents). b.head) c.self.view_is)) in
    record {
      client =
          client_is (role_of c.args.by c.args.self.now.events)
          (sym (ap (λ (b : Contents). is_client (role_of c.args.by b.events)) c.self.view_is) ∙ (sym c.is_client.ensures ∙ c.if-not-is_client.false));
      same = c.is_of.ensures.0 c.if-not-is_of.false;
      has_sub = ap (λ h. names_sub h c.args.ask.now.op) head ∙ (sym c.names_sub.ensures ∙ c.if-not-names_sub.false);
    }

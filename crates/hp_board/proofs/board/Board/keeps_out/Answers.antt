use Rattle.std.proofs.Common.{◌≡◌, ℕ, true, false, ◌∙◌, ap, sym, subst}
use Rattle.hp_event.specs.declared.event.Event.{Event}
use Rattle.hp_event.specs.declared.event.Event.TheVariants.{Call}
use Rattle.hp_model.specs.Lent.{arms_walker}
use Rattle.hp_board.specs.Loans.{IsOutFor, IsCalm}
use Rattle.hp_board.proofs.KeptOut.{arms_it, arms_nobody, arms_not, calls_none}
use Rattle.hp_board.proofs.LentEntries.{on_some, on_none}
use Rattle.hp_board.proofs.board.Board.keeps_out.Goals as goal

pub returns-in-Armed-clause-out : goal.returns-in-Armed-clause-out
returns-in-Armed-clause-out g c =
    let b = c.args.self.now in
    on_some _
    (λ s. (o : IsOutFor b s) × (arms_walker b.events (Call o.seat o.cpu s o.inst o.dir o.how) c.args.event.now ≡ true))
    c.armed_out.result
    (λ s h. (
      h.0,
      ap (arms_walker b.events (Call h.0.seat h.0.cpu s h.0.inst h.0.dir h.0.how)) c.in-Armed.is
          ∙ arms_it b c.in-Armed.seat c.in-Armed.cpu c.in-Armed.value s h.0 h.1 h.2,
    ))
    c.armed_out.ensures.some

pub returns-in-Armed-clause-calm : goal.returns-in-Armed-clause-calm
returns-in-Armed-clause-calm g c =
    let b = c.args.self.now in
    on_none _ (IsCalm b c.args.event.now) c.armed_out.result
    (λ none. (
      subst (λ (e : Event). (s : ℕ) (o : IsOutFor b s) → arms_walker b.events (Call o.seat o.cpu s o.inst o.dir o.how) e ≡ false) (sym c.in-Armed.is)
          (arms_nobody b c.in-Armed.seat c.in-Armed.cpu c.in-Armed.value none),
      calls_none b c.args.event.now c.requires,
    ))
    c.armed_out.ensures.none

pub returns-in_default : goal.returns-in_default
returns-in_default g c =
    let b = c.args.self.now in
    record {
      out = tt;
      calm = (arms_not b c.args.event.now c.in_default.not-Armed, calls_none b c.args.event.now c.requires);
    }

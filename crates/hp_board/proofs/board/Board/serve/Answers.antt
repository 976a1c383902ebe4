use Rattle.std.proofs.Common.{◌≡◌, ◌∙◌, ℕ, true, Some, None, refl, ap, sym, subst}
use Rattle.hp_locks.specs.declared.why.Why.TheVariants.{HookOut}
use Rattle.hp_model.specs.NextEvent.{due_entry}
use Rattle.hp_model.proofs.DueGives.{due_stands}
use Rattle.hp_account.specs.Entries.{entry_event}
use Rattle.hp_account.specs.declared.under_way.Entry.{Entry}
use Rattle.hp_account.specs.declared.under_way.MadeBy.TheVariants.{Hook}
use Rattle.hp_table.specs.Step.{step_at, is_home}
use Rattle.hp_board.specs.Contents.{Contents}
use Rattle.hp_board.specs.Loans.{AreOut, CallsAway, loan}
use Rattle.hp_board.specs.declared.turn.Turn.TheVariants.{NotYet}
use Rattle.hp_board.proofs.LoansStay.{goes_on, loans_stay, out_stays}
use Rattle.hp_board.proofs.Served.{calls_away, one_away, calm_entry}
use Rattle.hp_board.proofs.board.Board.serve.Goals as goal

waits_same : (s t : ℕ) → NotYet (HookOut s) ≡ NotYet (HookOut t) → s ≡ t
waits_same s t e = cc

abbrev Due : (seat : ℕ) → Entry → Contents → Type 0
Due k x b = due_entry b.head b.events k ≡ Some (entry_event b.head b.events x)

pub returns-then-is_out-clause-served : goal.returns-then-is_out-clause-served
returns-then-is_out-clause-served g c =
    let x = c.in-Some.entry in
    let due = subst (Due c.args.by x) c.self.view_is c.in-Some.ensures in
    let o = c.if-is_out.ensures in
    (calls_away c.args.self.now c.args.by x due (o.by_hook refl) (o.away refl), refl)

pub returns-then-is_out-clause-hook_out : goal.returns-then-is_out-clause-hook_out
returns-then-is_out-clause-hook_out g c = λ s.
    let b = c.args.self.now in
    let x = c.in-Some.entry in
    let due = subst (Due c.args.by x) c.self.view_is c.in-Some.ensures in
    let o = c.if-is_out.ensures in (
      λ w. ap (λ t. NotYet (HookOut t)) (one_away b c.args.by s x due w),
      λ e. subst (λ t. CallsAway b t (due_entry b.head b.events c.args.by)) (waits_same x.key.state s e)
          (calls_away b c.args.by x due (o.by_hook refl) (o.away refl)),
    )

pub make_entry-requires-clause-stands : goal.make_entry-requires-clause-stands
make_entry-requires-clause-stands g c =
    let b = c.self.inside.machine in
    (due_stands b.head b.events c.args.by (entry_event b.head b.events c.in-Some.entry) c.in-Some.ensures).0

abbrev Home : Entry → Contents → Type 0
Home x b = x.made_by ≡ Hook → is_home (step_at b.places x.key.state) ≡ true

pub invariant_of-self : goal.invariant_of-self
invariant_of-self g c =
    let b = c.self.inside.machine in
    let x = c.in-Some.entry in
    let e = entry_event b.head b.events x in
    let home = subst (Home x) (sym c.self.view_is) (c.if-is_out.ensures.home refl) in
    let nothing = subst (λ (b : Contents). loan b c.args.by ≡ None) (sym c.self.view_is) c.requires in
    let s = due_stands b.head b.events c.args.by e c.in-Some.ensures in
    record {
      out =
          subst AreOut (sym c.make_entry.ensures.made)
          (out_stays b _ c.self.invariant.out
          (goes_on b c.args.by e c.sound.ensures.lawful c.self.invariant.out s.0 s.2 nothing (calm_entry b x home)));
      called = c.make_entry.ensures.called;
    }

pub returns-else-is_out-clause-stays : goal.returns-else-is_out-clause-stays
returns-else-is_out-clause-stays g c = λ k.
    let b = c.self.inside.machine in
    let x = c.in-Some.entry in
    let e = entry_event b.head b.events x in
    let home = subst (Home x) (sym c.self.view_is) (c.if-is_out.ensures.home refl) in
    let nothing = subst (λ (b : Contents). loan b c.args.by ≡ None) (sym c.self.view_is) c.requires in
    let s = due_stands b.head b.events c.args.by e c.in-Some.ensures in
    ap (λ (z : Contents). loan z k) c.make_entry.ensures.made
    ∙ (loans_stay b c.args.by e c.sound.ensures.lawful c.self.invariant.out s.0 s.2 nothing (calm_entry b x home) k
    ∙ ap (λ (z : Contents). loan z k) c.self.view_is)

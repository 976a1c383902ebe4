use Rattle.std.proofs.Common.{◌||◌, eqb, ◌≡◌, ◌<◌, true, ◌∙◌, Some, IsSome, IfSome, refl, ap, sym, subst}
use Rattle.hp_states.proofs.Basics.{none_there}
use Rattle.hp_states.specs.CpuSets.{has}
use Rattle.hp_states.specs.declared.limits.TheConstants.{MAX_EVENTS}
use Rattle.hp_model.specs.NextEvent.{due_entry}
use Rattle.hp_model.proofs.DueGives.{due_stands}
use Rattle.hp_hook.specs.Counted.{Counts}
use Rattle.hp_table.specs.Step.{Step, step_at, is_home}
use Rattle.hp_account.specs.Entries.{entry_event}
use Rattle.hp_board.specs.Answered.{aside_of}
use Rattle.hp_called.specs.Called.{IsCalled}
use Rattle.hp_board.specs.Contents.{Contents}
use Rattle.hp_board.specs.Loans.{AreOut, can_lend, loan}
use Rattle.hp_machine.proofs.MadeEntries.{by_hook}
use Rattle.hp_board.proofs.Loans.{hook_is}
use Rattle.hp_board.proofs.LoansMade.{CanLend, can_lend_it, can_lend_to, cannot_lend, lent_out, lent_aside, lent_others}
use Rattle.hp_board.proofs.board.Board.lend.Given as given
use Rattle.hp_board.proofs.board.Board.lend.Goals as goal
use Rattle.hp_board.proofs.board.Board.lend.Goals.{In_ok-hook}

pub lend-requires : goal.lend-requires
lend-requires g c =
    let b = c.self.inside.machine in
    (due_stands b.head b.events c.args.by (entry_event b.head b.events c.in_ok-entry.entry) c.in_ok-entry.ensures).0

pub returns-in_err-hook-clause-some : goal.returns-in_err-hook-clause-some
returns-in_err-hook-clause-some g c =
    let b = c.self.inside.machine in
    let x = c.in_ok-entry.entry in
    let made_by = hook_is x.made_by (sym c.is_by_hook.ensures ∙ c.if-not-is_by_hook.false) in
    let never : IsSome (step_at b.places x.key.state) × (is_home (step_at b.places x.key.state) ≡ true) → ⊥ = λ h.
    none_there c.lend.result c.in_err-hook.was (c.lend.ensures.some.1 h) in
    let cannot = cannot_lend b c.args.by x c.sound.ensures.lawful c.sound.ensures.table c.in_ok-entry.ensures made_by never in (
      λ some. absurd (none_there c.from_residual-in_err-hook.result c.from_residual-in_err-hook.ensures some),
      λ can. absurd (cannot
          (subst (λ (b : Contents). can_lend (due_entry b.head b.events c.args.by) b.places ≡ true) (sym c.self.view_is) can)),
    )

found : (g : given.Over) (c : In_ok-hook g) → CanLend c.self.inside.machine c.args.by c.in_ok-entry.entry
found g c =
    let b = c.self.inside.machine in
    let x = c.in_ok-entry.entry in
    let made_by = hook_is x.made_by (sym c.is_by_hook.ensures ∙ c.if-not-is_by_hook.false) in
    can_lend_it b c.args.by x c.sound.ensures.lawful c.self.invariant.out c.sound.ensures.table c.in_ok-entry.ensures made_by
    (c.in_ok-hook.ensures.some.0 refl).1

pub invariant_of-result : goal.invariant_of-result
invariant_of-result g c =
    let b = c.self.inside.machine in
    let x = c.in_ok-entry.entry in
    let made_by = hook_is x.made_by (sym c.is_by_hook.ensures ∙ c.if-not-is_by_hook.false) in
    let stands = (due_stands b.head b.events c.args.by (entry_event b.head b.events x) c.in_ok-entry.ensures).0 in
    let h = by_hook b.head b.events b.places x c.sound.ensures.lawful c.sound.ensures.table stands made_by in
    let hook = subst (λ o. IfSome o (λ (step : Step). g.H.Hook.counts c.in_ok-hook.hook ≡ step.kept.counts)) h.there c.in_ok-hook.ensures.hook in
    subst (λ n. n < MAX_EVENTS) (sym (ap (λ (x : Counts). x.made) hook)) h.few

pub invariant_of-self-2 : goal.invariant_of-self-2
invariant_of-self-2 g c =
    let at = goal.at.invariant_of-self-2 g c in
    let b = c.self.inside.machine in
    record {
      out =
          subst AreOut (sym c.in_ok-hook.ensures.lent)
          (lent_out b c.args.by c.in_ok-entry.entry c.lend.new.self.lent (found g at.In_ok-hook) c.in_ok-hook.ensures.put);
      called = subst (λ (m : Contents). IsCalled m.head m.events c.self.inside.called) (sym c.in_ok-hook.ensures.lent) c.self.invariant.called;
    }

pub returns-clause-lent : goal.returns-clause-lent
returns-clause-lent g c =
    let at = goal.at.returns-clause-lent g c in
    let b = c.self.inside.machine in
    let x = c.in_ok-entry.entry in
    let can = found g at.In_ok-hook in
    let hook = subst (λ o. IfSome o (λ (step : Step). g.H.Hook.counts c.in_ok-hook.hook ≡ step.kept.counts)) can.there c.in_ok-hook.ensures.hook in
    ap (λ (z : Contents). loan z c.args.by) c.in_ok-hook.ensures.lent
    ∙ (lent_aside b c.args.by x c.lend.new.self.lent can c.in_ok-hook.ensures.put
    ∙ ap (λ (n : Counts). Some (aside_of x.cpu x.key x.dir n)) (sym hook))

pub returns-clause-stays : goal.returns-clause-stays
returns-clause-stays g c = λ k other.
    let at = goal.at.returns-clause-stays g c in
    let b = c.self.inside.machine in
    ap (λ (z : Contents). loan z k) c.in_ok-hook.ensures.lent
    ∙ (lent_others b c.args.by k c.in_ok-entry.entry c.lend.new.self.lent (found g at.In_ok-hook) c.in_ok-hook.ensures.put other
    ∙ ap (λ (z : Contents). loan z k) c.self.view_is)

pub returns-clause-put : goal.returns-clause-put
returns-clause-put g c = λ cpu.
    c.in_ok-hook.ensures.put cpu
    ∙ ap (λ (b : Contents). eqb cpu c.in_ok-entry.entry.cpu || has b.lent cpu) c.self.view_is

pub returns-clause-some : goal.returns-clause-some
returns-clause-some g c =
    let at = goal.at.returns-clause-some g c in
    let b = c.self.inside.machine in
    let can = can_lend_to b c.args.by c.in_ok-entry.entry (found g at.In_ok-hook) in (
      λ some. subst (λ (b : Contents). can_lend (due_entry b.head b.events c.args.by) b.places ≡ true) c.self.view_is can,
      λ can. refl,
    )

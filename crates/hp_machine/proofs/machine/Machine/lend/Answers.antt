use Rattle.std.proofs.Common.{◌≡◌, ℕ, true, Option, List, IsSome, ◌∙◌, ap, sym, subst}
use Rattle.hp_states.proofs.Basics.{none_there, on_none}
use Rattle.hp_event.specs.Story.{Story}
use Rattle.hp_model.specs.Lawful.{Stands}
use Rattle.hp_table.specs.Step.{Step, step_at, changed_at, lent_step, is_home}
use Rattle.hp_account.specs.Entries.{entry_event}
use Rattle.hp_account.specs.declared.account.Account.{Account}
use Rattle.hp_account.specs.declared.under_way.NextStep.{NextStep}
use Rattle.hp_machine.specs.Machine.{IsMachine}
use Rattle.hp_account.specs.Table.{IsTableOf}
use Rattle.hp_machine.specs.Contents.{Contents}
use Rattle.hp_machine.proofs.Below.{call_in_set}
use Rattle.hp_machine.proofs.LentTable.{table_lent_or_not, lent_nothing}
use Rattle.hp_machine.proofs.Made.{seen}
use Rattle.hp_machine.proofs.machine.Machine.lend.Goals as goal

lent_machine : (j : Story) (account : Account) (coming : Option NextStep) (places new : List (Option Step)) (s : ℕ) →
    IsMachine j account coming places → new ≡ changed_at places s lent_step → IsMachine j account coming new
lent_machine j account coming places new s m is =
    record {
      kept = m.kept;
      under_way = m.under_way;
      table_is = subst (IsTableOf j.head j.events) (sym is) (table_lent_or_not j.head j.events places s m.table_is);
    }

pub invariant_of-self : goal.invariant_of-self
invariant_of-self g c =
    let m = c.self.inside in
    lent_machine m.journal m.account m.coming m.table c.lend.new.self c.args.entry.now.key.state c.self.invariant c.lend.ensures.lent

pub invariant_of-self-2 : goal.invariant_of-self-2
invariant_of-self-2 g c =
    let m = c.self.inside in
    lent_machine m.journal m.account m.coming m.table c.lend.new.self c.args.entry.now.key.state c.self.invariant c.lend.ensures.lent

pub returns-in_err-hook-clause-none : goal.returns-in_err-hook-clause-none
returns-in_err-hook-clause-none g c =
    let places = c.self.inside.table in
    let s = c.args.entry.now.key.state in
    let never : IsSome (step_at places s) × (is_home (step_at places s) ≡ true) → ⊥ = λ h.
    none_there c.lend.result c.in_err-hook.was (c.lend.ensures.some.1 h) in
    let same = c.lend.ensures.lent ∙ lent_nothing places s never in
    on_none c.from_residual.result _
    (ap (λ p. seen c.self.inside.journal p c.self.inside.lent) same ∙ c.self.view_is)

pub put-requires : goal.put-requires
put-requires g c =
    let j = c.self.inside.journal in
    let x = c.args.entry.now in
    let stands = subst (λ (m : Contents). Stands m.head m.events (entry_event m.head m.events x)) (sym c.self.view_is) c.requires in
    call_in_set j.head j.events x.seat x.cpu x.key.state x.key.inst x.dir _ c.self.invariant.kept.lawful stands.0

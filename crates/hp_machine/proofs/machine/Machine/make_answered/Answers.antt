use Rattle.std.proofs.Common.{◌≡◌, ◌∙◌, IfSome, ap, sym, subst, ◌++◌, ◌∷◌, []}
use Rattle.hp_states.specs.Rules.{site_at}
use Rattle.hp_model.specs.Lawful.{Stands}
use Rattle.hp_hook.specs.Counted.{counted}
use Rattle.hp_table.specs.Kept.{answer_at}
use Rattle.hp_table.specs.Step.{Step, step_at}
use Rattle.hp_account.specs.Entries.{entry_event, entry_made, how_by}
use Rattle.hp_account.specs.Table.{IsTableOf}
use Rattle.hp_account.specs.TableChanges.{table_after}
use Rattle.hp_machine.specs.Contents.{Contents, with_event}
use Rattle.hp_machine.proofs.Below.{call_in_set}
use Rattle.hp_machine.proofs.MadeEntries.{by_hook}
use Rattle.hp_machine.proofs.LentTable.{restored}
use Rattle.hp_machine.proofs.Made.{Makes, makes, made_machine, made_seen, seen}
use Rattle.hp_machine.proofs.machine.Machine.make_answered.Given as given
use Rattle.hp_machine.proofs.machine.Machine.make_answered.Goals as goal
use Rattle.hp_machine.proofs.machine.Machine.make_answered.Goals.{After-how-how}

home : (g : given.Over) (c : After-how-how g) →
    Makes c.self.inside.journal c.self.inside.table c.restore.new.self
    (entry_event c.self.inside.journal.head c.self.inside.journal.events c.args.entry.now) (entry_made c.args.entry.now c.how-how.result)
home g c =
    let j = c.self.inside.journal in
    let x = c.args.entry.now in
    let e = entry_event j.head j.events x in
    let site = site_at x.cpu x.key.inst x.dir in
    let table = c.self.inside.table in
    let stands = subst (λ (m : Contents). Stands m.head m.events (entry_event m.head m.events x)) (sym c.self.view_is) c.requires.stands in
    let h = by_hook j.head j.events table x c.self.invariant.kept.lawful c.self.invariant.table_is stands c.requires.by_hook in
    let there = ap (λ (m : Contents). step_at m.places x.key.state) (sym c.self.view_is) ∙ h.there in
    let answer = subst (λ o. IfSome o (λ (step : Step). c.args.answer ≡ answer_at step.kept site)) there c.requires.answer in
    let back =
    subst (λ o. IfSome o (λ (step : Step). g.H.Hook.counts c.args.hook ≡ counted step.kept.counts site)) there c.requires.back in
    let same = ap (entry_made x) c.how-how.ensures ∙ (ap (λ n. entry_made x (how_by x n)) answer ∙ h.event_is) in
    let changed : c.restore.new.self ≡ table_after j.head j.events e table =
    c.restore.ensures ∙ (restored table x.key.state h.step site _ h.there back ∙ sym h.changed_is) in
    makes j table c.restore.new.self e (entry_made c.args.entry.now c.how-how.result) stands same changed
    (subst (IsTableOf j.head (j.events ++ e ∷ [])) (sym changed) h.after)

pub append_entry-requires-clause-stands : goal.append_entry-requires-clause-stands
append_entry-requires-clause-stands g c =
    (home g (goal.at.append_entry-requires-clause-stands g c).After-how-how).stands

pub append_entry-requires-clause-table : goal.append_entry-requires-clause-table
append_entry-requires-clause-table g c =
    (home g (goal.at.append_entry-requires-clause-table g c).After-how-how).table

pub invariant_of-self : goal.invariant_of-self
invariant_of-self g c =
    let a = c.append_entry.ensures in
    made_machine c.self.inside.journal c.append_entry.new.journal c.append_entry.new.self c.append_entry.new.coming
    (entry_made c.args.entry.now c.how-how.result) c.restore.new.self a.head a.events a.kept a.under_way
    (home g (goal.at.invariant_of-self g c).After-how-how).table

pub returns-clause-made : goal.returns-clause-made
returns-clause-made g c =
    let x = c.args.entry.now in
    let lent = c.take.new.self in
    let j = c.self.inside.journal in
    let a = c.append_entry.ensures in
    subst
    (λ (m : Contents).
    seen c.append_entry.new.journal c.restore.new.self lent ≡ with_event (record m { lent = lent }) (entry_event m.head m.events x))
    c.self.view_is
    (made_seen j c.append_entry.new.journal c.self.inside.table c.restore.new.self lent (entry_event j.head j.events x)
    (entry_made c.args.entry.now c.how-how.result) a.head a.events (home g (goal.at.returns-clause-made g c).After-how-how))

pub take-requires : goal.take-requires
take-requires g c =
    let j = c.self.inside.journal in
    let x = c.args.entry.now in
    let stands = subst (λ (m : Contents). Stands m.head m.events (entry_event m.head m.events x)) (sym c.self.view_is) c.requires.stands in
    call_in_set j.head j.events x.seat x.cpu x.key.state x.key.inst x.dir _ c.self.invariant.kept.lawful stands.0

use Rattle.std.proofs.Common.{◌≡◌, List, ◌<◌, IsSome, IfSome, ◌∙◌, ap, sym, subst, refl, ◌++◌, ◌∷◌, []}
use Rattle.hp_states.specs.declared.limits.TheConstants.{MAX_EVENTS}
use Rattle.hp_states.specs.Rules.{site_at}
use Rattle.hp_model.specs.Lawful.{Stands}
use Rattle.hp_table.specs.Kept.{answer_at}
use Rattle.hp_table.specs.Step.{Step}
use Rattle.hp_account.specs.Entries.{entry_event, entry_made, how_by}
use Rattle.hp_account.specs.Table.{IsTableOf}
use Rattle.hp_account.specs.TableChanges.{table_after}
use Rattle.hp_machine.specs.Contents.{Contents, with_event}
use Rattle.hp_machine.proofs.MadeEntries.{IsByHook, by_hook, without_hook}
use Rattle.hp_machine.proofs.Made.{Makes, makes, made_machine, made_seen, seen}
use Rattle.hp_machine.proofs.machine.Machine.make_entry.Given as given
use Rattle.hp_machine.proofs.machine.Machine.make_entry.Goals as goal
use Rattle.hp_machine.proofs.machine.Machine.make_entry.Goals.{In-Hook, After-how-how, After-how-how-in_default}

there : (g : given.Over) (c : In-Hook g) →
    IsByHook c.self.inside.journal.head c.self.inside.journal.events c.self.inside.table c.args.entry.now
there g c =
    let j = c.self.inside.journal in
    let x = c.args.entry.now in
    let stands = subst (λ (m : Contents). Stands m.head m.events (entry_event m.head m.events x)) (sym c.self.view_is) c.requires.stands in
    by_hook j.head j.events c.self.inside.table x c.self.invariant.kept.lawful c.self.invariant.table_is stands c.in-Hook.is

pub call-answer-requires-clause-registered : goal.call-answer-requires-clause-registered
call-answer-requires-clause-registered g c =
    let h = there g (goal.at.call-answer-requires-clause-registered g c).In-Hook in
    subst (λ o. IsSome o) (sym h.there) refl

pub call-answer-requires-clause-few : goal.call-answer-requires-clause-few
call-answer-requires-clause-few g c =
    let h = there g (goal.at.call-answer-requires-clause-few g c).In-Hook in
    subst (λ o. IfSome o (λ (step : Step). step.kept.counts.made < MAX_EVENTS)) (sym h.there) h.few

called : (g : given.Over) (c : After-how-how g) → IsByHook c.self.inside.journal.head c.self.inside.journal.events c.self.inside.table c.args.entry.now →
    Makes c.self.inside.journal c.self.inside.table c.call-answer.new.self
    (entry_event c.self.inside.journal.head c.self.inside.journal.events c.args.entry.now) (entry_made c.args.entry.now c.how-how.result)
called g c h =
    let j = c.self.inside.journal in
    let x = c.args.entry.now in
    let e = entry_event j.head j.events x in
    let stands = subst (λ (m : Contents). Stands m.head m.events (entry_event m.head m.events x)) (sym c.self.view_is) c.requires.stands in
    let answer = subst (λ o. IfSome o (λ (step : Step). c.call-answer.result ≡ answer_at step.kept (site_at x.cpu x.key.inst x.dir))) h.there c.call-answer.ensures.answer in
    let same = ap (entry_made x) c.how-how.ensures ∙ (ap (λ n. entry_made x (how_by x n)) answer ∙ h.event_is) in
    let changed : c.call-answer.new.self ≡ table_after j.head j.events e c.self.inside.table = c.call-answer.ensures.called ∙ sym h.changed_is in
    makes j c.self.inside.table c.call-answer.new.self e (entry_made c.args.entry.now c.how-how.result) stands same changed
    (subst (IsTableOf j.head (j.events ++ e ∷ [])) (sym changed) h.after)

uncalled : (g : given.Over) (c : After-how-how-in_default g) →
    Makes c.self.inside.journal c.self.inside.table c.self.inside.table
    (entry_event c.self.inside.journal.head c.self.inside.journal.events c.args.entry.now) (entry_made c.args.entry.now c.how-how-in_default.result)
uncalled g c =
    let j = c.self.inside.journal in
    let x = c.args.entry.now in
    let stands = subst (λ (m : Contents). Stands m.head m.events (entry_event m.head m.events x)) (sym c.self.view_is) c.requires.stands in
    let w = without_hook j.head j.events c.self.inside.table x 0 c.self.invariant.table_is c.in_default.not-Hook in
    let same = ap (entry_made x) c.how-how-in_default.ensures ∙ w.event_is in
    makes j c.self.inside.table c.self.inside.table (entry_event j.head j.events x) (entry_made c.args.entry.now c.how-how-in_default.result) stands same
    (sym w.changed_is) w.after

pub append_entry-requires-clause-stands : goal.append_entry-requires-clause-stands
append_entry-requires-clause-stands g c =
    let at = goal.at.append_entry-requires-clause-stands g c in
    (called g at.After-how-how (there g at.In-Hook)).stands

pub append_entry-requires-clause-table : goal.append_entry-requires-clause-table
append_entry-requires-clause-table g c =
    let at = goal.at.append_entry-requires-clause-table g c in
    (called g at.After-how-how (there g at.In-Hook)).table

pub invariant_of-self : goal.invariant_of-self
invariant_of-self g c =
    let at = goal.at.invariant_of-self g c in
    let m = called g at.After-how-how (there g at.In-Hook) in
    let a = c.append_entry.ensures in
    made_machine c.self.inside.journal c.append_entry.new.journal c.append_entry.new.self c.append_entry.new.coming
    (entry_made c.args.entry.now c.how-how.result) c.call-answer.new.self a.head a.events a.kept a.under_way m.table

pub returns-in-Hook : goal.returns-in-Hook
returns-in-Hook g c =
    let at = goal.at.returns-in-Hook g c in
    let x = c.args.entry.now in
    let lent = c.self.inside.lent in
    let j = c.self.inside.journal in
    let a = c.append_entry.ensures in
    subst (λ (m : Contents). seen c.append_entry.new.journal c.call-answer.new.self lent ≡ with_event m (entry_event m.head m.events x))
    c.self.view_is
    (made_seen j c.append_entry.new.journal c.self.inside.table c.call-answer.new.self lent (entry_event j.head j.events x)
    (entry_made c.args.entry.now c.how-how.result) a.head a.events (called g at.After-how-how (there g at.In-Hook)))

pub append_entry-requires-in_default : goal.append_entry-requires-in_default
append_entry-requires-in_default g c =
    let m = uncalled g (goal.at.append_entry-requires-in_default g c).After-how-how-in_default in
    record { kept = c.self.invariant.kept; stands = m.stands; table = m.table }

pub invariant_of-self-in_default : goal.invariant_of-self-in_default
invariant_of-self-in_default g c =
    let at = goal.at.invariant_of-self-in_default g c in
    let m = uncalled g at.After-how-how-in_default in
    let a = c.append_entry-in_default.ensures in
    made_machine c.self.inside.journal c.append_entry-in_default.new.journal c.append_entry-in_default.new.self
    c.append_entry-in_default.new.coming (entry_made c.args.entry.now c.how-how-in_default.result) c.self.inside.table a.head a.events a.kept a.under_way m.table

pub returns-in_default : goal.returns-in_default
returns-in_default g c =
    let at = goal.at.returns-in_default g c in
    let x = c.args.entry.now in
    let lent = c.self.inside.lent in
    let j = c.self.inside.journal in
    let a = c.append_entry-in_default.ensures in
    subst
    (λ (m : Contents).
    seen c.append_entry-in_default.new.journal c.self.inside.table lent ≡ with_event m (entry_event m.head m.events x))
    c.self.view_is
    (made_seen j c.append_entry-in_default.new.journal c.self.inside.table c.self.inside.table lent (entry_event j.head j.events x)
    (entry_made c.args.entry.now c.how-how-in_default.result) a.head a.events (uncalled g at.After-how-how-in_default))

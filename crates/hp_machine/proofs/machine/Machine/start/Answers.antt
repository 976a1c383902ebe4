use Rattle.std.proofs.Common.{◌∙◌, ◌+◌, List, Option, None, [], refl, sym, ap, subst, inl}
use Rattle.hp_states.specs.declared.limits.TheConstants.{ONLINE}
use Rattle.hp_event.specs.Story.{Story}
use Rattle.hp_model.specs.Registrations.{registration}
use Rattle.hp_model.specs.Walks.{walking}
use Rattle.hp_table.specs.Step.{Step}
use Rattle.hp_account.proofs.AccountKept.{begins_kept}
use Rattle.hp_account.proofs.WalkComing.{nothing_under_way}
use Rattle.hp_account.specs.Table.{IsTableOf}
use Rattle.hp_machine.specs.Machine.{IsMachine}
use Rattle.hp_machine.proofs.Made.{seen}
use Rattle.hp_machine.proofs.MachineBegins.{table_begins}
use Rattle.hp_machine.proofs.machine.Machine.start.Goals as goal

pub invariant_of-result : goal.invariant_of-result
unfolding walking registration
invariant_of-result g c =
    let head = c.args.head in
    let places = c.in_ok-table.table in
    subst (λ (s : Story). IsMachine s c.in_ok-account.account None places) (sym c.new-3.ensures)
    (record {
      kept = begins_kept head c.in_ok-account.account c.requires c.in_ok-account.ensures;
      under_way = inl (record { none = nothing_under_way head [] refl refl; no_walk = refl; no_registration = refl });
      table_is = subst (IsTableOf head []) (sym c.in_ok-table.ensures) (table_begins head (ONLINE + 1));
    })

pub returns-clause-begins : goal.returns-clause-begins
returns-clause-begins g c =
    ap (λ (s : Story). seen s c.in_ok-table.table c.none.result) c.new-3.ensures
    ∙ ap (λ (p : List (Option Step)). seen (record { head = c.args.head; events = []; promised = 0 }) p c.none.result) c.in_ok-table.ensures

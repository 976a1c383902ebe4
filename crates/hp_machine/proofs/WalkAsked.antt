-- What a machine may ask of the walk of a processor that walks, and what it is asked beside.
use Rattle.std.proofs.Common.{◌≡◌, ℕ, true, is_some, Option, List, sym, ◌∙◌, arith}
use Rattle.hp_event.specs.Story.{Story}
use Rattle.hp_model.proofs.SomeMoves.{some_of}
use Rattle.hp_table.specs.Step.{Step}
use Rattle.hp_walk.specs.After.{IsWithin}
use Rattle.hp_walk.specs.Keys.{keys_by}
use Rattle.hp_account.specs.declared.account.Account.{Account}
use Rattle.hp_account.specs.declared.under_way.NextStep.{NextStep}
use Rattle.hp_account.specs.FlightChanges.{IfWalks}
use Rattle.hp_account.specs.Places.{at_place}
use Rattle.hp_account.specs.Walking.{IsSceneOf}
use Rattle.hp_account.proofs.FlightFacts.{within_at}
use Rattle.hp_account.proofs.PlaceLemmas.{at_place-within}
use Rattle.hp_machine.specs.Machine.{IsMachine}

-- it stands among the table's keys
pub walk_within : {j : Story} {p : Account} {coming : Option NextStep} {places : List (Option Step)} (c : ℕ) → IsMachine j p coming places →
    true ≡ is_some (at_place p.flights.by_cpu.items c) →
    IfWalks (at_place p.flights.by_cpu.items c) (λ flight. IsWithin (keys_by places) flight.walk)
walk_within {j} {p} {coming} {places} c m walks =
    let f = some_of (at_place p.flights.by_cpu.items c) (sym walks) in
    rw f.1 (within_at j.head j.events places p.flights c f.0 m.kept.lawful m.kept.account.flights m.table_is f.1)

-- beside it are the table, where its processor is armed, and the seat of its thread
pub walk_beside : {j : Story} {p : Account} {coming : Option NextStep} {places : List (Option Step)} (c : ℕ) (armed_at thread : Option ℕ) →
    IsMachine j p coming places → true ≡ is_some (at_place p.flights.by_cpu.items c) → armed_at ≡ at_place p.processors.armed c →
    thread ≡ at_place p.seats.threads c → IsSceneOf j.head j.events places c armed_at thread
walk_beside {j} {p} c armed_at thread m walks armed_is thread_is =
    let f = some_of (at_place p.flights.by_cpu.items c) (sym walks) in
    let within = at_place-within p.flights.by_cpu.items c f.0 f.1 in
    let cpus = m.kept.account.flights.cpus in
    record {
      lawful = m.kept.lawful;
      table_is = m.table_is;
      armed_is = armed_is ∙ m.kept.account.processors.armed_is c (omega (arith, within, cpus));
      thread_is = thread_is ∙ sym (m.kept.account.seats.threads_are c);
    }

use Rattle.std.proofs.Common.{◌≡◌, ◌<◌, false, None, ◌∙◌, sym, subst, arith}
use Rattle.hp_model.specs.Batch.{is_upmany}
use Rattle.hp_model.specs.MapLock.{operation}
use Rattle.hp_model.specs.Registrations.{registration}
use Rattle.hp_model.specs.Suspend.{held_by}
use Rattle.hp_account.specs.Registering.{IsRegisteringOf}
use Rattle.hp_account.proofs.FlightFacts.{can_next}
use Rattle.hp_account.proofs.InBatch.{batch_is}
use Rattle.hp_account.proofs.LowestWalking.{nothing_walks}
use Rattle.hp_account.proofs.WalkComing.{walk_comes}
use Rattle.hp_account.proofs.account.Account.under_way.Goals as goal

pub next-requires-clause-cpu : goal.next-requires-clause-cpu
next-requires-clause-cpu g c =
    let j = c.args.journal.now in
    let r = c.requires in
    (can_next j.head j.events c.args.table.now c.args.self.now.flights c.in-Some.cpu r.lawful r.account.flights r.table
    c.in-Some.ensures.some.0).0

pub next-requires-clause-walks : goal.next-requires-clause-walks
next-requires-clause-walks g c =
    let j = c.args.journal.now in
    let r = c.requires in
    (can_next j.head j.events c.args.table.now c.args.self.now.flights c.in-Some.cpu r.lawful r.account.flights r.table
    c.in-Some.ensures.some.0).1

pub returns-in-Some : goal.returns-in-Some
returns-in-Some g c =
    let j = c.args.journal.now in
    let r = c.requires in
    let p = c.args.self.now in
    let cpu = c.in-Some.cpu in
    let single : held_by is_upmany (operation j.events) ≡ false =
    sym (batch_is j.head j.events p.operation r.account.operation) ∙ c.in-Some.ensures.some.1 in
    let below = (can_next j.head j.events c.args.table.now p.flights cpu r.lawful r.account.flights r.table c.in-Some.ensures.some.0).0 in
    let cpus = r.account.flights.cpus in
    let inside : cpu < j.head.possible = omega (arith, below, cpus) in
    walk_comes j.head j.events cpu c.next.result r.lawful single
    (c.next.ensures j.head j.events r.account.flights
    (record {
      lawful = r.lawful;
      table_is = r.table;
      armed_is = c.armed-armed.ensures ∙ r.account.processors.armed_is cpu inside;
      thread_is = c.thread-thread.ensures ∙ sym (r.account.seats.threads_are cpu);
    }))

pub returns-in-None-registration : goal.returns-in-None-registration
returns-in-None-registration g c =
    let j = c.args.journal.now in
    let r = c.requires in
    let p = c.args.self.now in
    let idle : registration j.events ≡ None =
    subst (IsRegisteringOf j.head j.events) c.in-None-registration.is r.account.registration in
    nothing_walks j.head j.events p.operation r.account.operation idle (c.in-None.ensures.none j.head j.events r.account)

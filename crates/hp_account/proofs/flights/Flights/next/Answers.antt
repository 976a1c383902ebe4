use Rattle.std.proofs.Common.{◌≡◌, sym, subst, ◌∙◌}
use Rattle.std.specs.Prelude.{Some}
use Rattle.hp_account.specs.Places.{at_place}
use Rattle.hp_account.specs.WalkComing.{IsNextOn}
use Rattle.hp_account.specs.Walking.{IsSceneOf}
use Rattle.hp_account.proofs.FlightFacts.{at_place-read, one_of}
use Rattle.hp_account.proofs.flights.Flights.next.Goals as goal

pub returns : goal.returns
returns g c =
    let there : at_place c.args.self.now.by_cpu.items c.args.cpu ≡ Some c.in-Some.flight =
    at_place-read c.args.self.now.by_cpu.items c.args.cpu c.index.result.now c.requires.cpu c.index.ensures ∙ c.in-Some.is in
    λ head events flights beside.
    let one = one_of head events c.args.self.now c.args.cpu c.in-Some.flight flights there in
    subst (λ n. IsNextOn head events n c.next.result) one.0
    (c.next.ensures head events one.1
    (subst (λ n. IsSceneOf head events c.args.table.now n c.args.armed c.args.thread) (sym one.0) beside))

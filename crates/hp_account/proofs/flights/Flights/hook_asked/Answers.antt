use Rattle.std.proofs.Common.{◌≡◌, Some, sym, subst, ◌∙◌}
use Rattle.hp_model.specs.StandsCalls.{WalkEntry}
use Rattle.hp_account.specs.Places.{at_place}
use Rattle.hp_account.specs.Walking.{IsSceneOf}
use Rattle.hp_account.proofs.FlightFacts.{at_place-read, one_of}
use Rattle.hp_account.proofs.flights.Flights.hook_asked.Goals as goal

pub returns : goal.returns
returns g c =
    let there : at_place c.args.self.now.by_cpu.items c.args.cpu ≡ Some c.in-Some.flight =
    at_place-read c.args.self.now.by_cpu.items c.args.cpu c.index.result.now c.requires.cpu c.index.ensures ∙ c.in-Some.is in
    λ head events thread flights beside s i d how entry.
    let one = one_of head events c.args.self.now c.args.cpu c.in-Some.flight flights there in
    c.hook_asked.ensures head events thread one.1
    (subst (λ n. IsSceneOf head events c.args.table.now n c.args.armed thread) (sym one.0) beside) s i d how
    (subst (λ n. WalkEntry head events n s i d how) (sym one.0) entry)

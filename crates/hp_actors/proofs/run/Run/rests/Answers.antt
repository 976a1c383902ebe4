-- Nothing is in flight where all is answered.
use Rattle.std.proofs.Common.{◌≡◌, true, None, sym, subst}
use Rattle.hp_model.specs.MapLock.{operation}
use Rattle.hp_model.specs.Registrations.{registration}
use Rattle.hp_model.specs.ScriptRun.{is_over}
use Rattle.hp_actors.specs.Positions.{Position}
use Rattle.hp_actors.proofs.Resting.{no_operation, no_registration}
use Rattle.hp_actors.proofs.run.Run.rests.Goals as goal

pub returns-clause-operation : goal.returns-clause-operation
returns-clause-operation g c =
    let b = c.self.inside.board in
    let actors = c.self.inside.actors.items in
    let over = subst (λ (q : Position). is_over q.actors q.progress ≡ true) (sym c.self.view_is) c.requires in
    subst (λ (q : Position). operation q.progress.events ≡ None) c.self.view_is (no_operation b c.self.inside.threads actors c.self.invariant.playing over)

pub returns-clause-registration : goal.returns-clause-registration
returns-clause-registration g c =
    let b = c.self.inside.board in
    let actors = c.self.inside.actors.items in
    let over = subst (λ (q : Position). is_over q.actors q.progress ≡ true) (sym c.self.view_is) c.requires in
    subst (λ (q : Position). registration q.progress.events ≡ None) c.self.view_is (no_registration b c.self.inside.threads actors c.self.invariant.playing over)

-- Where the walk is going, by where it stands.
use Rattle.std.proofs.Common.{sym, ◌∙◌}
use Rattle.hp_model.specs.Plan.{direction}
use Rattle.hp_walk.proofs.Asking.{heading_is}
use Rattle.hp_walk.proofs.walk.Walk.target.Goals as goal

pub returns-then-is_faultless : goal.returns-then-is_faultless
returns-then-is_faultless c = λ keys entries h.
    let w = c.args.self.now in
    let on = sym c.is_faultless.ensures ∙ c.if-is_faultless.true in
    rw on at (heading_is (direction w.from w.to) w.from w.to entries w.position h.faults_are)

pub returns-else-is_faultless : goal.returns-else-is_faultless
returns-else-is_faultless c = λ keys entries h.
    let w = c.args.self.now in
    let back = sym c.is_faultless.ensures ∙ c.if-is_faultless.false in
    rw back at (heading_is (direction w.from w.to) w.from w.to entries w.position h.faults_are)

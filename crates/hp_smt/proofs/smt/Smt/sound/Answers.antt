use Rattle.std.proofs.Common.{◌≡◌, ◌||◌, true, ap, subst}
use Rattle.hp_model.specs.Headline.{Headline}
use Rattle.hp_model.proofs.HeadlineProof.{headline}
use Rattle.hp_smt.specs.Contents.{Controlled}
use Rattle.hp_smt.specs.Modes.{is_off}
use Rattle.hp_smt.specs.Shut.{ArePrimaries}
use Rattle.hp_smt.specs.Sound.{may_fall_back_off}
use Rattle.hp_smt.proofs.Shutting.{shut_primaries}
use Rattle.hp_smt.proofs.smt.Smt.sound.Goals as goal

pub returns-clause-primaries : goal.returns-clause-primaries
returns-clause-primaries g c =
    subst (λ (z : Controlled). is_off z.setting.mode ≡ true → ArePrimaries z.threads z.board.events) c.self.view_is
    (λ off.
    let s = c.self.inside.setting in
    shut_primaries c.self.inside.threads c.self.inside.board.events
    (c.self.invariant.shut (ap (λ b. b || may_fall_back_off s.write) off)))

pub returns-clause-headline : goal.returns-clause-headline
returns-clause-headline g c =
    subst (λ (z : Controlled). Headline z.board.head z.board.events) c.self.view_is
    (headline c.self.inside.board.head c.self.inside.board.events c.sound.ensures.lawful)

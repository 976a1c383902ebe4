use Rattle.std.proofs.Common.{ap}
use Rattle.hp_smt.specs.Contents.{Controlled}
use Rattle.hp_smt.proofs.OwnHooks.{keeps_each}
use Rattle.hp_smt.proofs.Taking.{finish_sound, finish_brings}
use Rattle.hp_smt.proofs.smt.Smt.finish.Goals as goal

pub invariant_of-self : goal.invariant_of-self
invariant_of-self g c =
    let z : Controlled = record { board = c.self.inside.board; threads = c.self.inside.threads; setting = c.self.inside.setting } in
    finish_sound z c.args.self.now c.args.write c.finished-gone.result c.self.view_is c.sound.ensures.lawful c.self.invariant
    c.requires.going c.requires.none c.finished-gone.ensures.setting_is

pub returns-clause-brought : goal.returns-clause-brought
returns-clause-brought g c =
    let z : Controlled = record { board = c.self.inside.board; threads = c.self.inside.threads; setting = c.self.inside.setting } in
    finish_brings z c.args.self.now c.args.write c.finished-gone.result c.self.view_is c.set_is_of_its_numbers.ensures.words
    c.requires.going c.requires.none c.finished-gone.ensures.setting_is

pub returns-clause-each : goal.returns-clause-each
returns-clause-each g c =
    keeps_each c.args.self.now.board c.self.inside.board (ap (λ (z : Controlled). z.board) c.self.view_is)

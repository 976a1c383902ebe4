use Rattle.std.proofs.Common.{refl}
use Rattle.hp_smt.specs.Contents.{Controlled}
use Rattle.hp_smt.proofs.OwnHooks.{keeps_each}
use Rattle.hp_smt.proofs.Taking.{decided_brings}
use Rattle.hp_smt.proofs.smt.Smt.begin.Goals as goal

pub returns-in-Some-clause-brought : goal.returns-in-Some-clause-brought
returns-in-Some-clause-brought g c =
    let z : Controlled = record { board = c.self.inside.board; threads = c.self.inside.threads; setting = c.self.inside.setting } in
    decided_brings z c.args.self.now c.args.by c.args.want c.in-Some.answer c.self.view_is c.set_is_of_its_numbers.ensures.words
    c.requires.none c.in-Some.ensures

pub returns-in-Some-clause-each : goal.returns-in-Some-clause-each
returns-in-Some-clause-each g c = keeps_each c.args.self.now.board c.args.self.now.board refl

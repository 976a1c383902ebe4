use Rattle.hp_smt.specs.Contents.{Controlled}
use Rattle.hp_smt.proofs.Taking.{flying_can}
use Rattle.hp_smt.proofs.smt.Smt.control.Goals as goal

pub go_on-requires : goal.go_on-requires
go_on-requires g c =
    let z : Controlled = record { board = c.self.inside.board; threads = c.self.inside.threads; setting = c.self.inside.setting } in
    flying_can z c.args.self.now c.args.by c.args.want c.in-Some.write c.self.view_is c.self.invariant c.requires c.in-Some.ensures

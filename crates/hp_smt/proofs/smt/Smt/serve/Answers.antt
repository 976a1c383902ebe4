use Rattle.hp_smt.proofs.Going.{serve_sound}
use Rattle.hp_smt.proofs.smt.Smt.serve.Goals as goal

pub invariant_of-self : goal.invariant_of-self
invariant_of-self g c =
    serve_sound c.self.inside.board c.serve.new.self c.self.inside.threads c.self.inside.setting c.args.by c.serve.result c.sound.ensures.lawful
    c.serve.ensures.served c.self.invariant

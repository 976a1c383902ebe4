-- A thread's turn is the model's.
use Rattle.std.proofs.Common.{◌<◌, ap, length, arith}
use Rattle.hp_model.specs.Processors.{present}
use Rattle.hp_board.proofs.Homes.{idle_home, served_home}
use Rattle.hp_actors.proofs.PassedOverStay.{thread_knows}
use Rattle.hp_actors.proofs.Playing.{served, thread_playing}
use Rattle.hp_actors.proofs.run.Run.serve.Goals as goal

pub serve-requires : goal.serve-requires
serve-requires g c = idle_home c.self.inside.board c.args.seat c.self.invariant.home

pub invariant_of-self : goal.invariant_of-self
invariant_of-self g c =
    let b = c.self.inside.board in
    let below : c.args.seat < c.self.inside.threads =
    omega (arith, c.self.invariant.playing.threads_are, ap (λ p. length (present p.head)) c.self.view_is, c.requires) in
    let s = served c.args.seat b c.serve.new.self c.serve.result c.self.invariant.home c.serve.ensures.served in
    record {
      playing =
          thread_playing b c.serve.new.self c.self.inside.actors.items c.self.inside.threads c.args.seat c.self.invariant.playing below s;
      waits =
          thread_knows b c.serve.new.self c.self.inside.actors.items c.self.inside.threads c.self.inside.last_end c.args.seat below s
          c.self.invariant.waits;
      home = served_home c.args.seat b c.serve.new.self c.serve.result c.serve.ensures.served c.self.invariant.home;
    }

use Rattle.hp_called.proofs.Follows.{follows}
use Rattle.hp_called.proofs.called.Called.follow.Goals as goal

pub returns : goal.returns
returns c = λ events lawful stands is.
    let taken = c.take.ensures in
    follows c.args.head.now events c.args.event.now c.args.self.now c.take.new.self lawful stands is
    (record { rows = taken.rows; sets = taken.sets; ending_is = taken.ending })

-- Past an entry that does again part of the state that faulted in the rollback.
use Rattle.std.proofs.Common.{◌≡◌, ◌+◌, arith}
use Rattle.hp_walk.specs.Keys.{keys_by}
use Rattle.hp_walk.proofs.Returning.{redoing_more, redoing_last}
use Rattle.hp_walk.proofs.walk.Walk.took_redoing.Goals as goal
use Rattle.hp_walk.proofs.walk.Walk.took_redoing.Goals.{then-key-keys, else-key-keys}

pub returns : goal.returns
returns g c = λ how done.
    let at = rw c.requires.position at c.requires.within.at in
    elim c.if-key-keys.branch [
      | then-key-keys w ↦
          rw w.self-is
          (redoing_more (keys_by c.args.table.now) how c.args.self.now c.args.state c.args.key c.args.keys c.args.first
          c.args.second c.requires.position c.requires.within c.key_count.ensures.distinct done w.if-key-keys.true)
      | else-key-keys w ↦
          let ends = rw c.between-dir.ensures at w.stuck-self.ensures in
          let last : c.args.key + 1 ≡ c.args.keys = omega (arith, w.if-key-keys.false, at.1) in
          rw (w.self-is, ends)
          (redoing_last (keys_by c.args.table.now) how c.args.self.now c.args.state c.args.key c.args.keys c.args.first
          c.args.second c.requires.position c.requires.within c.key_count.ensures.distinct done last)
    ]

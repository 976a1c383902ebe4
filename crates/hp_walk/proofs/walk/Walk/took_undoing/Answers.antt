-- Past an entry that undoes part of the state that faulted.
use Rattle.std.proofs.Common.{◌≡◌, ◌+◌, arith}
use Rattle.hp_walk.specs.Keys.{keys_by}
use Rattle.hp_walk.proofs.Going.{undoing_more, undoing_last}
use Rattle.hp_walk.proofs.walk.Walk.took_undoing.Goals as goal
use Rattle.hp_walk.proofs.walk.Walk.took_undoing.Goals.{then-key-keys, else-key-keys}

pub returns : goal.returns
returns g c = λ how done.
    let at = rw c.requires.position at c.requires.within.at in
    elim c.if-key-keys.branch [
      | then-key-keys w ↦
          rw w.self-is
          (undoing_more (keys_by c.args.table.now) how c.args.self.now c.args.state c.args.key c.args.keys c.args.code
          c.requires.position c.requires.within c.key_count.ensures.distinct done w.if-key-keys.true)
      | else-key-keys w ↦
          let reached = rw c.between-dir.ensures at w.state_before.ensures in
          let back = rw c.between-dir.ensures at w.opposite.ensures in
          let behind = rw (back, reached) at w.next_in_rollback-self.ensures in
          let last : c.args.key + 1 ≡ c.args.keys = omega (arith, w.if-key-keys.false, at.1) in
          rw w.self-is
          (undoing_last (keys_by c.args.table.now) how c.args.self.now c.args.state c.args.key c.args.keys c.args.code
          w.next_in_rollback-self.result c.requires.position c.requires.within c.key_count.ensures.distinct done last behind)
    ]

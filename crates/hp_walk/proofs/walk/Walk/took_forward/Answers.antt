-- Past an entry on the way to the target: the next key, the state behind it, or the rollback of a fault.
use Rattle.std.proofs.Common.{◌≡◌, ◌+◌, length, sym, arith}
use Rattle.hp_walk.specs.Keys.{keys_by}
use Rattle.hp_walk.proofs.Seen.{none_done}
use Rattle.hp_walk.proofs.Going.{forward_more, forward_last, forward_fault, forward_fault_first}
use Rattle.hp_walk.proofs.walk.Walk.took_forward.Goals as goal

pub returns-in-None : goal.returns-in-None
returns-in-None g c =
    forward_more (keys_by c.args.table.now) c.args.how c.args.self.now c.args.state c.args.key c.requires.position
    c.requires.within c.key_count.ensures.distinct (none_done c.args.how (sym c.in-None.ensures))
    (rw c.key_count.ensures.count at c.if-key_count-key.true)

pub returns-in-None-2 : goal.returns-in-None-2
returns-in-None-2 g c =
    let at = rw c.requires.position at c.requires.within.at in
    let reached = rw c.between-dir.ensures at c.state_after-self.ensures in
    let ahead = rw (c.between-dir.ensures, reached) at c.next_on_the_way-self.ensures in
    let last : c.args.key + 1 ≡ length (keys_by c.args.table.now c.args.state) =
    omega (arith, c.key_count.ensures.count, c.if-key_count-key.false, at.1)
    in
    rw reached
    (forward_last (keys_by c.args.table.now) c.args.how c.args.self.now c.args.state c.args.key c.next_on_the_way-self.result
    c.requires.position c.requires.within (none_done c.args.how (sym c.in-None-2.ensures)) last ahead)

pub returns-in-Some : goal.returns-in-Some
returns-in-Some g c =
    forward_fault (keys_by c.args.table.now) c.args.how c.args.self.now c.args.state c.args.key c.in-Some.code
    c.requires.position c.requires.within (sym c.in-Some.ensures) c.if-key-gt0.true

pub returns-in-Some-2 : goal.returns-in-Some-2
returns-in-Some-2 g c =
    let reached = rw c.between-dir.ensures at c.state_before.ensures in
    let back = rw c.between-dir.ensures at c.opposite.ensures in
    let behind = rw (back, reached) at c.next_in_rollback-self.ensures in
    let first : c.args.key ≡ 0 = omega (arith, c.if-key-gt0.false) in
    forward_fault_first (keys_by c.args.table.now) c.args.how c.args.self.now c.args.state c.args.key c.in-Some.code
    c.next_in_rollback-self.result c.requires.position c.requires.within (sym c.in-Some.ensures) first behind

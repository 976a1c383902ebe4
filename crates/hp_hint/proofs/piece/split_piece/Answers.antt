use Rattle.std.proofs.Common.{arith, length, sym}
use Rattle.std.proofs.lemmas.Bool.{eqb-false}
use Rattle.hp_script.proofs.PieceLoops.{ends, goes_on, at_last}
use Rattle.hp_hint.proofs.piece.split_piece.Goals as goal

pub returns-then-byte-end-clause-piece : goal.returns-then-byte-end-clause-piece
returns-then-byte-end-clause-piece c = ends c.args.end c.loop-i.i c.args.bytes.now c.loop-i-test.true c.if-byte-end.true c.loop-i.invariant

pub loop-i-preserved : goal.loop-i-preserved
loop-i-preserved c = goes_on c.args.end c.loop-i.i c.args.bytes.now c.loop-i-test.true c.if-byte-end.false c.loop-i.invariant

pub returns-clause-piece : goal.returns-clause-piece
returns-clause-piece c =
    let some = eqb-false (length c.args.bytes.now) 0 (sym (c.if-is_empty.ensures)) in
    at_last c.args.end c.loop-i.i c.args.bytes.now (omega (arith, some)) c.loop-i-test.false c.loop-i.invariant

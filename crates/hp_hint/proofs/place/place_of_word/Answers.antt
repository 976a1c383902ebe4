use Rattle.std.proofs.Common.{◌≡◌, ◌+◌, ◌-◌, ◌<◌, length, take, drop, subst, length-drop, arith}
use Rattle.hp_hint.proofs.Places.{SoFar, one_of, is_piece, is_piece_of, found, goes_on}
use Rattle.hp_hint.proofs.place.place_of_word.Goals as goal
use Rattle.hp_hint.proofs.place.place_of_word.Goals.{then-length-gt0+else-left-eq0, else-length-gt0}
use Rattle.hp_states.proofs.Basics.{less_apart}

pub returns-then-left-eq0 : goal.returns-then-left-eq0
returns-then-left-eq0 c =
    let p = is_piece_of c.args.line.now c.loop-piece.start (length c.in-Some.piece.now) (is_piece (take (length c.args.line.now - c.loop-piece.start) (drop c.loop-piece.start c.args.line.now)) c.in-Some.piece.now c.in-Some.field-0-1.now c.in-Some.ensures.piece c.in-Some.ensures.first c.in-Some.ensures.within c.in-Some.ensures.parted c.in-Some.ensures.behind) in
    found c.args.line.now c.loop-piece.start c.loop-piece.left c.args.number (length c.in-Some.piece.now) c.loop-piece.invariant p c.if-length-gt0.true c.if-left-eq0.true

pub loop-piece-preserved : goal.loop-piece-preserved
loop-piece-preserved c =
    let p = is_piece_of c.args.line.now c.loop-piece.start (length c.in-Some.piece.now) (is_piece (take (length c.args.line.now - c.loop-piece.start) (drop c.loop-piece.start c.args.line.now)) c.in-Some.piece.now c.in-Some.field-0-1.now c.in-Some.ensures.piece c.in-Some.ensures.first c.in-Some.ensures.within c.in-Some.ensures.parted c.in-Some.ensures.behind) in
    let more : length c.in-Some.piece.now < length c.args.line.now - c.loop-piece.start = (let w = p.within in let l = length-drop c.loop-piece.start c.args.line.now in less_apart _ _ (omega (arith, w, l)) c.if-length-line.false) in
    let fewer : c.if-length-gt0.left + one_of (length c.in-Some.piece.now) ≡ c.loop-piece.left = elim c.if-length-gt0.branch [ then-length-gt0+else-left-eq0 w ↦ (let i = w.left-is in let t = w.if-length-gt0.true in let o = w.if-left-eq0.false in omega (arith, i, t, o)) | else-length-gt0 w ↦ (let i = w.left-is in let t = w.if-length-gt0.false in omega (arith, i, t)) ] in
    let later : c.loop-piece.start + length c.in-Some.piece.now + 1 ≡ c.loop-piece.start + (length c.in-Some.piece.now + 1) = omega arith in
    subst (λ n. SoFar c.args.line.now n c.if-length-gt0.left c.args.number) later (goes_on c.args.line.now c.loop-piece.start c.loop-piece.left c.args.number (length c.in-Some.piece.now) c.if-length-gt0.left c.loop-piece.invariant p more fewer)

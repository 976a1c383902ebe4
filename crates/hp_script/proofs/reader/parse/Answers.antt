use Rattle.std.proofs.Common.{sym, subst, ℕ, List, arith}
use Rattle.hp_script.specs.Pieces.{lines}
use Rattle.hp_script.specs.Judged.{too_long}
use Rattle.hp_script.proofs.PieceLoops.{next_is}
use Rattle.hp_script.proofs.ReadLoop.{SoFar, goes_on, stops_at, ends_badly, ends_well, few_actors, no_next}
use Rattle.hp_script.proofs.reader.parse.Goals as goal

pub returns-then-bytes-clause-refused : goal.returns-then-bytes-clause-refused
returns-then-bytes-clause-refused c = too_long c.args.hooks c.args.bytes.now c.if-bytes.true

pub loop-line-preserved : goal.loop-line-preserved
loop-line-preserved c =
    let next = next_is (lines c.loop-line.rest.now) c.in-Some.line.now (lines c.in-Some.behind.now) c.in-Some.ensures.piece in
    let taken = subst (λ (rest : List (List ℕ)). SoFar c.args.hooks c.loop-line.number (lines c.args.bytes.now) rest c.loop-line.before c.loop-line.draft) next c.loop-line.invariant.taken in
    let step = c.in-Ok.ensures in
    record {
      taken = goes_on c.args.hooks c.loop-line.number (lines c.args.bytes.now) c.in-Some.line.now (lines c.in-Some.behind.now) c.loop-line.before c.take_line.new.before c.loop-line.draft c.take_line.new.draft step.0 step.1 step.2 step.3 taken;
      count = omega (arith, c.loop-line.invariant.count, c.in-Some.ensures.shorter);
    }

pub returns-in-Some-refusal_at_end-clause-refused : goal.returns-in-Some-refusal_at_end-clause-refused
returns-in-Some-refusal_at_end-clause-refused c =
    let none = no_next (lines c.loop-line.rest.now) c.in_default.ensures.piece in
    let taken = subst (λ (rest : List (List ℕ)). SoFar c.args.hooks c.loop-line.number (lines c.args.bytes.now) rest c.loop-line.before c.loop-line.draft) none c.loop-line.invariant.taken in
    ends_badly c.args.hooks c.loop-line.number c.args.bytes.now c.loop-line.before c.loop-line.draft c.in-Some-refusal_at_end.kind c.if-bytes.false (sym c.in-Some-refusal_at_end.ensures) taken

pub returns-in-None-clause-found : goal.returns-in-None-clause-found
returns-in-None-clause-found c =
    let none = no_next (lines c.loop-line.rest.now) c.in_default.ensures.piece in
    let taken = subst (λ (rest : List (List ℕ)). SoFar c.args.hooks c.loop-line.number (lines c.args.bytes.now) rest c.loop-line.before c.loop-line.draft) none c.loop-line.invariant.taken in
    ends_well c.args.hooks c.loop-line.number c.args.bytes.now c.loop-line.before c.loop-line.draft c.finish.result c.if-bytes.false (sym c.in-None.ensures) c.finish.ensures taken

pub returns-in-Err-clause-refused : goal.returns-in-Err-clause-refused
returns-in-Err-clause-refused c =
    let next = next_is (lines c.loop-line.rest.now) c.in-Some.line.now (lines c.in-Some.behind.now) c.in-Some.ensures.piece in
    let taken = subst (λ (rest : List (List ℕ)). SoFar c.args.hooks c.loop-line.number (lines c.args.bytes.now) rest c.loop-line.before c.loop-line.draft) next c.loop-line.invariant.taken in
    rw c.error_at.ensures (stops_at c.args.hooks c.loop-line.number c.args.bytes.now c.in-Some.line.now (lines c.in-Some.behind.now) c.loop-line.before c.take_line.new.before c.loop-line.draft c.take_line.new.draft c.in-Err.stop c.if-bytes.false c.in-Err.ensures taken)

pub finish-requires : goal.finish-requires
finish-requires c = few_actors c.args.hooks c.loop-line.number (lines c.args.bytes.now) (lines c.loop-line.rest.now) c.loop-line.before c.loop-line.draft c.loop-line.invariant.taken

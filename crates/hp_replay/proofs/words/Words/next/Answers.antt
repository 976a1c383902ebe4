use Rattle.std.proofs.Common.{sym, ap, ◌∙◌, length, arith}
use Rattle.hp_replay.specs.WordsLeft.{first_of, others_of, words_left}
use Rattle.hp_replay.proofs.WordForms.{NoSpaceBefore, at_space, no_space}
use Rattle.hp_replay.proofs.words.Words.next.Goals as goal

pub returns-then-byte-eq32-clause-word : goal.returns-then-byte-eq32-clause-word
returns-then-byte-eq32-clause-word c =
    let split = at_space c.in_ok-bytes.bytes.now c.loop-i.i c.loop-i-test.true c.if-byte-eq32.true c.loop-i.invariant in
    sym (ap first_of split) ∙ ap (λ left. first_of (words_left left)) (sym (c.in_ok-bytes.was {u = tt})) ∙ ap first_of c.self.view_is

pub returns-then-byte-eq32-clause-rest : goal.returns-then-byte-eq32-clause-rest
returns-then-byte-eq32-clause-rest c =
    let split = at_space c.in_ok-bytes.bytes.now c.loop-i.i c.loop-i-test.true c.if-byte-eq32.true c.loop-i.invariant in
    sym (ap others_of split) ∙ ap (λ left. others_of (words_left left)) (sym (c.in_ok-bytes.was {u = tt})) ∙ ap others_of c.self.view_is

pub returns-clause-word : goal.returns-clause-word
returns-clause-word c =
    let whole : NoSpaceBefore (length c.in_ok-bytes.bytes.now) c.in_ok-bytes.bytes.now = λ k lt. c.loop-i.invariant k (omega (arith, lt, c.loop-i-test.false)) in
    let split = no_space c.in_ok-bytes.bytes.now whole in
    sym (ap first_of split) ∙ ap (λ left. first_of (words_left left)) (sym (c.in_ok-bytes.was {u = tt})) ∙ ap first_of c.self.view_is

pub returns-clause-rest : goal.returns-clause-rest
returns-clause-rest c =
    let whole : NoSpaceBefore (length c.in_ok-bytes.bytes.now) c.in_ok-bytes.bytes.now = λ k lt. c.loop-i.invariant k (omega (arith, lt, c.loop-i-test.false)) in
    let split = no_space c.in_ok-bytes.bytes.now whole in
    sym (ap others_of split) ∙ ap (λ left. others_of (words_left left)) (sym (c.in_ok-bytes.was {u = tt})) ∙ ap others_of c.self.view_is

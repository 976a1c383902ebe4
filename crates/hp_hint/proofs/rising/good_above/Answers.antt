use Rattle.std.proofs.Common.{◌≡◌, ◌∙◌, ◌+◌, ◌^◌, ◌<◌, ℕ, suc, length, sym, ap, subst, arith}
use Rattle.hp_text.proofs.SetLoop.{taken, none_taken}
use Rattle.hp_text.specs.Numbers.{number_from, value}
use Rattle.hp_hint.specs.Forms.{IsGood, are_rising}
use Rattle.hp_hint.proofs.Risen.{next_number, no_number, rising_none, rising_bad, rising_onto, some_good}
use Rattle.hp_hint.proofs.rising.good_above.Goals as goal

pub returns-in-Err : goal.returns-in-Err
returns-in-Err g c =
    let is = taken c.in-Some.word.now (g.W.Words.left c.next_word.new.self) (g.W.Words.left c.loop-word.words) c.in-Some.ensures.word c.in-Some.ensures.rest in
    let said = c.in-Err.ensures.said ∙ ap (λ (k : ℕ). number_from c.loop-word.low k c.in-Some.word.now) c.from.ensures in
    let other = no_number c.loop-word.low c.args.limit c.in-Some.word.now c.in-Err.field-0 said in
    let none = rising_bad c.loop-word.low c.args.limit c.in-Some.word.now (g.W.Words.left c.next_word.new.self) other in
    some_good 0 c.args.low c.args.limit (g.W.Words.left c.args.words.now) c.loop-word.good c.requires.low c.requires.some
    (c.loop-word.invariant.rest 0 c.loop-word.good (subst (λ x. IsGood (are_rising c.loop-word.low c.args.limit) x 0) (sym is) none) (omega arith))

pub loop-word-preserved : goal.loop-word-preserved
loop-word-preserved g c =
    let is = taken c.in-Some.word.now (g.W.Words.left c.next_word.new.self) (g.W.Words.left c.loop-word.words) c.in-Some.ensures.word c.in-Some.ensures.rest in
    let said = c.in-Ok.ensures.said ∙ ap (λ (k : ℕ). number_from c.loop-word.low k c.in-Some.word.now) c.from.ensures in
    let fits = c.ranges.limit.fits in
    let small : c.args.limit < 2 ^ 32 = omega (arith, fits) in
    let this = next_number c.loop-word.low c.args.limit c.in-Ok.n c.in-Some.word.now small said in
    let next : value c.in-Some.word.now + 1 ≡ c.in-Ok.n + 1 = ap (λ (k : ℕ). k + 1) this.1 in
    let count = c.loop-word.invariant.count in
    let longer = ap length is in
    record {
      rest = λ n m good e. c.loop-word.invariant.rest (suc n) m
          (subst (λ x. IsGood (are_rising c.loop-word.low c.args.limit) x (suc n)) (sym is)
          (rising_onto c.loop-word.low c.args.limit (c.in-Ok.n + 1) c.in-Some.word.now (g.W.Words.left c.next_word.new.self) n this.0 next good))
          (omega (arith, e));
      count = omega (arith, count, longer);
    }

pub returns : goal.returns
returns g c =
    let is = none_taken (g.W.Words.left c.loop-word.words) c.in_default.ensures.word in
    some_good 0 c.args.low c.args.limit (g.W.Words.left c.args.words.now) c.loop-word.good c.requires.low c.requires.some
    (c.loop-word.invariant.rest 0 c.loop-word.good (subst (λ x. IsGood (are_rising c.loop-word.low c.args.limit) x 0) (sym is) (rising_none c.loop-word.low c.args.limit)) (omega arith))

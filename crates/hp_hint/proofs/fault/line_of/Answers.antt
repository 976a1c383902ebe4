use Rattle.std.proofs.Common.{◌≡◌, ◌∙◌, ◌∷◌, ◌-◌, suc, ℕ, List, Some, sym, ap, arith}
use Rattle.std.specs.Prelude.{slice_get}
use Rattle.hp_script.specs.Pieces.{lines}
use Rattle.hp_script.proofs.PieceLoops.{next_is}
use Rattle.hp_hint.proofs.fault.line_of.Goals as goal

first_there : (all : List (List ℕ)) (line : List ℕ) (later : List (List ℕ)) (left : ℕ) → all ≡ line ∷ later → left ≡ 0 → Some line ≡ slice_get all left
first_there all line later left are none = sym (ap (λ (n : ℕ). slice_get all n) none ∙ ap (λ (x : List (List ℕ)). slice_get x 0) are)

next_there : (all : List (List ℕ)) (line : List ℕ) (later : List (List ℕ)) (left : ℕ) → all ≡ line ∷ later → (left ≡ 0 → ⊥) → slice_get later (left - 1) ≡ slice_get all left
next_there all line later left are some =
    let is : left ≡ suc (left - 1) = omega (arith, some) in
    sym (ap (λ (n : ℕ). slice_get all n) is ∙ ap (λ (x : List (List ℕ)). slice_get x (suc (left - 1))) are)

pub returns-then-left-eq0 : goal.returns-then-left-eq0
returns-then-left-eq0 c =
    let are = next_is (lines c.loop-line.rest.now) c.in-Some.line.now (lines c.in-Some.behind.now) c.in-Some.ensures.piece in
    let within = c.in-Some.ensures.within in
    let fewer = c.loop-line.invariant.fewer in
    record {
      found = first_there (lines c.loop-line.rest.now) c.in-Some.line.now (lines c.in-Some.behind.now) c.loop-line.left are c.if-left-eq0.true ∙ c.loop-line.invariant.there;
      within = omega (arith, within, fewer);
    }

pub loop-line-preserved : goal.loop-line-preserved
loop-line-preserved c =
    let are = next_is (lines c.loop-line.rest.now) c.in-Some.line.now (lines c.in-Some.behind.now) c.in-Some.ensures.piece in
    let shorter = c.in-Some.ensures.shorter in
    let fewer = c.loop-line.invariant.fewer in
    record {
      there = next_there (lines c.loop-line.rest.now) c.in-Some.line.now (lines c.in-Some.behind.now) c.loop-line.left are c.if-left-eq0.false ∙ c.loop-line.invariant.there;
      fewer = omega (arith, shorter, fewer);
    }

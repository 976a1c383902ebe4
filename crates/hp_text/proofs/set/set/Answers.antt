use Rattle.std.proofs.Common.{◌≡◌, ◌∷◌, ℕ, List, Err, refl, ap, ◌∙◌, subst, arith}
use Rattle.std.proofs.lemmas.Grind.{common_steps}
use Rattle.hp_model.specs.SetOf.{IsSet}
use Rattle.hp_text.proofs.SetLoop.{SoFar, taken, none_taken, next_number, no_number, out_of_place, at_start, one_more, stops, leaves, none_read, all_read}
use Rattle.hp_text.proofs.set.set.Goals as goal

pub loop-word-init : goal.loop-word-init
loop-word-init g c =
    let is : IsSet c.none-set.result = grind (arith, common_steps) in
    at_start c.none-set.result (g.W.Words.left c.args.words.now) is c.none-set.ensures

pub loop-word-preserved : goal.loop-word-preserved
loop-word-preserved g c =
    let w = c.in-Some.word.now in
    let ws = g.W.Words.left c.next_word.new.self in
    let all = g.W.Words.left c.args.words.now in
    let left : g.W.Words.left c.loop-word.words ≡ w ∷ ws = taken w ws _ c.in-Some.ensures.word c.in-Some.ensures.rest in
    let so_far : SoFar c.loop-word.set c.loop-word.low (w ∷ ws) all = subst (λ (vs : List (List ℕ)). SoFar c.loop-word.set c.loop-word.low vs all) left c.loop-word.invariant in
    one_more c.loop-word.set c.put_number.new.set c.loop-word.low c.in-Ok.cpu w ws all so_far
    (next_number c.loop-word.low c.in-Ok.cpu w c.in-Ok.ensures.said) (c.put_number.ensures _ so_far.set_is)

pub returns-in-Err-NotOfForm : goal.returns-in-Err-NotOfForm
returns-in-Err-NotOfForm g c =
    let w = c.in-Some.word.now in
    let ws = g.W.Words.left c.next_word.new.self in
    let all = g.W.Words.left c.args.words.now in
    let left : g.W.Words.left c.loop-word.words ≡ w ∷ ws = taken w ws _ c.in-Some.ensures.word c.in-Some.ensures.rest in
    let so_far : SoFar c.loop-word.set c.loop-word.low (w ∷ ws) all = subst (λ (vs : List (List ℕ)). SoFar c.loop-word.set c.loop-word.low vs all) left c.loop-word.invariant in
    stops c.loop-word.set c.loop-word.low w ws all so_far (no_number c.loop-word.low w (rw c.in-Err-NotOfForm.field-0-is at c.in-Err-NotOfForm.ensures.said))

pub returns-in-Err-OutOfRange : goal.returns-in-Err-OutOfRange
returns-in-Err-OutOfRange g c =
    let w = c.in-Some.word.now in
    let ws = g.W.Words.left c.next_word.new.self in
    let all = g.W.Words.left c.args.words.now in
    let left : g.W.Words.left c.loop-word.words ≡ w ∷ ws = taken w ws _ c.in-Some.ensures.word c.in-Some.ensures.rest in
    let so_far : SoFar c.loop-word.set c.loop-word.low (w ∷ ws) all = subst (λ (vs : List (List ℕ)). SoFar c.loop-word.set c.loop-word.low vs all) left c.loop-word.invariant in
    let out = out_of_place c.loop-word.low w (rw c.in-Err-OutOfRange.field-0-is at c.in-Err-OutOfRange.ensures.said) in
    ap (λ u. Err u) c.out_of_range.ensures ∙ leaves c.loop-word.set c.loop-word.low w ws all so_far out.0 out.1 _ refl

pub returns-then-low-eq0 : goal.returns-then-low-eq0
returns-then-low-eq0 g c =
    let all = g.W.Words.left c.args.words.now in
    let none = none_taken _ c.in_default.ensures.word in
    none_read c.loop-word.set c.loop-word.low all (subst (λ (vs : List (List ℕ)). SoFar c.loop-word.set c.loop-word.low vs all) none c.loop-word.invariant) c.if-low-eq0.true

pub returns : goal.returns
returns g c =
    let all = g.W.Words.left c.args.words.now in
    let none = none_taken _ c.in_default.ensures.word in
    all_read c.loop-word.set c.loop-word.low all (subst (λ (vs : List (List ℕ)). SoFar c.loop-word.set c.loop-word.low vs all) none c.loop-word.invariant) c.if-low-eq0.false

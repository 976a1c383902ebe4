use Rattle.std.proofs.Common.{◌≡◌, ◌+◌, take, get_or, to_z, of_z, refl, sym, ◌∙◌, arith}
use Rattle.std.specs.Prelude.{pos, ◌+ℤ◌, fold}
use Rattle.std.specs.Int.{w128}
use Rattle.std.proofs.lemmas.Int.{to_z-of_z}
use Rattle.std.proofs.lemmas.List.{take_all}
use Rattle.hp_pcount.specs.Inside.{tally}
use Rattle.hp_pcount.proofs.Sums.{fold_step, step_size, fold_near, fits_128, part_read}
use Rattle.hp_pcount.proofs.Tallies.{total_fits, parts_near}
use Rattle.hp_pcount.proofs.counters.Counters.total.Goals as goal

-- what the loop adds is the part itself
added_is : (c : goal.After-from-total) →
    to_z w128 (of_z w128 c.from-total.result) ≡ get_or c.self.inside.parts c.loop-part.part-index (pos 0)
added_is c =
    let ps = c.self.inside.parts in
    let i = c.loop-part.part-index in
    let small = c.self.invariant.within i in
    let most = c.self.invariant.batch_is in
    let p = part_read (get_or ps i (pos 0)) c.from-total.result c.from-total.ensures (omega arith) in
    rw p (to_z-of_z w128 (get_or ps i (pos 0)) (fits_128 (get_or ps i (pos 0)) (omega arith)))

-- and so the sum is that of one part more
next_is : (c : goal.After-from-total) →
    to_z w128 c.loop-part.total-bits +ℤ to_z w128 (of_z w128 c.from-total.result)
    ≡ fold ◌+ℤ◌ c.args.self.now.base (take (c.loop-part.part-index + 1) c.self.inside.parts)
next_is c =
    let l = c.self.told in
    rw (added_is c, c.loop-part.invariant)
    (sym (fold_step c.args.self.now.base c.self.inside.parts c.loop-part.part-index (omega arith)))

pub overflow_add-total : goal.overflow_add-total
overflow_add-total c =
    let ps = c.self.inside.parts in
    let i = c.loop-part.part-index in
    let s = step_size c.self.inside.base ps i (let l = c.self.told in omega arith) in
    let z = total_fits (tally c.self.inside) c.self.invariant in
    let view = c.self.view_is in
    rw (added_is c, c.loop-part.invariant, ← view)
    (fits_128 (fold ◌+ℤ◌ c.self.inside.base (take i ps) +ℤ get_or ps i (pos 0)) (omega arith))

pub loop-part-preserved : goal.loop-part-preserved
loop-part-preserved c = to_z-of_z w128 _ (overflow_add-total c) ∙ next_is c

pub returns-clause-exactly : goal.returns-clause-exactly
returns-clause-exactly c =
    let l = c.self.told in
    let view = c.self.view_is in
    rw (c.loop-part.invariant, take_all c.loop-part.part-index c.self.inside.parts (omega arith), ← view) refl

pub returns-clause-near : goal.returns-clause-near
returns-clause-near c =
    let l = c.self.told in
    let view = c.self.view_is in
    rw (c.loop-part.invariant, take_all c.loop-part.part-index c.self.inside.parts (omega arith), ← view)
    (fold_near _ c.self.inside.base c.self.inside.parts (parts_near (tally c.self.inside) c.self.invariant))

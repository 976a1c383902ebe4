use Rattle.std.proofs.Common.{◌∙◌, ◌&&◌, eqb, cond, true, false, is_some, ap, sym, subst}
use Rattle.indexmap.specs.IndexMap.{get}
use Rattle.hp_called.specs.declared.rows.RowKey.{RowKey}
use Rattle.hp_called.specs.Rows.{row_key, same_row, is_in, is_up, IsPlaceOf}
use Rattle.hp_called.proofs.RowLemmas.{written, rows_stay, put_there, taken_there}
use Rattle.hp_called.proofs.rows.Rows.write.Goals as goal

pub returns-in-Up-clause-rows : goal.returns-in-Up-clause-rows
returns-in-Up-clause-rows c = λ k.
    let same = c.in-Some.ensures.same in
    let set = c.pair_mut-set in
    let place = c.in-Some.place in
    let at = subst (λ m. IsPlaceOf m c.of.result place) (sym same) c.in-Some.ensures.some in
    let w = written c.place.new.self.sets c.of.result set.result.0.now place set.result.1.now c.put.new.self set.ensures.unique at set.ensures.value in
    rows_stay c.args.self.now.sets c.place.new.self.sets same c.of.result place set.result.1.now c.put.new.self w (row_key k)

pub returns-in-Down-clause-rows : goal.returns-in-Down-clause-rows
returns-in-Down-clause-rows c = λ k.
    let same = c.in-Some.ensures.same in
    let set = c.pair_mut-set in
    let place = c.in-Some.place in
    let at = subst (λ m. IsPlaceOf m c.of.result place) (sym same) c.in-Some.ensures.some in
    let w = written c.place.new.self.sets c.of.result set.result.0.now place set.result.1.now c.take.new.self set.ensures.unique at set.ensures.value in
    rows_stay c.args.self.now.sets c.place.new.self.sets same c.of.result place set.result.1.now c.take.new.self w (row_key k)

pub returns-in-Up-clause-sets : goal.returns-in-Up-clause-sets
returns-in-Up-clause-sets c = λ k d.
    let same = c.in-Some.ensures.same in
    let set = c.pair_mut-set in
    let place = c.in-Some.place in
    let old = get same_row c.args.self.now.sets (row_key k) in
    let at = subst (λ m. IsPlaceOf m c.of.result place) (sym same) c.in-Some.ensures.some in
    let w = written c.place.new.self.sets c.of.result set.result.0.now place set.result.1.now c.put.new.self set.ensures.unique at set.ensures.value in
    put_there c.args.self.now.sets c.place.new.self.sets same c.of.result place set.result.1.now c.put.new.self w c.args.cpu d (c.put.ensures d)
    (row_key k)
    ∙ (ap (λ (q : RowKey). cond (is_some old && (same_row q (row_key k) && eqb c.args.cpu d)) true (is_in old d)) c.of.ensures
    ∙ ap (λ way. cond (is_some old && (same_row (row_key c.args.key) (row_key k) && eqb c.args.cpu d)) (is_up way) (is_in old d)) (sym c.in-Up.is))

pub returns-in-Down-clause-sets : goal.returns-in-Down-clause-sets
returns-in-Down-clause-sets c = λ k d.
    let same = c.in-Some.ensures.same in
    let set = c.pair_mut-set in
    let place = c.in-Some.place in
    let old = get same_row c.args.self.now.sets (row_key k) in
    let at = subst (λ m. IsPlaceOf m c.of.result place) (sym same) c.in-Some.ensures.some in
    let w = written c.place.new.self.sets c.of.result set.result.0.now place set.result.1.now c.take.new.self set.ensures.unique at set.ensures.value in
    taken_there c.args.self.now.sets c.place.new.self.sets same c.of.result place set.result.1.now c.take.new.self w c.args.cpu d (c.take.ensures d)
    (row_key k)
    ∙ (ap (λ (q : RowKey). cond (is_some old && (same_row q (row_key k) && eqb c.args.cpu d)) false (is_in old d)) c.of.ensures
    ∙ ap (λ way. cond (is_some old && (same_row (row_key c.args.key) (row_key k) && eqb c.args.cpu d)) (is_up way) (is_in old d)) (sym c.in-Down.is))

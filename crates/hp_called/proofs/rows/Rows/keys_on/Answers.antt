use Rattle.std.proofs.Common.{◌≡◌, ◌++◌, ◌∷◌, [], cond, take, Vec, Global, ap, sym, ◌∙◌}
use Rattle.hp_event.specs.declared.key.Key.{Key}
use Rattle.hp_states.specs.declared.cpu_set.CpuSet.{CpuSet}
use Rattle.hp_called.specs.declared.rows.RowKey.{RowKey}
use Rattle.hp_called.specs.Listed.{key_of, keys_on}
use Rattle.hp_called.proofs.KeysListed.{keys_on_more}
use Rattle.hp_called.proofs.rows.Rows.keys_on.Goals as goal
use Rattle.hp_called.proofs.rows.Rows.keys_on.Goals.{then-is_in+in_ok-push, else-is_in}

pub loop-place-preserved : goal.loop-place-preserved
loop-place-preserved c =
    let es = c.args.self.now.sets.entries in
    let n = c.loop-place.place in
    let e : RowKey × CpuSet = (c.in-Some.row.now, c.in-Some.set.now) in
    let more = keys_on_more c.args.cpu es n e (sym c.in-Some.ensures.entry) in
    let before = keys_on c.args.cpu (take n es) in
    let same : c.loop-place.keys.items ≡ before = c.loop-place.invariant in
    elim c.if-is_in.branch [
      | then-is_in+in_ok-push w ↦
          ap (λ (v : Vec Key Global). v.items) w.keys-is
          ∙ (w.in_ok-push.ensures.items
          ∙ (ap (λ k. c.loop-place.keys.items ++ k ∷ []) w.key.ensures
          ∙ (ap (λ ks. ks ++ key_of c.in-Some.row.now ∷ []) same
          ∙ sym (more ∙ ap (λ b. cond b (before ++ key_of c.in-Some.row.now ∷ []) before) (sym c.is_in.ensures ∙ w.if-is_in.true)))))
      | else-is_in w ↦
          ap (λ (v : Vec Key Global). v.items) w.keys-is
          ∙ (same ∙ sym (more ∙ ap (λ b. cond b (before ++ key_of c.in-Some.row.now ∷ []) before) (sym c.is_in.ensures ∙ w.if-is_in.false)))
    ]

use Rattle.std.proofs.Common.{rules, ◌≡◌, refl, sym, ap, ◌∙◌, arith}
use Rattle.hp_work.specs.Work.{Work}
use Rattle.hp_work.specs.Changes.{put_on}
use Rattle.hp_work.specs.Worked.{put_if_room}
use Rattle.hp_work.proofs.Through.{done_none, done_one, put_all, opened_put, with_room, without_room}
use Rattle.hp_work.proofs.going.put_on_each.Goals.{then-count-lt-MAX_ITEMS, else-count-lt-MAX_ITEMS}
use Rattle.hp_work.proofs.going.put_on_each.Goals as goal

pub loop-cpu-init : goal.loop-cpu-init
loop-cpu-init c = record {
  so_far = sym (done_none put_if_room c.args.queues.now);
  opened_same = refl;
  within = omega arith;
}

stepped : (c : goal.Joined-count-lt-MAX_ITEMS) → c.if-count-lt-MAX_ITEMS.queues ≡ put_if_room c.loop-cpu.queues c.in-Some.cpu
stepped c =
    let u = c.loop-cpu.queues in
    let cpu = c.in-Some.cpu in
    let many = c.count.ensures.exactly in
    elim c.if-count-lt-MAX_ITEMS.branch [
      | then-count-lt-MAX_ITEMS w ↦
          let put : w.put.new.self ≡ put_on cpu u = search rules in
          w.queues-is ∙ (put ∙ sym (with_room u cpu (let t = w.if-count-lt-MAX_ITEMS.true in omega (arith, t, many))))
      | else-count-lt-MAX_ITEMS w ↦
          w.queues-is ∙ sym (without_room u cpu (let t = w.if-count-lt-MAX_ITEMS.false in omega (arith, t, many)))
    ]

pub loop-cpu-preserved : goal.loop-cpu-preserved
loop-cpu-preserved c =
    let t = c.args.queues.now in
    let u = c.loop-cpu.queues in
    let first = c.in-Some.ensures.some in
    let cpu = c.in-Some.cpu in
    let inv = c.loop-cpu.invariant in
    let near = first.within in
    record {
      so_far = stepped c ∙ done_one put_if_room t u c.loop-cpu.from cpu inv.so_far inv.opened_same first;
      opened_same = ap (λ (w : Work). w.opened) (stepped c) ∙ (opened_put u cpu ∙ inv.opened_same);
      within = omega (arith, near);
    }

pub returns : goal.returns
returns c =
    let inv = c.loop-cpu.invariant in
    put_all c.args.queues.now c.loop-cpu.queues c.loop-cpu.from inv.within inv.so_far inv.opened_same c.in_default.ensures.none

use Rattle.std.proofs.Common.{get_or, ap, sym, ◌∙◌, arith}
use Rattle.std.proofs.lemmas.List.{take_all}
use Rattle.std.proofs.lemmas.List.Elements.{All-get_or}
use Rattle.hp_event.specs.declared.event.Event.TheVariants.{Admit}
use Rattle.hp_event.specs.declared.event.Role.TheVariants.{Client}
use Rattle.hp_model.proofs.RoomKept.{promises_fit}
use Rattle.hp_pcount.specs.Tally.{Tally, total, none_added}
use Rattle.hp_pcount.specs.Changes.{followed}
use Rattle.hp_pcount.specs.Counted.{counted, one_on_each}
use Rattle.hp_pcount.specs.Places.{HasPart}
use Rattle.hp_pcount.proofs.Stepping.{parts_lawful}
use Rattle.hp_pcount.proofs.Additions.{adds_followed}
use Rattle.hp_pcount.proofs.Totals.{counted_none, counted_more, total_counted}
use Rattle.hp_pcount.proofs.counting.count.Goals as goal

pub loop-event-init : goal.loop-event-init
unfolding none_added
loop-event-init c = record {
  so_far = c.new-counters.ensures.none ∙ sym (counted_none c.args.state c.args.batch);
  few = let e = ap (λ (t : Tally). t.adds) c.new-counters.ensures.none in omega arith;
}

pub follow-requires : goal.follow-requires
follow-requires c =
    let same = c.events-event-items.ensures in
    let j = c.args.journal.now in
    rw same
    (All-get_or HasPart j.events c.loop-event.event-index (Admit 0 Client) (rw same at c.loop-event-test.true)
    (parts_lawful j.head j.events c.requires.lawful))

pub one_on_each-requires : goal.one_on_each-requires
one_on_each-requires c =
    let j = c.args.journal.now in
    let fit = promises_fit j.head j.events c.requires.lawful in
    let l = rw c.events-event-items.ensures at c.loop-event-test.true in
    let few = c.loop-event.invariant.few in
    let a = ap (λ (t : Tally). t.adds) c.follow.ensures.exactly in
    let e = adds_followed c.loop-event.counters (get_or c.events-event-items.result.now c.loop-event.event-index (Admit 0 Client)) in
    omega arith

pub loop-event-preserved : goal.loop-event-preserved
loop-event-preserved c =
    let xs = c.events-event-items.result.now in
    let i = c.loop-event.event-index in
    let t = c.loop-event.counters in
    let inv = c.loop-event.invariant in
    let more = counted_more c.args.state c.args.batch xs i (Admit 0 Client) c.loop-event-test.true in
    let a = ap (λ (t : Tally). t.adds) c.follow.ensures.exactly in
    let e = adds_followed t (get_or xs i (Admit 0 Client)) in
    let o = c.one_on_each.ensures.few in
    let few = inv.few in
    record {
      so_far =
          c.one_on_each.ensures.exactly
          ∙ (ap one_on_each (c.follow.ensures.exactly ∙ ap (followed (get_or xs i (Admit 0 Client))) inv.so_far) ∙ sym more);
      few = omega arith;
    }

pub returns-clause-total : goal.returns-clause-total
returns-clause-total c =
    let j = c.args.journal.now in
    let xs = c.events-event-items.result.now in
    let same = c.events-event-items.ensures in
    let all = c.loop-event.invariant.so_far
    ∙ ap (counted c.args.state c.args.batch) (take_all c.loop-event.event-index xs c.loop-event-test.false ∙ same) in
    ap total all ∙ total_counted j.head c.args.state c.args.batch j.events c.requires.lawful

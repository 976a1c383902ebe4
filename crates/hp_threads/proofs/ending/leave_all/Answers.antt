-- The seats of the processors' threads leave, one after another.
use Rattle.std.proofs.Common.{◌≡◌, ◌∙◌, subst, All, List, length, arith}
use Rattle.std.proofs.lemmas.List.Elements.{All-tail}
use Rattle.std.specs.Vec.Iter.{into_iter_items}
use Rattle.hp_live.specs.Known.{Seated}
use Rattle.hp_threads.specs.Jobs.{CanServe}
use Rattle.hp_threads.proofs.Meeting.{leaving_one, leaving_all}
use Rattle.hp_threads.proofs.Pairing.{nil_of}
use Rattle.hp_threads.proofs.ending.leave_all.Goals as goal

pub loop-pass-preserved : goal.loop-pass-preserved
loop-pass-preserved g c =
    let i = c.loop-pass.invariant in
    let e = c.leave_one.ensures in
    record {
      can_next = tt;
      is_finite = tt;
      own = e.same.0 ∙ i.own;
      same = (e.same.0 ∙ i.same.0, e.same.1 ∙ i.same.1);
      ready =
          All-tail (CanServe c.args.machine.now) c.in-Some.pass (into_iter_items c.next.new.self)
          (subst (λ (w : List Seated). All (CanServe c.args.machine.now) w) c.in-Some.ensures.steps.0 i.ready);
      leaving =
          leaving_one c.args.passes.items (into_iter_items c.loop-pass.pass-iterator) (into_iter_items c.next.new.self) c.in-Some.pass
          c.args.root.now.front c.loop-pass.root.front c.leave_one.new.root.front c.in-Some.ensures.steps.0 e.gone i.leaving;
    }

pub returns : goal.returns
returns g c =
    let i = c.loop-pass.invariant in
    let none : length (into_iter_items c.loop-pass.pass-iterator) ≡ 0 =
    omega (arith, c.loop-pass.pass-iterator.rest.ok.0, c.in-None.ensures.steps.0) in
    record {
      same = i.same;
      gone =
          leaving_all c.args.passes.items (into_iter_items c.loop-pass.pass-iterator) c.args.root.now.front c.loop-pass.root.front
          (nil_of (into_iter_items c.loop-pass.pass-iterator) none) i.leaving;
    }

-- The root meets what each seat left.
use Rattle.std.proofs.Common.{◌≡◌, ◌∙◌, sym, refl, subst, All, List, length, arith, true, None}
use Rattle.std.proofs.lemmas.List.Elements.{All-tail}
use Rattle.std.specs.Vec.Iter.{into_iter_items}
use Rattle.hp_live.specs.Known.{Gone}
use Rattle.hp_turn.proofs.Stories.{knows_prefix, knows_self}
use Rattle.hp_threads.proofs.Meeting.{IsHeld, met_none, met_one, met_all}
use Rattle.hp_threads.proofs.Pairing.{nil_of}
use Rattle.hp_threads.proofs.Staying.{knows_on}
use Rattle.hp_threads.proofs.ending.meet_all.Goals as goal

pub loop-left-init : goal.loop-left-init
loop-left-init g c =
    let e = c.into_iter-left-iterator.ensures.into_iter_gives.0 in
    record {
      can_next = tt;
      is_finite = tt;
      own = c.requires.own;
      same = (refl, refl);
      ready = subst (λ (w : List Gone). All (IsHeld c.args.machine.now) w) (sym e) c.requires.lefts;
      begins = knows_self None true c.args.root.now.front;
      met = met_none c.args.lefts.items (into_iter_items c.into_iter-left-iterator.result) c.args.root.now.front e;
    }

pub loop-left-preserved : goal.loop-left-preserved
loop-left-preserved g c =
    let i = c.loop-left.invariant in
    let e = c.meet.ensures in
    record {
      can_next = tt;
      is_finite = tt;
      own = e.same.0 ∙ i.own;
      same = (e.same.0 ∙ i.same.0, e.same.1 ∙ i.same.1);
      ready =
          All-tail (IsHeld c.args.machine.now) c.in-Some.left (into_iter_items c.next.new.self)
          (subst (λ (w : List Gone). All (IsHeld c.args.machine.now) w) c.in-Some.ensures.steps.0 i.ready);
      begins = knows_on c.args.root.now.front c.loop-left.root.front c.meet.new.root.front i.begins e.knew;
      met =
          met_one c.args.lefts.items (into_iter_items c.loop-left.left-iterator) (into_iter_items c.next.new.self) c.in-Some.left
          c.loop-left.root.front c.meet.new.root.front c.in-Some.ensures.steps.0
          (knows_prefix None true c.loop-left.root.front c.meet.new.root.front e.knew) e.whole i.met;
    }

pub returns : goal.returns
returns g c =
    let i = c.loop-left.invariant in
    let none : length (into_iter_items c.loop-left.left-iterator) ≡ 0 =
    omega (arith, c.loop-left.left-iterator.rest.ok.0, c.in-None.ensures.steps.0) in
    record {
      same = i.same;
      begins = i.begins;
      met =
          met_all c.args.lefts.items (into_iter_items c.loop-left.left-iterator) c.loop-left.root.front
          (nil_of (into_iter_items c.loop-left.left-iterator) none) i.met;
    }

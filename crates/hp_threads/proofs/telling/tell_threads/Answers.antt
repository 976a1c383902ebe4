-- The processors' threads hear, one after another.
use Rattle.std.proofs.Common.{sym, ◌∙◌, subst, All, List}
use Rattle.std.proofs.lemmas.List.Elements.{All-head, All-tail}
use Rattle.std.specs.Vec.Iter.{into_iter_items}
use Rattle.hp_live.specs.Known.{IsOf, Known, Seated}
use Rattle.hp_threads.specs.Admitting.{HasHeard, IsSeated}
use Rattle.hp_threads.proofs.Hearing.{telling_one}
use Rattle.hp_threads.proofs.telling.tell_threads.Goals as goal

pub tell_thread-requires-clause-own : goal.tell_thread-requires-clause-own
tell_thread-requires-clause-own g c κs within =
    subst (λ (k : Known). IsOf c.args.machine.now k.lock) (sym c.loop-pass.invariant.root) c.requires.own

pub tell_thread-requires-clause-pass : goal.tell_thread-requires-clause-pass
tell_thread-requires-clause-pass g c κs within =
    let i = c.loop-pass.invariant in
    subst (λ (k : Known). IsSeated k.lock k.head c.in-Some.pass) (sym i.root)
    (All-head (IsSeated c.args.root.now.lock c.args.root.now.head) c.in-Some.pass (into_iter_items c.next.new.self)
    (subst (λ (w : List Seated). All (IsSeated c.args.root.now.lock c.args.root.now.head) w) c.in-Some.ensures.steps.0 i.ready))

pub loop-pass-preserved : goal.loop-pass-preserved
loop-pass-preserved g c =
    let i = c.loop-pass.invariant in
    let e = c.tell_thread.ensures in
    record {
      can_next = tt;
      is_finite = tt;
      root = e.root ∙ i.root;
      ready =
          All-tail (IsSeated c.args.root.now.lock c.args.root.now.head) c.in-Some.pass (into_iter_items c.next.new.self)
          (subst (λ (w : List Seated). All (IsSeated c.args.root.now.lock c.args.root.now.head) w) c.in-Some.ensures.steps.0 i.ready);
      telling =
          telling_one c.args.root.now.front c.args.passes.items (into_iter_items c.loop-pass.pass-iterator)
          (into_iter_items c.next.new.self) c.loop-pass.told.items c.push.new.self.items c.in-Some.pass c.tell_thread.result
          c.in-Some.ensures.steps.0 c.in_ok-push.ensures.items i.telling
          (subst (λ (k : Known). HasHeard k.front c.in-Some.pass c.tell_thread.result) i.root e.heard);
    }

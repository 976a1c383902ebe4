use Rattle.std.proofs.Common.{◌≡◌, sym, arith}
use Rattle.hp_timeline.specs.Spans.{ended_at, span_text}
use Rattle.hp_timeline.proofs.Lasting.{on_ok_so, drawn_none, drawn_more, lasting}
use Rattle.hp_timeline.proofs.drawing.append_lasting.Goals as goal

pub loop-place-init : goal.loop-place-init
loop-place-init c = record {
  scene = c.in_ok-scene.ensures;
  tracks = c.in_ok-tracks.ensures;
  drawn =
      drawn_none (span_text c.args.sheet.now c.args.events.now) (ended_at c.args.events.now) c.args.sheet.now.window.before
      c.args.out.now.items;
}

pub loop-place-preserved : goal.loop-place-preserved
loop-place-preserved c = record {
  scene = c.in_ok-advance.ensures.scene;
  tracks = c.in_ok-advance.ensures.tracks;
  drawn =
      drawn_more (span_text c.args.sheet.now c.args.events.now) (ended_at c.args.events.now) c.args.sheet.now.window.before
      c.loop-place.place c.args.out.now.items c.loop-place.out.items c.append_ended.new.out.items (omega arith)
      c.loop-place.invariant.drawn c.in_ok-append_ended.ensures;
}

pub returns : goal.returns
returns c =
    let all : c.loop-place.place ≡ c.args.sheet.now.window.until = omega (arith, c.loop-place.auto.place-end c.requires.window.rises) in
    on_ok_so c.append_tracks.result _ _
    (λ made.
    lasting c.args.head.now c.args.events.now c.args.sheet.now.window c.args.sheet.now c.loop-place.scene c.deref.result.now
    c.args.out.now.items c.loop-place.out.items c.append_going.new.out.items c.append_tracks.new.out.items
    c.requires.sheet (rw all at c.loop-place.invariant.scene)
    (rw c.deref.ensures.value (rw all at c.loop-place.invariant.tracks)) (rw all at c.loop-place.invariant.drawn)
    (rw c.saturating_sub-last.ensures at c.in_ok-append_going.ensures) made)
    c.append_tracks.ensures

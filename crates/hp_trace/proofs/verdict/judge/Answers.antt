use Rattle.std.proofs.Common.{◌≡◌, Ok, refl, sym, ap, ◌∙◌, length, arith}
use Rattle.hp_trace.specs.declared.event.Said.{Said}
use Rattle.hp_trace.specs.declared.verdict.Place.{Place}
use Rattle.hp_trace.specs.Said.{said_of}
use Rattle.hp_trace.specs.Judged.{step}
use Rattle.hp_trace.proofs.VerdictLaws.{few_pieces, judged_more, one_less, counts}
use Rattle.hp_trace.proofs.verdict.judge.Goals as goal

pub loop-line-init : goal.loop-line-init
loop-line-init c =
    let few = few_pieces 10 c.args.bytes.now in
    let same = ap length c.of-lines.ensures in
    let line = ap (λ (p : Place). p.line) c.first-place.ensures in
    let events = ap (λ (p : Place). p.events) c.first-place.ensures in
    record {
      said = refl;
      few = omega (arith, few, same, line);
      events = omega (arith, line, events);
    }

pub loop-line-preserved : goal.loop-line-preserved
loop-line-preserved c =
    let p = c.loop-line.place in
    let q = c.in-Ok.next in
    let lines = c.loop-line.lines in
    let line = c.in-Some.line.now in
    let ls = c.next.new.self in
    let more = sym c.is_done.ensures ∙ c.if-is_done.false in
    let stepped = sym c.behind.ensures ∙ c.in-Ok.is in
    let at_line : step p (said_of line) ≡ Ok q = sym (ap (λ (s : Said). step p s) c.said_of.ensures) ∙ stepped in
    let less = one_less lines line ls c.in-Some.ensures.piece c.next.ensures.rest in
    let count = counts p q c.said_of.result stepped in
    record {
      said = judged_more p q lines line ls c.in-Some.ensures.piece c.next.ensures.rest more at_line ∙ c.loop-line.invariant.said;
      few = omega (arith, less, count.line, c.loop-line.invariant.few);
      events = omega (arith, count.line, count.events, c.loop-line.invariant.events);
    }

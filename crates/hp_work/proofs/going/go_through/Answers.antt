use Rattle.std.proofs.Common.{◌≡◌, ◌≢◌, ◌+◌, ◌%◌, get_or, refl, ap, sym, ◌∙◌}
use Rattle.std.proofs.lemmas.Bool.{eq-eqb, ne_eqb}
use Rattle.std.proofs.lemmas.List.{take_all}
use Rattle.std.proofs.lemmas.List.Elements.{All-get_or}
use Rattle.hp_event.specs.declared.event.Event.TheVariants.{Admit}
use Rattle.hp_event.specs.declared.event.Role.TheVariants.{Client}
use Rattle.hp_work.specs.Changes.{followed}
use Rattle.hp_work.specs.Follows.{HasQueue}
use Rattle.hp_work.specs.Worked.{put_on_each, run_on_each, run_if, worked_step, worked}
use Rattle.hp_work.proofs.Following.{queues_lawful}
use Rattle.hp_work.proofs.Through.{worked_none, worked_more}
use Rattle.hp_work.proofs.going.go_through.Goals.{then-number-eq0, else-number-eq0}
use Rattle.hp_work.proofs.going.go_through.Goals as goal

pub loop-event-init : goal.loop-event-init
loop-event-init c = record {
  so_far = c.in_ok-queues.ensures.none ∙ sym (worked_none c.args.state);
  number_is = refl;
}

pub follow-requires : goal.follow-requires
follow-requires c =
    let same = c.events-event-items.ensures in
    let j = c.args.journal.now in
    rw same
    (All-get_or HasQueue j.events c.loop-event.event-index (Admit 0 Client) (rw same at c.loop-event-test.true)
    (queues_lawful j.head j.events c.requires.lawful))

stepped : (c : goal.Joined-number-eq0) →
    c.if-number-eq0.queues
    ≡ worked_step c.loop-event.queues (c.loop-event.event-index + 1) (get_or c.events-event-items.result.now c.loop-event.event-index (Admit 0 Client))
stepped c =
    let n = c.loop-event.event-index + 1 in
    let put = put_on_each (followed (get_or c.events-event-items.result.now c.loop-event.event-index (Admit 0 Client)) c.loop-event.queues) in
    let is : c.put_on_each.new.queues ≡ put = c.put_on_each.ensures ∙ ap put_on_each c.follow.ensures.exactly in
    let number : c.loop-event.number + 1 ≡ n = ap (λ k. k + 1) c.loop-event.invariant.number_is in
    elim c.if-number-eq0.branch [
      | then-number-eq0 w ↦
          let third : n % 3 ≡ 0 = ap (λ k. k % 3) (sym number) ∙ w.if-number-eq0.true in
          w.queues-is ∙ (w.run_on_each.ensures ∙ (ap run_on_each is ∙ sym (ap (λ b. run_if b put) (eq-eqb (n % 3) 0 third))))
      | else-number-eq0 w ↦
          let other : n % 3 ≢ 0 = λ e. w.if-number-eq0.false (ap (λ k. k % 3) number ∙ e) in
          w.queues-is ∙ (is ∙ sym (ap (λ b. run_if b put) (ne_eqb (n % 3) 0 other)))
    ]

pub loop-event-preserved : goal.loop-event-preserved
loop-event-preserved c =
    let xs = c.events-event-items.result.now in
    let i = c.loop-event.event-index in
    let inv = c.loop-event.invariant in
    let more = worked_more c.args.state xs i (Admit 0 Client) c.loop-event-test.true in
    record {
      so_far =
          stepped c
          ∙ (ap (λ w. worked_step w (i + 1) (get_or xs i (Admit 0 Client))) inv.so_far ∙ sym more);
      number_is = ap (λ n. n + 1) inv.number_is;
    }

pub returns : goal.returns
returns c =
    let xs = c.events-event-items.result.now in
    let same = c.events-event-items.ensures in
    c.loop-event.invariant.so_far
    ∙ ap (worked c.args.state) (take_all c.loop-event.event-index xs c.loop-event-test.false ∙ same)

use Rattle.std.proofs.Common.{◌≡◌, ◌<◌, ◌++◌, ◌∷◌, [], length, get_or, sym, subst, ◌∙◌, arith}
use Rattle.std.specs.Prelude.{IfOk}
use Rattle.std.proofs.lemmas.List.{length_push}
use Rattle.std.proofs.lemmas.Iterator.Consumers.{YieldsList-turn, YieldsList-end}
use Rattle.std.proofs.lemmas.Iterator.Adapters.{YieldsList-from_vec}
use Rattle.hp_work.specs.Drained.{queue_at}
use Rattle.hp_work.proofs.Draining.{queues_more, queues_all, answered}
use Rattle.hp_work.proofs.drain.collected.Goals as goal

pub loop-queue-init : goal.loop-queue-init
loop-queue-init g c = c.new-queues.ensures.items

pub loop-queue-preserved : goal.loop-queue-preserved
loop-queue-preserved g c =
    let gives = c.into_iter-queue-iterator.ensures.into_iter_gives in
    let found = c.in_ok-found.found.items in
    let at = length c.loop-queue.yielded in
    let queue = c.in-Some.queue in
    let road = YieldsList-from_vec {s = c.into_iter-queue-iterator.result} found gives.0 (gives.1 ∙ c.in_ok-found.found.ok.0) in
    let turn = YieldsList-turn road c.loop-queue.yielded c.loop-queue.queue-iterator c.loop-queue.yielded_by c.next.result c.next.new.self queue c.in-Some.is c.next.ensures.steps in
    let many : length found ≡ length c.args.cpus.now = sym c.in_ok-found.found.ok.0 ∙ c.in_ok-found.ensures.len in
    let below : at < length c.args.cpus.now = omega (arith, many, turn.0) in
    let said : IfOk (get_or found at queue) (λ q. q ≡ queue_at c.args.lists.now c.args.cpus.now at) =
    (c.in_ok-found.ensures.each at queue below).1.met in
    let here : IfOk queue (λ q. q ≡ queue_at c.args.lists.now c.args.cpus.now at) =
    subst (λ r. IfOk r (λ q. q ≡ queue_at c.args.lists.now c.args.cpus.now at)) (sym turn.1) said in
    c.in_ok-push.ensures.items
    ∙ queues_more c.args.lists.now c.args.cpus.now at (length (c.loop-queue.yielded ++ queue ∷ [])) c.loop-queue.queues.items c.in_ok-queue.field-0 below
    (length_push c.loop-queue.yielded queue)
    (answered queue c.in_ok-queue.field-0 (queue_at c.args.lists.now c.args.cpus.now at) here c.in_ok-queue.was) c.loop-queue.invariant

pub returns : goal.returns
returns g c =
    let gives = c.into_iter-queue-iterator.ensures.into_iter_gives in
    let found = c.in_ok-found.found.items in
    let road = YieldsList-from_vec {s = c.into_iter-queue-iterator.result} found gives.0 (gives.1 ∙ c.in_ok-found.found.ok.0) in
    let end = YieldsList-end road c.loop-queue.yielded c.loop-queue.queue-iterator c.loop-queue.yielded_by c.next.result c.next.new.self c.in-None.is c.next.ensures.steps in
    let many : length found ≡ length c.args.cpus.now = sym c.in_ok-found.found.ok.0 ∙ c.in_ok-found.ensures.len in
    queues_all c.args.lists.now c.args.cpus.now (length c.loop-queue.yielded) c.loop-queue.queues.items (end.1 ∙ many) c.loop-queue.invariant

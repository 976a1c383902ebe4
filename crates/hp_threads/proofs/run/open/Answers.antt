-- Every seat is in, and has heard of just the admissions.
use Rattle.std.proofs.Common.{ap, ◌∙◌, subst, map}
use Rattle.hp_event.specs.declared.event.Role.TheVariants.{Ap}
use Rattle.hp_event.specs.declared.head.Head.{Head}
use Rattle.hp_live.specs.Known.{Known}
use Rattle.hp_model.specs.Lawful.{IsLawful}
use Rattle.hp_model.specs.Processors.{present}
use Rattle.hp_threads.specs.Admitting.{HaveEntered, HaveHeard, pass_in}
use Rattle.hp_threads.proofs.Hearing.{opened_at, seated_as}
use Rattle.hp_threads.proofs.run.open.Goals as goal

pub admit_actors-requires-clause-own : goal.admit_actors-requires-clause-own
admit_actors-requires-clause-own g c κs within = c.in_ok-passes.ensures.entered.lock ∙ c.requires.own

pub tell_threads-requires-clause-own : goal.tell_threads-requires-clause-own
tell_threads-requires-clause-own g c κs within =
    c.in_ok-jobs.ensures.entered.lock ∙ c.in_ok-passes.ensures.entered.lock ∙ c.requires.own

pub tell_threads-requires-clause-passes : goal.tell_threads-requires-clause-passes
tell_threads-requires-clause-passes g c κs within =
    let a = c.in_ok-passes.ensures.entered in
    let b = c.in_ok-jobs.ensures.entered in
    seated_as c.args.root.now.lock c.admit_actors.new.root.lock c.args.root.now.head c.admit_actors.new.root.head
    c.in_ok-passes.passes.items (b.lock ∙ a.lock) (b.head ∙ a.head) a.seated

pub tell_actors-requires-clause-own : goal.tell_actors-requires-clause-own
tell_actors-requires-clause-own g c κs within =
    ap (λ (k : Known). k.lock) c.tell_threads.ensures.root ∙ c.in_ok-jobs.ensures.entered.lock
    ∙ c.in_ok-passes.ensures.entered.lock ∙ c.requires.own

pub tell_actors-requires-clause-jobs : goal.tell_actors-requires-clause-jobs
tell_actors-requires-clause-jobs g c κs within =
    let b = c.in_ok-jobs.ensures.entered in
    let r = c.tell_threads.ensures.root in
    seated_as c.admit_threads.new.root.lock c.tell_threads.new.root.lock c.admit_threads.new.root.head
    c.tell_threads.new.root.head (map pass_in c.in_ok-jobs.jobs.items) (ap (λ (k : Known). k.lock) r ∙ b.lock)
    (ap (λ (k : Known). k.head) r ∙ b.head) b.seated

pub returns-clause-same : goal.returns-clause-same
returns-clause-same g c =
    let a = c.in_ok-passes.ensures.entered in
    let b = c.in_ok-jobs.ensures.entered in
    let r = c.tell_actors.ensures.root ∙ c.tell_threads.ensures.root in
    (ap (λ (k : Known). k.lock) r ∙ b.lock ∙ a.lock, ap (λ (k : Known). k.head) r ∙ b.head ∙ a.head)

pub returns-clause-opened : goal.returns-clause-opened
returns-clause-opened g c =
    let r = c.tell_actors.ensures.root ∙ c.tell_threads.ensures.root in
    opened_at c.args.machine.now c.args.script.now c.args.root.now c.admit_threads.new.root c.admit_actors.new.root
    c.tell_actors.new.root c.in_ok-passes.passes.items c.in_ok-told.told.items c.in_ok-jobs.jobs.items c.in_ok-heard.heard.items r
    (record {
      script_is = c.requires.script;
      own = c.requires.own;
      head = c.requires.head;
      front = c.requires.front;
      threads =
          subst (λ (h : Head). HaveEntered c.args.root.now c.admit_threads.new.root (map Ap (present h)) c.in_ok-passes.passes.items)
          c.head.ensures c.in_ok-passes.ensures.entered;
      clients = c.in_ok-jobs.ensures.entered;
      threads_heard = c.in_ok-told.ensures.heard;
      clients_heard =
          subst
          (λ (k : Known). HaveHeard k.front (map pass_in c.in_ok-jobs.jobs.items) (map pass_in c.in_ok-heard.heard.items))
          c.tell_threads.ensures.root c.in_ok-heard.ensures.heard;
      asks = c.in_ok-heard.ensures.asks;
      ops = c.in_ok-jobs.ensures.ops;
      loaded = c.in_ok-jobs.ensures.loaded;
      lawful = subst (λ (k : Known). IsLawful k.head k.front) r c.sound.ensures;
    })

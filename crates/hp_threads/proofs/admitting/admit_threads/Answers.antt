-- The threads of the present processors come in, one after another.
use Rattle.std.proofs.Common.{◌≡◌, sym, ◌∙◌, subst, map, arith, List, [], ℕ}
use Rattle.hp_event.specs.declared.event.Role.TheVariants.{Ap}
use Rattle.hp_live.specs.Known.{Seated}
use Rattle.hp_threads.specs.Admitting.{HaveEntered}
use Rattle.hp_threads.proofs.Numbers.{present_below}
use Rattle.hp_threads.proofs.Coming.{entered_none, entered_next}
use Rattle.hp_threads.proofs.admitting.admit_threads.Goals as goal

pub loop-cpu-init : goal.loop-cpu-init
loop-cpu-init g c =
    record {
      own = c.requires;
      entered =
          subst (λ (ps : List Seated). HaveEntered c.args.root.now c.args.root.now [] ps) (sym c.new-passes.ensures.items)
          (entered_none c.args.root.now);
    }

pub loop-cpu-preserved : goal.loop-cpu-preserved
loop-cpu-preserved g c =
    let i = c.loop-cpu.invariant in
    let e = c.in_ok-admit_present.ensures in
    let more = entered_next c.args.head.now c.loop-cpu.cpu c.args.root.now c.loop-cpu.root c.admit_present.new.root
    c.loop-cpu.passes.items c.admit_present.new.passes.items i.entered e.there e.absent in
    record { own = more.lock ∙ c.requires; entered = more }

pub returns : goal.returns
returns g c =
    let all : c.loop-cpu.cpu ≡ c.args.head.now.possible = omega arith in
    record {
      entered =
          subst (λ (n : ℕ). HaveEntered c.args.root.now c.loop-cpu.root (map Ap (present_below c.args.head.now n)) c.loop-cpu.passes.items) all
          c.loop-cpu.invariant.entered;
    }

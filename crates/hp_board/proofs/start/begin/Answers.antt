use Rattle.std.proofs.Common.{◌+◌, ap, sym, subst}
use Rattle.hp_states.specs.declared.limits.TheConstants.{ONLINE}
use Rattle.hp_table.specs.Step.{is_home, AllHome}
use Rattle.hp_table.proofs.HookCount.{vacant_of}
use Rattle.hp_called.specs.Called.{IsCalled}
use Rattle.hp_board.specs.Contents.{Contents}
use Rattle.hp_board.proofs.Loans.{none_out}
use Rattle.hp_board.proofs.start.begin.Goals as goal

pub invariant_of-result : goal.invariant_of-result
invariant_of-result g c =
    let m = c.in_ok-machine.machine in
    let all : AllHome m.places = λ s. ap is_home (vacant_of m.places (ONLINE + 1) s (ap (λ (x : Contents). x.places) c.in_ok-machine.ensures.begins)) in
    record {
      out = none_out m all c.in_ok-machine.ensures.nothing_lent;
      called =
          subst (λ (b : Contents). IsCalled b.head b.events c.in_ok-called.called) (sym c.in_ok-machine.ensures.begins)
          (c.in_ok-called.ensures c.args.head);
    }

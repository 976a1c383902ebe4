use Rattle.std.proofs.Common.{◌≡◌, ℕ, ◌+◌, subst, arith}
use Rattle.hp_states.specs.declared.limits.TheConstants.{ONLINE}
use Rattle.hp_files.specs.StatesFile.{states_file, name_in}
use Rattle.hp_files.proofs.Lines.{lines_below, lines_more}
use Rattle.hp_files.proofs.states.show_states.Goals as goal

pub loop-state-preserved : goal.loop-state-preserved
loop-state-preserved g c =
    rw (lines_more (name_in c.args.head.now c.args.table.now) c.loop-state.state) (rw (← c.loop-state.invariant) c.in_ok-append_state.ensures)

pub returns : goal.returns
unfolding states_file
returns g c =
    let end : c.loop-state.state ≡ ONLINE + 1 = omega (arith, c.loop-state-test.false) in
    subst (λ (n : ℕ). c.loop-state.out.items ≡ lines_below (name_in c.args.head.now c.args.table.now) n) end c.loop-state.invariant

use Rattle.std.proofs.Common.{ℕ, subst, arith}
use Rattle.hp_model.specs.Processors.{is_present}
use Rattle.hp_account.specs.Flags.{AreFlags}
use Rattle.hp_account.proofs.StandingNone.{sound_none, standing_none}
use Rattle.hp_account.proofs.processors.Processors.new.Goals as goal

pub invariant_of-result : goal.invariant_of-result
invariant_of-result c =
    let h = c.requires in
    rw (c.in_ok-settled.ensures, c.in_ok-online.ensures) (sound_none c.args.head.now.possible c.first_alone.result h.some_possible h.few_possible c.first_alone.ensures)

pub returns : goal.returns
returns c =
    let past = c.loop-cpu-test.false in
    let within = c.loop-cpu.auto.cpu-end in
    rw (c.in_ok-settled.ensures, c.in_ok-armed.ensures)
    (standing_none c.args.head.now c.loop-cpu.present.items c.requires
    (subst (λ (n : ℕ). AreFlags (is_present c.args.head.now) n c.loop-cpu.present.items) (omega (arith, past, within)) c.loop-cpu.invariant))

use Rattle.std.proofs.Common.{◌≡◌, true, Some, ap, ◌∙◌, arith}
use Rattle.std.specs.Option.{unwrap_or}
use Rattle.hp_event.specs.declared.event.Event.TheVariants.{RegBegin}
use Rattle.hp_model.specs.Events.{is_registration_op}
use Rattle.hp_model.specs.Resolved.{resolved}
use Rattle.hp_machine.proofs.FirstSaid.{alone_said, register_said}
use Rattle.hp_machine.proofs.machine.Machine.begin.Goals as goal

pub resolved-requires : goal.resolved-requires
resolved-requires g c =
    let reg : is_registration_op c.args.op.now ≡ true = grind arith in
    alone_said c.args.self.now.events c.args.op.now reg c.requires.passes.not_waiting

pub returns-in-Setup-clause-begins : goal.returns-in-Setup-clause-begins
returns-in-Setup-clause-begins g c =
    let m = c.args.self.now in
    let op = c.args.op.now in
    let reg : is_registration_op op ≡ true = grind arith in
    let state : c.unwrap_or-state.result ≡ unwrap_or (resolved m.head m.events op) 0 =
    c.unwrap_or-state.ensures ∙ ap (λ o. unwrap_or o 0) c.resolved.ensures in
    ap (λ n. Some (RegBegin c.args.seat n op)) state ∙ register_said m.head m.events c.args.seat 0 op reg c.requires.free c.requires.passes

-- A turn that asks for a read section: it is answered by its ReadLock, waits, or wants room or memory.
use Rattle.std.proofs.Common.{ℕ, Option, Some, ap, ◌∙◌, subst}
use Rattle.hp_event.specs.declared.op.Op.TheVariants.{Lock}
use Rattle.hp_board.specs.Turns.{IsTurn}
use Rattle.hp_board.specs.declared.turn.Turn.TheVariants.{Answered}
use Rattle.hp_live.proofs.ReadSteps.{lock_made, lock_ends, lock_wants}
use Rattle.hp_live.proofs.reading.ask_to_read.Goals as goal

pub returns-in-Ok-Answered-Some-default-clause-asks : goal.returns-in-Ok-Answered-Some-default-clause-asks
returns-in-Ok-Answered-Some-default-clause-asks g c =
    let i = c.in-Ok-Answered-Some-default in
    let turn = subst (IsTurn c.args.by Lock c.args.board.now c.turn.new.self)
    (i.field-0-is ∙ ap (λ (at : Option ℕ). Answered at i.field-0-1) i.field-0-0-is) i.ensures.turn in
    let made =
    lock_made c.args.by c.args.board.now c.turn.new.self i.field-0-0-0 (Some i.field-0-1) c.requires.out c.requires.idle turn in
    (made.0, made.1, c.online_set.ensures)

pub unreachable-requires : goal.unreachable-requires
unreachable-requires g c =
    let i = c.in-Ok-Made in
    lock_ends c.args.by c.args.board.now c.turn.new.self i.field-0-0 c.requires.out c.requires.idle
    (subst (IsTurn c.args.by Lock c.args.board.now c.turn.new.self) i.field-0-is i.ensures.turn)

pub returns-clause-asks : goal.returns-clause-asks
returns-clause-asks g c = (
  c.in-Err.ensures.err.0,
  lock_wants c.args.board.now.head c.args.board.now.events c.args.by c.requires.out c.requires.idle c.in-Err.ensures.memory,
)

use Rattle.std.proofs.Common.{subst}
use Rattle.hp_board.specs.HookLaws.{HasAsManyHooks}
use Rattle.hp_board.specs.Turns.{IsTurn}
use Rattle.hp_event.specs.declared.op.Op.{Op}
use Rattle.hp_model.specs.Pending.{IsAllowed}
use Rattle.hp_smt.specs.Contents.{Controlled}
use Rattle.hp_smt.specs.Hooks.{KeepsEachHook}
use Rattle.hp_smt.proofs.OwnHooks.{own_keeps_hooks, own_keeps_each}
use Rattle.hp_smt.proofs.Taking.{ready, ready_allowed, take_sound, take_gone}
use Rattle.hp_smt.proofs.smt.Smt.take.Goals as goal

pub turn-requires-clause-allowed : goal.turn-requires-clause-allowed
turn-requires-clause-allowed g c =
    let z : Controlled = record { board = c.self.inside.board; threads = c.self.inside.threads; setting = c.self.inside.setting } in
    ready_allowed z c.args.write c.args.cpu c.own_op.result c.sound.ensures.lawful
    (ready z c.args.self.now c.args.write c.args.cpu c.self.view_is c.sound.ensures.lawful c.set_is_of_its_numbers.ensures.words
    c.requires.going c.requires.own)
    c.own_op.ensures

pub gone_by-gone-requires : goal.gone_by-gone-requires
gone_by-gone-requires g c =
    let z : Controlled = record { board = c.self.inside.board; threads = c.self.inside.threads; setting = c.self.inside.setting } in
    (ready z c.args.self.now c.args.write c.args.cpu c.self.view_is c.sound.ensures.lawful c.set_is_of_its_numbers.ensures.words
    c.requires.going c.requires.own).within

pub invariant_of-self-2 : goal.invariant_of-self-2
invariant_of-self-2 g c =
    let z : Controlled = record { board = c.self.inside.board; threads = c.self.inside.threads; setting = c.self.inside.setting } in
    take_sound z c.turn.new.self c.args.write c.args.cpu c.own_op.result c.in_ok-turn.turn c.gone_by-gone.result c.sound.ensures.lawful
    c.set_is_of_its_numbers.ensures.words
    (ready z c.args.self.now c.args.write c.args.cpu c.self.view_is c.sound.ensures.lawful c.set_is_of_its_numbers.ensures.words
    c.requires.going c.requires.own)
    c.self.invariant c.own_op.ensures c.in_ok-turn.ensures.turn c.gone_by-gone.ensures

pub returns-clause-turn : goal.returns-clause-turn
returns-clause-turn g c =
    let z : Controlled = record { board = c.self.inside.board; threads = c.self.inside.threads; setting = c.self.inside.setting } in
    take_gone z c.args.self.now c.turn.new.self c.args.write c.args.cpu c.own_op.result c.in_ok-turn.turn c.gone_by-gone.result
    c.self.view_is c.self.invariant c.own_op.ensures c.in_ok-turn.ensures.turn c.gone_by-gone.ensures

pub returns-clause-hooks : goal.returns-clause-hooks
returns-clause-hooks g c =
    let z : Controlled = record { board = c.self.inside.board; threads = c.self.inside.threads; setting = c.self.inside.setting } in
    let w = c.args.write in
    let r = ready z c.args.self.now w c.args.cpu c.self.view_is c.sound.ensures.lawful c.set_is_of_its_numbers.ensures.words
    c.requires.going c.requires.own in
    subst (λ (s : Controlled). HasAsManyHooks s.board c.turn.new.self) c.self.view_is
    (own_keeps_hooks z.board c.turn.new.self w.seat w.want c.args.cpu c.in_ok-turn.turn c.sound.ensures.lawful c.sound.ensures.table
    c.sound.ensures.places
    (subst (λ (o : Op). IsAllowed z.board.head z.board.events (record { seat = w.seat; op = o })) c.own_op.ensures
    (ready_allowed z w c.args.cpu c.own_op.result c.sound.ensures.lawful r c.own_op.ensures))
    (subst (λ (o : Op). IsTurn w.seat o z.board c.turn.new.self c.in_ok-turn.turn) c.own_op.ensures c.in_ok-turn.ensures.turn))

pub returns-clause-each : goal.returns-clause-each
returns-clause-each g c =
    let z : Controlled = record { board = c.self.inside.board; threads = c.self.inside.threads; setting = c.self.inside.setting } in
    let w = c.args.write in
    let r = ready z c.args.self.now w c.args.cpu c.self.view_is c.sound.ensures.lawful c.set_is_of_its_numbers.ensures.words
    c.requires.going c.requires.own in
    subst (λ (s : Controlled). KeepsEachHook s.board c.turn.new.self) c.self.view_is
    (own_keeps_each z.board c.turn.new.self w.seat w.want c.args.cpu c.in_ok-turn.turn c.sound.ensures.lawful
    (subst (λ (o : Op). IsAllowed z.board.head z.board.events (record { seat = w.seat; op = o })) c.own_op.ensures
    (ready_allowed z w c.args.cpu c.own_op.result c.sound.ensures.lawful r c.own_op.ensures))
    (subst (λ (o : Op). IsTurn w.seat o z.board c.turn.new.self c.in_ok-turn.turn) c.own_op.ensures c.in_ok-turn.ensures.turn))

-- The machine's turn is the actor's.
use Rattle.std.proofs.Common.{◌<◌, None, ap, sym, subst}
use Rattle.hp_event.specs.declared.answer.Answer.TheVariants.{Refused}
use Rattle.std.proofs.lemmas.List.{length-set}
use Rattle.std.proofs.lemmas.Option.{slice_get_within}
use Rattle.hp_account.specs.Table.{IsTableOf}
use Rattle.hp_table.specs.Sound.{IsSound}
use Rattle.hp_board.specs.Contents.{Contents}
use Rattle.hp_actors.specs.declared.actor.Actor.{Actor}
use Rattle.hp_smt_run.proofs.HooksTurned.{denied_under, board_under}
use Rattle.hp_smt_run.proofs.Stepped.{Asks, stepped_denied, stepped_board}
use Rattle.hp_smt_run.proofs.step.step.Goals as goal

pub turn-requires-clause-allowed : goal.turn-requires-clause-allowed
turn-requires-clause-allowed g c = c.requires.allowed c.in-Some.ask.now c.in-Some.ensures.some

pub note-requires : goal.note-requires
note-requires g c =
    let actor = c.args.actor.now in
    subst (λ n. actor.answered < n) (sym (length-set actor.asks actor.answered c.turn.new.ask))
    (slice_get_within actor.asks actor.answered c.in-Some.ask.now c.in-Some.ensures.some)

pub note-requires-in-Board : goal.note-requires-in-Board
note-requires-in-Board g c =
    let actor = c.args.actor.now in
    subst (λ n. actor.answered < n) (sym (length-set actor.asks actor.answered c.turn.new.ask))
    (slice_get_within actor.asks actor.answered c.in-Some.ask.now c.in-Some.ensures.some)

pub returns-in_ok-push-in-Denied-clause-stepped : goal.returns-in_ok-push-in-Denied-clause-stepped
returns-in_ok-push-in-Denied-clause-stepped g c =
    let e = c.in_ok-turn.ensures in
    let asks : Asks c.args.seat c.args.smt.now c.args.actor.now c.in-Some.ask.now =
    record {
      at = c.in-Some.ensures.some;
      later = c.sound-3.ensures.later;
      hook = c.requires.hook;
      allowed = c.requires.allowed c.in-Some.ask.now c.in-Some.ensures.some;
      lawful = c.sound.ensures.lawful;
      table = subst (λ (b : Contents). IsTableOf b.head b.events b.places) c.board.ensures c.sound-2.ensures.table;
      sound = subst (λ (b : Contents). IsSound b.places) c.board.ensures c.sound-2.ensures.places;
      home = c.sound.ensures.kept.home;
    } in
    stepped_denied g.H.Hook.counts c.args.seat c.args.smt.now c.turn.new.self c.args.actor.now c.note.new.self c.in-Some.ask.now
    c.turn.new.ask None (Refused 1) c.in_ok-turn.field-0 c.args.denied.now.items c.push.new.self.items asks c.in-Denied.is e.turn e.hook
    c.note.ensures c.in_ok-push-in-Denied.ensures.items

pub returns-in-Board-clause-stepped : goal.returns-in-Board-clause-stepped
returns-in-Board-clause-stepped g c =
    let e = c.in_ok-turn.ensures in
    let asks : Asks c.args.seat c.args.smt.now c.args.actor.now c.in-Some.ask.now =
    record {
      at = c.in-Some.ensures.some;
      later = c.sound-3.ensures.later;
      hook = c.requires.hook;
      allowed = c.requires.allowed c.in-Some.ask.now c.in-Some.ensures.some;
      lawful = c.sound.ensures.lawful;
      table = subst (λ (b : Contents). IsTableOf b.head b.events b.places) c.board.ensures c.sound-2.ensures.table;
      sound = subst (λ (b : Contents). IsSound b.places) c.board.ensures c.sound-2.ensures.places;
      home = c.sound.ensures.kept.home;
    } in
    stepped_board g.H.Hook.counts c.args.seat c.args.smt.now c.turn.new.self c.args.actor.now c.note-in-Board.new.self c.in-Some.ask.now
    c.turn.new.ask c.in_ok-turn.field-0 c.in-Board.turn c.args.denied.now.items asks c.in-Board.is e.turn e.op e.hook e.again
    c.note-in-Board.ensures

pub returns-in_ok-push-in-Denied-clause-hooks : goal.returns-in_ok-push-in-Denied-clause-hooks
returns-in_ok-push-in-Denied-clause-hooks g c =
    let e = c.in_ok-turn.ensures in
    denied_under g.H.Hook.counts c.args.seat c.args.smt.now c.turn.new.self c.args.actor.now c.in-Some.ask.now c.turn.new.ask
    c.in_ok-turn.field-0 c.note.new.self c.in-Some.ensures.some c.in-Denied.is e.turn e.hook
    (ap (λ (a : Actor g.row.H.Denot). a.asks) c.note.ensures)

pub returns-in-Board-clause-hooks : goal.returns-in-Board-clause-hooks
returns-in-Board-clause-hooks g c =
    let e = c.in_ok-turn.ensures in
    board_under g.H.Hook.counts c.args.seat c.args.smt.now c.turn.new.self c.args.actor.now c.in-Some.ask.now c.turn.new.ask
    c.in_ok-turn.field-0 c.in-Board.turn c.note-in-Board.new.self
    (subst (λ (b : Contents). IsTableOf b.head b.events b.places) c.board.ensures c.sound-2.ensures.table) c.in-Some.ensures.some
    c.in-Board.is e.turn e.hook (ap (λ (a : Actor g.row.H.Denot). a.asks) c.note-in-Board.ensures)

use Rattle.std.proofs.Common.{ap, ◌∙◌}
use Rattle.hp_event.specs.declared.event.Event.{Event}
use Rattle.std.proofs.Common.{List, length}
use Rattle.hp_board.specs.Contents.{Contents}
use Rattle.hp_board.proofs.Following.{last_is, has_place, followed}
use Rattle.hp_board.proofs.making.make_entry.Goals as goal

pub follow-requires-clause-place : goal.follow-requires-clause-place
follow-requires-clause-place g c =
    let m = c.args.machine.now in
    let n = c.make_entry.new.self in
    let x = c.args.entry.now in
    let f = c.get.result.now in
    let place = c.len-at.ensures.count ∙ ap (λ (es : List Event). length es) c.journal.ensures.events in
    has_place m x f c.sound.ensures.lawful c.requires.stands
    (last_is m n x c.journal-journal.result.now.events c.len-at.result f (ap (λ (b : Contents). b.events) c.make_entry.ensures)
    c.journal-journal.ensures.events place c.get.ensures)

pub returns-clause-called : goal.returns-clause-called
returns-clause-called g c =
    let m = c.args.machine.now in
    let n = c.make_entry.new.self in
    let x = c.args.entry.now in
    let f = c.get.result.now in
    let place = c.len-at.ensures.count ∙ ap (λ (es : List Event). length es) c.journal.ensures.events in
    let made = ap (λ (b : Contents). b.events) c.make_entry.ensures in
    let same = ap (λ (b : Contents). b.head) c.make_entry.ensures in
    followed m n x c.head.result.now f c.args.called.now c.follow.new.self same made
    (c.head.ensures ∙ (c.journal-journal.ensures.head ∙ same))
    (last_is m n x c.journal-journal.result.now.events c.len-at.result f made c.journal-journal.ensures.events place c.get.ensures)
    c.sound.ensures.lawful c.requires.stands c.requires.called c.follow.ensures

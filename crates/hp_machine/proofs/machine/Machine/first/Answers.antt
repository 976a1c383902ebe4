use Rattle.hp_machine.proofs.FirstSaid.{event_said, full_said, first_counts, first_no_entry}
use Rattle.hp_machine.proofs.machine.Machine.first.Goals as goal

pub room_taken-need-requires : goal.room_taken-need-requires
room_taken-need-requires g c =
    let m = c.args.self.now in
    first_counts m.head m.events m.places c.in-Ok.event c.in-Ok.ensures.kind

pub returns-then-need-room : goal.returns-then-need-room
returns-then-need-room g c =
    let m = c.args.self.now in
    let takes = c.room_taken-need.ensures in (
      event_said m.head m.events c.args.seat c.args.op.now c.in-Ok.event c.room.result c.room_taken-need.result c.room.ensures c.requires.free
          c.in-Ok.ensures.event takes c.if-need-room.true,
      takes,
      first_no_entry c.in-Ok.event c.in-Ok.ensures.kind,
    )

pub returns-else-need-room : goal.returns-else-need-room
returns-else-need-room g c =
    let m = c.args.self.now in
    full_said m.head m.events c.args.seat c.args.op.now c.in-Ok.event c.room.result c.room_taken-need.result c.room.ensures c.requires.free
    c.in-Ok.ensures.event c.room_taken-need.ensures c.if-need-room.false

use Rattle.std.proofs.Common.{sym, subst}
use Rattle.hp_model.specs.Lawful.{IsLawful}
use Rattle.hp_account.specs.Table.{IsTableOf}
use Rattle.hp_machine.specs.Contents.{Contents}
use Rattle.hp_machine.specs.Next.{IsNext}
use Rattle.hp_machine.proofs.BusyNext.{walk_inside, walk_counts, walk_said, full_said}
use Rattle.hp_machine.proofs.machine.Machine.next_walk.Goals as goal

pub state-requires : goal.state-requires
state-requires g c =
    let m = c.args.self.now in
    let ask = c.args.ask in
    walk_inside m.head m.events c.args.seat ask.cpu ask.to
    (subst (λ (m : Contents). IsLawful m.head m.events) c.self.view_is c.self.invariant.kept.lawful) c.requires.asked c.requires.free

pub room_taken-need-requires : goal.room_taken-need-requires
room_taken-need-requires g c =
    let m = c.args.self.now in
    let ask = c.args.ask in
    let i = c.self.invariant in
    walk_counts m.head m.events c.args.seat ask.cpu c.state.result ask.to m.places
    (subst (λ (m : Contents). IsLawful m.head m.events) c.self.view_is i.kept.lawful)
    (subst (λ (m : Contents). IsTableOf m.head m.events m.places) c.self.view_is i.table_is) c.requires.asked c.requires.free

pub returns-then-need-room : goal.returns-then-need-room
returns-then-need-room g c =
    let m = c.args.self.now in
    let ask = c.args.ask in
    walk_said m.head m.events c.args.seat ask.cpu c.state.result ask.to c.room.result c.room_taken-need.result c.room.ensures c.requires.asked
    c.requires.free c.state.ensures c.room_taken-need.ensures c.if-need-room.true

pub returns-else-need-room : goal.returns-else-need-room
returns-else-need-room g c =
    let m = c.args.self.now in
    let ask = c.args.ask in
    λ op. subst (λ n. IsNext m.head m.events c.args.seat op n) (sym c.end.ensures)
    (full_said m.head m.events c.args.seat ask.cpu c.state.result ask.to c.room.result c.room_taken-need.result c.room.ensures c.requires.asked
    c.requires.free c.state.ensures c.room_taken-need.ensures c.if-need-room.false op)

use Rattle.std.proofs.Common.{sym}
use Rattle.hp_machine.proofs.KeysCounted.{event_counts}
use Rattle.hp_machine.proofs.machine.Machine.need.Goals as goal

pub room_taken-requires : goal.room_taken-requires
room_taken-requires g c =
    let j = c.self.inside.journal in
    let i = c.self.invariant in
    let stands = rw (sym c.self.view_is) at c.requires in
    rw (sym c.self.view_is) (event_counts j.head j.events c.self.inside.table c.args.event.now i.kept.lawful i.table_is stands.0)

use Rattle.std.proofs.Common.{◌≡◌, ◌+◌, ◌<◌, ◌≤◌, length, ◌∙◌, ap, sym, subst, arith}
use Rattle.hp_states.specs.declared.limits.TheConstants.{MAX_EVENTS}
use Rattle.hp_model.specs.Lawful.{Stands}
use Rattle.hp_model.specs.Needs.{need, taken}
use Rattle.hp_machine.proofs.RoomThere.{room_for}
use Rattle.hp_machine.specs.Contents.{Contents}
use Rattle.hp_machine.proofs.machine.Machine.make.Goals as goal

pub reserve-requires : goal.reserve-requires
reserve-requires g c =
    let j = c.self.inside.journal in
    let stands = subst (λ (m : Contents). Stands m.head m.events c.args.event.now) (sym c.self.view_is) c.requires.stands in
    let takes = subst (λ (m : Contents). c.args.need ≡ taken (need m.head m.events c.args.event.now)) (sym c.self.view_is) c.requires.need in
    let promises = c.self.invariant.kept.promises in
    let fits = room_for j.head j.events c.args.event.now c.self.invariant.kept.lawful stands in
    omega (arith, promises, takes, fits)

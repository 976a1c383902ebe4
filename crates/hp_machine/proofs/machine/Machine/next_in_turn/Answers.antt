use Rattle.std.proofs.Common.{◌∙◌, sym}
use Rattle.hp_states.proofs.Basics.{none_some, same_some}
use Rattle.hp_machine.proofs.BatchSaid.{gives_of}
use Rattle.hp_machine.proofs.machine.Machine.next_in_turn.Goals as goal

pub returns-in-Some : goal.returns-in-Some
returns-in-Some g c =
    let j = c.self.inside.journal in
    let turn = rw (sym c.self.view_is) at c.requires.turn in
    let upmany = rw (sym c.self.view_is) at c.requires.upmany in
    let next = rw (sym c.self.view_is) at c.next_on.ensures in
    let given = gives_of j.head j.events c.args.seat c.args.cpu c.next_on.result c.self.invariant.kept.lawful upmany turn next in
    let same = same_some given.next c.in-Some.next (sym given.is ∙ (sym c.next_from.ensures ∙ c.in-Some.is)) in
    rw (sym c.self.view_is, sym same) given.said

pub returns-in-None : goal.returns-in-None
returns-in-None g c =
    let j = c.self.inside.journal in
    let turn = rw (sym c.self.view_is) at c.requires.turn in
    let upmany = rw (sym c.self.view_is) at c.requires.upmany in
    let next = rw (sym c.self.view_is) at c.next_on.ensures in
    let given = gives_of j.head j.events c.args.seat c.args.cpu c.next_on.result c.self.invariant.kept.lawful upmany turn next in
    absurd (none_some given.next (sym (sym c.next_from.ensures ∙ c.in-None.is) ∙ given.is))

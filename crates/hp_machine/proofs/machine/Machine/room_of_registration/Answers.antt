use Rattle.std.proofs.Common.{◌≡◌, ◌+◌, ◌*◌, length, sym, ap, ◌∙◌, rules}
use Rattle.std.specs.Prelude.{take, min}
use Rattle.std.specs.List.{count_by}
use Rattle.hp_states.specs.declared.limits.TheConstants.{MAX_CPUS}
use Rattle.hp_machine.proofs.FirstSaid.{present_said}
use Rattle.hp_machine.proofs.machine.Machine.room_of_registration.Goals as goal

pub returns : goal.returns
returns g c =
    let j = c.self.inside.journal in
    let p = c.self.inside.account.processors in
    let i = c.self.invariant.kept in
    let places : c.min-places.result ≡ min (length p.present) MAX_CPUS = search rules in
    let counted : c.count.result ≡ count_by (λ b. b) (take c.min-places.result p.present) = search rules in
    rw (sym c.self.view_is)
    (ap (λ n. 2 * n + 2) (counted ∙ present_said j.head j.events p c.min-places.result i.lawful.0 i.account.processors places))

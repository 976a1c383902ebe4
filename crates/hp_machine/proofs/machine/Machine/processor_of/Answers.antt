use Rattle.std.proofs.Common.{◌≡◌, sym, rules, Some, None, ◌∙◌}
use Rattle.hp_event.specs.declared.event.Role.TheVariants.{Client, Ap}
use Rattle.hp_account.specs.Places.{at_place}
use Rattle.hp_account.proofs.InBatch.{thread_here, no_thread_here}
use Rattle.hp_machine.proofs.machine.Machine.processor_of.Goals as goal

pub returns-in-Some-Ap : goal.returns-in-Some-Ap
returns-in-Some-Ap g c =
    let j = c.self.inside.journal in
    let k = c.self.invariant.kept in
    let seats = c.self.inside.account.seats in
    let at : at_place seats.roles c.args.seat ≡ Some (Ap c.in-Some-Ap.cpu) = search rules in
    rw (sym c.self.view_is) (thread_here j.head j.events seats c.args.seat c.in-Some-Ap.cpu k.lawful k.account.seats at)

pub returns-in_default : goal.returns-in_default
returns-in_default g c =
    let j = c.self.inside.journal in
    let k = c.self.invariant.kept in
    let seats = c.self.inside.account.seats in
    let at : at_place seats.roles c.args.seat ≡ Some Client = search rules in
    rw (sym c.self.view_is) (no_thread_here j.head j.events seats c.args.seat k.lawful k.account.seats (λ d h. other d (sym at ∙ h)))
  where
    other : (d : _) → Some Client ≡ Some (Ap d) → ⊥
    other d h = cc

pub returns-in_default-2 : goal.returns-in_default-2
returns-in_default-2 g c =
    let j = c.self.inside.journal in
    let k = c.self.invariant.kept in
    let seats = c.self.inside.account.seats in
    let at : at_place seats.roles c.args.seat ≡ None = search rules in
    rw (sym c.self.view_is) (no_thread_here j.head j.events seats c.args.seat k.lawful k.account.seats (λ d h. other d (sym at ∙ h)))
  where
    other : (d : _) → None ≡ Some (Ap d) → ⊥
    other d h = cc

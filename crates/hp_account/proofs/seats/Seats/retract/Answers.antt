use Rattle.std.proofs.Common.{◌∙◌, refl, ap, subst, Some, length}
use Rattle.std.specs.Prelude.{slice_set}
use Rattle.hp_event.specs.declared.event.Role.{Role}
use Rattle.hp_event.specs.declared.event.Role.TheVariants.{Ap}
use Rattle.std.proofs.Common.{None}
use Rattle.hp_account.specs.Seats.{SeatsView, HasNoThread, with_seat}
use Rattle.hp_account.proofs.PlaceLemmas.{unset}
use Rattle.hp_account.proofs.seats.Seats.retract.Goals as goal

pub returns-in-Ap : goal.returns-in-Ap
returns-in-Ap c = λ before is free.
    let cpu = c.in-Ap.cpu in
    let role = Ap cpu in
    let whole = c.self.view_is ∙ is ∙ ap (λ (r : Role). with_seat r before) c.in-Ap.is in
    let empty = subst (λ (r : Role). HasNoThread r before.threads) c.in-Ap.is free in
    let roles = c.drop_last.ensures.dropped before.roles (Some c.args.role) (ap (λ (r : SeatsView). r.roles) (c.self.view_is ∙ is)) in
    let threads =
    c.clear.ensures ∙ ap (λ (r : SeatsView). slice_set r.threads cpu None) whole
    ∙ unset before.threads cpu (Some (length before.roles)) empty in
    rw (roles, threads) refl

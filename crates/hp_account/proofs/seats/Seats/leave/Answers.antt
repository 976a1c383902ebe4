use Rattle.std.proofs.Common.{ap}
use Rattle.hp_account.specs.Seats.{SeatsView}
use Rattle.hp_account.proofs.ClientCount.{one_of, counted_less}
use Rattle.hp_account.proofs.seats.Seats.leave.Goals as goal
use Rattle.hp_account.proofs.seats.Seats.leave.Goals.{in-Some, in_default-get_mut}

pub clients_without-self-inside-requires : goal.clients_without-self-inside-requires
clients_without-self-inside-requires c =
    one_of c.self.inside.roles.items c.args.self.now.roles c.args.seat c.self.inside.clients c.role-role.result
    (ap (λ (v : SeatsView). v.roles) c.self.view_is) c.self.invariant c.requires c.role-role.ensures

pub invariant_of-self : goal.invariant_of-self
invariant_of-self c =
    let left =
    counted_less c.self.inside.roles.items c.args.self.now.roles c.args.seat c.self.inside.clients
    c.clients_without-self-inside.result c.role-role.result (ap (λ (v : SeatsView). v.roles) c.self.view_is) c.self.invariant
    c.requires c.role-role.ensures c.clients_without-self-inside.ensures in
    elim c.match-get_mut.branch [ in-Some w ↦ rw w.self-inside-is left | in_default-get_mut w ↦ rw w.self-inside-is left ]

pub invariant_of-self-in_default : goal.invariant_of-self-in_default
invariant_of-self-in_default c =
    counted_less c.self.inside.roles.items c.args.self.now.roles c.args.seat c.self.inside.clients
    c.clients_without-self-inside.result c.role-role.result (ap (λ (v : SeatsView). v.roles) c.self.view_is) c.self.invariant
    c.requires c.role-role.ensures c.clients_without-self-inside.ensures

pub invariant_of-self-in_default-2 : goal.invariant_of-self-in_default-2
invariant_of-self-in_default-2 c =
    counted_less c.self.inside.roles.items c.args.self.now.roles c.args.seat c.self.inside.clients
    c.clients_without-self-inside.result c.role-role.result (ap (λ (v : SeatsView). v.roles) c.self.view_is) c.self.invariant
    c.requires c.role-role.ensures c.clients_without-self-inside.ensures

use Rattle.std.proofs.Common.{ℕ, Bool, refl, ap, subst, ◌∙◌}
use Rattle.hp_walk.specs.Keys.{keys_by}
use Rattle.hp_account.specs.After.{holders_after}
use Rattle.hp_account.specs.Appending.{WalksChanged, room_of_walk}
use Rattle.hp_account.specs.BatchTurns.{is_batch, TurnTaken, Awaited}
use Rattle.hp_account.proofs.account.Account.take.Goals as goal

pub returns : goal.returns
returns g c =
    let old = c.args.self.now in
    let keys = keys_by c.args.table.now in
    let e = c.args.event.now in
    let batch = c.is_batch-batch.ensures in
    record {
      seats = c.depart.ensures;
      locks = c.hold.ensures ∙ ap (λ (b : Bool). holders_after b e old.locks) batch;
      to = c.walked_to-to.result;
      to_is = c.walked_to-to.ensures;
      processors = c.stand.ensures;
      suspended = c.suspend.ensures;
      operation = c.operate.ensures;
      freed_by_walk = c.fly-freed_by_walk.result;
      freed_by_registration = c.register-freed_by_registration.result;
      flights =
          subst (λ (n : ℕ). WalksChanged keys n c.fly-freed_by_walk.result e old.flights c.fly-freed_by_walk.new.flights)
          (c.room_of_walk-room.ensures ∙ ap (λ (b : Bool). room_of_walk keys b c.args.need e) batch) c.fly-freed_by_walk.ensures;
      registration = c.register-freed_by_registration.ensures;
      freed_is = refl;
      turns =
          subst (λ (b : Bool). TurnTaken keys b e c.fly-freed_by_walk.new.flights old.turns c.take_turn.new.turns) batch
          c.take_turn.ensures.turn;
      awaited =
          subst (λ (b : Bool). Awaited keys b e c.fly-freed_by_walk.new.flights old.awaited c.take_turn.new.awaited) batch
          c.take_turn.ensures.awaited;
    }

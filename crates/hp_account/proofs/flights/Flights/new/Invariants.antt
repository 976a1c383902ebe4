use Rattle.std.proofs.Common.{◌≡◌, None}
use Rattle.std.specs.Prelude.{replicate}
use Rattle.hp_account.proofs.flights.Flights.new.Given as goal

abbrev pub invariant-loop : goal.invariant-loop
invariant-loop l = l.by_cpu.items ≡ replicate l.counter None

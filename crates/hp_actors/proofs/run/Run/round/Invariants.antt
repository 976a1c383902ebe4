use Rattle.std.proofs.Common.{◌≡◌}
use Rattle.hp_model.specs.Lists.{numbers}
use Rattle.hp_model.specs.ScriptTurns.{after_turns}
use Rattle.hp_actors.specs.Hooks.{IsLater, KeepsHooks}
use Rattle.hp_actors.proofs.run.Run.round.Given as goal

abbrev pub invariant-loop-seat : goal.invariant-loop-seat
invariant-loop-seat g l =
    record {
      head : l.self.head ≡ l.fn.self.head;
      actors : l.self.actors ≡ l.fn.self.actors;
      turned : l.self.progress ≡ after_turns l.fn.self.head l.fn.self.actors l.fn.self.progress (numbers l.seat);
      made : IsLater l.fn.self l.self;
      kept : KeepsHooks l.fn.self l.self;
    }

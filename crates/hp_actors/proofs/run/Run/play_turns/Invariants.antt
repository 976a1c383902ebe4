use Rattle.std.proofs.Common.{◌≡◌, drop}
use Rattle.hp_model.specs.ScriptTurns.{after_turns}
use Rattle.hp_actors.specs.Hooks.{IsLater, KeepsHooks}
use Rattle.hp_actors.proofs.run.Run.play_turns.Given as goal

abbrev pub invariant-loop-seat : goal.invariant-loop-seat
invariant-loop-seat g l =
    record {
      head : l.self.head ≡ l.fn.self.head;
      actors : l.self.actors ≡ l.fn.self.actors;
      left :
          after_turns l.fn.self.head l.fn.self.actors l.self.progress (drop l.seat-index l.seats)
          ≡ after_turns l.fn.self.head l.fn.self.actors l.fn.self.progress l.fn.seats;
      made : IsLater l.fn.self l.self;
      kept : KeepsHooks l.fn.self l.self;
    }

use Rattle.std.proofs.Common.{◌≡◌, ◌-◌, ◌+◌, length}
use Rattle.hp_model.specs.Draws.{draws}
use Rattle.hp_model.specs.Processors.{present}
use Rattle.hp_model.specs.ScriptTurns.{after_turns}
use Rattle.hp_actors.specs.Hooks.{IsLater, KeepsHooks}
use Rattle.hp_actors.proofs.run.Run.play_drawn.Given as goal

abbrev pub invariant-loop : goal.invariant-loop
invariant-loop g l =
    record {
      head : l.self.head ≡ l.fn.self.head;
      actors : l.self.actors ≡ l.fn.self.actors;
      seats : l.seats ≡ length (present l.fn.self.head) + length l.fn.self.actors;
      left :
          after_turns l.fn.self.head l.fn.self.actors l.self.progress (draws l.seats l.draws.state (l.fn.turns - l.counter))
          ≡ after_turns l.fn.self.head l.fn.self.actors l.fn.self.progress (draws l.seats l.fn.seed l.fn.turns);
      made : IsLater l.fn.self l.self;
      kept : KeepsHooks l.fn.self l.self;
    }

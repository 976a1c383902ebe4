use Rattle.std.proofs.Common.{◌≡◌, ◌+◌, ◌-◌, List, ℕ, length}
use Rattle.std.specs.List.{sum_by}
use Rattle.hp_states.specs.declared.limits.TheConstants.{MAX_EVENTS}
use Rattle.hp_model.specs.Distance.{distance}
use Rattle.hp_model.specs.Scripts.{IsScript}
use Rattle.hp_model.specs.ScriptRun.{start}
use Rattle.hp_model.specs.ScriptTurns.{after_turns}
use Rattle.hp_actors.specs.RunInvariant.{IsReached}
use Rattle.hp_actors.specs.Hooks.{IsLater, KeepsHooks}
use Rattle.hp_actors.proofs.RoundLaws.{HasRounds}
use Rattle.hp_actors.proofs.run.Run.play_rounds.Given as goal

abbrev pub invariant-loop-self : goal.invariant-loop-self
invariant-loop-self g l =
    record {
      head : l.self.head ≡ l.fn.self.head;
      actors : l.self.actors ≡ l.fn.self.actors;
      script : IsScript l.self.head l.self.actors;
      reached : IsReached l.self.head l.self.actors l.self.progress;
      rounds :
          (seats : List ℕ) →
          l.fn.self.progress ≡ after_turns l.fn.self.head l.fn.self.actors (start l.fn.self.head l.fn.self.actors) seats →
          HasRounds l.fn.self.head l.fn.self.actors seats l.self.progress;
      made : IsLater l.fn.self l.self;
      kept : KeepsHooks l.fn.self l.self;
    }

abbrev pub decreases-loop-self : goal.decreases-loop-self
decreases-loop-self g l = (MAX_EVENTS + sum_by (λ ops. length ops) l.self.actors) - distance l.self.progress

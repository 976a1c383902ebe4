use Rattle.std.proofs.Common.{◌≡◌, false, [], is_some}
use Rattle.hp_live.specs.Grew.{Grew}
use Rattle.hp_live.proofs.HooksBack.{Kept}
use Rattle.hp_live.proofs.RunsOn.{RunsOn}
use Rattle.hp_live.proofs.hotplug.Hotplug.run_seat.Given as goal

abbrev pub invariant-loop : goal.invariant-loop
invariant-loop g l =
    record {
      runs : RunsOn l.initial.own l.own l.initial.ask.op l.ask.op (is_some l.ask.hook);
      fresh : l.begun ≡ false → Grew l.initial.own.seat l.initial.own.front l.own.front [];
      hook : Kept l.initial.ask.op l.initial.ask.hook l.ask.hook;
    }

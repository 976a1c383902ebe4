-- A new pass has the right to admit, and gives it back to the root.
use Rattle.std.proofs.Common.{ap}
use Rattle.hp_turn.specs.Pass.{Pass}
use Rattle.hp_live.proofs.Fronts.{told_back, admitted_prefix}
use Rattle.hp_live.proofs.hotplug.Hotplug.admit_role.Goals as goal

pub returns-in-Ok-clause-front : goal.returns-in-Ok-clause-front
returns-in-Ok-clause-front g c =
    told_back c.args.root.now c.split-sight.new.sight c.split-sight.result c.admit_section.new.sight c.split-right.result
    c.join.new.sight c.split-right.new.sight.front c.split-sight.ensures.left c.split-sight.ensures.given
    (ap (λ (p : Pass). p.front) c.split-right.ensures.given)
    (admitted_prefix c.split-sight.result.head c.args.role c.split-sight.result.front c.admit_section.new.sight.front c.in-Ok.seat
    c.in-Ok.ensures.ok)
    c.join.ensures.front (ap (λ (p : Pass). p.front) c.split-right.ensures.left)

use Rattle.std.proofs.Common.{◌≡◌, take}
use Rattle.hp_event.proofs.lists.Items+Sub.copy.Given as goal

-- the subsystems so far are copied
abbrev pub invariant-loop-sub : goal.invariant-loop-sub
invariant-loop-sub l = l.items.items ≡ take l.sub-index l.sub-items

use Rattle.std.proofs.Common.{◌≡◌, ◌++◌, take}
use Rattle.std.specs.List.{flat_map}
use Rattle.hp_model.specs.Lists.{numbers}
use Rattle.hp_timeline.specs.Frame.{lane_text, seat_text}
use Rattle.hp_timeline.proofs.frame.append_lanes.Given as goal

abbrev pub invariant-loop-cpu : goal.invariant-loop-cpu
invariant-loop-cpu l = l.out.items ≡ l.initial.out.items ++ flat_map (lane_text l.head l.sheet.window) (numbers l.cpu)

abbrev pub invariant-loop-seat : goal.invariant-loop-seat
invariant-loop-seat l = l.out.items ≡ l.initial.out.items ++ flat_map (seat_text l.sheet) (take l.seat-index l.seats)

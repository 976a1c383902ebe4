-- What is left of a walk or a registration after some entries: the tree that they lead to. This project's own.
use Rattle.std.specs.Prelude.{Bool, false, ◌&&◌, ◌==◌, if◌then◌else◌, List, [], ◌∷◌}
use Rattle.hp_states.specs.Rules.{same_dir}
use Rattle.hp_event.specs.declared.event.Event.{Event}
use Rattle.hp_event.specs.declared.event.Event.TheVariants.{Call}
use Rattle.hp_model.specs.Entries.{is_done}
use Rattle.hp_model.specs.Crossing.{Slot}
use Rattle.hp_model.specs.Trees.{Tree, stop, dead, step}

-- an entry of that processor, key and direction
abbrev pub is_for : Slot → Event → Bool
is_for slot (Call seat cpu state inst dir how) =
    (cpu == slot.cpu && state == slot.state) && (inst == slot.inst && same_dir dir slot.dir)
is_for slot _ = false

abbrev pub is_done_call : Event → Bool
is_done_call (Call seat cpu state inst dir how) = is_done how
is_done_call _ = false

-- an entry that isn't the next one leads nowhere
abbrev pub remaining : Tree → List Event → Tree
remaining t [] = t
remaining stop (e ∷ es) = dead
remaining dead (e ∷ es) = dead
remaining (step s a b) (e ∷ es) = if is_for s e then remaining (if is_done_call e then a else b) es else dead

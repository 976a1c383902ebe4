-- Which operations take the map lock, which register, and how those ask. After `cpu_maps_update_begin` and
-- `__cpuhp_setup_state` and its kin of `kernel/cpu.c`.
use Rattle.std.specs.Prelude.{Bool, true, false, Option, Some, None}
use Rattle.hp_event.specs.declared.op.Form.{Form}
use Rattle.hp_event.specs.declared.op.Op.{Op}
use Rattle.hp_event.specs.declared.op.Op.TheVariants.{Up, Down, Target, Boot, Disable, Enable, Freeze, Thaw, Setup, Remove, Add, Del, UpMany}

-- whether an operation is one that takes the map lock
abbrev pub is_map_op : Op → Bool
is_map_op (Up cpu) = true
is_map_op (Down cpu) = true
is_map_op (Target cpu to) = true
is_map_op (Boot n) = true
is_map_op Disable = true
is_map_op Enable = true
is_map_op (Freeze primary) = true
is_map_op Thaw = true
is_map_op (UpMany set) = true
is_map_op _ = false

-- whether it brings several processors up together
abbrev pub is_upmany : Op → Bool
is_upmany (UpMany set) = true
is_upmany _ = false

-- the form of a registration
abbrev pub form_of : Op → Option Form
form_of (Setup state sub form) = Some form
form_of (Remove state form) = Some form
form_of (Add state inst form) = Some form
form_of (Del state inst form) = Some form
form_of _ = None

abbrev pub is_adding : Op → Bool
is_adding (Setup state sub form) = true
is_adding (Add state inst form) = true
is_adding _ = false

abbrev pub is_setup : Op → Bool
is_setup (Setup state sub form) = true
is_setup _ = false

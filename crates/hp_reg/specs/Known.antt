-- That the table says of a state what the events say. This project's own.
use Rattle.std.specs.Prelude.{◌≡◌, Option}
use Rattle.hp_event.specs.declared.op.Op.{Op}
use Rattle.hp_event.specs.declared.op.Op.TheVariants.{Setup, Remove}
use Rattle.hp_event.specs.declared.head.Head.{Head}
use Rattle.hp_model.specs.Subsystems.{is_multi}
use Rattle.hp_model.specs.Registered.{Registered}
use Rattle.hp_model.specs.RegistrationShape.{single, single_at}
use Rattle.hp_table.specs.Step.{Step}
use Rattle.hp_reg.specs.Concerned.{single_in}

-- the key of a registration is that of the events, where the table says of the state what they say
abbrev pub IsKnown : Head → Op → Option Registered → Option Step → Type 0
IsKnown head (Setup state sub form) found place = single (is_multi head sub) ≡ single_in place
IsKnown head (Remove state form) found place = single_at found ≡ single_in place
IsKnown head _ found place = Unit {0}

-- What an operation of a registration needs of what is registered at its state.
use Rattle.std.proofs.Common.{◌≡◌, ◌<◌, true, Option, Some, None, []}
use Rattle.hp_event.specs.declared.op.Op.{Op}
use Rattle.hp_event.specs.declared.op.Op.TheVariants.{Setup, Remove, Add, Del}
use Rattle.hp_model.specs.Lists.{occurs}
use Rattle.hp_model.specs.Registered.{Registered}

abbrev pub CanBegin : Op → Option Registered → Type 0
CanBegin (Setup state sub form) found = found ≡ None
CanBegin (Remove state form) found = (r : Registered) × (found ≡ Some r) × (r.multi ≡ true → r.insts ≡ [])
CanBegin (Add state inst form) found =
    (r : Registered) × (found ≡ Some r) × (r.multi ≡ true) × (occurs inst r.insts ≡ 0)
CanBegin (Del state inst form) found =
    (r : Registered) × (found ≡ Some r) × (r.multi ≡ true) × (0 < occurs inst r.insts)
CanBegin _ found = ⊥

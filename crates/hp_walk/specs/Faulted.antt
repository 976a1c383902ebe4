-- Whether a callback of a walk has faulted, by where it stands. This project's own.
use Rattle.std.specs.Prelude.{Bool, true, false}
use Rattle.hp_model.specs.Suspend.{is_ok}
use Rattle.hp_walk.specs.declared.position.Position.{Position}
use Rattle.hp_walk.specs.declared.position.Position.TheVariants.{Forward, Ended}

abbrev pub is_faultless : Position → Bool
is_faultless (Forward s k) = true
is_faultless (Ended answer) = is_ok answer
is_faultless _ = false

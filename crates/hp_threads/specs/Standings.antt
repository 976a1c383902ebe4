-- Where an actor stands between two operations. This project's own.
use Rattle.std.specs.Prelude.{Bool, true, false}
use Rattle.hp_live.specs.Known.{Seated}
use Rattle.hp_threads.specs.declared.standing.Standing.{Standing}
use Rattle.hp_threads.specs.declared.standing.Standing.TheVariants.{Outside, Inside}

-- its pass
abbrev pub pass_of : {H : Type 0} → Standing H → Seated
pass_of (Outside pass) = pass
pass_of (Inside read) = read.pass

-- whether it is in a read section
abbrev pub is_inside : {H : Type 0} → Standing H → Bool
is_inside (Outside pass) = false
is_inside (Inside read) = true

-- Which answers say that it was done. This project's own.
use Rattle.std.specs.Prelude.{Bool, true, false}
use Rattle.hp_event.specs.declared.answer.Answer.{Answer}
use Rattle.hp_event.specs.declared.answer.Answer.TheVariants.{Ok, Refused, Fault, Stuck, LogFull}

abbrev pub is_ok : Answer → Bool
is_ok (Ok value) = true
is_ok (Refused errno) = false
is_ok (Fault code) = false
is_ok (Stuck first second at) = false
is_ok LogFull = false

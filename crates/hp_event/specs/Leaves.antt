-- Where a walk leaves its processor. After `st->state` of `kernel/cpu.c`; what a stuck walk leaves is this project's
-- own.
use Rattle.std.specs.Prelude.{ℕ}
use Rattle.hp_event.specs.declared.answer.Answer.{Answer}
use Rattle.hp_event.specs.declared.answer.Answer.TheVariants.{Ok, Refused, Fault, Stuck, LogFull}

-- of a walk to a state, from the state where the processor stood
abbrev pub leaves_at : Answer → (to stood : ℕ) → ℕ
leaves_at (Ok value) to stood = to
leaves_at (Refused errno) to stood = stood
leaves_at (Fault code) to stood = stood
leaves_at (Stuck first second at) to stood = at
leaves_at LogFull to stood = stood

-- Tails that several lines share: a number alone, a number with a signed one behind it, and an operation. This project's
-- own.
use Rattle.std.specs.Prelude.{ℕ, ℤ}
use Rattle.std.specs.Result.{result_ok}
use Rattle.hp_event.specs.declared.op.Op.{Op}
use Rattle.hp_text.specs.Readings as text
use Rattle.hp_text.specs.OpAt.{op_at}
use Rattle.hp_replay.specs.Numbers.{number, integer}
use Rattle.hp_replay.specs.Readers.{Tail, ◌>>=◌, done}

abbrev pub numbered : {X : Type 0} → (ℕ → X) → Tail X
numbered make = do
  n ← number
  done (make n)

-- a processor's number and a value
abbrev pub valued : {X : Type 0} → (ℕ → ℤ → X) → Tail X
valued make = do
  cpu ← number
  value ← integer
  done (make cpu value)

-- what words say, as a script has them: a journal tells form and range not apart
abbrev pub read : {A : Type 0} → text.Tail A → Tail A
read tail words = result_ok (tail words)

-- an operation, as the lines of a script have it
abbrev pub op : Tail Op
op words = read op_at words

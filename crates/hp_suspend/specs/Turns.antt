-- What contracts see of the turns of an upmany: the processors, and for how many there is room. This project's own.
use Rattle.std.specs.Prelude.{ℕ, List}

pub record Queue : Type 0 where
  pub cpus : List ℕ
  pub room : ℕ

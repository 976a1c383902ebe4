-- What a walk says of itself: its processor, and the states that it goes from and to. This project's own.
use Rattle.std.specs.Prelude.{ℕ}
use Rattle.hp_walk.specs.declared.walk.Walk.{Walk}

abbrev pub cpu_of : Walk → ℕ
cpu_of w = w.cpu

abbrev pub from_of : Walk → ℕ
from_of w = w.from

abbrev pub to_of : Walk → ℕ
to_of w = w.to

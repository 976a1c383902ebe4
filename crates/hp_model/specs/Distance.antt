-- How far a run has come: its events and its answers, counted together. This project's own.
use Rattle.std.specs.Prelude.{ℕ, ◌+◌, length, sum}
use Rattle.hp_model.specs.ScriptTurns.{RunState}

abbrev pub distance : RunState → ℕ
distance at = length at.events + sum at.answers

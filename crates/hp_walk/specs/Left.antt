-- How many entries can come at most. This project's own.
use Rattle.std.specs.Prelude.{ℕ, suc, max}
use Rattle.hp_model.specs.Trees.{Tree, stop, dead, step}

-- the longest way down a tree
abbrev pub depth : Tree → ℕ
depth stop = 0
depth dead = 0
depth (step s a b) = suc (max (depth a) (depth b))

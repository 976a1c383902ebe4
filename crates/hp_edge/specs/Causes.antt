-- What is said of a status under which a program writes no line that says why. This project's own.
use Rattle.std.specs.Prelude.{ℕ, ◌==◌, if◌then◌else◌, Option, Some, None, List, codes}
use Rattle.hp_edge.specs.declared.status.TheConstants.{READ_FAULT, WRITE_FAULT, NO_MEMORY}

abbrev pub cause_of : (status : ℕ) → Option (List ℕ)
cause_of s =
    if s == READ_FAULT then Some (codes "reading failed")
    else if s == WRITE_FAULT then Some (codes "writing failed")
    else if s == NO_MEMORY then Some (codes "out of memory")
    else None

-- The error numbers that a table's refusals stand for, and their texts. The numbers are those of the registration
-- calls of `kernel/cpu.c`; that too many instances are `ENOSPC`, and the texts, are this project's own.
use Rattle.std.specs.Prelude.{ℕ, Option, Some, None, List, codes}
use Rattle.hp_states.specs.declared.limits.TheConstants.{EINVAL, EBUSY, ENOSPC}
use Rattle.hp_table.specs.declared.error.TableError.{TableError}
use Rattle.hp_table.specs.declared.error.TableError.TheVariants.{Invalid, Busy, NoSpace, TooMany, NoMemory}

abbrev pub errno_of : TableError → Option ℕ
errno_of Invalid = Some EINVAL
errno_of Busy = Some EBUSY
errno_of NoSpace = Some ENOSPC
errno_of TooMany = Some ENOSPC
errno_of NoMemory = None

abbrev pub text_of : TableError → List ℕ
text_of Invalid = codes "no such state or instance"
text_of Busy = codes "taken, or instances are left"
text_of NoSpace = codes "no free slot"
text_of TooMany = codes "too many instances"
text_of NoMemory = codes "out of memory"

-- The texts of a journal's errors. This project's own.
use Rattle.std.specs.Prelude.{ℕ, List, codes}
use Rattle.hp_event.specs.declared.journal.JournalError.{JournalError}
use Rattle.hp_event.specs.declared.journal.JournalError.TheVariants.{Full, NoMemory}

abbrev pub text_of : JournalError → List ℕ
text_of Full = codes "the journal is full"
text_of NoMemory = codes "out of memory"

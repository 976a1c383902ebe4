-- What a call appends to a buffer of bytes. This project's own.
use Rattle.std.specs.Prelude.{ℕ, Vec}
use Rattle.hp_event.specs.declared.event.Event.{Event}
use Rattle.hp_model.specs.Words.{joined}
use Rattle.hp_model.specs.EventLine.{event_words}
use Rattle.hp_event.specs.declared.version.Version.TheVariants.{Two}
pub use Rattle.hp_text.specs.Appends.{Appends}

-- the buffer has the words of an event behind what it had, with this number of its operation where it is one's
abbrev pub AppendsWords : {A : Type 0} → (old new : Vec ℕ A) → (number : ℕ) → Event → Type 0
AppendsWords old new n event = Appends old new (joined (event_words Two n event))

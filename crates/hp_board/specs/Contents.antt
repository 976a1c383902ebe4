-- What contracts see of a board is what they see of its machine. This project's own.
pub use Rattle.hp_machine.specs.Contents.{Contents, with_event}

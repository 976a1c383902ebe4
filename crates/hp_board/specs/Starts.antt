-- The start of a board, and why it doesn't start: the first thing that is at fault in its head, or memory was wanting. This project's own.
use Rattle.std.specs.Prelude.{◌≡◌, List}
use Rattle.hp_event.specs.declared.head.Sub.{Sub}
use Rattle.hp_event.specs.declared.head.Head.{Head}
use Rattle.hp_model.specs.Heads.{IsHead}
use Rattle.hp_machine.specs.Contents.{started}
use Rattle.hp_machine.specs.Heads.{IsFirstFault}
use Rattle.hp_machine.specs.declared.heads.HeadFault.{HeadFault}
use Rattle.hp_board.specs.Contents.{Contents}
use Rattle.hp_board.specs.declared.start.CpuPlan.{CpuPlan}
use Rattle.hp_board.specs.declared.start.StartError.{StartError}
use Rattle.hp_board.specs.declared.start.StartError.TheVariants.{NoProcessor, TooManyCpus, BadAbsent, NoBoot, TooManySubs, NoMemory}

-- the head of a board with these processors and subsystems
abbrev pub head_of : CpuPlan → List Sub → Head
head_of plan subs = record { possible = plan.possible; absent = plan.absent; subs = subs }

-- no event was made, and nothing is registered
abbrev pub IsStarted : Head → Contents → Type 0
IsStarted head board = board ≡ started head board.lent

abbrev pub IsStartRefusal : Head → StartError → Type 0
IsStartRefusal head NoProcessor = IsFirstFault head HeadFault.NoProcessor
IsStartRefusal head TooManyCpus = IsFirstFault head HeadFault.TooManyCpus
IsStartRefusal head BadAbsent = IsFirstFault head HeadFault.BadAbsent
IsStartRefusal head NoBoot = IsFirstFault head HeadFault.NoBoot
IsStartRefusal head TooManySubs = IsFirstFault head HeadFault.TooManySubs
IsStartRefusal head NoMemory = IsHead head

-- a refusal by such a fault
abbrev pub refusal_by : HeadFault → StartError
refusal_by HeadFault.NoProcessor = NoProcessor
refusal_by HeadFault.TooManyCpus = TooManyCpus
refusal_by HeadFault.BadAbsent = BadAbsent
refusal_by HeadFault.NoBoot = NoBoot
refusal_by HeadFault.TooManySubs = TooManySubs

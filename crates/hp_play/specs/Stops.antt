-- Why no output is written, and what is so then. This project's own.
use Rattle.std.specs.Prelude.{◌≡◌, ℕ, ◌+◌, Option, List}
use Rattle.hp_command.specs.declared.command.Command.{Command}
use Rattle.hp_command.specs.declared.command.Command.TheVariants as asks
use Rattle.hp_command.specs.Controlling.{AreThreads}
use Rattle.hp_play.specs.declared.stop.Stop.{Stop}
use Rattle.hp_play.specs.declared.stop.Stop.TheVariants.{BadScript, BadJournal, ReadFault, NoMemory}
use Rattle.hp_play.specs.Ranges.{AreInRange, CanBeCounted}
use Rattle.hp_play.specs.Main.{IsBadJournal, IsBadJournalOf, IsRefusedBy}
use Rattle.hp_event.specs.declared.version.Version.{Version}
use Rattle.hp_edge.specs.declared.script.NoScript.{NoScript}
use Rattle.hp_edge.specs.declared.script.NoScript.TheVariants as no_script
use Rattle.hp_edge.specs.Scripts.{IsBad, IsBadScript}

-- the numbers of a command are in their ranges
abbrev pub HasRanges : Command → Type 0
HasRanges (asks.Gen options) = AreInRange options.seed options.size
HasRanges (asks.Bench options) = AreInRange options.seed options.size
HasRanges (asks.Count counting) = CanBeCounted counting
HasRanges (asks.Smt controlling) = AreThreads controlling.threads
HasRanges _ = Unit {0}

-- a command that reads
abbrev pub Reads : Command → Type 0
Reads asks.Play = Unit {0}
Reads asks.States = Unit {0}
Reads asks.Report = Unit {0}
Reads asks.Replay = Unit {0}
Reads asks.Migrate = Unit {0}
Reads (asks.Count counting) = Unit {0}
Reads (asks.Smt controlling) = Unit {0}
Reads _ = ⊥

-- a refusal has its cause in what was read or in the rack, a fault in the count of the source
abbrev pub Stops : Command → (hooks : ℕ) (left now : Option (List ℕ)) (faults faults_now : ℕ) → Stop → Type 0
Stops command hooks left now faults faults_now (BadScript line) =
    IsRefusedBy command hooks left now line.items × (faults_now ≡ faults)
Stops command hooks left now faults faults_now (BadJournal line) =
    IsBadJournalOf command left now line.items × (faults_now ≡ faults)
Stops command hooks left now faults faults_now ReadFault = Reads command × (faults_now ≡ faults + 1)
Stops command hooks left now faults faults_now NoMemory = faults_now ≡ faults

-- the same of a script that is read from a source
abbrev pub StopsScript : (hooks : ℕ) (left now : Option (List ℕ)) (faults faults_now : ℕ) → Stop → Type 0
StopsScript hooks left now faults faults_now (BadScript line) = IsBadScript hooks left now line.items × (faults_now ≡ faults)
StopsScript hooks left now faults faults_now (BadJournal line) = ⊥
StopsScript hooks left now faults faults_now ReadFault = faults_now ≡ faults + 1
StopsScript hooks left now faults faults_now NoMemory = faults_now ≡ faults

-- the same of a journal that is read in a version
abbrev pub StopsJournal : Version → (left now : Option (List ℕ)) (faults faults_now : ℕ) → Stop → Type 0
StopsJournal v left now faults faults_now (BadScript line) = ⊥
StopsJournal v left now faults faults_now (BadJournal line) = IsBadJournal v left now line.items × (faults_now ≡ faults)
StopsJournal v left now faults faults_now ReadFault = faults_now ≡ faults + 1
StopsJournal v left now faults faults_now NoMemory = faults_now ≡ faults

-- the same of the bytes of a script
abbrev pub Refuses : (hooks : ℕ) (bytes : List ℕ) → Stop → Type 0
Refuses hooks bytes (BadScript line) = IsBad hooks bytes line.items
Refuses hooks bytes (BadJournal line) = ⊥
Refuses hooks bytes ReadFault = ⊥
Refuses hooks bytes NoMemory = Unit {0}

-- the stop where there is no script
abbrev pub stop_of : NoScript → Stop
stop_of (no_script.Refused line) = BadScript line
stop_of no_script.ReadFault = ReadFault
stop_of no_script.NoMemory = NoMemory

-- Why no picture is written, and what is so then. This project's own.
use Rattle.std.specs.Prelude.{◌≡◌, ℕ, ◌+◌, Option, List, Vec}
use Rattle.hp_io.specs.declared.source.Source as Source
use Rattle.hp_view.specs.declared.asked.Asked.{Asked}
use Rattle.hp_view.specs.declared.stop.Stop.{Stop}
use Rattle.hp_view.specs.declared.stop.Stop.TheVariants.{BadWindow, BadJournal, ReadFault, NoMemory}
use Rattle.hp_view.specs.Main.{IsShown, IsBadWindow, IsBadJournal}

-- a refusal has its cause in what was read, a fault in the count of the source
abbrev pub Stops : Asked → (left now : Option (List ℕ)) (faults faults_now : ℕ) → Stop → Type 0
Stops asked left now faults faults_now (BadWindow line) = IsBadWindow asked left now line.items × (faults_now ≡ faults)
Stops asked left now faults faults_now (BadJournal line) = IsBadJournal left now line.items × (faults_now ≡ faults)
Stops asked left now faults faults_now ReadFault = faults_now ≡ faults + 1
Stops asked left now faults faults_now NoMemory = faults_now ≡ faults

-- the same of a source before and now
abbrev pub StopsAt : {S : Type 0} → Asked → Source.Ghosts S → (source source_now : S) → Stop → Type 0
StopsAt asked from source source_now =
    Stops asked (from.left source) (from.left source_now) (from.faults source) (from.faults source_now)

-- what is written of the journal that a source holds
abbrev pub Shows : {S Z : Type 0} → Asked → Source.Ghosts S → (source source_now : S) → (picture : Vec ℕ Z) → Type 0
Shows asked from source source_now = λ picture. IsShown asked (from.left source) (from.left source_now) picture.items

-- Which script a source holds for a rack with so many hooks, and why it holds none. This project's own.
use Rattle.std.specs.Prelude.{◌≡◌, ℕ, ◌+◌, min, Option, Some, List}
use Rattle.hp_io.specs.declared.source.Source as Source
use Rattle.hp_states.specs.declared.limits.TheConstants.{MAX_SCRIPT_BYTES}
use Rattle.hp_script.specs.declared.error.ParseError.TheVariants.{Bad}
use Rattle.hp_script.specs.declared.error.ScriptKind.{ScriptKind}
use Rattle.hp_script.specs.Judged.{IsRead, IsRefused}
use Rattle.hp_script.specs.Script.{Contents}
use Rattle.hp_edge.specs.declared.script.NoScript.{NoScript}
use Rattle.hp_edge.specs.declared.script.NoScript.TheVariants.{Refused, ReadFault, NoMemory}
use Rattle.hp_edge.specs.Reading.{WasRead}
use Rattle.hp_edge.specs.Refusals.{script_error_line}

-- the hooks that a script's setups can take: those of the rack, as far as they are counted
abbrev pub counted_hooks : (hooks : ℕ) → ℕ
counted_hooks hooks = min hooks 4294967295

-- ---- what is accepted

-- the source holds a script
pub record HoldsScript (hooks : ℕ) (left : Option (List ℕ)) : Type 0 where
  pub bytes : List ℕ
  pub script : Contents
  pub held : left ≡ Some bytes
  pub is_script : IsRead (counted_hooks hooks) bytes script

-- the script was read of it
pub record HasReadScript (hooks : ℕ) (left now : Option (List ℕ)) (script : Contents) : Type 0 where
  pub bytes : List ℕ
  pub read : WasRead MAX_SCRIPT_BYTES left now bytes
  pub is_script : IsRead (counted_hooks hooks) bytes script

abbrev pub ReadsScript : {S : Type 0} → Source.Ghosts S → (hooks : ℕ) → (old new : S) → Contents → Type 0
ReadsScript source hooks old new script = HasReadScript hooks (source.left old) (source.left new) script

-- ---- what is refused

-- the bytes are no script: this line is the first that is refused, for this cause
pub record IsBad (hooks : ℕ) (bytes written : List ℕ) : Type 0 where
  pub line : ℕ
  pub kind : ScriptKind
  pub refused : IsRefused (counted_hooks hooks) bytes line kind
  pub written_is : written ≡ script_error_line (Bad line kind)

-- the source holds no script: this line is the first that is refused, for this cause
pub record IsBadScript (hooks : ℕ) (left now : Option (List ℕ)) (written : List ℕ) : Type 0 where
  pub bytes : List ℕ
  pub read : WasRead MAX_SCRIPT_BYTES left now bytes
  pub line : ℕ
  pub kind : ScriptKind
  pub refused : IsRefused (counted_hooks hooks) bytes line kind
  pub written_is : written ≡ script_error_line (Bad line kind)

-- why the bytes are no script; want of memory says nothing of them
abbrev pub Refuses : (hooks : ℕ) (bytes : List ℕ) → NoScript → Type 0
Refuses hooks bytes (Refused line) = IsBad hooks bytes line.items
Refuses hooks bytes ReadFault = ⊥
Refuses hooks bytes NoMemory = Unit {0}

-- why no script was read: a refusal has its cause in what was read, a fault in the count of the source
abbrev pub Stops : (hooks : ℕ) (left now : Option (List ℕ)) (faults faults_now : ℕ) → NoScript → Type 0
Stops hooks left now faults faults_now (Refused line) = IsBadScript hooks left now line.items × (faults_now ≡ faults)
Stops hooks left now faults faults_now ReadFault = faults_now ≡ faults + 1
Stops hooks left now faults faults_now NoMemory = faults_now ≡ faults

abbrev pub StopsAt : {S : Type 0} → Source.Ghosts S → (hooks : ℕ) → (old new : S) → NoScript → Type 0
StopsAt source hooks old new error =
    Stops hooks (source.left old) (source.left new) (source.faults old) (source.faults new) error

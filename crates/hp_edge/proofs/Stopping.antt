-- What comes of the bytes that were read of a source.
use Rattle.std.proofs.Common.{◌≡◌, ℕ, Option, List, Result, Ok, Err, IfOk, IfErr, subst}
use Rattle.hp_states.specs.declared.limits.TheConstants.{MAX_SCRIPT_BYTES}
use Rattle.hp_script.specs.Judged.{IsRead}
use Rattle.hp_script.specs.Script.{Contents}
use Rattle.hp_edge.specs.declared.script.NoScript.{NoScript}
use Rattle.hp_edge.specs.declared.script.NoScript.TheVariants.{Refused, ReadFault, NoMemory}
use Rattle.hp_edge.specs.Reading.{WasRead}
use Rattle.hp_edge.specs.Scripts.{counted_hooks, HasReadScript, Refuses, Stops}

pub read_is : {A X : Type 0} (contents : A → Contents) (hooks : ℕ) (left now : Option (List ℕ)) (bytes read : List ℕ) (r : Result A X) →
    WasRead MAX_SCRIPT_BYTES left now read → bytes ≡ read →
    IfOk r (λ a. IsRead (counted_hooks hooks) bytes (contents a)) →
    IfOk r (λ a. HasReadScript hooks left now (contents a))
read_is contents hooks left now bytes read (Ok a) was same is = record {
  bytes = read;
  read = was;
  is_script = subst (λ (bs : List ℕ). IsRead (counted_hooks hooks) bs (contents a)) same is;
}
read_is contents hooks left now bytes read (Err x) was same is = tt

pub read_stops : {A : Type 0} (hooks : ℕ) (left now : Option (List ℕ)) (bytes read : List ℕ) (faults faults_now : ℕ) (r : Result A NoScript) →
    WasRead MAX_SCRIPT_BYTES left now read → bytes ≡ read → faults_now ≡ faults →
    IfErr r (Refuses hooks bytes) → IfErr r (Stops hooks left now faults faults_now)
read_stops hooks left now bytes read faults faults_now (Ok a) was same kept why = tt
read_stops hooks left now bytes read faults faults_now (Err (Refused line)) was same kept why =
    let bad = subst (λ (bs : List ℕ). Refuses hooks bs (Refused line)) same why in (
      record {
        bytes = read;
        read = was;
        line = bad.line;
        kind = bad.kind;
        refused = bad.refused;
        written_is = bad.written_is;
      },
      kept,
    )
read_stops hooks left now bytes read faults faults_now (Err ReadFault) was same kept why = absurd why
read_stops hooks left now bytes read faults faults_now (Err NoMemory) was same kept why = kept

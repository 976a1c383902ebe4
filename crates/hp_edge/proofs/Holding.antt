-- A source that holds a script is refused for no line, and a script that was read can be played with the hooks of the rack.
use Rattle.std.proofs.Common.{◌≡◌, ℕ, ◌+◌, ◌≤◌, ◌⊎◌, inl, inr, Option, Some, None, List, [], ◌++◌, length, sym, subst, ◌∙◌, arith}
use Rattle.std.specs.List.{sum_by}
use Rattle.std.proofs.lemmas.List.{append-nil, length-append}
use Rattle.std.proofs.Math.Nat.{min-le_left}
use Rattle.hp_states.specs.declared.limits.TheConstants.{MAX_SCRIPT_BYTES}
use Rattle.hp_model.specs.Scripts.{IsScript}
use Rattle.hp_script.specs.Judged.{IsRead, IsRefused}
use Rattle.hp_script.specs.Playable.{setups_in}
use Rattle.hp_script.specs.Script.{Contents}
use Rattle.hp_script.proofs.PlayableScripts.{read_scripts_play, short_read}
use Rattle.hp_edge.specs.Reading.{WasRead}
use Rattle.hp_edge.specs.Scripts.{counted_hooks, HoldsScript, IsBadScript}

same_some : (a b : List ℕ) → Some a ≡ Some b → a ≡ b
same_some a b h = cc

-- of bytes that are few enough all were read
pub all_read : (limit : ℕ) (left now : Option (List ℕ)) (bytes all : List ℕ) → left ≡ Some all → length all ≤ limit →
    WasRead limit left now bytes → bytes ≡ all
all_read limit left None bytes all held few read = let first = sym held ∙ read.first in absurd (cc)
all_read limit left (Some rest) bytes all held few read = go read.whole
  where
    parts : bytes ++ rest ≡ all
    parts = same_some (bytes ++ rest) all (sym read.first ∙ held)

    go : (rest ≡ []) ⊎ (length bytes ≡ limit + 1) → bytes ≡ all
    go (inl none) = sym (append-nil bytes) ∙ (rw none at parts)
    go (inr many) =
        let more = length-append bytes rest in
        let whole : length (bytes ++ rest) ≤ limit = rw parts few in
        absurd (omega (arith, more, many, whole))

pub no_bad_script : (hooks : ℕ) (left now : Option (List ℕ)) (written : List ℕ) → HoldsScript hooks left → IsBadScript hooks left now written → ⊥
no_bad_script hooks left now written s bad =
    let few = short_read (counted_hooks hooks) s.bytes s.script s.is_script in
    let same = all_read MAX_SCRIPT_BYTES left now bad.bytes s.bytes s.held few bad.read in
    s.is_script.unrefused bad.line bad.kind
    (subst (λ (bytes : List ℕ). IsRefused (counted_hooks hooks) bytes bad.line bad.kind) same bad.refused)

pub plays : (hooks : ℕ) (bytes : List ℕ) (script : Contents) → IsRead hooks bytes script → IsScript script.head script.actors
plays hooks bytes script read = (read_scripts_play hooks bytes script read).plays

-- each of its setups can take a hook of the rack
pub enough : (hooks : ℕ) (bytes : List ℕ) (script : Contents) → IsRead (counted_hooks hooks) bytes script →
    sum_by setups_in script.actors ≤ hooks
enough hooks bytes script read =
    let taken = (read_scripts_play (counted_hooks hooks) bytes script read).hooks_for_all in
    let counted : counted_hooks hooks ≤ hooks = min-le_left hooks 4294967295 in
    omega (arith, taken, counted)

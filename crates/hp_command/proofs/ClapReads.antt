-- Clap takes words only where they are those of the two options, and reads the options' texts of them.
use Rattle.std.proofs.Common.{◌≡◌, Bool, true, false, cond, None, List, [], ◌∷◌, ◌++◌, codes, inl, inr, refl, sym, subst, ◌∙◌}
use Rattle.clap.specs.Walk.{Held, Row, finished, first_of, has_row, nothing_held, settled, with_default}
use Rattle.clap.specs.Simple.{built, matches_of}
use Rattle.clap.specs.Faults.{fault_of, level_fault, settle_fault, walk_fault}
use Rattle.clap.specs.Walk.{walk, walk_from}
use Rattle.clap.proofs.FaultLemmas.{leaf_fault}
use Rattle.hp_command.specs.Options.{AreWordsOfBoth}
use Rattle.hp_command.proofs.Reading.{Word}
use Rattle.hp_command.proofs.ClapRules.{Flag, seed, size, name, rule, rules, top, app}
use Rattle.hp_command.proofs.ClapSteps.{none_of_both}
use Rattle.hp_command.proofs.ClapWalk.{Spelled, all_words, rows_after_uses, AreNew, has_dashes, from_rest}

-- the texts that uses give to the options
abbrev pub AreRead : (words : List Word) → List Row → Type 0
AreRead words rows = AreWordsOfBoth words (first_of (codes "seed") rows) (first_of (codes "size") rows)

uses_are : (uses : List Spelled) → AreNew [] uses → AreRead (all_words uses) (rows_after_uses [] uses)
uses_are [] new = record { seed_words = []; size_words = []; of_seed = refl; of_size = refl; any_order = inl refl }
uses_are ((seed, s, true) ∷ []) new =
    record { seed_words = (codes "--seed" ++ 61 ∷ s) ∷ []; size_words = []; of_seed = inr refl; of_size = refl; any_order = inl refl }
uses_are ((seed, s, false) ∷ []) new =
    record { seed_words = codes "--seed" ∷ s ∷ []; size_words = []; of_seed = inl refl; of_size = refl; any_order = inl refl }
uses_are ((size, z, true) ∷ []) new =
    record { seed_words = []; size_words = (codes "--size" ++ 61 ∷ z) ∷ []; of_seed = refl; of_size = inr refl; any_order = inl refl }
uses_are ((size, z, false) ∷ []) new =
    record { seed_words = []; size_words = codes "--size" ∷ z ∷ []; of_seed = refl; of_size = inl refl; any_order = inl refl }
uses_are ((seed, s, true) ∷ (size, z, true) ∷ []) new = record {
  seed_words = (codes "--seed" ++ 61 ∷ s) ∷ [];
  size_words = (codes "--size" ++ 61 ∷ z) ∷ [];
  of_seed = inr refl;
  of_size = inr refl;
  any_order = inl refl;
}
uses_are ((seed, s, true) ∷ (size, z, false) ∷ []) new = record {
  seed_words = (codes "--seed" ++ 61 ∷ s) ∷ [];
  size_words = codes "--size" ∷ z ∷ [];
  of_seed = inr refl;
  of_size = inl refl;
  any_order = inl refl;
}
uses_are ((seed, s, false) ∷ (size, z, true) ∷ []) new = record {
  seed_words = codes "--seed" ∷ s ∷ [];
  size_words = (codes "--size" ++ 61 ∷ z) ∷ [];
  of_seed = inl refl;
  of_size = inr refl;
  any_order = inl refl;
}
uses_are ((seed, s, false) ∷ (size, z, false) ∷ []) new = record {
  seed_words = codes "--seed" ∷ s ∷ [];
  size_words = codes "--size" ∷ z ∷ [];
  of_seed = inl refl;
  of_size = inl refl;
  any_order = inl refl;
}
uses_are ((size, z, true) ∷ (seed, s, true) ∷ []) new = record {
  seed_words = (codes "--seed" ++ 61 ∷ s) ∷ [];
  size_words = (codes "--size" ++ 61 ∷ z) ∷ [];
  of_seed = inr refl;
  of_size = inr refl;
  any_order = inr refl;
}
uses_are ((size, z, true) ∷ (seed, s, false) ∷ []) new = record {
  seed_words = codes "--seed" ∷ s ∷ [];
  size_words = (codes "--size" ++ 61 ∷ z) ∷ [];
  of_seed = inl refl;
  of_size = inr refl;
  any_order = inr refl;
}
uses_are ((size, z, false) ∷ (seed, s, true) ∷ []) new = record {
  seed_words = (codes "--seed" ++ 61 ∷ s) ∷ [];
  size_words = codes "--size" ∷ z ∷ [];
  of_seed = inr refl;
  of_size = inl refl;
  any_order = inr refl;
}
uses_are ((size, z, false) ∷ (seed, s, false) ∷ []) new = record {
  seed_words = codes "--seed" ∷ s ∷ [];
  size_words = codes "--size" ∷ z ∷ [];
  of_seed = inl refl;
  of_size = inl refl;
  any_order = inr refl;
}
uses_are ((seed, s, a) ∷ (seed, t, b) ∷ more) new = let bad : true ≡ false = new.1.0 in absurd cc
uses_are ((size, s, a) ∷ (size, t, b) ∷ more) new = let bad : true ≡ false = new.1.0 in absurd cc
uses_are ((seed, s, a) ∷ (size, t, b) ∷ (seed, u, c) ∷ more) new = let bad : true ≡ false = new.1.1.0 in absurd cc
uses_are ((seed, s, a) ∷ (size, t, b) ∷ (size, u, c) ∷ more) new = let bad : true ≡ false = new.1.1.0 in absurd cc
uses_are ((size, s, a) ∷ (seed, t, b) ∷ (seed, u, c) ∷ more) new = let bad : true ≡ false = new.1.1.0 in absurd cc
uses_are ((size, s, a) ∷ (seed, t, b) ∷ (size, u, c) ∷ more) new = let bad : true ≡ false = new.1.1.0 in absurd cc

-- no option has a default value
keeps : (b : Bool) (rows : List Row) → cond b rows rows ≡ rows
keeps true rows = refl
keeps false rows = refl

no_default : (f : Flag) (rows : List Row) → with_default rows (rule f) ≡ rows
no_default f rows = keeps (has_row (name f) rows) rows

finished_is : (h : Held) → finished rules h ≡ (settled rules h).rows
finished_is h = no_default size (with_default (settled rules h).rows (rule seed)) ∙ no_default seed (settled rules h).rows

pub clap_reads : (words : List Word) → has_dashes words ≡ false → fault_of app words ≡ [] → AreRead words (matches_of app words)
clap_reads words clear e =
    let held = (walk rules [] nothing_held words).held in
    let level : level_fault top [] nothing_held words false [] ≡ [] = sym (leaf_fault (built app) nothing_held words refl) ∙ e in
    let a = none_of_both (walk_fault top [] (walk_from nothing_held) words) _ level in
    let b = none_of_both (settle_fault rules false held) _ a.second in
    let r = from_rest words clear None [] (record { walk = a.first; end = b.first }) in
    let rows : matches_of app words ≡ rows_after_uses [] r.uses = finished_is held ∙ r.rows_are in
    subst (λ (found : List Row). AreRead words found) (sym rows)
    (subst (λ (ws : List Word). AreRead ws (rows_after_uses [] r.uses)) (sym r.words_are) (uses_are r.uses r.are_new))

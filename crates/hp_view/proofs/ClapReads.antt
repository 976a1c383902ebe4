-- Clap takes words only where they are those of the two options, and reads the options' texts of them.
use Rattle.std.proofs.Common.{◌≡◌, Bool, true, false, cond, None, List, [], ◌∷◌, ◌++◌, codes, inl, inr, refl, sym, subst, ◌∙◌}
use Rattle.clap.specs.Walk.{Held, Row, finished, first_of, has_row, nothing_held, settled, with_default}
use Rattle.clap.specs.Simple.{built, matches_of}
use Rattle.clap.specs.Faults.{fault_of, level_fault, settle_fault, walk_fault}
use Rattle.clap.specs.Walk.{walk, walk_from}
use Rattle.clap.proofs.FaultLemmas.{leaf_fault}
use Rattle.hp_view.specs.Options.{AreWordsOfBoth}
use Rattle.hp_command.proofs.Reading.{Word}
use Rattle.hp_view.proofs.ClapRules.{Flag, start, stop, name, rule, rules, top, app}
use Rattle.hp_view.proofs.ClapSteps.{none_of_both}
use Rattle.hp_view.proofs.ClapWalk.{Spelled, all_words, rows_after_uses, AreNew, has_dashes, from_rest}

-- the texts that uses give to the options
abbrev pub AreRead : (words : List Word) → List Row → Type 0
AreRead words rows = AreWordsOfBoth words (first_of (codes "from") rows) (first_of (codes "to") rows)

uses_are : (uses : List Spelled) → AreNew [] uses → AreRead (all_words uses) (rows_after_uses [] uses)
uses_are [] new = record { start_words = []; stop_words = []; of_start = refl; of_stop = refl; any_order = inl refl }
uses_are ((start, s, true) ∷ []) new =
    record { start_words = (codes "--from" ++ 61 ∷ s) ∷ []; stop_words = []; of_start = inr refl; of_stop = refl; any_order = inl refl }
uses_are ((start, s, false) ∷ []) new =
    record { start_words = codes "--from" ∷ s ∷ []; stop_words = []; of_start = inl refl; of_stop = refl; any_order = inl refl }
uses_are ((stop, z, true) ∷ []) new =
    record { start_words = []; stop_words = (codes "--to" ++ 61 ∷ z) ∷ []; of_start = refl; of_stop = inr refl; any_order = inl refl }
uses_are ((stop, z, false) ∷ []) new =
    record { start_words = []; stop_words = codes "--to" ∷ z ∷ []; of_start = refl; of_stop = inl refl; any_order = inl refl }
uses_are ((start, s, true) ∷ (stop, z, true) ∷ []) new = record {
  start_words = (codes "--from" ++ 61 ∷ s) ∷ [];
  stop_words = (codes "--to" ++ 61 ∷ z) ∷ [];
  of_start = inr refl;
  of_stop = inr refl;
  any_order = inl refl;
}
uses_are ((start, s, true) ∷ (stop, z, false) ∷ []) new = record {
  start_words = (codes "--from" ++ 61 ∷ s) ∷ [];
  stop_words = codes "--to" ∷ z ∷ [];
  of_start = inr refl;
  of_stop = inl refl;
  any_order = inl refl;
}
uses_are ((start, s, false) ∷ (stop, z, true) ∷ []) new = record {
  start_words = codes "--from" ∷ s ∷ [];
  stop_words = (codes "--to" ++ 61 ∷ z) ∷ [];
  of_start = inl refl;
  of_stop = inr refl;
  any_order = inl refl;
}
uses_are ((start, s, false) ∷ (stop, z, false) ∷ []) new = record {
  start_words = codes "--from" ∷ s ∷ [];
  stop_words = codes "--to" ∷ z ∷ [];
  of_start = inl refl;
  of_stop = inl refl;
  any_order = inl refl;
}
uses_are ((stop, z, true) ∷ (start, s, true) ∷ []) new = record {
  start_words = (codes "--from" ++ 61 ∷ s) ∷ [];
  stop_words = (codes "--to" ++ 61 ∷ z) ∷ [];
  of_start = inr refl;
  of_stop = inr refl;
  any_order = inr refl;
}
uses_are ((stop, z, true) ∷ (start, s, false) ∷ []) new = record {
  start_words = codes "--from" ∷ s ∷ [];
  stop_words = (codes "--to" ++ 61 ∷ z) ∷ [];
  of_start = inl refl;
  of_stop = inr refl;
  any_order = inr refl;
}
uses_are ((stop, z, false) ∷ (start, s, true) ∷ []) new = record {
  start_words = (codes "--from" ++ 61 ∷ s) ∷ [];
  stop_words = codes "--to" ∷ z ∷ [];
  of_start = inr refl;
  of_stop = inl refl;
  any_order = inr refl;
}
uses_are ((stop, z, false) ∷ (start, s, false) ∷ []) new = record {
  start_words = codes "--from" ∷ s ∷ [];
  stop_words = codes "--to" ∷ z ∷ [];
  of_start = inl refl;
  of_stop = inl refl;
  any_order = inr refl;
}
uses_are ((start, s, a) ∷ (start, t, b) ∷ more) new = let bad : true ≡ false = new.1.0 in absurd cc
uses_are ((stop, s, a) ∷ (stop, t, b) ∷ more) new = let bad : true ≡ false = new.1.0 in absurd cc
uses_are ((start, s, a) ∷ (stop, t, b) ∷ (start, u, c) ∷ more) new = let bad : true ≡ false = new.1.1.0 in absurd cc
uses_are ((start, s, a) ∷ (stop, t, b) ∷ (stop, u, c) ∷ more) new = let bad : true ≡ false = new.1.1.0 in absurd cc
uses_are ((stop, s, a) ∷ (start, t, b) ∷ (start, u, c) ∷ more) new = let bad : true ≡ false = new.1.1.0 in absurd cc
uses_are ((stop, s, a) ∷ (start, t, b) ∷ (stop, u, c) ∷ more) new = let bad : true ≡ false = new.1.1.0 in absurd cc

-- no option has a default value
keeps : (b : Bool) (rows : List Row) → cond b rows rows ≡ rows
keeps true rows = refl
keeps false rows = refl

no_default : (f : Flag) (rows : List Row) → with_default rows (rule f) ≡ rows
no_default f rows = keeps (has_row (name f) rows) rows

finished_is : (h : Held) → finished rules h ≡ (settled rules h).rows
finished_is h = no_default stop (with_default (settled rules h).rows (rule start)) ∙ no_default start (settled rules h).rows

pub clap_reads : (words : List Word) → has_dashes words ≡ false → fault_of app words ≡ [] → AreRead words (matches_of app words)
clap_reads words clear e =
    let held = (walk rules [] nothing_held words).held in
    let level : level_fault top [] nothing_held words false [] ≡ [] = sym (leaf_fault (built app) nothing_held words refl) ∙ e in
    let a = none_of_both (walk_fault top [] (walk_from nothing_held) words) _ level in
    let b = none_of_both (settle_fault rules false held) _ a.second in
    let r = from_rest words clear None [] (record { walk = a.first; end = b.first }) in
    let rows : matches_of app words ≡ rows_after_uses [] r.uses = finished_is held ∙ r.rows_are in
    subst (λ (found : List Row). AreRead words found) (sym rows)
    (subst (λ (ws : List Word). AreRead ws (rows_after_uses [] r.uses)) (sym r.words_are) (uses_are r.uses r.are_new))

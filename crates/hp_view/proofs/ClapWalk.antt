-- Clap's walk over the words of two options: where no word is a fault, the words are those of some uses, each of an
-- option that wasn't used before.
use Rattle.std.proofs.Common.{◌≡◌, Bool, true, false, cond, ◌||◌, Option, Some, None, List, [], ◌∷◌, ◌++◌, refl, ap, ap₂, subst, ◌∙◌}
use Rattle.std.specs.Prelude.{⊤, fold}
use Rattle.std.specs.List.{list_any}
use Rattle.std.specs.Str.{bytes_eq}
use Rattle.clap.specs.Walk.{Held, Row, Walk, settled, walked}
use Rattle.clap.specs.Faults.{settle_fault, turn_fault, walk_fault}
use Rattle.hp_command.proofs.Reading.{Word}
use Rattle.hp_command.proofs.ClapWords.{joined}
use Rattle.hp_view.proofs.ClapRules.{Flag, name, rules, top}
use Rattle.hp_view.proofs.ClapSteps.{Use, at_rest, at_value, rows_at, with_use, dashes, AtRest, alone, whole, IsNew, IsNewUse, none_of_both, settle_new, settled_is, unsettled, at_rest_step, at_value_step}

-- a use, and whether it is one word
abbrev pub Spelled : Type 0
Spelled = Flag × Word × Bool

abbrev pub words_of : Spelled → List Word
words_of s = cond s.2 ((45 ∷ 45 ∷ joined (name s.0) (Some s.1)) ∷ []) ((45 ∷ 45 ∷ name s.0) ∷ s.1 ∷ [])

abbrev pub all_words : List Spelled → List Word
all_words [] = []
all_words (s ∷ ss) = words_of s ++ all_words ss

-- the rows after some uses
abbrev pub rows_after_uses : List Row → List Spelled → List Row
rows_after_uses rows [] = rows
rows_after_uses rows (s ∷ ss) = rows_after_uses (with_use s.0 s.1 rows) ss

-- each use is of an option that wasn't used before
abbrev pub AreNew : List Row → List Spelled → Type 0
AreNew rows [] = ⊤
AreNew rows (s ∷ ss) = IsNew s.0 rows × AreNew (with_use s.0 s.1 rows) ss

abbrev pub has_dashes : List Word → Bool
has_dashes = list_any (λ w. bytes_eq w dashes)

-- the walk passes, with its end
pub record Passes (w : Walk) (words : List Word) : Type 0 where
  pub walk : walk_fault top [] w words ≡ []
  pub end : settle_fault rules false (fold (walked rules []) w words).held ≡ []

abbrev pub rows_of_walk : Walk → List Word → List Row
rows_of_walk w words = (settled rules (fold (walked rules []) w words).held).rows

-- what was read from a place of rest
pub record Rest (p : Option Use) (rows : List Row) (words : List Word) : Type 0 where
  pub uses : List Spelled
  pub words_are : words ≡ all_words uses
  pub pending_is_new : IsNewUse p rows
  pub are_new : AreNew (rows_at p rows) uses
  pub rows_are : rows_of_walk (at_rest p rows) words ≡ rows_after_uses (rows_at p rows) uses

-- and from one where a value is due
pub record Value (f : Flag) (rows : List Row) (words : List Word) : Type 0 where
  pub text : Word
  pub left : List Word
  pub words_are : words ≡ text ∷ left
  pub rest : Rest (Some (f, text)) rows left
  pub rows_are : rows_of_walk (at_value f rows) words ≡ rows_of_walk (at_rest (Some (f, text)) rows) left

pub record Turn (w : Walk) (word : Word) (words : List Word) : Type 0 where
  pub turn : turn_fault top [] w word ≡ []
  pub passes : Passes (walked rules [] w word) words

turn_of : (w : Walk) (word : Word) (words : List Word) → Passes w (word ∷ words) → Turn w word words
unfolding walk_fault
turn_of w word words h =
    let parts = none_of_both (turn_fault top [] w word) (walk_fault top [] (walked rules [] w word) words) h.walk in
    record { turn = parts.first; passes = record { walk = parts.second; end = h.end } }

pub record NoDashes (word : Word) (words : List Word) : Type 0 where
  pub here : bytes_eq word dashes ≡ false
  pub behind : has_dashes words ≡ false

no_dashes : (word : Word) (words : List Word) → has_dashes (word ∷ words) ≡ false → NoDashes word words
no_dashes word words e = go (bytes_eq word dashes) refl e
  where
    go : (b : Bool) → bytes_eq word dashes ≡ b → b || has_dashes words ≡ false → NoDashes word words
    go true is e = absurd cc
    go false is e = record { here = is; behind = e }

-- ---- from one word to the next

abbrev Rests : List Word → Type 0
Rests words = (q : Option Use) (rows : List Row) → Passes (at_rest q rows) words → Rest q rows words

abbrev Values : List Word → Type 0
Values words = (f : Flag) (rows : List Row) → Passes (at_value f rows) words → Value f rows words

rest_ends : (p : Option Use) (rows : List Row) → Passes (at_rest p rows) [] → Rest p rows []
rest_ends p rows h = record {
  uses = [];
  words_are = refl;
  pending_is_new = settle_new p rows h.end;
  are_new = tt;
  rows_are = ap (λ (g : Held). g.rows) (settled_is p rows);
}

rest_alone : (word : Word) (words : List Word) (p : Option Use) (rows : List Row) (f : Flag) → word ≡ 45 ∷ 45 ∷ name f → IsNewUse p rows →
    walked rules [] (at_rest p rows) word ≡ at_value f (rows_at p rows) → Value f (rows_at p rows) words → Rest p rows (word ∷ words)
rest_alone word words p rows f is new step v = record {
  uses = (f, v.text, false) ∷ v.rest.uses;
  words_are = ap₂ (λ (w : Word) (ws : List Word). w ∷ ws) is (v.words_are ∙ ap (λ (ws : List Word). v.text ∷ ws) v.rest.words_are);
  pending_is_new = new;
  are_new = (v.rest.pending_is_new, v.rest.are_new);
  rows_are = ap (λ (w : Walk). rows_of_walk w words) step ∙ v.rows_are ∙ v.rest.rows_are;
}

rest_whole : (word : Word) (words : List Word) (p : Option Use) (rows : List Row) (f : Flag) (text : Word) → word ≡ 45 ∷ 45 ∷ joined (name f) (Some text) →
    IsNewUse p rows → IsNew f (rows_at p rows) → walked rules [] (at_rest p rows) word ≡ at_rest None (with_use f text (rows_at p rows)) →
    Rest None (with_use f text (rows_at p rows)) words → Rest p rows (word ∷ words)
rest_whole word words p rows f text is new here step r = record {
  uses = (f, text, true) ∷ r.uses;
  words_are = ap₂ (λ (w : Word) (ws : List Word). w ∷ ws) is r.words_are;
  pending_is_new = new;
  are_new = (here, r.are_new);
  rows_are = ap (λ (w : Walk). rows_of_walk w words) step ∙ r.rows_are;
}

rest_more : (word : Word) (words : List Word) (p : Option Use) (rows : List Row) → AtRest p rows word → Passes (walked rules [] (at_rest p rows) word) words →
    Rests words → Values words → Rest p rows (word ∷ words)
rest_more word words p rows (alone f is new step) h rests values =
    rest_alone word words p rows f is new step (values f (rows_at p rows) (subst (λ (w : Walk). Passes w words) step h))
rest_more word words p rows (whole f text is new here step) h rests values =
    rest_whole word words p rows f text is new here step (rests None (with_use f text (rows_at p rows)) (subst (λ (w : Walk). Passes w words) step h))

value_more : (word : Word) (words : List Word) (f : Flag) (rows : List Row) → walked rules [] (at_value f rows) word ≡ at_rest (Some (f, word)) rows →
    Passes (walked rules [] (at_value f rows) word) words → Rests words → Value f rows (word ∷ words)
value_more word words f rows step h rests = record {
  text = word;
  left = words;
  words_are = refl;
  rest = rests (Some (f, word)) rows (subst (λ (w : Walk). Passes w words) step h);
  rows_are = ap (λ (w : Walk). rows_of_walk w words) step;
}

-- ---- all words

mutual
  pub from_rest : (words : List Word) → has_dashes words ≡ false → Rests words
  from_rest [] clear p rows h = rest_ends p rows h
  from_rest (word ∷ words) clear p rows h =
      let d = no_dashes word words clear in
      let t = turn_of (at_rest p rows) word words h in
      rest_more word words p rows (at_rest_step p rows word d.here t.turn) t.passes (from_rest words d.behind) (from_value words d.behind)

  pub from_value : (words : List Word) → has_dashes words ≡ false → Values words
  from_value [] clear f rows h = absurd (unsettled f rows h.end)
  from_value (word ∷ words) clear f rows h =
      let d = no_dashes word words clear in
      let t = turn_of (at_value f rows) word words h in
      value_more word words f rows (at_value_step f rows word d.here t.turn) t.passes (from_rest words d.behind)

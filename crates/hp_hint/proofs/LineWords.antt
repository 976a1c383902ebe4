-- How many words of a line go on to a line of a form.
use Rattle.std.proofs.Common.{◌≡◌, ℕ, suc, ◌+◌, ◌^◌, ◌<◌, ◌≤◌, Bool, true, false, eqb, not, List, [], ◌∷◌, Option, length, Some, None, refl, ap, ◌∙◌, arith}
use Rattle.std.specs.Prelude.{codes}
use Rattle.std.specs.List.{filter}
use Rattle.hp_model.specs.Lists.{is_empty}
use Rattle.hp_text.specs.FirstWords.{op_word_of}
use Rattle.hp_text.specs.OpAt.{op_tail}
use Rattle.hp_script.specs.declared.verb.Verb.{Verb as ReadVerb}
use Rattle.hp_script.specs.Pieces.{onto_first, pieces}
use Rattle.hp_script.specs.Words.{words}
use Rattle.hp_script.specs.Verbs.{verb_of}
use Rattle.hp_script.specs.Ranges.{is_in_range}
use Rattle.hp_script.specs.Statements.{statement_in, statement_behind}
use Rattle.hp_hint.specs.declared.measure.Measure.{Measure}
use Rattle.hp_hint.specs.declared.measure.Measure.TheVariants as measure
use Rattle.hp_hint.specs.declared.verb.Verb.{Verb}
use Rattle.hp_hint.specs.declared.verb.Verb.TheVariants as verb
use Rattle.hp_hint.specs.Verbs.{read_as}
use Rattle.hp_hint.specs.Forms.{CanGoOn, IsGood, is_formed, possible_of, measured}
use Rattle.hp_hint.specs.LineForms.{line_form, has_lines}
use Rattle.hp_hint.specs.Faults.{is_line, is_in_ranges}
use Rattle.hp_hint.proofs.Good.{short, bad, onto}
use Rattle.hp_hint.proofs.SameForms.{same_form}

-- ---- a line has no more words than bytes

kept_onto : (b : ℕ) (ps : List (List ℕ)) (n : ℕ) → length (filter (λ p. not (is_empty p)) ps) ≤ n → length (filter (λ p. not (is_empty p)) (onto_first b ps)) ≤ n + 1
kept_onto b [] n few = omega (arith, few)
kept_onto b ([] ∷ ps) n few = omega (arith, few)
kept_onto b ((x ∷ xs) ∷ ps) n few = omega (arith, few)

pub few_words : (line : List ℕ) → length (words line) ≤ length line
few_words [] = omega arith
few_words (b ∷ bs) = by (eqb b 32) refl (few_words bs)
  where
    by : (t : Bool) → eqb b 32 ≡ t → length (words bs) ≤ length bs → length (words (b ∷ bs)) ≤ length (b ∷ bs)
    by true e few = rw e (omega (arith, few))
    by false e few = rw e (let more = kept_onto b (pieces 32 bs) (length bs) few in omega (arith, more))

-- ---- by the first word

pub form_has_lines : (v : Verb) → has_lines measure.Form v ≡ true
form_has_lines verb.Cpus = refl
form_has_lines verb.Absent = refl
form_has_lines verb.Sub = refl
form_has_lines verb.Rule = refl
form_has_lines verb.Schedule = refl
form_has_lines verb.Actor = refl
form_has_lines (verb.Operation first) = refl

line_can : CanGoOn is_line []
unfolding verb_of op_word_of op_tail
line_can = (codes "lock" ∷ [], refl)

pub line_short : IsGood is_line [] 0
line_short = short is_line line_can

pub line_unknown : (w : List ℕ) (ws : List (List ℕ)) → verb_of w ≡ None → IsGood is_line (w ∷ ws) 0
line_unknown w ws e = bad is_line w ws (λ vs. ap (λ (v : Option ReadVerb). is_formed (statement_behind v vs)) e) line_can

-- a line of a first word is read by what stands behind it
pub range_same : (m : Measure) (w : List ℕ) (ws : List (List ℕ)) (v : Verb) → possible_of m < 2 ^ 32 → verb_of w ≡ Some (read_as v)
    → measured m (is_in_range (possible_of m)) (statement_in (w ∷ ws)) ≡ line_form m v ws
range_same m w ws v small e = ap (λ (u : Option ReadVerb). measured m (is_in_range (possible_of m)) (statement_behind u ws)) e ∙ same_form m v ws small

pub line_known : (w : List ℕ) (ws : List (List ℕ)) (v : Verb) (n : ℕ) → verb_of w ≡ Some (read_as v) → IsGood (line_form measure.Form v) ws n → IsGood is_line (w ∷ ws) (suc n)
line_known w ws v n e good = onto is_line (line_form measure.Form v) w ws n (λ vs. range_same measure.Form w vs v (omega arith) e) good

pub range_known : (p : ℕ) (w : List ℕ) (ws : List (List ℕ)) (v : Verb) (n : ℕ) → p < 2 ^ 32 → verb_of w ≡ Some (read_as v) → IsGood (line_form (measure.Ranges p) v) ws n
    → IsGood (is_in_ranges p) (w ∷ ws) (suc n)
range_known p w ws v n small e good = onto (is_in_ranges p) (line_form (measure.Ranges p) v) w ws n (λ vs. range_same (measure.Ranges p) w vs v small e) good

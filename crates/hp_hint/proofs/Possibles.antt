-- How many processors are possible, from line to line; and of a line that is refused for a number.
use Rattle.std.proofs.Common.{◌≡◌, ℕ, suc, ◌-◌, Bool, true, false, not, cond, eqb, List, [], ◌∷◌, ◌++◌, Option, Some, None, Ok, length, take, refl, sym, ap, ◌∙◌, subst, arith}
use Rattle.std.specs.Prelude.{slice_get}
use Rattle.std.specs.Result.{result_ok}
use Rattle.std.proofs.lemmas.Bool.{both_ways, eqb-true}
use Rattle.hp_script.specs.declared.error.ScriptKind.{ScriptKind}
use Rattle.hp_script.specs.declared.error.ScriptKind.TheVariants.{BadByte, NoCpus, BadWord, BadOrder, StillLocked, BadForm, BadNumber, NoSub, TooMany, NoActor}
use Rattle.hp_script.specs.declared.before.Before.{Before}
use Rattle.hp_script.specs.declared.verb.Verb.{Verb}
use Rattle.hp_script.specs.declared.verb.Verb.TheVariants as verb
use Rattle.hp_script.specs.declared.statement.Statement.{Statement}
use Rattle.hp_script.specs.declared.statement.Statement.TheVariants as says
use Rattle.hp_text.specs.Readings as of
use Rattle.hp_text.specs.Readings.{Reading, alone}
use Rattle.hp_text.specs.Numbers.{number}
use Rattle.hp_text.specs.FirstWords.{op_word_of}
use Rattle.hp_script.specs.Pieces.{lines}
use Rattle.hp_script.specs.Words.{words, has_bad_byte, is_skipped, is_comment}
use Rattle.hp_script.specs.Verbs.{verb_of}
use Rattle.hp_script.specs.Statements.{statement_in, statement_behind}
use Rattle.hp_script.specs.Before.{start, before, statement_of, after_maybe, after_line, after_lines}
use Rattle.hp_script.specs.Refusals.{is_out_of_range, refusal_of_words, refusal, refusal_at_end, is_first, is_among_actors}
use Rattle.hp_script.specs.Judged.{IsBadLine, IsRefused, too_long, at_line, at_end}
use Rattle.hp_script.proofs.ReadLoop.{some_none}
use Rattle.hp_hint.specs.Possible.{possible_by, possible_after}
use Rattle.hp_hint.specs.Faults.{line_of, possible_before}

-- after some lines
abbrev pub possibles : (possible : ℕ) → (lines : List (List ℕ)) → ℕ
possibles p [] = p
possibles p (line ∷ lines) = possibles (possible_after p line) lines

by_statement : (b : Before) (s : Option Statement) → (after_maybe b s).possible ≡ possible_by b.possible s
by_statement b None = refl
by_statement b (Some (says.Cpus n)) = refl
by_statement b (Some (says.Absent ns)) = refl
by_statement b (Some (says.Sub sub)) = refl
by_statement b (Some (says.Rule rule)) = refl
by_statement b (Some (says.Schedule schedule)) = refl
by_statement b (Some says.Actor) = refl
by_statement b (Some (says.Operation op)) = refl

after_lines_is : (b : Before) (ls : List (List ℕ)) → (after_lines b ls).possible ≡ possibles b.possible ls
after_lines_is b [] = refl
after_lines_is b (l ∷ ls) = after_lines_is (after_line b l) ls ∙ ap (λ (p : ℕ). possibles p ls) (by_statement b (statement_of l))

pub before_is : (bytes : List ℕ) (number : ℕ) → possibles 0 (take (number - 1) (lines bytes)) ≡ possible_before bytes number
before_is bytes number = sym (after_lines_is start (take (number - 1) (lines bytes)))

pub one_line_more : (p left : ℕ) (all : List (List ℕ)) (line : List ℕ) (later : List (List ℕ)) (less : ℕ) → all ≡ line ∷ later → left ≡ suc less
    → possibles (possible_after p line) (take less later) ≡ possibles p (take left all)
one_line_more p left all line later less are is = sym (ap (λ (n : ℕ). possibles p (take n all)) is ∙ ap (λ (x : List (List ℕ)). possibles p (take (suc less) x)) are)

-- ---- a line that is refused for a number

abbrev is_number_kind : ScriptKind → Bool
is_number_kind BadNumber = true
is_number_kind _ = false

later : (c : Bool) (k : ScriptKind) (more : Option ScriptKind) → cond c (Some k) more ≡ Some BadNumber → is_number_kind k ≡ false → more ≡ Some BadNumber
later true k more e other = let same : k ≡ BadNumber = cc in absurd (both_ways (is_number_kind k) other (ap is_number_kind same))
later false k more e other = e

this : (c : Bool) (more : Option ScriptKind) → cond c (Some BadNumber) more ≡ Some BadNumber → (more ≡ Some BadNumber → ⊥) → c ≡ true
this true more e never = refl
this false more e never = absurd (never e)

last : (c d : Bool) → cond c (Some NoSub) (cond d (Some TooMany) None) ≡ Some BadNumber → ⊥
last c d e = some_none BadNumber (sym (later d TooMany None (later c NoSub (cond d (Some TooMany) None) e refl) refl))

of_words : (hooks : ℕ) (b : Before) (ws : List (List ℕ)) → refusal_of_words hooks b ws ≡ Some BadNumber → is_out_of_range b.possible (statement_in ws) ≡ true
of_words hooks b [] e = absurd (some_none BadNumber (sym e))
of_words hooks b (w ∷ ws) e =
    this _ _ (later _ BadForm _ (later _ StillLocked _ (later _ BadOrder _ (later _ BadWord _ (later _ NoCpus _ e refl) refl) refl) refl) refl) (λ more. last _ _ more)

of_line : (hooks : ℕ) (b : Before) (line : List ℕ) → refusal hooks b line ≡ Some BadNumber → is_out_of_range b.possible (statement_in (words line)) ≡ true
of_line hooks b line = by (has_bad_byte line) (is_skipped (words line))
  where
    by : (t u : Bool) → cond t (Some BadByte) (cond u None (refusal_of_words hooks b (words line))) ≡ Some BadNumber → is_out_of_range b.possible (statement_in (words line)) ≡ true
    by true u e = absurd (both_ways false refl (let same : BadByte ≡ BadNumber = cc in ap is_number_kind same))
    by false true e = absurd (some_none BadNumber (sym e))
    by false false e = of_words hooks b (words line) e

front_there : (front : List (List ℕ)) (l : List ℕ) (back : List (List ℕ)) → slice_get (front ++ l ∷ back) (length front) ≡ Some l
front_there [] l back = refl
front_there (f ∷ fs) l back = front_there fs l back

front_taken : (front back : List (List ℕ)) → take (length front) (front ++ back) ≡ front
front_taken [] back = refl
front_taken (f ∷ fs) back = ap (λ (x : List (List ℕ)). f ∷ x) (front_taken fs back)

some_same : (l m : List ℕ) → ◌≡◌ {A = Option (List ℕ)} (Some l) (Some m) → l ≡ m
some_same l m e = cc

at_bad_line : (hooks : ℕ) (bytes : List ℕ) (n : ℕ) (line : List ℕ) → IsBadLine hooks (lines bytes) n BadNumber → line_of bytes n ≡ Some line
    → is_out_of_range (possible_before bytes n) (statement_in (words line)) ≡ true
at_bad_line hooks bytes n line bad there =
    let count = bad.count in
    let place : n - 1 ≡ length bad.front = omega (arith, count) in
    let same : bad.line ≡ line = some_same bad.line line
    (sym (front_there bad.front bad.line bad.back)
    ∙ sym (ap (λ (x : List (List ℕ)). slice_get x (length bad.front)) bad.parts)
    ∙ sym (ap (λ (k : ℕ). slice_get (lines bytes) k) place)
    ∙ there) in
    let front : take (n - 1) (lines bytes) ≡ bad.front =
    ap (λ (k : ℕ). take k (lines bytes)) place ∙ ap (λ (x : List (List ℕ)). take (length bad.front) x) bad.parts ∙ front_taken bad.front (bad.line ∷ bad.back) in
    let out = of_line hooks (before bad.front) bad.line bad.refused in
    subst (λ (x : List (List ℕ)). is_out_of_range (before x).possible (statement_in (words line)) ≡ true) (sym front)
    (subst (λ (x : List ℕ). is_out_of_range (before bad.front).possible (statement_in (words x)) ≡ true) same out)

not_at_end : (c d e : Bool) → cond c (Some NoCpus) (cond d (Some NoActor) (cond e (Some StillLocked) None)) ≡ Some BadNumber → ⊥
not_at_end c d e h =
    some_none BadNumber (sym (later e StillLocked None (later d NoActor (cond e (Some StillLocked) None) (later c NoCpus (cond d (Some NoActor) (cond e (Some StillLocked) None)) h refl) refl) refl))

-- a line that is refused for a number has one that is out of its range
pub refused_number : (hooks : ℕ) (bytes : List ℕ) (n : ℕ) (kind : ScriptKind) (line : List ℕ) → IsRefused hooks bytes n kind → kind ≡ BadNumber → line_of bytes n ≡ Some line
    → is_out_of_range (possible_before bytes n) (statement_in (words line)) ≡ true
refused_number hooks bytes n kind line (too_long h b long) is there = absurd (both_ways false refl (ap is_number_kind is))
refused_number hooks bytes n kind line (at_line h b m k short bad) is there =
    at_bad_line hooks bytes n line (subst (λ (x : ScriptKind). IsBadLine hooks (lines bytes) n x) is bad) there
refused_number hooks bytes n kind line (at_end h b m k short end) is there =
    absurd (not_at_end (is_first (before (lines bytes)).group) (not (is_among_actors (before (lines bytes)).group)) (before (lines bytes)).locked
    (subst (λ (x : ScriptKind). refusal_at_end (before (lines bytes)) ≡ Some x) is end.refused))

-- ---- a line that says how many are possible

not_comment : (w : List ℕ) (v : Verb) → verb_of w ≡ Some v → is_comment w ≡ false
unfolding verb_of op_word_of
not_comment [] v e = refl
not_comment (b ∷ bs) v e = by (eqb b 35) refl
  where
    by : (t : Bool) → eqb b 35 ≡ t → eqb b 35 ≡ false
    by true f =
        let same : b ≡ 35 = eqb-true b 35 f in
        let none : ◌≡◌ {A = Option Verb} None (Some v) = subst (λ (x : ℕ). verb_of (x ∷ bs) ≡ Some v) same e in
        absurd cc
    by false f = f

pub cpus_line : (p n : ℕ) (line w : List ℕ) (ws : List (List ℕ)) → words line ≡ w ∷ ws → verb_of w ≡ Some verb.Cpus → alone number ws ≡ Ok n → n ≡ possible_after p line
cpus_line p n line w ws are is said =
    sym (ap (λ (x : List (List ℕ)). possible_by p (cond (is_skipped x) None (result_ok (statement_in x)))) are
    ∙ ap (λ (t : Bool). possible_by p (cond t None (result_ok (statement_in (w ∷ ws))))) (not_comment w verb.Cpus is)
    ∙ ap (λ (v : Option Verb). possible_by p (result_ok (statement_behind v ws))) is
    ∙ ap (λ (r : Reading ℕ). possible_by p (result_ok (of.said (λ n. says.Cpus n) r))) said)

-- The conditions of a line, in the parts in which the code asks them.
use Rattle.std.proofs.Common.{◌≡◌, ℕ, Bool, true, false, not, cond, List, [], ◌∷◌, ◌++◌, Option, Some, None, Ok, Err, refl, sym, ap, ◌∙◌}
use Rattle.std.specs.Prelude.{Result}
use Rattle.std.specs.Result.{result_ok}
use Rattle.hp_text.specs.declared.unread.Unread.TheVariants.{NotOfForm, OutOfRange}
use Rattle.hp_text.specs.Readings.{Reading}
use Rattle.hp_script.specs.declared.error.ScriptKind.{ScriptKind}
use Rattle.hp_script.specs.declared.error.ScriptKind.TheVariants.{BadForm, BadNumber, NoSub, TooMany}
use Rattle.hp_script.specs.declared.verb.Verb.{Verb}
use Rattle.hp_script.specs.declared.stop.Stop.{Stop}
use Rattle.hp_script.specs.declared.stop.Stop.TheVariants.{Bad, NoMemory}
use Rattle.hp_script.specs.declared.before.Before.{Before}
use Rattle.hp_script.specs.declared.statement.Statement.{Statement}
use Rattle.hp_script.specs.Words.{words, has_bad_byte, is_comment}
use Rattle.hp_script.specs.Verbs.{verb_of}
use Rattle.hp_script.specs.Before.{statement_of}
use Rattle.hp_script.specs.Ranges.{by_range, is_in_range}
use Rattle.hp_script.specs.Statements.{statement_by, statement_behind, statement_in}
use Rattle.hp_script.specs.Refusals.{first_of, is_unformed, is_out_of_range, says_one_that, wrongs, names_no_sub, is_too_many, refusal_of_words, refusal}
use Rattle.hp_script.specs.LineAnswers.{wrongs_of_place, wrongs_of_room, Gives, AnswersRoom, AnswersWords, AnswersLine}

pub first_more : (rows more : List (Bool × ScriptKind)) (kind : ScriptKind) → first_of rows ≡ Some kind → first_of (rows ++ more) ≡ Some kind
first_more [] more kind e = absurd cc
first_more (r ∷ rs) more kind e = by_test r.0 e (λ h. first_more rs more kind h)
  where
    by_test : (t : Bool) → cond t (Some r.1) (first_of rs) ≡ Some kind → (first_of rs ≡ Some kind → first_of (rs ++ more) ≡ Some kind) → cond t (Some r.1) (first_of (rs ++ more)) ≡ Some kind
    by_test true e more_of = e
    by_test false e more_of = more_of e

pub first_none : (rows more : List (Bool × ScriptKind)) → first_of rows ≡ None → first_of (rows ++ more) ≡ first_of more
first_none [] more e = refl
first_none (r ∷ rs) more e = by_test r.0 e (λ h. first_none rs more h)
  where
    by_test : (t : Bool) → cond t (Some r.1) (first_of rs) ≡ None → (first_of rs ≡ None → first_of (rs ++ more) ≡ first_of more) → cond t (Some r.1) (first_of (rs ++ more)) ≡ first_of more
    by_test true e more_of = absurd cc
    by_test false e more_of = more_of e

-- the conditions behind those
abbrev rest : (hooks : ℕ) → Before → Reading Statement → List (Bool × ScriptKind)
rest hooks b said = (is_unformed said, BadForm) ∷ (is_out_of_range b.possible said, BadNumber) ∷ (says_one_that (names_no_sub b.subs) said, NoSub) ∷ (says_one_that (is_too_many hooks b) said, TooMany) ∷ []

pub misplaced : (hooks : ℕ) (b : Before) (verb : Option Verb) (said : Reading Statement) (kind : ScriptKind)
    → first_of (wrongs_of_place b verb) ≡ Some kind → first_of (wrongs hooks b verb said) ≡ Some kind
misplaced hooks b verb said kind e = first_more (wrongs_of_place b verb) (rest hooks b said) kind e

placed : (hooks : ℕ) (b : Before) (verb : Option Verb) (said : Reading Statement)
    → first_of (wrongs_of_place b verb) ≡ None → first_of (wrongs hooks b verb said) ≡ first_of (rest hooks b said)
placed hooks b verb said e = first_none (wrongs_of_place b verb) (rest hooks b said) e

unsaid_rest : (hooks : ℕ) (b : Before) (said : Reading Statement) (kind : ScriptKind) → by_range (is_in_range b.possible) said ≡ Err kind → first_of (rest hooks b said) ≡ Some kind
unsaid_rest hooks b (Err NotOfForm) kind e = cc
unsaid_rest hooks b (Err OutOfRange) kind e = cc
unsaid_rest hooks b (Ok s) kind e = by_test (is_in_range b.possible s) e
  where
    by_test : (t : Bool) → ◌≡◌ {A = Result Statement ScriptKind} (cond t (Ok s) (Err BadNumber)) (Err kind)
        → cond (not t) (Some BadNumber) (first_of (wrongs_of_room hooks b s)) ≡ Some kind
    by_test true e = absurd cc
    by_test false e = cc

said_rest : (hooks : ℕ) (b : Before) (said : Reading Statement) (s : Statement) → by_range (is_in_range b.possible) said ≡ Ok s
    → (said ≡ Ok s) × (first_of (rest hooks b said) ≡ first_of (wrongs_of_room hooks b s))
said_rest hooks b (Err u) s e = absurd cc
said_rest hooks b (Ok r) s e = by_test (is_in_range b.possible r) refl e
  where
    by_test : (t : Bool) → is_in_range b.possible r ≡ t → ◌≡◌ {A = Result Statement ScriptKind} (cond t (Ok r) (Err BadNumber)) (Ok s)
        → (◌≡◌ {A = Reading Statement} (Ok r) (Ok s)) × (first_of (rest hooks b (Ok r)) ≡ first_of (wrongs_of_room hooks b s))
    by_test true t e =
        let same : r ≡ s = cc in
        (ap (λ (x : Statement). Ok x) same, rw t (ap (λ (x : Statement). first_of (wrongs_of_room hooks b x)) same))
    by_test false t e = absurd cc

-- a line that isn't of its form, or has a number out of its range
pub misread : (hooks : ℕ) (b : Before) (first : Option Verb) (verb : Verb) (words : List (List ℕ)) (kind : ScriptKind)
    → first ≡ Some verb → first_of (wrongs_of_place b first) ≡ None → by_range (is_in_range b.possible) (statement_by verb words) ≡ Err kind
    → first_of (wrongs hooks b first (statement_behind first words)) ≡ Some kind
misread hooks b first verb words kind is place e =
    let said : statement_behind first words ≡ statement_by verb words = ap (λ (v : Option Verb). statement_behind v words) is in
    placed hooks b first (statement_behind first words) place ∙ unsaid_rest hooks b (statement_behind first words) kind (ap (by_range (is_in_range b.possible)) said ∙ e)

-- a line that is read is judged by the room for it
pub read : (hooks : ℕ) (b : Before) (first : Option Verb) (verb : Verb) (words : List (List ℕ)) (s : Statement)
    → first ≡ Some verb → first_of (wrongs_of_place b first) ≡ None → by_range (is_in_range b.possible) (statement_by verb words) ≡ Ok s
    → (statement_by verb words ≡ Ok s) × (first_of (wrongs hooks b first (statement_behind first words)) ≡ first_of (wrongs_of_room hooks b s))
read hooks b first verb words s is place e =
    let said : statement_behind first words ≡ statement_by verb words = ap (λ (v : Option Verb). statement_behind v words) is in
    let r = said_rest hooks b (statement_behind first words) s (ap (by_range (is_in_range b.possible)) said ∙ e) in
    (sym said ∙ r.0, placed hooks b first (statement_behind first words) place ∙ r.1)

-- where there is room, there is no statement too many
pub has_room : (hooks : ℕ) (b : Before) (s : Statement) → first_of (wrongs_of_room hooks b s) ≡ None → is_too_many hooks b s ≡ false
has_room hooks b s e = by_test (names_no_sub b.subs s) (is_too_many hooks b s) e
  where
    by_test : (t u : Bool) → cond t (Some NoSub) (cond u (Some TooMany) None) ≡ None → u ≡ false
    by_test true u e = absurd cc
    by_test false true e = absurd cc
    by_test false false e = refl

-- ---- what the code answers

pub misread_stop : (hooks : ℕ) (b : Before) (word : List ℕ) (verb : Verb) (words : List (List ℕ)) (stop : Stop)
    → verb_of word ≡ Some verb → first_of (wrongs_of_place b (verb_of word)) ≡ None → Gives (Err stop) (by_range (is_in_range b.possible) (statement_by verb words))
    → AnswersWords hooks b (word ∷ words) (Err stop)
misread_stop hooks b word verb words (Bad kind) is place e = misread hooks b (verb_of word) verb words kind is place e
misread_stop hooks b word verb words NoMemory is place e = tt

pub read_room : (hooks : ℕ) (b : Before) (word : List ℕ) (verb : Verb) (words : List (List ℕ)) (s : Statement)
    → verb_of word ≡ Some verb → first_of (wrongs_of_place b (verb_of word)) ≡ None → Gives (Ok s) (by_range (is_in_range b.possible) (statement_by verb words))
    → AnswersRoom hooks b s (Ok tt) → AnswersWords hooks b (word ∷ words) (Ok s)
read_room hooks b word verb words s is place e room =
    let r = read hooks b (verb_of word) verb words s is place e in
    let said : statement_in (word ∷ words) ≡ Ok s = ap (λ (v : Option Verb). statement_behind v words) is ∙ r.0 in
    (r.1 ∙ room, said, has_room hooks b s room)

pub read_no_room : (hooks : ℕ) (b : Before) (word : List ℕ) (verb : Verb) (words : List (List ℕ)) (s : Statement) (kind : ScriptKind)
    → verb_of word ≡ Some verb → first_of (wrongs_of_place b (verb_of word)) ≡ None → Gives (Ok s) (by_range (is_in_range b.possible) (statement_by verb words))
    → AnswersRoom hooks b s (Err kind) → AnswersWords hooks b (word ∷ words) (Err (Bad kind))
read_no_room hooks b word verb words s kind is place e room =
    (read hooks b (verb_of word) verb words s is place e).1 ∙ room

-- what a line gives whose words give this
pub line_takes : (hooks : ℕ) (b : Before) (line first : List ℕ) (rest : List (List ℕ)) (r : Result Statement Stop)
    → has_bad_byte line ≡ false → words line ≡ first ∷ rest → is_comment first ≡ false → AnswersWords hooks b (first ∷ rest) r
    → AnswersLine hooks b line (elim r as (λ r. Result (Option Statement) Stop) [ Ok s ↦ Ok (Some s) | Err stop ↦ Err stop ])
line_takes hooks b line first rest (Ok s) good are no_comment t = (verdict ∙ t.0, said ∙ ap (λ (r : Reading Statement). result_ok r) t.1, t.2)
  where
    verdict : refusal hooks b line ≡ refusal_of_words hooks b (first ∷ rest)
    verdict = rw (good, are, no_comment) refl

    said : statement_of line ≡ result_ok (statement_in (first ∷ rest))
    said = rw (are, no_comment) refl
line_takes hooks b line first rest (Err (Bad kind)) good are no_comment t = verdict ∙ t
  where
    verdict : refusal hooks b line ≡ refusal_of_words hooks b (first ∷ rest)
    verdict = rw (good, are, no_comment) refl
line_takes hooks b line first rest (Err NoMemory) good are no_comment t = tt

-- What a reader of the code answers, beside what reading gives. This project's own.
use Rattle.std.specs.Prelude.{◌≡◌, ℕ, Bool, false, not, ◌&&◌, List, [], ◌∷◌, Option, Some, None, Result, Ok, Err}
use Rattle.hp_text.specs.Readings.{Reading}
use Rattle.hp_script.specs.declared.error.ScriptKind.{ScriptKind}
use Rattle.hp_script.specs.declared.error.ScriptKind.TheVariants.{NoCpus, BadWord, BadOrder, StillLocked, NoSub, TooMany}
use Rattle.hp_script.specs.declared.error.ParseError.{ParseError}
use Rattle.hp_script.specs.declared.error.ParseError.TheVariants as error
use Rattle.hp_script.specs.declared.verb.Verb.{Verb}
use Rattle.hp_script.specs.declared.before.Before.{Before}
use Rattle.hp_script.specs.declared.statement.Statement.{Statement}
use Rattle.hp_script.specs.declared.stop.Stop.{Stop}
use Rattle.hp_script.specs.declared.stop.Stop.TheVariants.{Bad, NoMemory}
use Rattle.hp_script.specs.Refusals.{is_first, is_cpus, is_unknown, stands, is_actor, first_of, names_no_sub, is_too_many, refusal_of_words, refusal}
use Rattle.hp_script.specs.Statements.{statement_in}
use Rattle.hp_script.specs.Ranges.{by_range, is_in_range}
use Rattle.hp_script.specs.Before.{statement_of, after_line}
use Rattle.hp_script.specs.declared.draft.Draft.{Draft}
use Rattle.hp_script.specs.Drafts.{contents_of, contents_maybe, Fits}

-- the answer is what reading gives, unless memory was wanting
abbrev pub Gives : {A : Type 0} → Result A Stop → Result A ScriptKind → Type 0
Gives (Ok a) read = read ≡ Ok a
Gives (Err (Bad kind)) read = read ≡ Err kind
Gives (Err NoMemory) read = Unit {0}

-- the answer is the statement that is said, where its numbers are in their ranges, unless memory was wanting
abbrev pub GivesStatement : (possible : ℕ) → Result Statement Stop → (said : Reading Statement) → Type 0
GivesStatement possible answer said = Gives answer (by_range (is_in_range possible) said)

-- what is wrong with a first word here: the first four conditions of words
abbrev pub wrongs_of_place : Before → Option Verb → List (Bool × ScriptKind)
wrongs_of_place b verb =
    (is_first b.group && not (is_cpus verb), NoCpus)
    ∷ (is_unknown verb, BadWord)
    ∷ (not (stands b.group verb), BadOrder)
    ∷ (is_actor verb && b.locked, StillLocked)
    ∷ []

abbrev pub AnswersPlace : Before → Option Verb → Result Verb ScriptKind → Type 0
AnswersPlace b verb (Ok v) = (verb ≡ Some v) × (first_of (wrongs_of_place b verb) ≡ None)
AnswersPlace b verb (Err kind) = first_of (wrongs_of_place b verb) ≡ Some kind

-- what is wrong with a statement here: the last two
abbrev pub wrongs_of_room : (hooks : ℕ) → Before → Statement → List (Bool × ScriptKind)
wrongs_of_room hooks b s = (names_no_sub b.subs s, NoSub) ∷ (is_too_many hooks b s, TooMany) ∷ []

abbrev pub AnswersRoom : (hooks : ℕ) → Before → Statement → Result (Unit {0}) ScriptKind → Type 0
AnswersRoom hooks b s (Ok a) = first_of (wrongs_of_room hooks b s) ≡ None
AnswersRoom hooks b s (Err kind) = first_of (wrongs_of_room hooks b s) ≡ Some kind

-- what the words of a line give after what stood before it, unless memory was wanting
abbrev pub AnswersWords : (hooks : ℕ) → Before → (words : List (List ℕ)) → Result Statement Stop → Type 0
AnswersWords hooks b words (Ok s) =
    (refusal_of_words hooks b words ≡ None) × (statement_in words ≡ Ok s) × (is_too_many hooks b s ≡ false)
AnswersWords hooks b words (Err (Bad kind)) = refusal_of_words hooks b words ≡ Some kind
AnswersWords hooks b words (Err NoMemory) = Unit {0}

-- there is room for what a line says, if it says anything
abbrev pub HasRoom : (hooks : ℕ) → Before → Option Statement → Type 0
HasRoom hooks b None = Unit {0}
HasRoom hooks b (Some s) = is_too_many hooks b s ≡ false

-- what a line gives
abbrev pub AnswersLine : (hooks : ℕ) → Before → (line : List ℕ) → Result (Option Statement) Stop → Type 0
AnswersLine hooks b line (Ok s) = (refusal hooks b line ≡ None) × (statement_of line ≡ s) × HasRoom hooks b s
AnswersLine hooks b line (Err (Bad kind)) = refusal hooks b line ≡ Some kind
AnswersLine hooks b line (Err NoMemory) = Unit {0}

-- one line more: what stands before the next line, and the script so far
abbrev pub AnswersStep : (hooks : ℕ) (line : List ℕ) (b c : Before) (d e : Draft) → Result (Unit {0}) Stop → Type 0
AnswersStep hooks line b c d e (Ok u) =
    (refusal hooks b line ≡ None)
    × (c ≡ after_line b line)
    × (contents_of e ≡ contents_maybe (contents_of d) (statement_of line))
    × Fits (contents_of e) c
AnswersStep hooks line b c d e (Err (Bad kind)) = refusal hooks b line ≡ Some kind
AnswersStep hooks line b c d e (Err NoMemory) = Unit {0}

-- the error of a line that stops
abbrev pub error_at : (number : ℕ) → Stop → ParseError
error_at number (Bad kind) = error.Bad number kind
error_at number NoMemory = error.NoMemory

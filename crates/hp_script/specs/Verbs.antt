-- The first words of lines. This project's own.
use Rattle.std.specs.Prelude.{ℕ, List, [], ◌∷◌, codes, Option, Some, None, find, bytes_eq}
use Rattle.hp_text.specs.declared.first_word.OpWord.{OpWord}
use Rattle.hp_text.specs.FirstWords.{text_of_op, op_word_of}
use Rattle.hp_script.specs.declared.verb.Verb.{Verb}
use Rattle.hp_script.specs.declared.verb.Verb.TheVariants as verb

abbrev pub word_of : Verb → List ℕ
word_of verb.Cpus = codes "cpus"
word_of verb.Absent = codes "absent"
word_of verb.Sub = codes "sub"
word_of verb.Rule = codes "rule"
word_of verb.Schedule = codes "schedule"
word_of verb.Actor = codes "actor"
word_of (verb.Operation first) = text_of_op first

-- those of lines that are no operations
abbrev pub headings : List Verb
headings = verb.Cpus ∷ verb.Absent ∷ verb.Sub ∷ verb.Rule ∷ verb.Schedule ∷ verb.Actor ∷ []

abbrev pub operation_or : Option Verb → Option OpWord → Option Verb
operation_or heading None = heading
operation_or heading (Some first) = Some (verb.Operation first)

-- the verb whose word this is
unfoldable pub verb_of : (word : List ℕ) → Option Verb
verb_of word = operation_or (find (λ v. bytes_eq word (word_of v)) headings) (op_word_of word)

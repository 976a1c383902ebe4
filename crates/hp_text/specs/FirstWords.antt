-- The first words of operations, and the names of files. This project's own.
use Rattle.std.specs.Prelude.{ℕ, List, [], ◌∷◌, Option, find, codes}
use Rattle.std.specs.Str.{bytes_eq}
use Rattle.hp_event.specs.declared.event.File.{File}
use Rattle.hp_event.specs.declared.event.File.TheVariants as file
use Rattle.hp_text.specs.declared.first_word.OpWord.{OpWord}
use Rattle.hp_text.specs.declared.first_word.OpWord.TheVariants as op

abbrev pub text_of_op : OpWord → List ℕ
text_of_op op.Up = codes "up"
text_of_op op.Down = codes "down"
text_of_op op.Target = codes "target"
text_of_op op.Fail = codes "fail"
text_of_op op.Show = codes "show"
text_of_op op.Setup = codes "setup"
text_of_op op.Remove = codes "remove"
text_of_op op.Add = codes "add"
text_of_op op.Del = codes "del"
text_of_op op.Lock = codes "lock"
text_of_op op.Unlock = codes "unlock"
text_of_op op.Boot = codes "boot"
text_of_op op.Disable = codes "disable"
text_of_op op.Enable = codes "enable"
text_of_op op.Freeze = codes "freeze"
text_of_op op.Thaw = codes "thaw"
text_of_op op.Wakeup = codes "wakeup"
text_of_op op.UpMany = codes "upmany"

abbrev pub op_words : List OpWord
op_words =
    op.Up ∷ op.Down ∷ op.Target ∷ op.Fail ∷ op.Show ∷ op.Setup ∷ op.Remove ∷ op.Add ∷ op.Del
    ∷ op.Lock ∷ op.Unlock ∷ op.Boot ∷ op.Disable ∷ op.Enable ∷ op.Freeze ∷ op.Thaw ∷ op.Wakeup
    ∷ op.UpMany ∷ []

-- the first word of an operation that this word is
unfoldable pub op_word_of : (word : List ℕ) → Option OpWord
op_word_of word = find (λ w. bytes_eq word (text_of_op w)) op_words

abbrev pub text_of_file : File → List ℕ
text_of_file file.State = codes "state"
text_of_file file.Target = codes "target"
text_of_file file.Fail = codes "fail"
text_of_file file.States = codes "states"

-- the file that a word names
unfoldable pub file_of : (word : List ℕ) → Option File
file_of word = find (λ f. bytes_eq word (text_of_file f)) (file.State ∷ file.Target ∷ file.Fail ∷ file.States ∷ [])

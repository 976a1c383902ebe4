-- The first words of the event lines. This project's own.
use Rattle.std.specs.Prelude.{ℕ, List, [], ◌∷◌, Option, find, codes}
use Rattle.std.specs.Str.{bytes_eq}
use Rattle.hp_replay.specs.declared.first_word.EventWord.{EventWord}
use Rattle.hp_replay.specs.declared.first_word.EventWord.TheVariants as event

abbrev pub text_of_event : EventWord → List ℕ
text_of_event event.Enter = codes "enter"
text_of_event event.Done = codes "done"
text_of_event event.Walked = codes "walked"
text_of_event event.Walk = codes "walk"
text_of_event event.Refused = codes "refused"
text_of_event event.Lock = codes "lock"
text_of_event event.Unlock = codes "unlock"
text_of_event event.Reg = codes "reg"
text_of_event event.Regged = codes "regged"
text_of_event event.Shown = codes "shown"
text_of_event event.Armed = codes "armed"
text_of_event event.Wakeup = codes "wakeup"
text_of_event event.Admit = codes "admit"
text_of_event event.Leave = codes "leave"
text_of_event event.Call = codes "call"

abbrev pub event_words : List EventWord
event_words =
    event.Enter ∷ event.Done ∷ event.Walked ∷ event.Walk ∷ event.Refused ∷ event.Lock
    ∷ event.Unlock ∷ event.Reg ∷ event.Regged ∷ event.Shown ∷ event.Armed ∷ event.Wakeup
    ∷ event.Admit ∷ event.Leave ∷ event.Call ∷ []

-- the first word of an event line that this word is
unfoldable pub event_word_of : (word : List ℕ) → Option EventWord
event_word_of word = find (λ w. bytes_eq word (text_of_event w)) event_words

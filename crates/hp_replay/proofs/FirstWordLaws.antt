-- What the row of a first word says is what the table says.
use Rattle.std.proofs.Common.{◌≡◌, ℕ, Bool, true, false, cond, List, [], ◌∷◌, map, Option, Some, None, refl, sym, ap, ◌∙◌}
use Rattle.std.specs.Prelude.{find}
use Rattle.std.specs.Str.{bytes_eq}
use Rattle.hp_replay.specs.declared.event.NumberedEvent.{NumberedEvent}
use Rattle.hp_event.specs.declared.version.Version.{Version}
use Rattle.hp_replay.specs.declared.first_word.EventWord.{EventWord}
use Rattle.hp_replay.specs.Readers.{Tail, Row, row, row_of}
use Rattle.hp_replay.specs.EventAt.{event_tail, event_rows, event as event_at}
use Rattle.hp_replay.specs.WordsLeft.{first_of, others_of}
use Rattle.hp_replay.specs.FirstWords.{text_of_event, event_words, event_word_of}
use Rattle.hp_replay.proofs.Rows.{by_row}

-- ---- a table that is made of words

abbrev rows_of : {V X : Type 0} → (V → List ℕ) → (V → Tail X) → List V → List (Row X)
rows_of text tail vs = map (λ v. row (text v) (tail v)) vs

found_by : {V X : Type 0} (text : V → List ℕ) (tail : V → Tail X) (u : V) (us : List V) (w : List ℕ) (ws : List (List ℕ)) (v : V) →
    (Some v ≡ find (λ x. bytes_eq w (text x)) us → tail v ws ≡ row_of (rows_of text tail us) w ws) →
    (t : Bool) → Some v ≡ cond t (Some u) (find (λ x. bytes_eq w (text x)) us) → tail v ws ≡ cond t (tail u ws) (row_of (rows_of text tail us) w ws)
found_by text tail u us w ws v more true h = let same : v ≡ u = cc in ap (λ x. tail x ws) same
found_by text tail u us w ws v more false h = more h

found : {V X : Type 0} (text : V → List ℕ) (tail : V → Tail X) (vs : List V) (w : List ℕ) (ws : List (List ℕ)) (v : V) →
    Some v ≡ find (λ u. bytes_eq w (text u)) vs → tail v ws ≡ row_of (rows_of text tail vs) w ws
found text tail [] w ws v e = absurd cc
found text tail (u ∷ us) w ws v e = found_by text tail u us w ws v (found text tail us w ws v) (bytes_eq w (text u)) e

unknown_by : {V X : Type 0} (text : V → List ℕ) (tail : V → Tail X) (u : V) (us : List V) (w : List ℕ) (ws : List (List ℕ)) →
    (None ≡ find (λ x. bytes_eq w (text x)) us → None ≡ row_of (rows_of text tail us) w ws) →
    (t : Bool) → None ≡ cond t (Some u) (find (λ x. bytes_eq w (text x)) us) → None ≡ cond t (tail u ws) (row_of (rows_of text tail us) w ws)
unknown_by text tail u us w ws more true h = absurd cc
unknown_by text tail u us w ws more false h = more h

unknown : {V X : Type 0} (text : V → List ℕ) (tail : V → Tail X) (vs : List V) (w : List ℕ) (ws : List (List ℕ)) →
    None ≡ find (λ u. bytes_eq w (text u)) vs → None ≡ row_of (rows_of text tail vs) w ws
unknown text tail [] w ws e = refl
unknown text tail (u ∷ us) w ws e = unknown_by text tail u us w ws (unknown text tail us w ws) (bytes_eq w (text u)) e

-- ---- event lines

event_says : (v : Version) (w : EventWord) (words : List (List ℕ)) (word : List ℕ) → Some word ≡ first_of words → Some w ≡ event_word_of word → event_tail v w (others_of words) ≡ event_at v words
unfolding event_word_of event_at
event_says v w words word first is = found text_of_event (event_tail v) event_words word (others_of words) w is ∙ by_row (event_rows v) words word first

-- what a row says of the words behind its first word is what the table says
pub event_row : (v : Version) (w : EventWord) (words rest : List (List ℕ)) (word : List ℕ) (u : EventWord) (said : Option NumberedEvent) →
    Some word ≡ first_of words → rest ≡ others_of words → Some u ≡ event_word_of word → u ≡ w → said ≡ event_tail v w rest → said ≡ event_at v words
event_row v w words rest word u said first behind is same says =
    let known : Some w ≡ event_word_of word = ap (λ x. Some x) (sym same) ∙ is in
    says ∙ ap (event_tail v w) behind ∙ event_says v w words word first known

-- no word says nothing
pub no_event : (v : Version) (words : List (List ℕ)) → None ≡ first_of words → None ≡ event_at v words
unfolding event_at
no_event v [] e = refl
no_event v (w ∷ ws) e = absurd cc

-- and neither does another first word
pub other_event : (v : Version) (words : List (List ℕ)) (word : List ℕ) → Some word ≡ first_of words → None ≡ event_word_of word → None ≡ event_at v words
unfolding event_word_of event_at
other_event v words word first is = unknown text_of_event (event_tail v) event_words word (others_of words) is ∙ by_row (event_rows v) words word first

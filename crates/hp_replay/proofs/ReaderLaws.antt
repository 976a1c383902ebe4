-- What fields and tails take is what is spelled, row by row of a table.
use Rattle.std.proofs.Common.{◌≡◌, ℕ, Bool, true, false, cond, List, [], ◌∷◌, ◌++◌, Option, Some, None, refl, sym, ap, subst, ◌∙◌, append_assoc}
use Rattle.std.specs.Option.{option_and_then}
use Rattle.std.specs.Str.{bytes_eq}
use Rattle.std.specs.List.{AllByRecursion}
use Rattle.std.proofs.lemmas.Slice.Eq.{bytes_eq-Decides}
use Rattle.std.proofs.lemmas.List.{append-nil}
use Rattle.hp_replay.specs.Readers.{Field, Tail, goes_on, ◌>>=◌, done, mapped, Row, row, row_of, one_of}
use Rattle.std.proofs.lemmas.Bool.{and_parts}
use Rattle.hp_states.proofs.Basics.{map_some, same_some}
use Rattle.hp_model.specs.Words.{line}
use Rattle.hp_replay.specs.LineWords.{words_at}
use Rattle.hp_replay.proofs.LineLaws.{is_free, all_free, words_take, words_again}

-- a word that a field takes is the spelling of its value
pub record IsField {A : Type 0} (field : Field A) (word : A → List ℕ) (In : A → Type 0) : Type 0 where
  pub takes : (w : List ℕ) (a : A) → field w ≡ Some a → (w ≡ word a) × In a

-- What a tail takes behind some words is, with them, the spelling of its value.
pub record Spells {X : Type 0} (words : X → List (List ℕ)) (In : X → Type 0) (front : List (List ℕ)) (tail : Tail X) : Type 0 where
  pub takes : (ws : List (List ℕ)) (x : X) → tail ws ≡ Some x → (front ++ ws ≡ words x) × In x

done_takes : {X : Type 0} (words : X → List (List ℕ)) (In : X → Type 0) (front : List (List ℕ)) (x : X) → words x ≡ front → In x →
    (ws : List (List ℕ)) (y : X) → done x ws ≡ Some y → (front ++ ws ≡ words y) × In y
done_takes words In front x e i [] y h =
    subst (λ (z : _). (front ++ [] ≡ words z) × In z) (same_some x y h) (append-nil front ∙ sym e, i)
done_takes words In front x e i (w ∷ ws) y h = absurd cc

pub done_spells : {X : Type 0} {words : X → List (List ℕ)} {In : X → Type 0} {front : List (List ℕ)} (x : X) → words x ≡ front → In x → Spells words In front (done x)
done_spells {words} {In} {front} x e i = record { takes = done_takes words In front x e i }

field_takes : {A X : Type 0} (words : X → List (List ℕ)) (In : X → Type 0) (front : List (List ℕ)) (tail : A → Tail X) (word : A → List ℕ) (Fits : A → Type 0) →
    ((a : A) → Fits a → Spells words In (front ++ word a ∷ []) (tail a)) →
    (w : List ℕ) (ws : List (List ℕ)) (x : X) (o : Option A) → ((a : A) → o ≡ Some a → (w ≡ word a) × Fits a) →
    goes_on o tail ws ≡ Some x → (front ++ w ∷ ws ≡ words x) × In x
field_takes words In front tail word Fits more w ws x (Some a) says h =
    let s = says a refl in
    let t = (more a s.1).takes ws x h in
    (ap (λ (v : List ℕ). front ++ v ∷ ws) s.0 ∙ sym (append_assoc front (word a ∷ []) ws) ∙ t.0, t.1)
field_takes words In front tail word Fits more w ws x None says h = absurd cc

bind_takes : {A X : Type 0} (words : X → List (List ℕ)) (In : X → Type 0) (front : List (List ℕ)) (field : Field A) (word : A → List ℕ) (Fits : A → Type 0) (tail : A → Tail X) →
    IsField field word Fits → ((a : A) → Fits a → Spells words In (front ++ word a ∷ []) (tail a)) →
    (ws : List (List ℕ)) (x : X) → (field >>= tail) ws ≡ Some x → (front ++ ws ≡ words x) × In x
bind_takes words In front field word Fits tail is more [] x h = absurd cc
bind_takes words In front field word Fits tail is more (w ∷ ws) x h = field_takes words In front tail word Fits more w ws x (field w) (λ a e. is.takes w a e) h

pub bind_spells : {A X : Type 0} {words : X → List (List ℕ)} {In : X → Type 0} {front : List (List ℕ)} {field : Field A} {word : A → List ℕ} {Fits : A → Type 0} {tail : A → Tail X} →
    IsField field word Fits → ((a : A) → Fits a → Spells words In (front ++ word a ∷ []) (tail a)) → Spells words In front (field >>= tail)
bind_spells {words} {In} {front} {field} {word} {Fits} {tail} is more = record { takes = bind_takes words In front field word Fits tail is more }

-- a part that is spelled by its own words
mapped_takes : {A X : Type 0} (words : X → List (List ℕ)) (In : X → Type 0) (front : List (List ℕ)) (make : A → X) (part : A → List (List ℕ)) (Fits : A → Type 0) (tail : Tail A) →
    Spells part Fits [] tail → ((a : A) → Fits a → (words (make a) ≡ front ++ part a) × In (make a)) →
    (ws : List (List ℕ)) (x : X) → mapped make tail ws ≡ Some x → (front ++ ws ≡ words x) × In x
mapped_takes words In front make part Fits tail is made ws x h =
    let m = map_some make (tail ws) x h in
    let t = is.takes ws m.0 m.1 in
    let s = made m.0 t.1 in
    subst (λ (y : _). (front ++ ws ≡ words y) × In y) m.2 (ap (λ (v : List (List ℕ)). front ++ v) t.0 ∙ sym s.0, s.1)

pub mapped_spells : {A X : Type 0} {words : X → List (List ℕ)} {In : X → Type 0} {front : List (List ℕ)} (make : A → X) {part : A → List (List ℕ)} {Fits : A → Type 0} {tail : Tail A} →
    Spells part Fits [] tail → ((a : A) → Fits a → (words (make a) ≡ front ++ part a) × In (make a)) → Spells words In front (mapped make tail)
mapped_spells {words} {In} {front} make {part} {Fits} {tail} is made = record { takes = mapped_takes words In front make part Fits tail is made }

-- each row spells behind its word
abbrev pub RowSpells : {X : Type 0} → (X → List (List ℕ)) → (X → Type 0) → List (List ℕ) → Row X → Type 0
RowSpells words In front r = Spells words In (front ++ r.word ∷ []) r.tail

chosen : {X : Type 0} (words : X → List (List ℕ)) (In : X → Type 0) (front : List (List ℕ)) (r : Row X) (w : List ℕ) (ws : List (List ℕ)) (x : X) (t : Bool) (others : Option X) →
    ((t ≡ true) → w ≡ r.word) → RowSpells words In front r → (others ≡ Some x → (front ++ w ∷ ws ≡ words x) × In x) →
    cond t (r.tail ws) others ≡ Some x → (front ++ w ∷ ws ≡ words x) × In x
chosen words In front r w ws x true others same is more h =
    let e = same refl in
    let t = is.takes ws x h in
    (ap (λ (v : List ℕ). front ++ v ∷ ws) e ∙ sym (append_assoc front (r.word ∷ []) ws) ∙ t.0, t.1)
chosen words In front r w ws x false others same is more h = more h

pub same_word : (w v : List ℕ) → bytes_eq w v ≡ true → w ≡ v
same_word w v h = (bytes_eq-Decides w v).0 h

rows_take : {X : Type 0} (words : X → List (List ℕ)) (In : X → Type 0) (front : List (List ℕ)) (rows : List (Row X)) → AllByRecursion (RowSpells words In front) rows →
    (w : List ℕ) (ws : List (List ℕ)) (x : X) → row_of rows w ws ≡ Some x → (front ++ w ∷ ws ≡ words x) × In x
rows_take words In front [] all w ws x h = absurd cc
rows_take words In front (r ∷ rs) all w ws x h =
    chosen words In front r w ws x (bytes_eq w r.word) (row_of rs w ws) (λ e. same_word w r.word e) all.0 (λ e. rows_take words In front rs all.1 w ws x e) h

one_takes : {X : Type 0} (words : X → List (List ℕ)) (In : X → Type 0) (front : List (List ℕ)) (rows : List (Row X)) → AllByRecursion (RowSpells words In front) rows →
    (ws : List (List ℕ)) (x : X) → one_of rows ws ≡ Some x → (front ++ ws ≡ words x) × In x
one_takes words In front rows all [] x h = absurd cc
one_takes words In front rows all (w ∷ ws) x h = rows_take words In front rows all w ws x h

pub one_spells : {X : Type 0} {words : X → List (List ℕ)} {In : X → Type 0} {front : List (List ℕ)} (rows : List (Row X)) → AllByRecursion (RowSpells words In front) rows → Spells words In front (one_of rows)
one_spells {words} {In} {front} rows all = record { takes = one_takes words In front rows all }

-- ---- lines

line_says : {X : Type 0} (words : X → List (List ℕ)) (In : X → Type 0) (tail : Tail X) → Spells words In [] tail →
    (l : List ℕ) (x : X) (o : Option (List (List ℕ))) → words_at l ≡ o → option_and_then tail o ≡ Some x → (l ≡ line (words x)) × In x
line_says words In tail is l x (Some ws) w h =
    let s = is.takes ws x h in
    ((words_take l ws w).whole ∙ ap line s.0, s.1)
line_says words In tail is l x None w h = absurd cc

-- what is read of a line is spelled by it
pub line_takes : {X : Type 0} {words : X → List (List ℕ)} {In : X → Type 0} {tail : Tail X} → Spells words In [] tail →
    (l : List ℕ) (x : X) → option_and_then tail (words_at l) ≡ Some x → (l ≡ line (words x)) × In x
line_takes {X} {words} {In} {tail} is l x h = line_says words In tail is l x (words_at l) refl h

-- what words say is read of their line
pub line_again : {X : Type 0} (tail : Tail X) (x : X) (w : List ℕ) (ws : List (List ℕ)) → all_free (w ∷ ws) ≡ true → tail (w ∷ ws) ≡ Some x → option_and_then tail (words_at (line (w ∷ ws))) ≡ Some x
line_again tail x w ws free says =
    let p = and_parts (is_free w) (all_free ws) free in
    ap (option_and_then tail) (words_again w ws p.0 p.1) ∙ says

-- ---- what a tail was given

pub record Row_was {X : Type 0} (word : List ℕ) (tail : Tail X) (ws : List (List ℕ)) (x : X) : Type 0 where
  pub others : List (List ℕ)
  pub words_are : ws ≡ word ∷ others
  pub says : tail others ≡ Some x

row_was : {X : Type 0} (word : List ℕ) (tail : Tail X) (w : List ℕ) (ws : List (List ℕ)) (x : X) (t : Bool) → bytes_eq w word ≡ t → cond t (tail ws) None ≡ Some x → Row_was word tail (w ∷ ws) x
row_was word tail w ws x true h e = record { others = ws; words_are = ap (λ (v : List ℕ). v ∷ ws) (same_word w word h); says = e }
row_was word tail w ws x false h e = absurd cc

pub single_row : {X : Type 0} (word : List ℕ) (tail : Tail X) (ws : List (List ℕ)) (x : X) → one_of (row word tail ∷ []) ws ≡ Some x → Row_was word tail ws x
single_row word tail [] x e = absurd cc
single_row word tail (w ∷ ws) x e = row_was word tail w ws x (bytes_eq w word) refl e

pub record Field_was {A : Type 0} (field : Field A) (ws : List (List ℕ)) (a : A) : Type 0 where
  pub word : List ℕ
  pub words_are : ws ≡ word ∷ []
  pub says : field word ≡ Some a

field_was : {A : Type 0} (field : Field A) (w : List ℕ) (ws : List (List ℕ)) (a : A) (o : Option A) → field w ≡ o → goes_on o (λ b. done b) ws ≡ Some a → Field_was field (w ∷ ws) a
field_was field w [] a (Some b) h e = record { word = w; words_are = refl; says = h ∙ e }
field_was field w (v ∷ vs) a (Some b) h e = absurd cc
field_was field w ws a None h e = absurd cc

pub single_field : {A : Type 0} (field : Field A) (ws : List (List ℕ)) (a : A) → (field >>= λ b. done b) ws ≡ Some a → Field_was field ws a
single_field field [] a e = absurd cc
single_field field (w ∷ ws) a e = field_was field w ws a (field w) refl e

pub and_then_was : {A B : Type 0} (f : A → Option B) (o : Option A) (y : B) → option_and_then f o ≡ Some y → (a : A) × (o ≡ Some a) × (f a ≡ Some y)
and_then_was f (Some a) y e = (a, refl, e)
and_then_was f None y e = absurd cc

-- The words of a line before a space, and behind it.
use Rattle.std.proofs.Common.{◌≡◌, ℕ, ◌+◌, ◌-◌, ◌<◌, ◌≤◌, Bool, true, false, not, eqb, ltb, min, List, [], ◌∷◌, ◌++◌, length, take, drop, get_or, Some, refl, sym, ap, ◌∙◌, subst, length-append, length-drop, length-take, take-append-drop, drop-drop, get_or-drop, arith}
use Rattle.std.proofs.lemmas.Bool.{ltb-true, ltb-false}
use Rattle.std.proofs.lemmas.List.{append-nil, drop_all, take_all}
use Rattle.std.proofs.lemmas.List.Elements.{filter-append}
use Rattle.std.specs.List.{filter}
use Rattle.hp_states.proofs.Basics.{drop_at, take_at}
use Rattle.hp_model.specs.Lists.{is_empty}
use Rattle.hp_script.specs.Pieces.{onto_first, pieces, next}
use Rattle.hp_script.specs.Words.{words}
use Rattle.hp_script.proofs.PieceLoops.{onto_all, onto_some, onto_none, onto_one_more, next_is}
use Rattle.hp_hint.specs.Places.{IsAt}

-- the pieces that are words
abbrev kept : List (List ℕ) → List (List ℕ)
kept ps = filter (λ p. not (is_empty p)) ps

kept_more : (p : List ℕ) (ps qs : List (List ℕ)) → kept ps ≡ kept qs → kept (p ∷ ps) ≡ kept (p ∷ qs)
kept_more [] ps qs e = e
kept_more (b ∷ bs) ps qs e = ap (λ (x : List (List ℕ)). (b ∷ bs) ∷ x) e

last_kept : (w : List ℕ) → kept ((w ++ []) ∷ []) ≡ kept (onto_all w [])
last_kept [] = refl
last_kept (b ∷ bs) = ap (λ (x : List ℕ). (b ∷ x) ∷ []) (append-nil bs) ∙ sym (ap kept (onto_none b bs))

-- a space at the end makes no word more
closed : (w a : List ℕ) → kept (onto_all w (pieces 32 (a ++ 32 ∷ []))) ≡ kept (onto_all w (pieces 32 a))
closed w [] = ap kept (onto_some w [] []) ∙ last_kept w
closed w (x ∷ a) = by (eqb x 32) refl (closed [] a) (closed (w ++ x ∷ []) a)
  where
    by : (t : Bool) → eqb x 32 ≡ t → kept (pieces 32 (a ++ 32 ∷ [])) ≡ kept (pieces 32 a)
        → kept (onto_all (w ++ x ∷ []) (pieces 32 (a ++ 32 ∷ []))) ≡ kept (onto_all (w ++ x ∷ []) (pieces 32 a))
        → kept (onto_all w (pieces 32 ((x ∷ a) ++ 32 ∷ []))) ≡ kept (onto_all w (pieces 32 (x ∷ a)))
    by true e same more = rw e (ap kept (onto_some w [] (pieces 32 (a ++ 32 ∷ []))) ∙ kept_more (w ++ []) (pieces 32 (a ++ 32 ∷ [])) (pieces 32 a) same ∙ sym (ap kept (onto_some w [] (pieces 32 a))))
    by false e same more = rw e (sym (ap kept (onto_one_more w x (pieces 32 (a ++ 32 ∷ [])))) ∙ more ∙ ap kept (onto_one_more w x (pieces 32 a)))

record HasFirst (ps : List (List ℕ)) : Type 0 where
  pub first : List ℕ
  pub others : List (List ℕ)
  pub are : ps ≡ first ∷ others

has_first : (a : List ℕ) → HasFirst (pieces 32 (a ++ 32 ∷ []))
has_first [] = record { first = []; others = []; are = refl }
has_first (x ∷ a) = by (eqb x 32) refl (has_first a)
  where
    by : (t : Bool) → eqb x 32 ≡ t → HasFirst (pieces 32 (a ++ 32 ∷ [])) → HasFirst (pieces 32 ((x ∷ a) ++ 32 ∷ []))
    by true e more = record { first = []; others = pieces 32 (a ++ 32 ∷ []); are = rw e refl }
    by false e more = record { first = x ∷ more.first; others = more.others; are = rw e (ap (onto_first x) more.are) }

onto_append : (x : ℕ) (ps qs : List (List ℕ)) → HasFirst ps → onto_first x (ps ++ qs) ≡ onto_first x ps ++ qs
onto_append x ps qs h = ap (λ (r : List (List ℕ)). onto_first x (r ++ qs)) h.are ∙ sym (ap (λ (r : List (List ℕ)). onto_first x r ++ qs) h.are)

parts : (a b : List ℕ) → pieces 32 (a ++ 32 ∷ b) ≡ pieces 32 (a ++ 32 ∷ []) ++ pieces 32 b
parts [] b = refl
parts (x ∷ a) b = by (eqb x 32) refl (parts a b)
  where
    by : (t : Bool) → eqb x 32 ≡ t → pieces 32 (a ++ 32 ∷ b) ≡ pieces 32 (a ++ 32 ∷ []) ++ pieces 32 b
        → pieces 32 ((x ∷ a) ++ 32 ∷ b) ≡ pieces 32 ((x ∷ a) ++ 32 ∷ []) ++ pieces 32 b
    by true e more = rw e (ap (λ (r : List (List ℕ)). [] ∷ r) more)
    by false e more = rw e (ap (onto_first x) more ∙ onto_append x (pieces 32 (a ++ 32 ∷ [])) (pieces 32 b) (has_first a))

-- the words of a line are those before a space and those behind it
pub split : (a b : List ℕ) → words (a ++ 32 ∷ b) ≡ words a ++ words b
split a b =
    ap kept (parts a b) ∙ filter-append (λ p. not (is_empty p)) (pieces 32 (a ++ 32 ∷ [])) (pieces 32 b)
    ∙ ap (λ (r : List (List ℕ)). r ++ words b) (closed [] a)

-- a space at the end makes no word more
split_end : (a : List ℕ) → words (a ++ 32 ∷ []) ≡ words a
split_end a = closed [] a

-- ---- a piece that was taken

-- the first piece of these bytes has so many of them
pub record IsPiece (rest : List ℕ) (k : ℕ) : Type 0 where
  pub pieces_are : pieces 32 rest ≡ take k rest ∷ pieces 32 (drop (k + 1) rest)
  pub within : k ≤ length rest
  pub parted : k < length rest → get_or rest k 0 ≡ 32

-- what stands behind a piece has the words of the other pieces
behind : (rest : List ℕ) (k : ℕ) → IsPiece rest k → words (drop k rest) ≡ words (drop (k + 1) rest)
behind rest k p = by (ltb k (length rest)) refl
  where
    by : (t : Bool) → ltb k (length rest) ≡ t → words (drop k rest) ≡ words (drop (k + 1) rest)
    by true e =
        let below = ltb-true k (length rest) e in
        ap words (drop_at rest k 0 below) ∙ ap (λ (b : ℕ). words (b ∷ drop (k + 1) rest)) (p.parted below)
    by false e =
        let past = ltb-false k (length rest) e in
        ap words (drop_all k rest past) ∙ sym (ap words (drop_all (k + 1) rest (omega (arith, past))))

-- the words of the bytes from a piece on
with_word : (rest : List ℕ) (k : ℕ) → IsPiece rest k → 0 < k → words rest ≡ take k rest ∷ words (drop (k + 1) rest)
with_word rest k p some = ap kept p.pieces_are ∙ one (take k rest) (let l = length-take k rest in let w = p.within in omega (arith, l, w, some))
  where
    one : (piece : List ℕ) → 0 < length piece → kept (piece ∷ pieces 32 (drop (k + 1) rest)) ≡ piece ∷ words (drop (k + 1) rest)
    one [] none = absurd (omega (arith, none))
    one (b ∷ bs) is = refl

without_word : (rest : List ℕ) (k : ℕ) → IsPiece rest k → k ≡ 0 → words rest ≡ words (drop (k + 1) rest)
without_word rest k p none = ap kept p.pieces_are ∙ ap (λ (n : ℕ). kept (take n rest ∷ pieces 32 (drop (k + 1) rest))) none

-- ---- the loop

-- the words before a place and those behind it are those of the line
pub record SoFar (line : List ℕ) (start left number : ℕ) : Type 0 where
  pub within : start ≤ length line
  pub all : words line ≡ words (take start line) ++ words (drop start line)
  pub count : length (words (take start line)) + left ≡ number

-- the word that was looked for
pub found : (line : List ℕ) (start left number k : ℕ) → SoFar line start left number → IsPiece (drop start line) k → 0 < k → left ≡ 0
    → IsAt line number (record { start = start; length = k })
found line start left number k so p some none =
    record {
      word = λ _. record { before = before; all = all };
      end = λ past. absurd (let c = longer in omega (arith, past, c));
    }
  where
    before : length (words (take start line)) ≡ number
    before = let c = so.count in omega (arith, c, none)

    here : words (drop start line) ≡ take k (drop start line) ∷ words (drop (start + k) line)
    here =
        with_word (drop start line) k p some
        ∙ ap (λ (w : List (List ℕ)). take k (drop start line) ∷ w) (sym (behind (drop start line) k p) ∙ ap words (drop-drop k start line))

    all : words line ≡ words (take start line) ++ take k (drop start line) ∷ words (drop (start + k) line)
    all = so.all ∙ ap (λ (w : List (List ℕ)). words (take start line) ++ w) here

    longer : number < length (words line)
    longer =
        let l = ap length all in
        let m = length-append (words (take start line)) (take k (drop start line) ∷ words (drop (start + k) line)) in
        omega (arith, l, m, before)

-- how many words a piece is
abbrev pub one_of : (k : ℕ) → ℕ
one_of k = min k 1

counted : (line : List ℕ) (start left number k : ℕ) → SoFar line start left number → IsPiece (drop start line) k
    → length (words line) ≡ length (words (take start line)) + one_of k + length (words (drop (start + k + 1) line))
counted line start left number k so p = by (ltb 0 k) refl
  where
    rest : List ℕ
    rest = drop start line

    same : drop (k + 1) rest ≡ drop (start + k + 1) line
    same = drop-drop (k + 1) start line ∙ ap (λ (n : ℕ). drop n line) (omega arith)

    whole : length (words line) ≡ length (words (take start line)) + length (words rest)
    whole = ap length so.all ∙ length-append (words (take start line)) (words rest)

    by : (t : Bool) → ltb 0 k ≡ t → length (words line) ≡ length (words (take start line)) + one_of k + length (words (drop (start + k + 1) line))
    by true e =
        let some = ltb-true 0 k e in
        let w = ap length (with_word rest k p some) in
        let s = ap (λ (r : List ℕ). length (words r)) same in
        omega (arith, whole, w, s, some)
    by false e =
        let none : k ≡ 0 = let h = ltb-false 0 k e in omega (arith, h) in
        let w = ap length (without_word rest k p none) in
        let s = ap (λ (r : List ℕ). length (words r)) same in
        omega (arith, whole, w, s, none)

-- a piece more, behind which there is another
pub goes_on : (line : List ℕ) (start left number k later : ℕ) → SoFar line start left number → IsPiece (drop start line) k → k < length line - start
    → later + one_of k ≡ left → SoFar line (start + k + 1) later number
goes_on line start left number k later so p more fewer = record { within = omega (arith, more); all = all; count = count }
  where
    inside : start + k < length line
    inside = omega (arith, more)

    space : get_or line (start + k) 0 ≡ 32
    space = sym (get_or-drop start line k 0) ∙ p.parted (let l = length-drop start line in omega (arith, l, more))

    before : take (start + k + 1) line ≡ take (start + k) line ++ 32 ∷ []
    before = take_at line (start + k) 0 inside ∙ ap (λ (b : ℕ). take (start + k) line ++ b ∷ []) space

    line_is : line ≡ take (start + k) line ++ 32 ∷ drop (start + k + 1) line
    line_is = sym (take-append-drop (start + k) line) ∙ ap (λ (r : List ℕ). take (start + k) line ++ r) (drop_at line (start + k) 0 inside ∙ ap (λ (b : ℕ). b ∷ drop (start + k + 1) line) space)

    same_words : words (take (start + k + 1) line) ≡ words (take (start + k) line)
    same_words = ap words before ∙ split_end (take (start + k) line)

    all : words line ≡ words (take (start + k + 1) line) ++ words (drop (start + k + 1) line)
    all = ap words line_is ∙ split (take (start + k) line) (drop (start + k + 1) line) ∙ ap (λ (w : List (List ℕ)). w ++ words (drop (start + k + 1) line)) (sym same_words)

    count : length (words (take (start + k + 1) line)) + later ≡ number
    count =
        let whole = ap length all ∙ length-append (words (take (start + k + 1) line)) (words (drop (start + k + 1) line)) in
        let other = counted line start left number k so p in
        let c = so.count in
        omega (arith, whole, other, c, fewer)

-- the last piece
pub at_last : (line : List ℕ) (start left number k later : ℕ) → SoFar line start left number → IsPiece (drop start line) k → k ≡ length line - start
    → later + one_of k ≡ left → IsAt line number (record { start = length line; length = 0 })
at_last line start left number k later so p last fewer =
    record {
      word = λ below. absurd (let f = few in omega (arith, below, f));
      end = λ _. record { start = refl; length = refl };
    }
  where
    few : length (words line) ≤ number
    few =
        let other = counted line start left number k so p in
        let w = so.within in
        let none = ap (λ (r : List ℕ). length (words r)) (drop_all (start + k + 1) line (omega (arith, last, w))) in
        let c = so.count in
        omega (arith, other, none, c, fewer)

-- no piece is left
pub none_left : (line : List ℕ) (start left number : ℕ) → SoFar line start left number → drop start line ≡ [] → IsAt line number (record { start = length line; length = 0 })
none_left line start left number so none =
    record {
      word = λ below. absurd (let f = few in omega (arith, below, f));
      end = λ _. record { start = refl; length = refl };
    }
  where
    few : length (words line) ≤ number
    few =
        let whole = ap length so.all ∙ length-append (words (take start line)) (words (drop start line)) in
        let rest = ap (λ (r : List ℕ). length (words r)) none in
        let c = so.count in
        omega (arith, whole, rest, c)

-- ---- what the code took

pub is_piece : (rest piece later : List ℕ) → Some (piece, pieces 32 later) ≡ next (pieces 32 rest) → piece ≡ take (length piece) rest → length piece ≤ length rest
    → (length piece < length rest → get_or rest (length piece) 0 ≡ 32) → later ≡ drop (length piece + 1) rest → IsPiece rest (length piece)
is_piece rest piece later e first within parted behind =
    record {
      pieces_are = next_is (pieces 32 rest) piece (pieces 32 later) e ∙ ap (λ (p : List ℕ). p ∷ pieces 32 later) first ∙ ap (λ (r : List ℕ). take (length piece) rest ∷ pieces 32 r) behind;
      within = within;
      parted = parted;
    }

-- the rest of a line, as the code takes it
sliced : (line : List ℕ) (start : ℕ) → take (length line - start) (drop start line) ≡ drop start line
sliced line start = take_all _ _ (omega (arith, length-drop start line))

pub is_piece_of : (line : List ℕ) (start k : ℕ) → IsPiece (take (length line - start) (drop start line)) k → IsPiece (drop start line) k
is_piece_of line start k p = subst (λ (r : List ℕ). IsPiece r k) (sliced line start) p

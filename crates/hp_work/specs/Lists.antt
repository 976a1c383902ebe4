-- Lists of items: what stands in them, and what puts, takes and moves it. This project's own.
use Rattle.std.specs.Prelude.{ℕ, ◌==◌, List, [], ◌∷◌, ◌++◌, count_by, sum_by, slice_index_or, slice_set}

-- the list at a place
abbrev pub list : List (List ℕ) → (place : ℕ) → List ℕ
list ls p = slice_index_or ls p []

-- how often an item stands in a list, and in all of them
abbrev pub times : (item : ℕ) → List ℕ → ℕ
times n xs = count_by (λ m. m == n) xs

abbrev pub times_in : (item : ℕ) → List (List ℕ) → ℕ
times_in n ls = sum_by (times n) ls

-- an item is put at the tail of one
abbrev pub pushed : (place item : ℕ) → List (List ℕ) → List (List ℕ)
pushed p n ls = slice_set ls p (list ls p ++ n ∷ [])

abbrev pub rest : List ℕ → List ℕ
rest [] = []
rest (n ∷ ns) = ns

-- the front of one is taken
abbrev pub popped : (place : ℕ) → List (List ℕ) → List (List ℕ)
popped p ls = slice_set ls p (rest (list ls p))

-- all items of one are moved, in order, to the tail of another
abbrev pub moved : (from to : ℕ) → List (List ℕ) → List (List ℕ)
moved a b ls = slice_set (slice_set ls a []) b (list ls b ++ list ls a)

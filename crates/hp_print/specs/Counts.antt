-- How often the entries of each key are done, as a list in the order of the keys. This project's own.
use Rattle.std.specs.Prelude.{ℕ, ◌+◌, ◌-◌, ◌^◌, min, suc, ◌≡◌, Bool, true, ◌&&◌, ◌==◌, if◌then◌else◌, List, [], ◌∷◌, map, slice_set, slice_index_or}
use Rattle.hp_states.specs.declared.dir.Dir.{Dir}
use Rattle.hp_states.specs.declared.dir.Dir.TheVariants.{Up, Down}
use Rattle.hp_event.specs.declared.key.Key.{Key}
use Rattle.hp_model.specs.Net.{is_before}
use Rattle.hp_print.specs.declared.keys.KeyCount.{KeyCount}

abbrev pub is_key : Key → Key → Bool
is_key k x = k.state == x.state && k.inst == x.inst

-- one more, as far as a word counts
abbrev pub one_more : ℕ → ℕ
one_more n = min (n + 1) (2 ^ 64 - 1)

-- one more where this holds
abbrev pub one_more_if : Bool → ℕ → ℕ
one_more_if b n = if b then one_more n else n

-- the counts with one more at this place
abbrev pub one_more_at : (at : ℕ) → List ℕ → List ℕ
one_more_at at counts = slice_set counts at (one_more (slice_index_or counts at 0))

abbrev pub no_count : Key → KeyCount
no_count k = record { key = k; ups = 0; downs = 0 }

-- the list with a count of a key in it
abbrev pub with_count : Key → List KeyCount → List KeyCount
with_count k [] = no_count k ∷ []
with_count k (x ∷ xs) =
    if is_before x.key k
    then x ∷ with_count k xs
    else (if is_before k x.key then no_count k ∷ x ∷ xs else x ∷ xs)

-- how many keys stand before a key
abbrev pub place : Key → List KeyCount → ℕ
place k [] = 0
place k (x ∷ xs) = if is_before x.key k then suc (place k xs) else 0

abbrev pub raised : Dir → KeyCount → KeyCount
raised Up x = record { key = x.key; ups = one_more x.ups; downs = x.downs }
raised Down x = record { key = x.key; ups = x.ups; downs = one_more x.downs }

-- one entry of a key more is done
abbrev pub raised_at : Key → Dir → List KeyCount → List KeyCount
raised_at k d xs = map (λ x. if is_key k x.key then raised d x else x) xs

abbrev pub counted : Key → Dir → (done : Bool) → List KeyCount → List KeyCount
counted k d done xs = if done then raised_at k d (with_count k xs) else with_count k xs

-- the counts of all processors, with an entry of a key of one of them
abbrev pub counted_at : (cpu : ℕ) → Key → Dir → (done : Bool) → List (List KeyCount) → List (List KeyCount)
counted_at cpu k d done keys = slice_set keys cpu (counted k d done (slice_index_or keys cpu []))

-- a key is before each of a list
abbrev pub IsBeforeAll : Key → List KeyCount → Type 0
IsBeforeAll k [] = Unit {0}
IsBeforeAll k (x ∷ xs) = (is_before k x.key ≡ true) × IsBeforeAll k xs

-- the keys rise
abbrev pub AreInOrder : List KeyCount → Type 0
AreInOrder [] = Unit {0}
AreInOrder (x ∷ xs) = IsBeforeAll x.key xs × AreInOrder xs

-- What the next line does to a reader of lines.
use Rattle.std.proofs.Common.{◌≡◌, ℕ, suc, ◌+◌, ◌-◌, ◌<◌, List, [], ◌∷◌, take, Some, Result, Ok, Err, refl, sym, ap, ◌∙◌, arith}
use Rattle.hp_trace.specs.declared.event.Said.{Said}
use Rattle.hp_trace.specs.Pieces.{first_of, others_of, pieces}
use Rattle.hp_trace.specs.Said.{said_of}
use Rattle.hp_trace_walk.specs.declared.walk.Borders.{Borders}
use Rattle.hp_trace_walk.specs.Tables.{Kept, fresh}
use Rattle.hp_trace_judge.specs.declared.borders.Sight.{Sight}
use Rattle.hp_trace_judge.specs.declared.place.Place.{Place}
use Rattle.hp_trace_judge.specs.declared.place.Halt.{Halt}
use Rattle.hp_trace_judge.specs.declared.walks.Walks.{Walks}
use Rattle.hp_trace_judge.specs.Borders.{after, after_lines}
use Rattle.hp_trace_judge.specs.Walks.{place_behind, table_behind, by_place, halted, nowhere, walks_from, walks_within}

-- ---- the borders

sight_next : (s : Sight) (many less : ℕ) (lines : List (List ℕ)) (l : List ℕ) (ls : List (List ℕ)) → many ≡ suc less → Some l ≡ first_of lines →
    ls ≡ others_of lines → after_lines s (take many lines) ≡ after_lines (after s (said_of l)) (take less ls)
sight_next s many less [] l ls m f o = absurd cc
sight_next s many less (x ∷ xs) l ls m f o =
    let same : l ≡ x = cc in
    rw (m, same, o) refl

pub sight_on : (s next all : Sight) (said : Said) (line until : ℕ) (lines : List (List ℕ)) (l : List ℕ) (ls : List (List ℕ)) → line < until →
    Some l ≡ first_of lines → ls ≡ others_of lines → said ≡ said_of l → next ≡ after s said →
    after_lines s (take (until - line) lines) ≡ all → after_lines next (take (until - (line + 1)) ls) ≡ all
sight_on s next all said line until lines l ls lt f o is n h =
    let more = sight_next s (until - line) (until - (line + 1)) lines l ls (omega (arith, lt)) f o in
    let same : next ≡ after s (said_of l) = n ∙ ap (λ (z : Said). after s z) is in
    ap (λ (z : Sight). after_lines z (take (until - (line + 1)) ls)) same ∙ (sym more ∙ h)

-- ---- the walks

walks_next : (b : Borders) (p : Place) (k : Kept) (line many less : ℕ) (lines : List (List ℕ)) (l : List ℕ) (ls : List (List ℕ)) →
    many ≡ suc less → Some l ≡ first_of lines → ls ≡ others_of lines →
    walks_from b p k line (take many lines)
    ≡ by_place line (place_behind b p line (said_of l) k)
    (λ next. walks_from b next (table_behind b p line (said_of l) k) (line + 1) (take less ls))
walks_next b p k line many less [] l ls m f o = absurd cc
walks_next b p k line many less (x ∷ xs) l ls m f o =
    let same : l ≡ x = cc in
    rw (m, same, o) refl

goes : (line : ℕ) (r : Result Place Halt) (next : Place) (more : Place → Walks) → r ≡ Ok next → by_place line r more ≡ more next
goes line (Ok p) next more h = let same : p ≡ next = cc in ap more same
goes line (Err e) next more h = absurd cc

stops : (line : ℕ) (r : Result Place Halt) (h : Halt) (more : Place → Walks) → r ≡ Err h → by_place line r more ≡ halted line h
stops line (Ok p) h more e = absurd cc
stops line (Err x) h more e = let same : x ≡ h = cc in ap (λ (z : Halt). halted line z) same

pub walk_on : (b : Borders) (p next : Place) (k then : Kept) (all : Walks) (said : Said) (line until : ℕ) (lines : List (List ℕ)) (l : List ℕ)
    (ls : List (List ℕ)) → line < until → Some l ≡ first_of lines → ls ≡ others_of lines → said ≡ said_of l →
    place_behind b p line said k ≡ Ok next → then ≡ table_behind b p line said k →
    walks_from b p k line (take (until - line) lines) ≡ all → walks_from b next then (line + 1) (take (until - (line + 1)) ls) ≡ all
walk_on b p next k then all said line until lines l ls lt f o is ok t h =
    let less = take (until - (line + 1)) ls in
    let more = walks_next b p k line (until - line) (until - (line + 1)) lines l ls (omega (arith, lt)) f o in
    let at_line : place_behind b p line (said_of l) k ≡ Ok next = ap (λ (z : Said). place_behind b p line z k) (sym is) ∙ ok in
    let table : then ≡ table_behind b p line (said_of l) k = t ∙ ap (λ (z : Said). table_behind b p line z k) is in
    let on =
    goes line (place_behind b p line (said_of l) k) next
    (λ n. walks_from b n (table_behind b p line (said_of l) k) (line + 1) less) at_line in
    ap (λ (z : Kept). walks_from b next z (line + 1) less) table ∙ (sym (more ∙ on) ∙ h)

pub walk_stops : (b : Borders) (p : Place) (k : Kept) (h : Halt) (said : Said) (line until : ℕ) (lines : List (List ℕ)) (l : List ℕ)
    (ls : List (List ℕ)) → line < until → Some l ≡ first_of lines → ls ≡ others_of lines → said ≡ said_of l →
    place_behind b p line said k ≡ Err h → walks_from b p k line (take (until - line) lines) ≡ halted line h
walk_stops b p k h said line until lines l ls lt f o is e =
    let more = walks_next b p k line (until - line) (until - (line + 1)) lines l ls (omega (arith, lt)) f o in
    let at_line : place_behind b p line (said_of l) k ≡ Err h = ap (λ (z : Said). place_behind b p line z k) (sym is) ∙ e in
    more
    ∙ stops line (place_behind b p line (said_of l) k) h
    (λ n. walks_from b n (table_behind b p line (said_of l) k) (line + 1) (take (until - (line + 1)) ls)) at_line

pub begins : (b : Borders) (p : Place) (k : Kept) (until : ℕ) (lines : List (List ℕ)) (bytes : List ℕ) → p ≡ nowhere → k ≡ fresh →
    lines ≡ pieces 10 bytes → walks_from b p k 1 (take (until - 1) lines) ≡ walks_within b until bytes
begins b p k until lines bytes e f g = rw (e, f, g) refl

-- The loops of the generator: what is written, in front of what is left.
use Rattle.std.proofs.Common.{◌≡◌, ℕ, suc, ◌+◌, ◌-◌, ◌<◌, List, [], ◌∷◌, ◌++◌, map, refl, sym, ap, ◌∙◌, append_assoc, arith}
use Rattle.std.specs.List.{flat_map}
use Rattle.std.proofs.lemmas.List.{append-nil, map-append}
use Rattle.std.proofs.lemmas.List.Concat.{flat_map-append}
use Rattle.hp_model.specs.Words.{line}
use Rattle.hp_model.specs.EventLine.{op_words}
use Rattle.hp_script.specs.declared.drawn.Drawn.{Drawn}
use Rattle.hp_script.specs.Generated.{one_drawn, state_behind_one, all_drawn, state_behind_all, ops_drawn, drawn_lines, setup_lines, actor_words, actors_from, actors}

abbrev text_of : List (List (List ℕ)) → List ℕ
text_of lines = flat_map line lines

-- the lines of one that is drawn
abbrev lines_of : Drawn → List (List (List ℕ))
lines_of drawn = map op_words (ops_drawn drawn)

pub drawn_more : (n x : ℕ) → drawn_lines (suc n) x ≡ lines_of (one_drawn x) ++ drawn_lines n (state_behind_one x)
unfolding drawn_lines
drawn_more n x = map-append op_words (ops_drawn (one_drawn x)) (flat_map ops_drawn (all_drawn n (state_behind_one x)))

left_is : (i size : ℕ) → i < size → size - i ≡ suc (size - (i + 1))
left_is i size lt = omega arith

drawn_next : (size i x : ℕ) (all old new : List ℕ) → i < size → new ≡ old ++ text_of (lines_of (one_drawn x))
    → all ≡ old ++ text_of (drawn_lines (size - i) x) → all ≡ new ++ text_of (drawn_lines (size - (i + 1)) (state_behind_one x))
drawn_next size i x all old new lt e so_far =
    let rest = text_of (drawn_lines (size - (i + 1)) (state_behind_one x)) in
    so_far
    ∙ ap (λ (n : ℕ). old ++ text_of (drawn_lines n x)) (left_is i size lt)
    ∙ ap (λ (ls : List (List (List ℕ))). old ++ text_of ls) (drawn_more (size - (i + 1)) x)
    ∙ ap (λ (w : List ℕ). old ++ w) (flat_map-append line (lines_of (one_drawn x)) (drawn_lines (size - (i + 1)) (state_behind_one x)))
    ∙ sym (append_assoc old (text_of (lines_of (one_drawn x))) rest)
    ∙ ap (λ (w : List ℕ). w ++ rest) (sym e)

-- one more is written of what is drawn
pub drawn_goes_on : (size i x y : ℕ) (d : Drawn) (all old new : List ℕ) → i < size → d ≡ one_drawn x → y ≡ state_behind_one x
    → new ≡ old ++ text_of (lines_of d) → all ≡ old ++ text_of (drawn_lines (size - i) x) → all ≡ new ++ text_of (drawn_lines (size - (i + 1)) y)
drawn_goes_on size i x y d all old new lt is next e so_far =
    drawn_next size i x all old new lt (e ∙ ap (λ (d : Drawn). old ++ text_of (lines_of d)) is) so_far
    ∙ ap (λ (y : ℕ). new ++ text_of (drawn_lines (size - (i + 1)) y)) (sym next)

pub state_goes_on : (size i x y z : ℕ) → i < size → y ≡ state_behind_one x → z ≡ state_behind_all (size - i) x → z ≡ state_behind_all (size - (i + 1)) y
state_goes_on size i x y z lt next so_far =
    so_far ∙ ap (λ (n : ℕ). state_behind_all n x) (left_is i size lt) ∙ ap (λ (y : ℕ). state_behind_all (size - (i + 1)) y) (sym next)

pub all_left : (size : ℕ) → size ≡ size - 0
all_left size = omega arith

none_left : (size i : ℕ) → (i < size → ⊥) → size - i ≡ 0
none_left size i done = omega (arith, done)

pub drawn_done : (size i x : ℕ) (all out : List ℕ) → (i < size → ⊥) → all ≡ out ++ text_of (drawn_lines (size - i) x) → out ≡ all
unfolding drawn_lines
drawn_done size i x all out done so_far =
    sym (so_far ∙ ap (λ (n : ℕ). out ++ text_of (drawn_lines n x)) (none_left size i done) ∙ append-nil out)

pub state_done : (size i x y : ℕ) → (i < size → ⊥) → y ≡ state_behind_all (size - i) x → x ≡ y
state_done size i x y done so_far = sym (so_far ∙ ap (λ (n : ℕ). state_behind_all n x) (none_left size i done))

-- one actor more is written
pub actor_goes_on : (size n x y : ℕ) (all old named new : List ℕ) → n < 7 → y ≡ state_behind_all size x → named ≡ old ++ line (actor_words n)
    → new ≡ named ++ text_of (drawn_lines size x) → all ≡ old ++ text_of (actors_from (7 - n) n size x)
    → all ≡ new ++ text_of (actors_from (7 - (n + 1)) (n + 1) size y)
actor_goes_on size n x y all old named new lt next e f so_far =
    let more = actors_from (7 - (n + 1)) (n + 1) size (state_behind_all size x) in
    so_far
    ∙ ap (λ (c : ℕ). old ++ text_of (actors_from c n size x)) (left_is n 7 lt)
    ∙ ap (λ (w : List ℕ). old ++ (line (actor_words n) ++ w)) (flat_map-append line (drawn_lines size x) more)
    ∙ sym (append_assoc old (line (actor_words n)) (text_of (drawn_lines size x) ++ text_of more))
    ∙ ap (λ (w : List ℕ). w ++ (text_of (drawn_lines size x) ++ text_of more)) (sym e)
    ∙ sym (append_assoc named (text_of (drawn_lines size x)) (text_of more))
    ∙ ap (λ (w : List ℕ). w ++ text_of more) (sym f)
    ∙ ap (λ (y : ℕ). new ++ text_of (actors_from (7 - (n + 1)) (n + 1) size y)) (sym next)

pub actors_done : (size n x : ℕ) (all out : List ℕ) → (n < 7 → ⊥) → all ≡ out ++ text_of (actors_from (7 - n) n size x) → out ≡ all
actors_done size n x all out done so_far =
    sym (so_far ∙ ap (λ (c : ℕ). out ++ text_of (actors_from c n size x)) (none_left 7 n done) ∙ append-nil out)

-- the first actor is written
pub actors_begun : (size x y : ℕ) (old named set new : List ℕ) → y ≡ state_behind_all size x → named ≡ old ++ line (actor_words 1)
    → set ≡ named ++ text_of setup_lines → new ≡ set ++ text_of (drawn_lines size x) → old ++ text_of (actors size x) ≡ new ++ text_of (actors_from 5 2 size y)
unfolding actors
actors_begun size x y old named set new next e f g =
    let more = actors_from 5 2 size (state_behind_all size x) in
    ap (λ (w : List ℕ). old ++ (line (actor_words 1) ++ w))
    (flat_map-append line setup_lines (drawn_lines size x ++ more) ∙ ap (λ (w : List ℕ). text_of setup_lines ++ w) (flat_map-append line (drawn_lines size x) more))
    ∙ sym (append_assoc old (line (actor_words 1)) (text_of setup_lines ++ (text_of (drawn_lines size x) ++ text_of more)))
    ∙ ap (λ (w : List ℕ). w ++ (text_of setup_lines ++ (text_of (drawn_lines size x) ++ text_of more))) (sym e)
    ∙ sym (append_assoc named (text_of setup_lines) (text_of (drawn_lines size x) ++ text_of more))
    ∙ ap (λ (w : List ℕ). w ++ (text_of (drawn_lines size x) ++ text_of more)) (sym f)
    ∙ sym (append_assoc set (text_of (drawn_lines size x)) (text_of more))
    ∙ ap (λ (w : List ℕ). w ++ text_of more) (sym g)
    ∙ ap (λ (y : ℕ). new ++ text_of (actors_from 5 2 size y)) (sym next)

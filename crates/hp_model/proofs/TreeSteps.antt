-- What holds of every step of a tree.
use Rattle.std.proofs.Common.{◌≡◌, ℕ, ◌<◌, Bool, true, false, cond, Some, None, Option, List, [], ◌∷◌, ◌++◌, refl, sym, ◌∙◌, arith, eqb, ◌+◌}
use Rattle.std.proofs.lemmas.Bool.{true≢false, eqb-true}
use Rattle.hp_states.specs.declared.dir.Dir.{Dir}
use Rattle.hp_states.specs.declared.dir.Dir.TheVariants.{Down}
use Rattle.hp_states.specs.declared.place.Place.{Place}
use Rattle.hp_states.specs.declared.place.Place.TheVariants.{Forward, Back}
use Rattle.hp_states.specs.Sections.{opposite, can_fail}
use Rattle.hp_event.specs.declared.event.Event.{Event}
use Rattle.hp_model.specs.Lists.{occurs}
use Rattle.hp_model.specs.Crossing.{Slot}
use Rattle.hp_model.proofs.NextSlot.{Tree, stop, dead, step, visit_tree, part_tree, back_tree, walk_tree}
use Rattle.hp_model.proofs.NextRegistration.{down_tree, add_tree, registration_tree}
use Rattle.hp_model.proofs.Cursor.{Runs, IsLive, sound_back, sound_part}
use Rattle.hp_model.proofs.RegistrationCursor.{sound_down}
use Rattle.hp_model.proofs.Counts.{occurs-append}
use Rattle.hp_model.proofs.ListLemmas.{once_in}

-- each step has the rule, which speaks of its slot and of what follows a fault
abbrev pub EachStep : (Slot → Tree → Type 0) → Tree → Type 0
EachStep P stop = Unit {0}
EachStep P dead = Unit {0}
EachStep P (step s a b) = P s b × EachStep P a × EachStep P b

pub steps_below : (P : Slot → Tree → Type 0) (t : Tree) (es : List Event) (u : Tree) → Runs t es u → EachStep P t → EachStep P u
steps_below P t [] u r h = rw (← r) h
steps_below P stop (e ∷ es) u r h = elim r [ ]
steps_below P dead (e ∷ es) u r h = elim r [ ]
steps_below P (step s a b) (e ∷ es) u r h = go r.0 r.2 (steps_below P a es u) (steps_below P b es u)
  where
    go : (fails : Bool) → Runs (cond fails b a) es u → (Runs a es u → EachStep P a → EachStep P u) →
        (Runs b es u → EachStep P b → EachStep P u) → EachStep P u
    go true k f g = g k h.2
    go false k f g = f k h.1

-- a slot has the rule, and a fault that can come leads to no dead end
abbrev pub IsSafe : (Slot → Type 0) → Slot → Tree → Type 0
IsSafe Rule s b = Rule s × (can_fail s.dir s.state s.place ≡ true → IsLive b)

-- each slot of a walk is of its processor
abbrev pub IsOn : (cpu : ℕ) → Slot → Type 0
IsOn c s = s.cpu ≡ c

steps_visit : (c : ℕ) (p : Place) (d : Dir) (s : ℕ) (b : Bool) (seen is : List ℕ) (t : Tree) (f : List ℕ → Tree) →
    EachStep (IsSafe (IsOn c)) t → ((earlier : List ℕ) → IsLive (f earlier) × EachStep (IsSafe (IsOn c)) (f earlier)) →
    EachStep (IsSafe (IsOn c)) (visit_tree c p d s b seen is t f)
steps_visit c p d s b seen [] t f h k = h
steps_visit c p d s b seen (i ∷ is) t f h k =
    ((refl, λ e. (k seen).0), steps_visit c p d s false (seen ++ i ∷ []) is t f h k, (k seen).1)

steps_part : (c : ℕ) (d : Dir) (s : ℕ) (is : List ℕ) (t : Tree) → EachStep (IsSafe (IsOn c)) t →
    EachStep (IsSafe (IsOn c)) (part_tree c d s is t)
steps_part c d s [] t h = h
steps_part c d s (i ∷ is) t h = ((refl, λ e. absurd (true≢false (sym e))), steps_part c d s is t h, tt)

steps_back : (c : ℕ) (keys : ℕ → List ℕ) (d : Dir) (ts : List ℕ) → EachStep (IsSafe (IsOn c)) (back_tree c keys d ts)
steps_back c keys d [] = tt
steps_back c keys d (t ∷ ts) =
    steps_visit c Back d t true [] (keys t) (back_tree c keys d ts) (λ earlier. part_tree c (opposite d) t earlier stop)
    (steps_back c keys d ts)
    (λ earlier. ((sound_part c (opposite d) t earlier stop tt tt).0, steps_part c (opposite d) t earlier stop tt))

pub steps_walk : (c : ℕ) (keys : ℕ → List ℕ) (d : Dir) (stack ss : List ℕ) → EachStep (IsSafe (IsOn c)) (walk_tree c keys d stack ss)
steps_walk c keys d stack [] = tt
steps_walk c keys d stack (s ∷ ss) =
    steps_visit c Forward d s true [] (keys s) (walk_tree c keys d (s ∷ stack) ss)
    (λ earlier. part_tree c (opposite d) s earlier (back_tree c keys (opposite d) stack))
    (steps_walk c keys d (s ∷ stack) ss)
    (λ earlier.
    let b = sound_back c keys (opposite d) stack in (
      (sound_part c (opposite d) s earlier (back_tree c keys (opposite d) stack) b.0 b.1).0,
      steps_part c (opposite d) s earlier (back_tree c keys (opposite d) stack) (steps_back c keys (opposite d) stack),
    ))

-- each slot of a registration is on one of its processors
abbrev pub IsAmong : (cpus : List ℕ) → Slot → Type 0
IsAmong cs s = 0 < occurs s.cpu cs

steps_down : (all : List ℕ) (p : Place) (s i : ℕ) (cs : List ℕ) → ((d : Dir) → can_fail d s p ≡ false) →
    ((c : ℕ) → 0 < occurs c cs → 0 < occurs c all) → EachStep (IsSafe (IsAmong all)) (down_tree p s i cs)
steps_down all p s i [] never h = tt
steps_down all p s i (c ∷ cs) never h = (
  (h c (once_in c cs), λ e. absurd (true≢false (sym e ∙ never Down))),
  steps_down all p s i cs never (λ d n. h d (omega (arith, n))),
  tt,
)

steps_add : (all : List ℕ) (s i : ℕ) (seen cs : List ℕ) → ((c : ℕ) → 0 < occurs c cs → 0 < occurs c all) →
    ((c : ℕ) → 0 < occurs c seen → 0 < occurs c all) → EachStep (IsSafe (IsAmong all)) (add_tree s i seen cs)
steps_add all s i seen [] h k = tt
steps_add all s i seen (c ∷ cs) h k = (
  (h c (once_in c cs), λ e. (sound_down Place.Undo s i seen).0),
  steps_add all s i (seen ++ c ∷ []) cs (λ d n. h d (omega (arith, n))) (λ d n. more d (rw (occurs-append d seen (c ∷ [])) at n)),
  steps_down all Place.Undo s i seen (λ d. refl) k,
)
  where
    more : (d : ℕ) → 0 < occurs d seen + occurs d (c ∷ []) → 0 < occurs d all
    more d n = go (eqb c d) refl n
      where
        go : (b : Bool) → eqb c d ≡ b → 0 < occurs d seen + (cond b 1 0 + 0) → 0 < occurs d all
        go true e m = let same = eqb-true c d e in rw same at (h c (once_in c cs))
        go false e m = k d (omega (arith, m))

pub steps_registration : (adding : Bool) (s : ℕ) (key : Option ℕ) (cs : List ℕ) →
    EachStep (IsSafe (IsAmong cs)) (registration_tree adding s key cs)
steps_registration adding s None cs = tt
steps_registration true s (Some i) cs = steps_add cs s i [] cs (λ c h. h) (λ c h. absurd (omega (arith, h)))
steps_registration false s (Some i) cs = steps_down cs Place.Remove s i cs (λ d. refl) (λ c h. h)

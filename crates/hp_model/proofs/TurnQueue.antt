-- A queue says whose turn it is: where the walks that the seat goes on with stand in the order of their last events, the first of
-- them has it.
use Rattle.std.proofs.Common.{◌≡◌, ℕ, ◌+◌, ◌<◌, ◌≤◌, Bool, true, false, cond, eqb, ltb, Option, Some, None, List, [], ◌∷◌, refl, ap, sym, ◌∙◌, arith}
use Rattle.std.proofs.lemmas.Bool.{true≢false, eqb-true, ltb-true, ltb-false}
use Rattle.hp_states.proofs.Basics.{same_some}
use Rattle.hp_event.specs.declared.head.Head.{Head}
use Rattle.hp_event.specs.declared.event.Event.{Event}
use Rattle.hp_model.specs.Lists.{occurs, among}
use Rattle.hp_model.specs.Batch.{to_begin}
use Rattle.hp_model.specs.BatchQueue.{RiseBy, IsQueue, first}
use Rattle.hp_model.specs.BatchTurn.{last_event, own_walks, earlier, earliest, if_empty, turn_of}
use Rattle.hp_model.proofs.ListLemmas.{is_among, occurs_among, once_in}
use Rattle.hp_model.proofs.TurnLemmas.{earliest_in}

-- the earliest is no later than any
least : (place : ℕ → ℕ) (cs : List ℕ) (m d : ℕ) → earliest place cs ≡ Some m → 0 < occurs d cs → place m ≤ place d
least place [] m d h i = absurd (omega (arith, i))
least place (c ∷ cs) m d h i = go (earliest place cs) refl (same_some _ _ h) (eqb c d) refl i (λ f e j. least place cs f d e j)
  where
    none_there : earliest place cs ≡ None → 0 < occurs d cs → ⊥
    none_there e j = some (earliest_of cs j) e
      where
        earliest_of : (ds : List ℕ) → 0 < occurs d ds → (f : ℕ) × (earliest place ds ≡ Some f)
        earliest_of [] j = absurd (omega (arith, j))
        earliest_of (x ∷ ds) j = (earlier place x (earliest place ds), refl)

        some : (f : ℕ) × (earliest place cs ≡ Some f) → earliest place cs ≡ None → ⊥
        some f e = not_none f.0 (sym f.1 ∙ e)
          where
            not_none : (f : ℕ) → Some f ≡ None → ⊥
            not_none f h = cc

    picks : (f : ℕ) (b : Bool) → ltb (place f) (place c) ≡ b → cond b f c ≡ m → (b' : Bool) → eqb c d ≡ b' →
        0 < cond b' 1 0 + occurs d cs → (0 < occurs d cs → place f ≤ place d) → place m ≤ place d
    picks f true l s true q j r =
        let p = ltb-true (place f) (place c) l in
        let a = ap place s in
        let b = ap place (eqb-true c d q) in
        omega arith
    picks f true l s false q j r = let t = r (omega arith) in let a = ap place s in omega arith
    picks f false l s true q j r = let a = ap place s in let b = ap place (eqb-true c d q) in omega arith
    picks f false l s false q j r =
        let p = ltb-false (place f) (place c) l in
        let t = r (omega arith) in
        let a = ap place s in
        omega arith

    go : (v : Option ℕ) → earliest place cs ≡ v → earlier place c v ≡ m → (b : Bool) → eqb c d ≡ b →
        0 < cond b 1 0 + occurs d cs →
        ((f : ℕ) → earliest place cs ≡ Some f → 0 < occurs d cs → place f ≤ place d) → place m ≤ place d
    go None e s true q j r = let a = ap place s in let b = ap place (eqb-true c d q) in omega arith
    go None e s false q j r = absurd (none_there e (omega arith))
    go (Some f) e s b q j r = picks f (ltb (place f) (place c)) refl s b q j (r f e)

pub queue_turn : (head : Head) (xs : List Event) (k : ℕ) (queue : List ℕ) → to_begin head xs ≡ [] → IsQueue head xs k queue →
    turn_of head xs k ≡ first queue
unfolding turn_of
queue_turn head xs k queue n q =
    ap (λ z. if_empty z (earliest (λ c. last_event c xs) (own_walks head xs k))) n ∙ go queue q (own_walks head xs k) refl
  where
    place : ℕ → ℕ
    place c = last_event c xs

    -- nothing is among nothing
    empty : (ws : List ℕ) → ((c : ℕ) → among c [] ≡ among c ws) → earliest place ws ≡ None
    empty [] h = refl
    empty (w ∷ ws) h = absurd (true≢false (sym (is_among w (w ∷ ws) (once_in w ws)) ∙ sym (h w)))

    one : (c : ℕ) (cs ws : List ℕ) → RiseBy place (c ∷ cs) → ((d : ℕ) → among d (c ∷ cs) ≡ among d ws) → (v : Option ℕ) →
        earliest place ws ≡ v → v ≡ Some c
    one c cs [] r h v e =
        absurd (true≢false (sym (is_among c (c ∷ cs) (once_in c cs)) ∙ h c))
    one c cs (w ∷ ws) r h None e = absurd (not_none (earlier place w (earliest place ws)) e)
      where
        not_none : (f : ℕ) → Some f ≡ None → ⊥
        not_none f h = cc
    one c cs (w ∷ ws) r h (Some m) e =
        let i = occurs_among c (w ∷ ws) (sym (h c) ∙ is_among c (c ∷ cs) (once_in c cs)) in
        let l = least place (w ∷ ws) m c e i in
        let j = occurs_among m (c ∷ cs) (h m ∙ is_among m (w ∷ ws) (earliest_in place (w ∷ ws) m e)) in
        ap Some (at (eqb c m) refl j l)
      where
        at : (b : Bool) → eqb c m ≡ b → 0 < cond b 1 0 + occurs m cs → place m ≤ place c → m ≡ c
        at true q j l = sym (eqb-true c m q)
        at false q j l = let t = r.0 m (omega arith) in absurd (omega arith)

    go : (queue : List ℕ) → IsQueue head xs k queue → (ws : List ℕ) → own_walks head xs k ≡ ws →
        earliest place (own_walks head xs k) ≡ first queue
    go [] q ws e = empty (own_walks head xs k) q.same
    go (c ∷ cs) q ws e = one c cs (own_walks head xs k) q.rises q.same (earliest place (own_walks head xs k)) refl

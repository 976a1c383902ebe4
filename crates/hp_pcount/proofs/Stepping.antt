-- Any interleaving of a lawful journal's events with additions leaves counters at the sum of the accepted ones.
use Rattle.std.proofs.Common.{◌≡◌, ℕ, ◌<◌, Bool, true, false, cond, List, [], ◌∷◌, ◌++◌, All, append_assoc, refl, ap, sym, ◌∙◌, arith}
use Rattle.std.specs.Prelude.{ℤ, pos, ◌+ℤ◌}
use Rattle.std.proofs.lemmas.Int.{ints}
use Rattle.std.proofs.lemmas.Bool.{ltb-true, ltb-false}
use Rattle.std.proofs.lemmas.List.{append-nil, length-set, length-replicate}
use Rattle.std.proofs.lemmas.List.Elements.{All-nil, All-cons, All-head, All-tail}
use Rattle.hp_states.specs.declared.dir.Dir.{Dir}
use Rattle.hp_states.specs.declared.dir.Dir.TheVariants.{Up, Down}
use Rattle.hp_states.specs.declared.limits.TheConstants.{MAX_CPU_SET}
use Rattle.hp_event.specs.declared.head.Head.{Head}
use Rattle.hp_event.specs.declared.event.Event.{Event}
use Rattle.hp_event.specs.declared.event.Event.TheVariants.{Call}
use Rattle.hp_model.specs.InForce.{ups, downs}
use Rattle.hp_model.specs.Journal.{EachAfter}
use Rattle.hp_model.specs.Lawful.{Stands, IsLawful}
use Rattle.hp_model.proofs.HeadlineProof.{lawful_front, lawful_more}
use Rattle.hp_model.proofs.EntryProcessors.{call_below}
use Rattle.hp_pcount.specs.declared.law.Step.{Step}
use Rattle.hp_pcount.specs.declared.law.Step.TheVariants.{Follow, Add}
use Rattle.hp_pcount.specs.Tally.{Tally, is_open, none_added}
use Rattle.hp_pcount.specs.Changes.{folded, moved, is_followed, followed, raised, batched, is_full}
use Rattle.hp_pcount.specs.Places.{HasPart}
use Rattle.hp_pcount.specs.Stands.{StandsAt}
use Rattle.hp_pcount.specs.Steps.{after, events_of, is_in_force, accepted_after, HasPartOf, SumsAccepted}
use Rattle.hp_pcount.proofs.Tallies.{Wide, wide_raised}
use Rattle.hp_pcount.proofs.Standing.{stands_none, follows, rises_batched}

-- ---- every entry of a lawful journal has a part

part_of_event : (head : Head) (xs : List Event) (e : Event) → IsLawful head xs → Stands head xs e → HasPart e
part_of_event head xs (Call seat cpu state inst dir how) lawful s =
    let b = call_below head xs seat cpu state inst dir how lawful s.0 in
    let few = lawful.0.few_possible in
    omega arith
part_of_event head xs e lawful s = tt

parts_after : (head : Head) (before rest : List Event) → IsLawful head before → EachAfter (Stands head) before rest → All HasPart rest
parts_after head before [] lawful h = All-nil HasPart
parts_after head before (e ∷ es) lawful h =
    All-cons HasPart e es (part_of_event head before e lawful h.0)
    (parts_after head (before ++ e ∷ []) es (lawful_more head before e lawful h.0) h.1)

pub parts_lawful : (head : Head) (events : List Event) → IsLawful head events → All HasPart events
parts_lawful head events lawful = parts_after head [] events (lawful.0, tt) lawful.1

-- ---- what no step changes

wide_folded : (t : Tally) (c : ℕ) → Wide t → Wide (folded c t)
wide_folded t c w = record { parts_are = length-set t.parts c (pos 0) ∙ w.parts_are; opened_are = w.opened_are }

wide_moved : (t : Tally) (c : ℕ) (d : Dir) → Wide t → Wide (moved d c t)
wide_moved t c Up w = record { parts_are = w.parts_are; opened_are = length-set t.opened c true ∙ w.opened_are }
wide_moved t c Down w = record {
  parts_are = length-set t.parts c (pos 0) ∙ w.parts_are;
  opened_are = length-set t.opened c false ∙ w.opened_are;
}

pub wide_followed : (t : Tally) (e : Event) → Wide t → Wide (followed e t)
wide_followed t (Call seat c state inst dir how) w = go (is_followed t state inst how)
  where
    go : (g : Bool) → Wide (cond g (moved dir c t) t)
    go true = wide_moved t c dir w
    go false = w
wide_followed t e w = w

pub wide_batched : (t : Tally) (c : ℕ) (by : ℤ) → Wide t → Wide (batched c (raised c by t))
wide_batched t c by w = go (is_full (raised c by t) c)
  where
    go : (f : Bool) → Wide (cond f (folded c (raised c by t)) (raised c by t))
    go true = wide_folded (raised c by t) c (wide_raised t c by w)
    go false = wide_raised t c by w

pub wide_none : (s b : ℕ) → Wide (none_added s b)
unfolding none_added
wide_none s b =
    record { parts_are = length-replicate MAX_CPU_SET (pos 0); opened_are = length-replicate MAX_CPU_SET false }

pub state_followed : (t : Tally) (e : Event) → (followed e t).state ≡ t.state
state_followed t (Call seat c state inst dir how) = go (is_followed t state inst how) dir
  where
    go : (g : Bool) (d : Dir) → (cond g (moved d c t) t).state ≡ t.state
    go true Up = refl
    go true Down = refl
    go false d = refl
state_followed t e = refl

pub state_batched : (t : Tally) (c : ℕ) (by : ℤ) → (batched c (raised c by t)).state ≡ t.state
state_batched t c by = go (is_full (raised c by t) c)
  where
    go : (f : Bool) → (cond f (folded c (raised c by t)) (raised c by t)).state ≡ t.state
    go true = refl
    go false = refl

pub state_none : (s b : ℕ) → (none_added s b).state ≡ s
unfolding none_added
state_none s b = refl

-- ---- what is open is in force, as a test

pub open_is_force : (t : Tally) (xs : List Event) (sum : ℤ) (c : ℕ) → c < MAX_CPU_SET → StandsAt xs sum t →
    is_open t c ≡ is_in_force c t.state xs
open_is_force t xs sum c b st = go (is_open t c) refl (is_in_force c t.state xs) refl
  where
    go : (o : Bool) → is_open t c ≡ o → (f : Bool) → is_in_force c t.state xs ≡ f → o ≡ f
    go true e true g = refl
    go true e false g =
        let k = (st.opened_are c b).0 e in
        let l = ltb-false (downs c t.state 0 xs) (ups c t.state 0 xs) g in
        absurd (omega arith)
    go false e false g = refl
    go false e true g =
        let k = (st.opened_are c b).1 (ltb-true (downs c t.state 0 xs) (ups c t.state 0 xs) g) in
        cc

assoc : (a b z : ℤ) → (a +ℤ b) +ℤ z ≡ a +ℤ (b +ℤ z)
assoc a b z = omega (arith, ints)

nothing_first : (a z : ℤ) → a +ℤ z ≡ a +ℤ (pos 0 +ℤ z)
nothing_first a z = omega (arith, ints)

none_more : (a : ℤ) → a ≡ a +ℤ pos 0
none_more a = omega (arith, ints)

-- ---- the steps

pub steps_sum : (head : Head) (s : ℕ) (steps : List Step) (before : List Event) (sum : ℤ) (t : Tally) → t.state ≡ s → Wide t →
    StandsAt before sum t → IsLawful head (before ++ events_of steps) → All HasPartOf steps →
    StandsAt (before ++ events_of steps) (sum +ℤ accepted_after s before steps) (after steps t)
steps_sum head s [] before sum t e w st lawful parts = rw (append-nil, ← none_more sum) st
steps_sum head s (Follow event ∷ steps) before sum t e w st lawful parts =
    let l : IsLawful head ((before ++ event ∷ []) ++ events_of steps) = rw append_assoc lawful in
    let front = lawful_front head (before ++ event ∷ []) (events_of steps) l in
    let here = follows t event w (All-head HasPartOf (Follow event) steps parts) head before sum front st in
    rw (← append_assoc before (event ∷ []) (events_of steps))
    (steps_sum head s steps (before ++ event ∷ []) sum (followed event t) (state_followed t event ∙ e) (wide_followed t event w) here l
    (All-tail HasPartOf (Follow event) steps parts))
steps_sum head s (Add cpu by ∷ steps) before sum t e w st lawful parts =
    go
    (λ z u eu wu su. steps_sum head s steps before z u eu wu su lawful (All-tail HasPartOf (Add cpu by) steps parts))
    (is_open t cpu) refl (is_in_force cpu s before)
    (ap (λ z. is_in_force cpu z before) (sym e) ∙ sym (open_is_force t before sum cpu below st))
  where
    below : cpu < MAX_CPU_SET
    below = All-head HasPartOf (Add cpu by) steps parts

    go : ((z : ℤ) (u : Tally) → u.state ≡ s → Wide u → StandsAt before z u →
        StandsAt (before ++ events_of steps) (z +ℤ accepted_after s before steps) (after steps u)) →
        (o : Bool) → is_open t cpu ≡ o → (f : Bool) → f ≡ is_open t cpu →
        StandsAt (before ++ events_of steps) (sum +ℤ (cond f by (pos 0) +ℤ accepted_after s before steps))
        (after steps (cond o (batched cpu (raised cpu by t)) t))
    go more true i true g =
        rw (← assoc sum by (accepted_after s before steps))
        (more (sum +ℤ by) (batched cpu (raised cpu by t)) (state_batched t cpu by ∙ e) (wide_batched t cpu by w)
        (rises_batched t cpu by w below i before sum st))
    go more true i false g = cc
    go more false i true g = cc
    go more false i false g = rw (← nothing_first sum (accepted_after s before steps)) (more sum t e w st)

zero_first : (z : ℤ) → pos 0 +ℤ z ≡ z
zero_first z = omega (arith, ints)

pub sums_accepted : (head : Head) (s b : ℕ) (steps : List Step) → SumsAccepted head s b steps
sums_accepted head s b steps lawful parts =
    rw zero_first at
    (steps_sum head s steps [] (pos 0) (none_added s b) (state_none s b) (wide_none s b) (stands_none s b) lawful parts)

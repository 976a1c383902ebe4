-- What a journal says is registered, where no registration is in flight, as the table says it.
use Rattle.std.proofs.Common.{◌≡◌, ℕ, zero, suc, ◌+◌, ◌-◌, ◌<◌, ◌≤◌, Bool, true, false, not, ◌||◌, cond, eqb, is_some, is_none, Option, Some, None, List, [], ◌∷◌, length, sum_by, refl, sym, ap, ◌∙◌, ⊎_elim, arith}
use Rattle.std.specs.Prelude.{find}
use Rattle.std.proofs.lemmas.Bool.{cases_eq, eqb-true}
use Rattle.std.proofs.lemmas.List.Sums.{sum_by-cons}
use Rattle.hp_states.proofs.Basics.{less_apart}
use Rattle.hp_states.specs.declared.limits.TheConstants.{ONLINE, PREPARE_DYN, ONLINE_DYN}
use Rattle.hp_states.specs.declared.section.Range.{Range}
use Rattle.hp_states.specs.declared.section.Range.TheVariants.{Prepare, Online}
use Rattle.hp_states.specs.Sections.{name_of_builtin, is_dynamic, range_asked_by, end_of_range}
use Rattle.hp_event.specs.declared.head.Head.{Head}
use Rattle.hp_event.specs.declared.event.Event.{Event}
use Rattle.hp_model.specs.Lists.{numbers, rising, among}
use Rattle.hp_model.specs.Registrations.{registration}
use Rattle.hp_model.specs.Registered.{registered, is_named, instances, instance_count, keys}
use Rattle.hp_model.specs.Registered.{insts_of as insts_of_found}
use Rattle.hp_model.specs.Refusals.{is_multi_state}
use Rattle.hp_model.specs.Resolved.{lowest_free}
use Rattle.hp_model.proofs.ListLemmas.{from, numbers_from}
use Rattle.hp_event.proofs.Among.{among_any}
use Rattle.hp_table.specs.Step.{Step, step_at}
use Rattle.hp_table.specs.Keys.{insts_of, keys_by}
use Rattle.hp_table.specs.Named.{is_named as is_named_in}
use Rattle.hp_table.specs.Slots.{first_slot, last_slot, IsLowestFree, IsFull}
use Rattle.hp_table.specs.Instances.{instances_of, instances_in, is_among, instance_count as count_in, is_multi}
use Rattle.hp_account.specs.Table.{IsTableOf, registered_by}

-- with no registration in flight each place says what is registered
pub says : (head : Head) (es : List Event) (places : List (Option Step)) (s : ℕ) → registration es ≡ None → IsTableOf head es places →
    registered head s es ≡ registered_by (step_at places s)
says head es places s idle t = rw idle at (t.registered_is s)

there_alike : (place : Option Step) → is_some (registered_by place) ≡ is_some place
there_alike None = refl
there_alike (Some step) = refl

pub none_alike : (place : Option Step) → is_none (registered_by place) ≡ is_none place
none_alike None = refl
none_alike (Some step) = refl

pub insts_alike : (place : Option Step) → instances (registered_by place) ≡ instances_of place
insts_alike None = refl
insts_alike (Some step) = refl

pub multi_alike : (place : Option Step) → is_multi_state (registered_by place) ≡ is_multi place
multi_alike None = refl
multi_alike (Some step) = refl

pub named_alike : (head : Head) (es : List Event) (places : List (Option Step)) (s : ℕ) → registration es ≡ None →
    IsTableOf head es places → is_named head s es ≡ is_named_in places s
named_alike head es places s idle t =
    ap (λ b. is_some (name_of_builtin s) || b) (ap is_some (says head es places s idle t) ∙ there_alike (step_at places s))

keys_of_place : (place : Option Step) → insts_of_found (registered_by place) ≡ insts_of place
keys_of_place None = refl
keys_of_place (Some step) = refl

pub keys_alike : (head : Head) (es : List Event) (places : List (Option Step)) (s : ℕ) → registration es ≡ None →
    IsTableOf head es places → keys head es s ≡ keys_by places s
keys_alike head es places s idle t = rw (says head es places s idle t) (keys_of_place (step_at places s))

-- a sum over the places is one over their states
summed_along : (g : Option Step → ℕ) (f : ℕ → ℕ) (places : List (Option Step)) (a : ℕ) →
    ((i : ℕ) → g (step_at places i) ≡ f (a + i)) → sum_by g places ≡ sum_by f (from a (length places))
unfolding from
summed_along g f [] a each = refl
summed_along g f (p ∷ ps) a each =
    let e : a + 0 ≡ a = omega arith in
    let here : g p ≡ f a = each 0 ∙ ap f e in
    let rest = summed_along g f ps (suc a) (λ i. each (suc i) ∙ (let n : a + suc i ≡ suc a + i = omega arith in ap f n)) in
    let c = sum_by-cons g p ps in
    let d = sum_by-cons f a (from (suc a) (length ps)) in
    omega (arith, here, rest, c, d)

pub summed : (g : Option Step → ℕ) (f : ℕ → ℕ) (places : List (Option Step)) → length places ≡ ONLINE + 1 →
    ((s : ℕ) → g (step_at places s) ≡ f s) → sum_by f (numbers (ONLINE + 1)) ≡ sum_by g places
summed g f places states each =
    ap (sum_by f) (numbers_from (ONLINE + 1) ∙ ap (from 0) (sym states))
    ∙ sym (summed_along g f places 0 (λ i. let e : i ≡ 0 + i = omega arith in each i ∙ ap f e))

-- the table has as many instances as the journal says
pub count_alike : (head : Head) (es : List Event) (places : List (Option Step)) → registration es ≡ None → IsTableOf head es places →
    length places ≡ ONLINE + 1 → instance_count head es ≡ count_in places
unfolding instance_count
count_alike head es places idle t states =
    summed instances_in (λ s. length (instances (registered head s es))) places states
    (λ s. sym (ap (λ r. length (instances r)) (says head es places s idle t) ∙ ap length (insts_alike (step_at places s))))

pub among_alike : (inst : ℕ) (place : Option Step) → among inst (instances (registered_by place)) ≡ is_among inst (instances_of place)
among_alike inst None = refl
among_alike inst (Some step) = sym (among_any inst step.insts)

-- the first of a row that passes a test
find_first : (p : ℕ → Bool) (a n s : ℕ) → a ≤ s → s ≤ a + n → p s ≡ true → ((t : ℕ) → a ≤ t → t < s → p t ≡ false) →
    find p (a ∷ rising a n) ≡ Some s
find_first p a zero s from to here before =
    let same : a ≡ s = omega (arith, from, to) in
    let this : p a ≡ true = ap p same ∙ here in
    rw this (ap Some same)
find_first p a (suc n) s from to here before =
    ⊎_elim
    (λ (same : a ≡ s). let this : p a ≡ true = ap p same ∙ here in rw this (ap Some same))
    (λ (other : a ≡ s → ⊥).
    let above = less_apart a s from other in
    rw (before a (omega arith) above)
    (find_first p (suc a) n s (omega (arith, above)) (omega (arith, to)) here
    (λ t over under. before t (omega (arith, over)) under)))
    (cases_eq a s)

-- none of a row passes it
find_none : (p : ℕ → Bool) (a n : ℕ) → ((t : ℕ) → a ≤ t → t ≤ a + n → p t ≡ false) → find p (a ∷ rising a n) ≡ None
find_none p a zero none = rw (none a (omega arith) (omega arith)) refl
find_none p a (suc n) none =
    rw (none a (omega arith) (omega arith)) (find_none p (suc a) n (λ t from to. none t (omega arith) (omega arith)))

-- what is found of a row is in it
find_within : (p : ℕ → Bool) (a n s : ℕ) → find p (a ∷ rising a n) ≡ Some s → s ≤ a + n
find_within p a zero s h = go (p a) h
  where
    go : (b : Bool) → cond b (Some a) None ≡ Some s → s ≤ a + 0
    go true e = let same : a ≡ s = cc in omega (arith, same)
    go false e = absurd (cc)
find_within p a (suc n) s h = go (p a) h (find_within p (suc a) n s)
  where
    go : (b : Bool) → cond b (Some a) (find p (suc a ∷ rising (suc a) n)) ≡ Some s →
        (find p (suc a ∷ rising (suc a) n) ≡ Some s → s ≤ suc a + n) → s ≤ a + suc n
    go true e rest = let same : a ≡ s = cc in omega (arith, same)
    go false e rest = let k = rest e in omega (arith, k)

-- the row of a range
last_of : (range : Range) → first_slot range + (end_of_range (first_slot range) - first_slot range) ≡ last_slot range
last_of Prepare = refl
last_of Online = refl

some_range : (a b : Range) → Some a ≡ Some b → a ≡ b
some_range a b h = cc

-- a range is asked for by its first state
pub asks_first : (asked : ℕ) (range : Range) → range_asked_by asked ≡ Some range → (is_dynamic asked ≡ true) × (first_slot range ≡ asked)
asks_first asked range h = go (eqb asked PREPARE_DYN) (eqb asked ONLINE_DYN) refl refl h
  where
    go : (prepare online : Bool) → eqb asked PREPARE_DYN ≡ prepare → eqb asked ONLINE_DYN ≡ online →
        cond prepare (Some Prepare) (cond online (Some Online) None) ≡ Some range →
        (cond prepare true online ≡ true) × (first_slot range ≡ asked)
    go true online first other some =
        (refl, ap first_slot (sym (some_range Prepare range some)) ∙ sym (eqb-true asked PREPARE_DYN first))
    go false true first other some =
        (refl, ap first_slot (sym (some_range Online range some)) ∙ sym (eqb-true asked ONLINE_DYN other))
    go false false first other some = cc

-- the lowest slot without a name
pub lowest_alike : (head : Head) (es : List Event) (places : List (Option Step)) (range : Range) (asked s : ℕ) → registration es ≡ None →
    IsTableOf head es places → first_slot range ≡ asked → IsLowestFree places range s → lowest_free head asked es ≡ Some s
unfolding lowest_free
lowest_alike head es places range asked s idle t is free =
    let last = last_of range in
    rw (← is)
    (find_first (λ u. not (is_named head u es)) (first_slot range) (end_of_range (first_slot range) - first_slot range) s free.from
    (omega (arith, last, free.to)) (ap not (named_alike head es places s idle t ∙ free.free))
    (λ u from to. ap not (named_alike head es places u idle t ∙ free.lowest u from to)))

pub full_alike : (head : Head) (es : List Event) (places : List (Option Step)) (range : Range) (asked : ℕ) → registration es ≡ None →
    IsTableOf head es places → first_slot range ≡ asked → IsFull places range → lowest_free head asked es ≡ None
unfolding lowest_free
full_alike head es places range asked idle t is full =
    let last = last_of range in
    rw (← is)
    (find_none (λ u. not (is_named head u es)) (first_slot range) (end_of_range (first_slot range) - first_slot range)
    (λ u from to. ap not (named_alike head es places u idle t ∙ full u from (omega (arith, last, to)))))

-- a slot that is given out is below the highest state
pub slot_below : (head : Head) (es : List Event) (asked s : ℕ) → is_dynamic asked ≡ true → lowest_free head asked es ≡ Some s → s < ONLINE
unfolding lowest_free
slot_below head es asked s dynamic h =
    let w = find_within (λ u. not (is_named head u es)) asked (end_of_range asked - asked) s h in
    go (eqb asked PREPARE_DYN) (eqb asked ONLINE_DYN) refl refl dynamic w
  where
    go : (prepare online : Bool) → eqb asked PREPARE_DYN ≡ prepare → eqb asked ONLINE_DYN ≡ online → cond prepare true online ≡ true →
        s ≤ asked + (cond prepare 61 171 - asked) → s < ONLINE
    go true online e f d w = let a : asked ≡ 41 = eqb-true asked PREPARE_DYN e in omega (arith, a, w)
    go false true e f d w = let a : asked ≡ 141 = eqb-true asked ONLINE_DYN f in omega (arith, a, w)
    go false false e f d w = absurd (cc)

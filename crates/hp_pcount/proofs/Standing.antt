-- Counters stand for the journal that they followed: so it is at the start, and each event and each addition keeps it.
use Rattle.std.proofs.Common.{◌≡◌, ◌≢◌, ◌⊎◌, inl, inr, ℕ, zero, suc, ◌+◌, ◌-◌, ◌<◌, ◌≤◌, Bool, true, false, cond, eqb, ◌&&◌, List, [], ◌∷◌, ◌++◌, get_or, replicate, refl, ap, sym, ◌∙◌, arith}
use Rattle.std.specs.Prelude.{◌↔◌, ℤ, pos, ◌+ℤ◌, fold}
use Rattle.std.proofs.lemmas.Bool.{eq-eqb, ne_eqb}
use Rattle.hp_states.specs.declared.dir.Dir.{Dir}
use Rattle.hp_states.specs.declared.dir.Dir.TheVariants.{Up, Down}
use Rattle.hp_states.specs.declared.limits.TheConstants.{MAX_CPU_SET}
use Rattle.hp_states.specs.Rules.{same_dir}
use Rattle.hp_event.specs.declared.how.How.{How}
use Rattle.hp_event.specs.declared.event.Event.{Event}
use Rattle.hp_event.specs.declared.event.Event.TheVariants.{Call}
use Rattle.hp_model.specs.Entries.{is_done}
use Rattle.hp_model.specs.InForce.{is_done_entry, done_entries, ups, downs, IsInForce}
use Rattle.hp_model.specs.Headline.{Headline}
use Rattle.hp_model.proofs.Counts.{done_entries-none, done_entries_push}
use Rattle.hp_model.proofs.HeadlineProof.{headline_of_front}
use Rattle.hp_pcount.specs.Tally.{Tally, part, is_open, total, none_added}
use Rattle.hp_pcount.specs.Changes.{folded, moved, is_followed, followed, raised, batched, is_full}
use Rattle.hp_pcount.specs.Places.{HasPart}
use Rattle.hp_pcount.specs.Stands.{IsWithin, StandsAt, FollowsLawful, Rises}
use Rattle.hp_pcount.proofs.Sums.{size_within}
use Rattle.hp_pcount.proofs.Tallies.{Wide, at_place, none_there, total_folded, total_raised, raised_there, batched_there, not_full, wide_raised}

none_open : (n k : ℕ) → get_or (replicate n false) k false ≡ false
none_open zero k = refl
none_open (suc n) zero = refl
none_open (suc n) (suc k) = none_open n k

none_total : (n : ℕ) → fold ◌+ℤ◌ (pos 0) (replicate n (pos 0)) ≡ pos 0
none_total zero = refl
none_total (suc n) = none_total n

nothing_within : (n : ℕ) → IsWithin n (pos 0)
nothing_within n = size_within n (pos 0) (omega arith)

pub stands_none : (s b : ℕ) → StandsAt [] (pos 0) (none_added s b)
unfolding none_added
stands_none s b = record {
  opened_are = λ c _.
      let u = done_entries-none c s 0 Up in
      let d = done_entries-none c s 0 Down in
      let o = none_open MAX_CPU_SET c in
      (λ e. absurd (cc (o, e)), λ f. absurd (omega arith));
  closed = λ c e. none_there MAX_CPU_SET c;
  within = λ c. rw (none_there MAX_CPU_SET c) (nothing_within (b - 1));
  total_is = none_total MAX_CPU_SET;
}

-- how many done entries there are after one event more
counts : (c s : ℕ) (d : Dir) (xs : List Event) (e : Event) (b : Bool) → is_done_entry c s 0 d e ≡ b →
    done_entries c s 0 d (xs ++ e ∷ []) ≡ done_entries c s 0 d xs + cond b 1 0
counts c s d xs e b h = rw (← h) (done_entries_push c s 0 d xs e)

-- what is no done entry changes nothing that is in force
force_kept : (o : Bool) (c s : ℕ) (xs : List Event) (e : Event) → ((d : Dir) → is_done_entry c s 0 d e ≡ false) →
    (o ≡ true) ↔ IsInForce c s 0 xs → (o ≡ true) ↔ IsInForce c s 0 (xs ++ e ∷ [])
force_kept o c s xs e h f =
    let u = counts c s Up xs e false (h Up) in
    let d = counts c s Down xs e false (h Down) in
    (λ w. let k = f.0 w in omega arith, λ k. f.1 (omega arith))

stands_kept : (t : Tally) (xs : List Event) (e : Event) (sum : ℤ) → ((c : ℕ) (d : Dir) → is_done_entry c t.state 0 d e ≡ false) →
    StandsAt xs sum t → StandsAt (xs ++ e ∷ []) sum t
stands_kept t xs e sum h st = record {
  opened_are = λ c b. force_kept (is_open t c) c t.state xs e (h c) (st.opened_are c b);
  closed = st.closed;
  within = st.within;
  total_is = st.total_is;
}

module _ (t : Tally) (xs : List Event) (sum : ℤ) (seat c : ℕ) (state inst : ℕ) (how : How) (is : (eqb state t.state && eqb inst 0) && is_done how ≡ true)
    (wide : Wide t) (below : c < MAX_CPU_SET) (st : StandsAt xs sum t) (low : downs c t.state 0 xs ≤ ups c t.state 0 xs)
    (high : ups c t.state 0 xs ≤ downs c t.state 0 xs + 1) where
  counted_here : (d d' : Dir) (b : Bool) → same_dir d d' ≡ b → is_done_entry c t.state 0 d' (Call seat c state inst d how) ≡ b
  counted_here d d' b h = rw (is, h, eq-eqb c c refl) (yes b)
    where
      yes : (b : Bool) → ((true && b) && true) ≡ b
      yes true = refl
      yes false = refl

  elsewhere : (k : ℕ) (d d' : Dir) → k ≢ c → is_done_entry k t.state 0 d' (Call seat c state inst d how) ≡ false
  elsewhere k d d' h = rw (ne_eqb c k (λ e. h (sym e))) refl

  stands_up : StandsAt (xs ++ Call seat c state inst Up how ∷ []) sum (moved Up c t)
  stands_up = record {
    opened_are = λ k b. opened_k k b (there k);
    closed = λ k e. closed_k k e (there k);
    within = st.within;
    total_is = st.total_is;
  }
    where
      there : (k : ℕ) → ((k ≡ c) × (is_open (moved Up c t) k ≡ true)) ⊎ ((k ≢ c) × (is_open (moved Up c t) k ≡ is_open t k))
      there k = at_place t.opened c k true false (let l = wide.opened_are in omega arith)

      opened_k : (k : ℕ) → k < MAX_CPU_SET →
          ((k ≡ c) × (is_open (moved Up c t) k ≡ true)) ⊎ ((k ≢ c) × (is_open (moved Up c t) k ≡ is_open t k)) →
          (is_open (moved Up c t) k ≡ true) ↔ IsInForce k t.state 0 (xs ++ Call seat c state inst Up how ∷ [])
      opened_k k b (inl p) =
          let u = counts c t.state Up xs (Call seat c state inst Up how) true (counted_here Up Up true refl) in
          let d = counts c t.state Down xs (Call seat c state inst Up how) false (counted_here Up Down false refl) in
          (λ w. rw p.0 (omega arith), λ f. p.1)
      opened_k k b (inr p) =
          rw p.1
          (force_kept (is_open t k) k t.state xs (Call seat c state inst Up how) (λ d. elsewhere k Up d p.0) (st.opened_are k b))

      closed_k : (k : ℕ) → is_open (moved Up c t) k ≡ false →
          ((k ≡ c) × (is_open (moved Up c t) k ≡ true)) ⊎ ((k ≢ c) × (is_open (moved Up c t) k ≡ is_open t k)) → part t k ≡ pos 0
      closed_k k e (inl p) = let q = p.1 in cc
      closed_k k e (inr p) = st.closed k (sym p.1 ∙ e)

  stands_down : StandsAt (xs ++ Call seat c state inst Down how ∷ []) sum (moved Down c t)
  stands_down = record {
    opened_are = λ k b. opened_k k b (there k);
    closed = λ k e. closed_k k e (there k) (part_there k);
    within = λ k. within_k k (part_there k);
    total_is = total_folded t c wide.parts_are below ∙ st.total_is;
  }
    where
      there : (k : ℕ) → ((k ≡ c) × (is_open (moved Down c t) k ≡ false)) ⊎ ((k ≢ c) × (is_open (moved Down c t) k ≡ is_open t k))
      there k = at_place t.opened c k false false (let l = wide.opened_are in omega arith)

      part_there : (k : ℕ) → ((k ≡ c) × (part (folded c t) k ≡ pos 0)) ⊎ ((k ≢ c) × (part (folded c t) k ≡ part t k))
      part_there k = at_place t.parts c k (pos 0) (pos 0) (let l = wide.parts_are in omega arith)

      opened_k : (k : ℕ) → k < MAX_CPU_SET →
          ((k ≡ c) × (is_open (moved Down c t) k ≡ false)) ⊎ ((k ≢ c) × (is_open (moved Down c t) k ≡ is_open t k)) →
          (is_open (moved Down c t) k ≡ true) ↔ IsInForce k t.state 0 (xs ++ Call seat c state inst Down how ∷ [])
      opened_k k b (inl p) =
          let u = counts c t.state Up xs (Call seat c state inst Down how) false (counted_here Down Up false refl) in
          let d = counts c t.state Down xs (Call seat c state inst Down how) true (counted_here Down Down true refl) in
          (λ w. let q = p.1 in cc, λ f. let g = rw p.0 at f in absurd (omega arith))
      opened_k k b (inr p) =
          rw p.1
          (force_kept (is_open t k) k t.state xs (Call seat c state inst Down how) (λ d. elsewhere k Down d p.0) (st.opened_are k b))

      closed_k : (k : ℕ) → is_open (moved Down c t) k ≡ false →
          ((k ≡ c) × (is_open (moved Down c t) k ≡ false)) ⊎ ((k ≢ c) × (is_open (moved Down c t) k ≡ is_open t k)) →
          ((k ≡ c) × (part (folded c t) k ≡ pos 0)) ⊎ ((k ≢ c) × (part (folded c t) k ≡ part t k)) → part (folded c t) k ≡ pos 0
      closed_k k e p (inl q) = q.1
      closed_k k e (inl p) (inr q) = absurd (q.0 p.0)
      closed_k k e (inr p) (inr q) = q.1 ∙ st.closed k (sym p.1 ∙ e)

      within_k : (k : ℕ) → ((k ≡ c) × (part (folded c t) k ≡ pos 0)) ⊎ ((k ≢ c) × (part (folded c t) k ≡ part t k)) →
          IsWithin (t.batch - 1) (part (folded c t) k)
      within_k k (inl q) = rw q.1 (nothing_within (t.batch - 1))
      within_k k (inr q) = rw q.1 (st.within k)

and_false : (a b : Bool) → b ≡ false → a && b ≡ false
and_false true b h = h
and_false false b h = refl

-- an event that follows a lawful journal
pub follows : (t : Tally) (e : Event) → Wide t → HasPart e → FollowsLawful t e (followed e t)
follows t (Call seat c state inst dir how) wide below head xs sum lawful st =
    go ((eqb state t.state && eqb inst 0) && is_done how) refl dir refl
  where
    bounds : Headline head xs
    bounds = headline_of_front head xs _ lawful

    go : (g : Bool) → (eqb state t.state && eqb inst 0) && is_done how ≡ g → (d : Dir) → dir ≡ d →
        StandsAt (xs ++ Call seat c state inst d how ∷ []) sum (cond g (moved d c t) t)
    go true is Up e = let o = bounds.once c t.state 0 in stands_up t xs sum seat c state inst how is wide below st o.0 o.1
    go true is Down e = let o = bounds.once c t.state 0 in stands_down t xs sum seat c state inst how is wide below st o.0 o.1
    go false is d e =
        stands_kept t xs (Call seat c state inst d how) sum
        (λ k d'. and_false (eqb c k && same_dir d d') ((eqb state t.state && eqb inst 0) && is_done how) is) st
follows t e wide below head xs sum lawful st = stands_kept t xs e sum (λ c d. refl) st

-- an addition on an open processor
pub rises : (t : Tally) (c : ℕ) (by : ℤ) → Wide t → c < MAX_CPU_SET → is_open t c ≡ true → (f : Bool) → is_full (raised c by t) c ≡ f →
    Rises t by (cond f (folded c (raised c by t)) (raised c by t))
rises t c by wide below o true e xs sum st = record {
  opened_are = st.opened_are;
  closed = λ k s. closed_k k s (batched_there t c k by wide.parts_are below);
  within = λ k. within_k k (batched_there t c k by wide.parts_are below);
  total_is =
      total_folded (raised c by t) c ((wide_raised t c by wide).parts_are) below
      ∙ (total_raised t c by wide.parts_are below ∙ ap (λ z. z +ℤ by) st.total_is);
}
  where
    closed_k : (k : ℕ) → is_open t k ≡ false →
        ((k ≡ c) × (part (folded c (raised c by t)) k ≡ pos 0)) ⊎ ((k ≢ c) × (part (folded c (raised c by t)) k ≡ part t k)) →
        part (folded c (raised c by t)) k ≡ pos 0
    closed_k k s (inl p) = p.1
    closed_k k s (inr p) = p.1 ∙ st.closed k s

    within_k : (k : ℕ) →
        ((k ≡ c) × (part (folded c (raised c by t)) k ≡ pos 0)) ⊎ ((k ≢ c) × (part (folded c (raised c by t)) k ≡ part t k)) →
        IsWithin (t.batch - 1) (part (folded c (raised c by t)) k)
    within_k k (inl p) = rw p.1 (nothing_within (t.batch - 1))
    within_k k (inr p) = rw p.1 (st.within k)
rises t c by wide below o false e xs sum st = record {
  opened_are = st.opened_are;
  closed = λ k s. closed_k k s (raised_there t c k by wide.parts_are below);
  within = λ k. within_k k (raised_there t c k by wide.parts_are below);
  total_is = total_raised t c by wide.parts_are below ∙ ap (λ z. z +ℤ by) st.total_is;
}
  where
    closed_k : (k : ℕ) → is_open t k ≡ false →
        ((k ≡ c) × (part (raised c by t) k ≡ part t c +ℤ by)) ⊎ ((k ≢ c) × (part (raised c by t) k ≡ part t k)) →
        part (raised c by t) k ≡ pos 0
    closed_k k s (inl p) = let q = ap (is_open t) p.0 in cc
    closed_k k s (inr p) = p.1 ∙ st.closed k s

    within_k : (k : ℕ) →
        ((k ≡ c) × (part (raised c by t) k ≡ part t c +ℤ by)) ⊎ ((k ≢ c) × (part (raised c by t) k ≡ part t k)) →
        IsWithin (t.batch - 1) (part (raised c by t) k)
    within_k k (inl p) =
        let n = not_full (raised c by t) c e in
        rw p.0 (size_within (t.batch - 1) (part (raised c by t) c) (omega arith))
    within_k k (inr p) = rw p.1 (st.within k)

pub total_followed : (t : Tally) (e : Event) → Wide t → HasPart e → total (followed e t) ≡ total t
total_followed t (Call seat c state inst dir how) wide below = go (is_followed t state inst how) dir
  where
    go : (g : Bool) (d : Dir) → total (cond g (moved d c t) t) ≡ total t
    go true Up = refl
    go true Down = total_folded t c wide.parts_are below
    go false d = refl
total_followed t e wide below = refl

-- what the code does with an entry
pub entry_followed : (t u : Tally) (e : Event) (seat c state inst : ℕ) (dir : Dir) (how : How) → e ≡ Call seat c state inst dir how →
    (g : Bool) → g ≡ is_followed t state inst how → u ≡ cond g (moved dir c t) t → u ≡ followed e t
entry_followed t u e seat c state inst dir how is g h m = rw (is, ← h) m

pub other_followed : (t : Tally) (e : Event) →
    ((seat c state inst : ℕ) (dir : Dir) (how : How) → e ≡ Call seat c state inst dir how → ⊥) → t ≡ followed e t
other_followed t (Call seat c state inst dir how) h = absurd (h seat c state inst dir how refl)
other_followed t e h = refl

pub other_lawful : (t : Tally) (e : Event) →
    ((seat c state inst : ℕ) (dir : Dir) (how : How) → e ≡ Call seat c state inst dir how → ⊥) → FollowsLawful t e t
other_lawful t (Call seat c state inst dir how) h = absurd (h seat c state inst dir how refl)
other_lawful t e h = λ head xs sum lawful st. stands_kept t xs e sum (λ c d. refl) st

-- and so the total stays, and of a lawful journal
pub total_stays : (t u : Tally) (e : Event) → Wide t → HasPart e → u ≡ followed e t → total u ≡ total t
total_stays t u e wide below h = ap total h ∙ total_followed t e wide below

pub lawful_follows : (t u : Tally) (e : Event) → Wide t → HasPart e → u ≡ followed e t → FollowsLawful t e u
lawful_follows t u e wide below h = rw h (follows t e wide below)

pub rises_batched : (t : Tally) (c : ℕ) (by : ℤ) → Wide t → c < MAX_CPU_SET → is_open t c ≡ true → Rises t by (batched c (raised c by t))
rises_batched t c by w b o = rises t c by w b o (is_full (raised c by t) c) refl

-- Which processors are open is which the state is in force on: so it is at the start, and each event of a lawful journal keeps it.
use Rattle.std.proofs.Common.{◌≡◌, ◌≢◌, ◌⊎◌, inl, inr, ℕ, zero, suc, ◌+◌, ◌<◌, ◌≤◌, Bool, true, false, cond, eqb, ◌&&◌, List, [], ◌∷◌, ◌++◌, length, get_or, replicate, All, refl, ap, sym, ◌∙◌, arith}
use Rattle.std.specs.Prelude.{◌↔◌}
use Rattle.std.proofs.Math.ListN.{set}
use Rattle.std.proofs.lemmas.Bool.{cases_eq, eq-eqb, ne_eqb, false≢true}
use Rattle.std.proofs.lemmas.List.{get_or-set_same, get_or-set_other}
use Rattle.std.proofs.lemmas.List.Elements.{All-nil, All-cons}
use Rattle.hp_states.specs.declared.dir.Dir.{Dir}
use Rattle.hp_states.specs.declared.dir.Dir.TheVariants.{Up, Down}
use Rattle.hp_states.specs.declared.limits.TheConstants.{MAX_CPU_SET}
use Rattle.hp_states.specs.Rules.{same_dir}
use Rattle.hp_event.specs.declared.how.How.{How}
use Rattle.hp_event.specs.declared.head.Head.{Head}
use Rattle.hp_event.specs.declared.event.Event.{Event}
use Rattle.hp_event.specs.declared.event.Event.TheVariants.{Call}
use Rattle.hp_model.specs.Entries.{is_done}
use Rattle.hp_model.specs.InForce.{is_done_entry, done_entries, ups, downs, IsInForce}
use Rattle.hp_model.specs.Headline.{Headline}
use Rattle.hp_model.specs.Journal.{EachAfter}
use Rattle.hp_model.specs.Lawful.{Stands, IsLawful}
use Rattle.hp_model.proofs.Counts.{done_entries-none, done_entries_push}
use Rattle.hp_model.proofs.HeadlineProof.{headline_of_front, lawful_more}
use Rattle.hp_model.proofs.EntryProcessors.{call_below}
use Rattle.hp_work.specs.Work.{Work, is_open, none_put}
use Rattle.hp_work.specs.Changes.{moves, is_followed, followed}
use Rattle.hp_work.specs.Follows.{HasQueue, OpensBy, FollowsLawful}

none_open : (n k : ℕ) → get_or (replicate n false) k false ≡ false
none_open zero k = refl
none_open (suc n) zero = refl
none_open (suc n) (suc k) = none_open n k

pub opens_none : (s : ℕ) → OpensBy [] (none_put s)
unfolding none_put
opens_none s = λ c _.
    let u = done_entries-none c s 0 Up in
    let d = done_entries-none c s 0 Down in
    let o = none_open MAX_CPU_SET c in
    (λ e. absurd (cc (o, e)), λ f. absurd (omega arith))

-- how many done entries there are after one event more
counts : (c s : ℕ) (d : Dir) (xs : List Event) (e : Event) (b : Bool) → is_done_entry c s 0 d e ≡ b →
    done_entries c s 0 d (xs ++ e ∷ []) ≡ done_entries c s 0 d xs + cond b 1 0
counts c s d xs e b h = rw (← h) (done_entries_push c s 0 d xs e)

-- what is no done entry changes nothing that is in force
force_kept : (o : Bool) (c s : ℕ) (xs : List Event) (e : Event) → ((d : Dir) → is_done_entry c s 0 d e ≡ false) →
    (o ≡ true) ↔ IsInForce c s 0 xs → (o ≡ true) ↔ IsInForce c s 0 (xs ++ e ∷ [])
force_kept o c s xs e h f =
    let u = counts c s Up xs e false (h Up) in
    let d = counts c s Down xs e false (h Down) in
    (λ w. let k = f.0 w in omega arith, λ k. f.1 (omega arith))

opens_kept : (w : Work) (xs : List Event) (e : Event) → ((c : ℕ) (d : Dir) → is_done_entry c w.state 0 d e ≡ false) →
    OpensBy xs w → OpensBy (xs ++ e ∷ []) w
opens_kept w xs e h o = λ c b. force_kept (is_open w c) c w.state xs e (h c) (o c b)

module _ (w : Work) (xs : List Event) (seat c : ℕ) (state inst : ℕ) (how : How) (is : (eqb state w.state && eqb inst 0) && is_done how ≡ true)
    (wide : length w.opened ≡ MAX_CPU_SET) (below : c < MAX_CPU_SET) (st : OpensBy xs w) (low : downs c w.state 0 xs ≤ ups c w.state 0 xs)
    (high : ups c w.state 0 xs ≤ downs c w.state 0 xs + 1) where
  counted_here : (d d' : Dir) (b : Bool) → same_dir d d' ≡ b → is_done_entry c w.state 0 d' (Call seat c state inst d how) ≡ b
  counted_here d d' b h = rw (is, h, eq-eqb c c refl) (yes b)
    where
      yes : (b : Bool) → ((true && b) && true) ≡ b
      yes true = refl
      yes false = refl

  elsewhere : (k : ℕ) (d d' : Dir) → k ≢ c → is_done_entry k w.state 0 d' (Call seat c state inst d how) ≡ false
  elsewhere k d d' h = rw (ne_eqb c k (λ e. h (sym e))) refl

  others : (k : ℕ) (b : Bool) (d : Dir) → k < MAX_CPU_SET → k ≢ c →
      (get_or (set w.opened c b) k false ≡ true) ↔ IsInForce k w.state 0 (xs ++ Call seat c state inst d how ∷ [])
  others k b d l ne =
      rw (get_or-set_other w.opened c k b false ne)
      (force_kept (is_open w k) k w.state xs (Call seat c state inst d how) (λ d'. elsewhere k d d' ne) (st k l))

  opens_up : OpensBy (xs ++ Call seat c state inst Up how ∷ []) (moves Up c w)
  opens_up k l = go (cases_eq k c)
    where
      go : (k ≡ c) ⊎ (k ≢ c) →
          (is_open (moves Up c w) k ≡ true) ↔ IsInForce k w.state 0 (xs ++ Call seat c state inst Up how ∷ [])
      go (inl e) =
          let u = counts c w.state Up xs (Call seat c state inst Up how) true (counted_here Up Up true refl) in
          let d = counts c w.state Down xs (Call seat c state inst Up how) false (counted_here Up Down false refl) in
          let o : get_or (set w.opened c true) c false ≡ true = get_or-set_same w.opened c true false (omega (arith, wide, below)) in
          rw e (λ f. omega (arith, u, d, low), λ f. o)
      go (inr e) = others k true Up l e

  opens_down : OpensBy (xs ++ Call seat c state inst Down how ∷ []) (moves Down c w)
  opens_down k l = go (cases_eq k c)
    where
      go : (k ≡ c) ⊎ (k ≢ c) →
          (is_open (moves Down c w) k ≡ true) ↔ IsInForce k w.state 0 (xs ++ Call seat c state inst Down how ∷ [])
      go (inl e) =
          let u = counts c w.state Up xs (Call seat c state inst Down how) false (counted_here Down Up false refl) in
          let d = counts c w.state Down xs (Call seat c state inst Down how) true (counted_here Down Down true refl) in
          let o : get_or (set w.opened c false) c false ≡ false = get_or-set_same w.opened c false false (omega (arith, wide, below)) in
          rw e (λ f. absurd (false≢true (sym o ∙ f)), λ f. absurd (omega (arith, u, d, high, f)))
      go (inr e) = others k false Down l e

and_false : (a b : Bool) → b ≡ false → a && b ≡ false
and_false true b h = h
and_false false b h = refl

-- an event that follows a lawful journal
pub follows : (w : Work) (e : Event) → length w.opened ≡ MAX_CPU_SET → HasQueue e → FollowsLawful w e (followed e w)
follows w (Call seat c state inst dir how) wide below head xs lawful st =
    go ((eqb state w.state && eqb inst 0) && is_done how) refl dir refl
  where
    bounds : Headline head xs
    bounds = headline_of_front head xs _ lawful

    go : (g : Bool) → (eqb state w.state && eqb inst 0) && is_done how ≡ g → (d : Dir) → dir ≡ d →
        OpensBy (xs ++ Call seat c state inst d how ∷ []) (cond g (moves d c w) w)
    go true is Up e = let o = bounds.once c w.state 0 in opens_up w xs seat c state inst how is wide below st o.0 o.1
    go true is Down e = let o = bounds.once c w.state 0 in opens_down w xs seat c state inst how is wide below st o.0 o.1
    go false is d e =
        opens_kept w xs (Call seat c state inst d how)
        (λ k d'. and_false (eqb c k && same_dir d d') ((eqb state w.state && eqb inst 0) && is_done how) is) st
follows w e wide below head xs lawful st = opens_kept w xs e (λ c d. refl) st

pub unfollowed_lawful : (w : Work) (e : Event) (seat c state inst : ℕ) (d : Dir) (how : How) → e ≡ Call seat c state inst d how →
    is_followed w state inst how ≡ false → FollowsLawful w e w
unfollowed_lawful w e seat c state inst d how is h head xs lawful st =
    opens_kept w xs e
    (λ k d'. ap (is_done_entry k w.state 0 d') is ∙ and_false (eqb c k && same_dir d d') ((eqb state w.state && eqb inst 0) && is_done how) h) st

-- as the code has it
pub lawful_follows : (w v : Work) (e : Event) → length w.opened ≡ MAX_CPU_SET → HasQueue e → v ≡ followed e w → FollowsLawful w e v
lawful_follows w v e wide below h = rw h (follows w e wide below)

pub entry_followed : (w v : Work) (e : Event) (seat c state inst : ℕ) (d : Dir) (how : How) → e ≡ Call seat c state inst d how → (b : Bool) →
    b ≡ is_followed w state inst how → v ≡ cond b (moves d c w) w → v ≡ followed e w
entry_followed w v e seat c state inst d how is b h f = rw (is, ← h) f

pub other_followed : (w : Work) (e : Event) → ((seat c state inst : ℕ) (d : Dir) (how : How) → e ≡ Call seat c state inst d how → ⊥) → w ≡ followed e w
other_followed w (Call seat c state inst d how) h = absurd (h seat c state inst d how refl)
other_followed w e h = refl

pub other_lawful : (w : Work) (e : Event) → ((seat c state inst : ℕ) (d : Dir) (how : How) → e ≡ Call seat c state inst d how → ⊥) → FollowsLawful w e w
other_lawful w (Call seat c state inst d how) h = absurd (h seat c state inst d how refl)
other_lawful w e h = λ head xs lawful st. opens_kept w xs e (λ c d. refl) st

-- ---- every entry of a lawful journal has a queue

queue_of_event : (head : Head) (xs : List Event) (e : Event) → IsLawful head xs → Stands head xs e → HasQueue e
queue_of_event head xs (Call seat cpu state inst dir how) lawful s =
    let b = call_below head xs seat cpu state inst dir how lawful s.0 in
    let few = lawful.0.few_possible in
    omega arith
queue_of_event head xs e lawful s = tt

queues_after : (head : Head) (before rest : List Event) → IsLawful head before → EachAfter (Stands head) before rest → All HasQueue rest
queues_after head before [] lawful h = All-nil HasQueue
queues_after head before (e ∷ es) lawful h =
    All-cons HasQueue e es (queue_of_event head before e lawful h.0)
    (queues_after head (before ++ e ∷ []) es (lawful_more head before e lawful h.0) h.1)

pub queues_lawful : (head : Head) (events : List Event) → IsLawful head events → All HasQueue events
queues_lawful head events lawful = queues_after head [] events (lawful.0, tt) lawful.1

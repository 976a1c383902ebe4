-- What comes next in an upmany while it walks: a walk that begins, an event of the walk whose turn it is, or the entries of
-- threads alone.
use Rattle.std.proofs.Common.{◌≡◌, ℕ, Bool, true, false, not, Option, Some, None, List, [], ◌∷◌, refl, ap, sym, ◌∙◌, inl, inr, ◌⊎◌}
use Rattle.std.proofs.lemmas.Bool.{true≢false, and_parts}
use Rattle.hp_states.proofs.Basics.{none_some, same_some}
use Rattle.hp_states.specs.declared.limits.TheConstants.{ONLINE}
use Rattle.hp_event.specs.declared.head.Head.{Head}
use Rattle.hp_event.specs.declared.event.Event.{Event}
use Rattle.hp_event.specs.declared.event.Event.TheVariants.{WalkBegin, WalkEnd, Call}
use Rattle.hp_model.specs.Lists.{is_empty}
use Rattle.hp_model.specs.Events.{seat_of}
use Rattle.hp_model.specs.Walks.{Walk, walk}
use Rattle.hp_model.specs.MapLock.{is_map_op, Operation, operation}
use Rattle.hp_model.specs.Suspend.{held_by}
use Rattle.hp_model.specs.Settled.{settled}
use Rattle.hp_model.specs.Caller.{is_made_by_ap}
use Rattle.hp_model.specs.Batch.{begun, is_upmany, batch, unbegun, to_begin, is_batch_begun}
use Rattle.hp_model.specs.NextInWalk.{next_of_walk}
use Rattle.hp_model.specs.BatchTurn.{turn_of}
use Rattle.hp_model.specs.StandsOperations.{WalkBegins}
use Rattle.hp_model.specs.Room.{has_room}
use Rattle.hp_model.proofs.Kept.{Kept}
use Rattle.hp_model.proofs.Owners.{Owners}
use Rattle.hp_model.proofs.WaitLemmas.{later_walk}
use Rattle.hp_model.proofs.BatchLemmas.{upmany_begins, walking_begun}
use Rattle.hp_model.proofs.TurnLemmas.{is_turn, turn_own, some_turn}
use Rattle.hp_model.proofs.NextOfWalk.{EndsNext, EntryNext, walk_next}
use Rattle.hp_model.proofs.Errands.{Given}
use Rattle.hp_model.proofs.WalkGives.{gives_call, gives_whole, walk_given}

-- the next entry of a walk is its thread's
pub record ThreadNext (head : Head) (xs : List Event) (c : ℕ) (w : Walk) : Type 0 where
  pub next : EntryNext head xs c w
  pub by_thread : is_made_by_ap next.state next.how ≡ true

pub data BatchNext (head : Head) (xs : List Event) (o : Operation) : Type 0 where
  begins : (c : ℕ) → WalkBegins head xs o.seat c (settled c xs) ONLINE →
      has_room head xs (WalkBegin o.seat c (settled c xs) ONLINE) ≡ true → BatchNext head xs o
  makes : (w : Walk) (e : Event) → seat_of e ≡ o.seat → Given head xs w.seat is_map_op e → BatchNext head xs o
  threads : to_begin head xs ≡ [] → turn_of head xs o.seat ≡ None →
      ((c : ℕ) (w : Walk) → walk c xs ≡ Some w → ThreadNext head xs c w) → BatchNext head xs o

-- a later walk of an upmany takes no room
later_room : (head : Head) (xs : List Event) (k c from to : ℕ) → is_batch_begun xs ≡ true →
    has_room head xs (WalkBegin k c from to) ≡ true
later_room head xs k c from to h =
    let p = and_parts (held_by is_upmany (operation xs)) (not (is_empty (begun xs))) h in
    let u = p.0 in
    let n = not_empty (begun xs) p.1 in
    rw (u, n) refl
  where
    not_empty : (cs : List ℕ) → not (is_empty cs) ≡ true → is_empty cs ≡ false
    not_empty [] e = absurd (true≢false (sym e))
    not_empty (d ∷ ds) e = refl

-- where it is nobody's turn the next entry of each walk is its thread's
pub none_own : (head : Head) (xs : List Event) (o : Operation) (c : ℕ) (w : Walk) → Owners xs → Kept head xs → operation xs ≡ Some o →
    to_begin head xs ≡ [] → turn_of head xs o.seat ≡ None → walk c xs ≡ Some w → ThreadNext head xs c w
none_own head xs o c w own kept held left none at = go (walk_next head xs c w at (rw at at (kept.at c).kept))
  where
    seat : w.seat ≡ o.seat
    seat =
        let q = own.walk_op c w at in
        let one : q.0 ≡ o = same_some q.0 o (sym q.1 ∙ held) in
        sym q.2 ∙ ap (λ z. z.seat) one

    no_turn : (e : Event) → next_of_walk head xs c (walk c xs) ≡ Some e → seat_of e ≡ o.seat → ⊥
    no_turn e g s = let t = some_turn head xs o.seat c w e left at g s in none_some t.0 (sym none ∙ t.1)

    entry : (n : EntryNext head xs c w) (b : Bool) → is_made_by_ap n.state n.how ≡ b → ThreadNext head xs c w
    entry n true m = record { next = n; by_thread = m }
    entry n false m =
        absurd (no_turn (Call n.entry.of.seat c n.state n.inst n.dir n.how)
        (gives_call head xs n.entry.of.seat c n.state n.inst n.dir n.how n.entry (rw m refl)) (n.client_is ∙ seat))

    go : EndsNext head xs c w ⊎ EntryNext head xs c w → ThreadNext head xs c w
    go (inl e) = absurd (no_turn (WalkEnd w.seat c e.answer) (gives_whole head xs c w e.answer at e.whole) seat)
    go (inr n) = entry n (is_made_by_ap n.state n.how) refl

pub batch_next : (head : Head) (xs : List Event) (o : Operation) (c : ℕ) (w : Walk) → Owners xs → Kept head xs → operation xs ≡ Some o →
    is_upmany o.op ≡ true → walk c xs ≡ Some w → BatchNext head xs o
batch_next head xs o c w own kept held u at = left (unbegun (batch head o.before o.op) xs) refl
  where
    begun_one : is_batch_begun xs ≡ true
    begun_one = walking_begun xs o c w own held u at

    none_left : unbegun (batch head o.before o.op) xs ≡ [] → to_begin head xs ≡ []
    none_left e = rw held e

    turned : (v : Option ℕ) → turn_of head xs o.seat ≡ v → unbegun (batch head o.before o.op) xs ≡ [] → BatchNext head xs o
    turned None t e = threads (none_left e) t (λ d v q. none_own head xs o d v own kept held (none_left e) t q)
    turned (Some d) t e =
        let n = turn_own head xs o.seat d t in
        let by = n.by in
        let g = ap (λ z. next_of_walk head xs d z) (sym n.in_flight) ∙ n.gives in
        makes n.of n.event by (walk_given head xs d n.of n.event n.in_flight (rw by (is_turn head xs o.seat d t)) g)

    left : (cs : List ℕ) → unbegun (batch head o.before o.op) xs ≡ cs → BatchNext head xs o
    left [] e = turned (turn_of head xs o.seat) refl e
    left (d ∷ ds) e =
        begins d
        (record {
          of = o;
          held = held;
          seat_is = refl;
          between = rw u refl;
          gives = upmany_begins head xs o.before o.op d ds u e;
          from_is = refl;
          no_wait = later_walk xs begun_one;
        })
        (later_room head xs o.seat d (settled d xs) ONLINE begun_one)

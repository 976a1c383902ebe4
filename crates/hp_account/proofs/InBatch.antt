-- An upmany in flight, as the account keeps it; whose turn it is in it, and which of its processors is the lowest that walks.
use Rattle.std.proofs.Common.{◌≡◌, ℕ, zero, suc, ◌<◌, Bool, true, false, not, ltb, is_some, ◌↔◌, Option, Some, None, List, [], ◌∷◌, inl, inr, refl, ap, sym, subst, ◌∙◌, arith}
use Rattle.std.specs.Prelude.{find, slice_get}
use Rattle.std.specs.Option.{option_or}
use Rattle.std.proofs.lemmas.Bool.{true≢false, false≢true, ltb-true, ltb-false, and_parts}
use Rattle.std.proofs.lemmas.List.Folds.{find-append}
use Rattle.hp_model.proofs.EntryStays.{walk_kept}
use Rattle.hp_states.proofs.Basics.{none_some, same_some}
use Rattle.hp_states.specs.declared.cpu_set.CpuSet.{CpuSet}
use Rattle.hp_states.specs.CpuSets.{IsLowestFrom}
use Rattle.hp_event.specs.declared.op.Op.{Op}
use Rattle.hp_event.specs.declared.op.Op.TheVariants as op
use Rattle.hp_event.specs.declared.event.Role.TheVariants.{Ap}
use Rattle.hp_event.specs.declared.head.Head.{Head}
use Rattle.hp_event.specs.declared.event.Event.{Event}
use Rattle.hp_model.specs.Batch.{is_upmany, to_begin}
use Rattle.hp_model.specs.BatchQueue.{first}
use Rattle.hp_model.specs.BatchTurn.{earliest, last_event, own_walks, if_empty, turn_of, lowest_walking}
use Rattle.hp_model.specs.Lawful.{IsLawful}
use Rattle.hp_model.specs.Lists.{is_empty, among, numbers}
use Rattle.hp_model.specs.MapLock.{operation}
use Rattle.hp_model.specs.Registrations.{registration}
use Rattle.hp_model.specs.Seats.{ap_seat}
use Rattle.hp_model.specs.Suspend.{held_by}
use Rattle.hp_model.specs.Walks.{Walk, walk, walking, is_walking}
use Rattle.hp_model.proofs.InFlight.{walking_is}
use Rattle.hp_model.proofs.OneNext.{owners}
use Rattle.hp_model.proofs.SomeMoves.{some_of}
use Rattle.hp_model.proofs.TurnQueue.{queue_turn}
use Rattle.hp_model.proofs.WaitLemmas.{first_among}
use Rattle.hp_suspend.specs.declared.batch.Batch.{Batch as ABatch}
use Rattle.hp_suspend.specs.Batching.{IsBatching}
use Rattle.hp_suspend.specs.Turns.{Queue}
use Rattle.hp_account.specs.declared.flights.Flights.{Flights}
use Rattle.hp_account.specs.declared.operation.MapOperation.{MapOperation}
use Rattle.hp_account.specs.declared.operation.Walks.{Walks}
use Rattle.hp_account.specs.declared.operation.Walks.TheVariants.{Batch}
use Rattle.hp_account.specs.Batches.{batch_by, batch_of, IsKnown, IsUpmanyAt}
use Rattle.hp_account.specs.BatchTurns.{is_batch, IsTurns}
use Rattle.hp_account.specs.Flights.{IsFlights}
use Rattle.hp_account.specs.Operations.{AreWalks, IsHeldBy}
use Rattle.hp_account.specs.Places.{at_place}
use Rattle.hp_account.specs.Seats.{SeatsView, IsRoll}
use Rattle.hp_account.proofs.FlightFacts.{flown}
use Rattle.hp_account.proofs.PlaceLemmas.{at_place-within}

batch_op : (head : Head) (entered es : List Event) (asked : Op) (b : ABatch) → AreWalks head entered es asked (Batch b) →
    (set : CpuSet) × (asked ≡ op.UpMany set) × IsBatching head entered es set b
batch_op head entered es (op.UpMany set) b q = (set, refl, q)
batch_op head entered es asked b q = elim q [ ]

pub of_batch : (head : Head) (es : List Event) (h : Option MapOperation) (k : ℕ) (b : ABatch) → IsHeldBy head es h →
    batch_of h ≡ Some (k, b) → IsUpmanyAt head es k b
of_batch head es None k b i e = absurd (none_some (k, b) e)
of_batch head es (Some h) k b i e = go h.sequence i.sequence_is e
  where
    made : (c : ABatch) → AreWalks head i.of.before es i.of.op (Batch c) → ◌≡◌ {A = ℕ × ABatch} (h.seat, c) (k, b) → IsUpmanyAt head es k b
    made c q s =
        let r = batch_op head i.of.before es i.of.op c q in
        record {
          of = i.of;
          held = i.held;
          seat_is = sym i.seat_is ∙ ap (λ z. z.0) s;
          set = r.0;
          op_is = r.1;
          batching = subst (IsBatching head i.of.before es r.0) (ap (λ z. z.1) s) r.2;
        }

    go : (s : Walks) → AreWalks head i.of.before es i.of.op s → batch_by h.seat s ≡ Some (k, b) → IsUpmanyAt head es k b
    go (Batch c) q s = made c q (same_some (h.seat, c) (k, b) s)
    go s q n = absurd (none_some (k, b) n)

pub not_batch : (head : Head) (es : List Event) (h : Option MapOperation) → IsHeldBy head es h → batch_of h ≡ None →
    held_by is_upmany (operation es) ≡ false
not_batch head es None i e = rw i refl
not_batch head es (Some h) i e = ap (held_by is_upmany) i.held ∙ go i.of.op h.sequence i.sequence_is e
  where
    go : (asked : Op) (s : Walks) → AreWalks head i.of.before es asked s → batch_by h.seat s ≡ None → is_upmany asked ≡ false
    go (op.UpMany set) (Batch c) q n = absurd (none_some (h.seat, c) (sym n))
    go (op.UpMany set) s q n = elim q [ ]
    go asked s q n = refl

pub batch_is : (head : Head) (es : List Event) (h : Option MapOperation) → IsHeldBy head es h → is_batch h ≡ held_by is_upmany (operation es)
batch_is head es None i = rw i refl
batch_is head es (Some h) i = ap is_upmany i.op_is ∙ sym (ap (held_by is_upmany) i.held)

-- where something walks, one processor does
pub some_walking : (es : List Event) → is_walking es ≡ true → (c : ℕ) × (w : Walk) × (walk c es ≡ Some w)
some_walking es h = go (walking es) refl h
  where
    go : (cs : List ℕ) → walking es ≡ cs → not (is_empty cs) ≡ true → (c : ℕ) × (w : Walk) × (walk c es ≡ Some w)
    go [] e n = absurd (false≢true n)
    go (c ∷ cs) e n =
        let w = some_of (walk c es) (sym (walking_is c es) ∙ (ap (among c) e ∙ first_among c cs)) in (c, w.0, w.1)

pub walk_walking : (es : List Event) (c : ℕ) (w : Walk) → walk c es ≡ Some w → is_walking es ≡ true
walk_walking es c w at = go (walking es) refl (walking_is c es ∙ ap is_some at)
  where
    go : (cs : List ℕ) → walking es ≡ cs → among c (walking es) ≡ true → is_walking es ≡ true
    go [] e h = absurd (true≢false (sym h ∙ ap (among c) e))
    go (d ∷ ds) e h = rw e refl

-- where nothing is under way but what an upmany walks, no registration is in flight
pub known_idle : (head : Head) (es : List Event) → IsLawful head es → IsKnown head es → registration es ≡ None
known_idle head es lawful (inl n) = n.no_registration
known_idle head es lawful (inr b) =
    let w = some_walking es (and_parts (held_by is_upmany (operation es)) (is_walking es) b).1 in
    (walk_kept head es w.0 w.1 lawful w.2).no_registration

-- whose turn it is
pub none_left : (cs : List ℕ) → None ≡ slice_get cs 0 → cs ≡ []
none_left [] h = refl
none_left (c ∷ cs) h = absurd (none_some c h)

pub first_left : (cs : List ℕ) (c : ℕ) → Some c ≡ slice_get cs 0 → (ds : List ℕ) × (cs ≡ c ∷ ds)
first_left [] c h = absurd (none_some c (sym h))
first_left (d ∷ ds) c h = (ds, ap (λ z. z ∷ ds) (sym (same_some c d h)))

pub no_turn_yet : (head : Head) (es : List Event) (k c : ℕ) → Some c ≡ slice_get (to_begin head es) 0 → turn_of head es k ≡ None
unfolding turn_of
no_turn_yet head es k c h =
    let l = first_left (to_begin head es) c h in
    ap (λ z. if_empty z (earliest (λ d. last_event d es) (own_walks head es k))) l.1

pub turn_first : (head : Head) (es : List Event) (k : ℕ) (b : ABatch) (queue : Queue) → IsTurns head es queue → IsUpmanyAt head es k b →
    None ≡ slice_get (to_begin head es) 0 → turn_of head es k ≡ first queue.cpus
turn_first head es k b queue t up h =
    ap (turn_of head es) (sym up.seat_is)
    ∙ queue_turn head es up.of.seat queue.cpus (none_left (to_begin head es) h) (t.queue_is up.of up.held (ap is_upmany up.op_is))

-- the lowest that walks
find_no : (p : ℕ → Bool) (n : ℕ) → ((d : ℕ) → d < n → p d ≡ false) → find p (numbers n) ≡ None
find_no p zero h = refl
find_no p (suc n) h =
    let r = find_no p n (λ d below. h d (omega (arith, below))) in
    let last = h n (omega arith) in
    find-append p (numbers n) (n ∷ []) ∙ rw (r, last) refl

find_least : (p : ℕ → Bool) (n c : ℕ) → p c ≡ true → ((d : ℕ) → d < c → p d ≡ false) → c < n → find p (numbers n) ≡ Some c
find_least p zero c is none below = absurd (omega (arith, below))
find_least p (suc n) c is none below = find-append p (numbers n) (n ∷ []) ∙ go (ltb c n) refl (λ less. find_least p n c is none less)
  where
    go : (b : Bool) → ltb c n ≡ b → (c < n → find p (numbers n) ≡ Some c) →
        option_or (find p (numbers n)) (find p (n ∷ [])) ≡ Some c
    go true e more = let r = more (ltb-true c n e) in rw r refl
    go false e more =
        let f = ltb-false c n e in
        let same : n ≡ c = omega (arith, f, below) in
        let r = find_no p n (λ d less. none d (omega (arith, less, same))) in
        let last : p n ≡ true = ap p same ∙ is in
        rw (r, last) (ap Some same)

pub lowest_here : (head : Head) (es : List Event) (flights : Flights) (c : ℕ) → IsFlights head es flights →
    IsLowestFrom flights.walking 0 c → lowest_walking head es ≡ Some c
unfolding lowest_walking
lowest_here head es flights c t l =
    let f = flown head es flights c t l.is_in in
    let within = at_place-within flights.by_cpu.items c f.0 f.1 in
    let cpus = t.cpus in
    find_least (λ d. among d (walking es)) head.possible c (sym (t.walking_is c) ∙ l.is_in)
    (λ d below. sym (t.walking_is d) ∙ l.none_below d (omega arith) below) (omega (arith, within, cpus))

-- whose thread a seat is
same_cpu : (c d : ℕ) → Some (Ap c) ≡ Some (Ap d) → c ≡ d
same_cpu c d h = cc

pub thread_here : (head : Head) (es : List Event) (roll : SeatsView) (k d : ℕ) → IsLawful head es → IsRoll head es roll →
    at_place roll.roles k ≡ Some (Ap d) → (c : ℕ) → (ap_seat c es ≡ Some k) ↔ (Some d ≡ Some c)
thread_here head es roll k d lawful r at c = (
  λ a. ap Some (same_cpu d c (sym at ∙ (sym (r.roles_are k) ∙ (owners head es lawful).ap_role c k a))),
  λ e. r.threads_are c ∙ r.sits k c (at ∙ ap (λ z. Some (Ap z)) (same_some d c e)),
)

pub no_thread_here : (head : Head) (es : List Event) (roll : SeatsView) (k : ℕ) → IsLawful head es → IsRoll head es roll →
    ((c : ℕ) → at_place roll.roles k ≡ Some (Ap c) → ⊥) → (c : ℕ) → (ap_seat c es ≡ Some k) ↔ (None ≡ Some c)
no_thread_here head es roll k lawful r none c = (
  λ a. absurd (none c (sym (r.roles_are k) ∙ (owners head es lawful).ap_role c k a)),
  λ e. absurd (none_some c e),
)

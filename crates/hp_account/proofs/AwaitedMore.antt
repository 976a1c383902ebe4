-- The processors of an upmany whose threads are awaited, after one event more that stands.
use Rattle.std.proofs.Common.{◌≡◌, ℕ, Bool, true, false, not, ◌&&◌, ◌||◌, cond, eqb, ltb, is_some, Option, Some, None, List, [], ◌∷◌, ◌++◌, refl, ap, sym, ◌∙◌, arith}
use Rattle.std.proofs.lemmas.Bool.{eqb-true}
use Rattle.hp_states.proofs.Basics.{unequal_turned, none_some}
use Rattle.hp_states.specs.CpuSets.{has}
use Rattle.hp_states.specs.declared.cpu_set.CpuSet.{CpuSet}
use Rattle.hp_event.specs.declared.how.How.{How}
use Rattle.hp_event.specs.declared.head.Head.{Head}
use Rattle.hp_event.specs.declared.event.Event.{Event}
use Rattle.hp_event.specs.declared.event.Event.TheVariants.{Enter, WalkBegin, Call, WalkEnd, OpEnd}
use Rattle.hp_model.specs.Batch.{is_upmany}
use Rattle.hp_model.specs.BatchQueue.{from_front, at_end}
use Rattle.hp_model.specs.Lawful.{Stands, IsLawful}
use Rattle.hp_model.specs.Lists.{among, occurs}
use Rattle.hp_model.specs.MapLock.{operation}
use Rattle.hp_model.specs.Suspend.{held_by}
use Rattle.hp_model.specs.Walks.{Walk, walk, walking}
use Rattle.hp_model.proofs.HeadlineProof.{lawful_more}
use Rattle.hp_model.proofs.InFlight.{empty_of, walking_is}
use Rattle.hp_model.proofs.Laws.{operation_push}
use Rattle.hp_model.proofs.OneNext.{owners}
use Rattle.hp_model.proofs.Owners.{map_free, over_at_rest}
use Rattle.hp_model.proofs.PromisedParts.{begun_others}
use Rattle.hp_model.proofs.QueueMoves.{own_among}
use Rattle.hp_suspend.specs.Turns.{Queue}
use Rattle.hp_table.specs.Step.{Step}
use Rattle.hp_walk.specs.Keys.{keys_by}
use Rattle.hp_account.specs.declared.flights.Flight.{Flight}
use Rattle.hp_account.specs.declared.flights.Flights.{Flights}
use Rattle.hp_account.specs.declared.operation.MapOperation.{MapOperation}
use Rattle.hp_account.specs.Appending.{WalksChanged, WalkWentOnIf}
use Rattle.hp_account.specs.BatchTurns.{IsTurns, AreAwaited, asks_own, asks_thread, is_batch, TurnTaken, Awaits, Awaited}
use Rattle.hp_account.specs.Flights.{IsFlights}
use Rattle.hp_account.specs.Operations.{IsHeldBy}
use Rattle.hp_account.specs.Places.{at_place}
use Rattle.hp_account.specs.Table.{IsTableOf}
use Rattle.hp_account.proofs.FlightFacts.{flight_at, no_flight_at}
use Rattle.hp_account.proofs.TurnsMore.{own_is, upmany_of}
use Rattle.hp_account.proofs.InBatch.{batch_is}

-- what is of no processor that walks
none_and : (b w x : Bool) → w ≡ false → (b && (w && x)) ≡ false
none_and true w x h = ap (λ z. z && x) h
none_and false w x h = refl

-- of the others the queue has the same
occurs_front : (c d : ℕ) (queue : List ℕ) → eqb c d ≡ false → occurs d (from_front c queue) ≡ occurs d queue
occurs_front c d [] other = refl
occurs_front c d (x ∷ xs) other = go (eqb x c) refl
  where
    go : (b : Bool) → eqb x c ≡ b → occurs d (cond b xs (x ∷ xs)) ≡ occurs d (x ∷ xs)
    go false e = refl
    go true e = let same : eqb x d ≡ false = ap (λ z. eqb z d) (eqb-true x c e) ∙ other in rw same (omega arith)

among_end : (own : Bool) (c d : ℕ) (queue : List ℕ) → eqb c d ≡ false → among d (at_end own c queue) ≡ among d queue
among_end true c d queue other = begun_others c d queue other
among_end false c d queue other = refl

among_moved : (own : Bool) (c d : ℕ) (queue : List ℕ) → eqb c d ≡ false → among d (at_end own c (from_front c queue)) ≡ among d queue
among_moved own c d queue other = among_end own c d (from_front c queue) other ∙ ap (ltb 0) (occurs_front c d queue other)

-- a processor walks exactly where its walk is kept
flying : (head : Head) (xs : List Event) (f : Flights) (c : ℕ) → IsFlights head xs f → has f.walking c ≡ is_some (at_place f.by_cpu.items c)
flying head xs f c t = t.walking_is c ∙ (walking_is c xs ∙ go (at_place f.by_cpu.items c) refl)
  where
    go : (v : Option Flight) → at_place f.by_cpu.items c ≡ v → is_some (walk c xs) ≡ is_some v
    go None e = ap is_some (no_flight_at head xs f c t e)
    go (Some g) e = ap is_some (flight_at head xs f c g t e).in_flight

-- nothing walks where no operation is
none_flies : (head : Head) (es : List Event) (f : Flights) (c : ℕ) → IsLawful head es → IsFlights head es f → operation es ≡ None →
    has f.walking c ≡ false
none_flies head es f c lawful t free = t.walking_is c ∙ (walking_is c es ∙ go (walk c es) refl)
  where
    go : (v : Option Walk) → walk c es ≡ v → is_some v ≡ false
    go None at = refl
    go (Some w) at = let p = (owners head es lawful).walk_op c w at in absurd (none_some p.0 (sym free ∙ p.1))

went_on : (keys : ℕ → List ℕ) (v : Option Flight) (c d : ℕ) (how : How) (f new : Flights) → WalkWentOnIf v keys c how f new →
    has new.walking d ≡ has f.walking d
went_on keys None c d how f new h = ap (λ (x : Flights). has x.walking d) h
went_on keys (Some g) c d how f new h = ap (λ z. has z d) h.walking_is

-- an event that leaves the operation
stays : (head : Head) (es : List Event) (places : List (Option Step)) (held newly : Option MapOperation) (e : Event) (room freed : ℕ)
    (f new : Flights) (queue after : Queue) (set now : CpuSet) → IsLawful head es → Stands head es e → IsTableOf head (es ++ e ∷ []) places →
    IsHeldBy head es held → IsHeldBy head (es ++ e ∷ []) newly → IsFlights head (es ++ e ∷ []) new → IsTurns head (es ++ e ∷ []) after →
    WalksChanged (keys_by places) room freed e f new → TurnTaken (keys_by places) (is_batch held) e new queue after →
    Awaited (keys_by places) (is_batch held) e new set now → operation (es ++ e ∷ []) ≡ operation es →
    AreAwaited (is_batch held) f queue set → AreAwaited (is_batch newly) new after now
stays head es places held newly e room freed f new queue after set now lawful stands table by newly_by t turns flew turned awaited same is =
    λ d. go (is_batch held) refl turned awaited is d ∙ ap (λ b. b && (has new.walking d && not (among d after.cpus))) (sym batches)
  where
    K : ℕ → List ℕ
    K = keys_by places

    ys : List Event
    ys = es ++ e ∷ []

    batches : is_batch newly ≡ is_batch held
    batches =
        batch_is head ys newly newly_by ∙ (ap (held_by is_upmany) same ∙ sym (batch_is head es held by))

    -- the processor of the event
    here : (c : ℕ) → is_batch held ≡ true → asks_thread K (at_place new.by_cpu.items c) ≡ (has new.walking c && not (among c after.cpus))
    here c u =
        let o = upmany_of (operation es) (sym (batch_is head es held by) ∙ u) in
        let there : operation ys ≡ Some o.0 = same ∙ o.1 in
        let own = own_is head ys places new o.0 c (lawful_more head es e lawful stands) t table there in
        let queued = (turns.queue_is o.0 there o.2).same c ∙ own_among head ys o.0.seat c in
        ap (λ z. is_some (at_place new.by_cpu.items c) && not z) (own ∙ sym queued)
        ∙ ap (λ z. z && not (among c after.cpus)) (sym (flying head ys new c t))

    walked : (c : ℕ) → is_batch held ≡ true → ((d : ℕ) → eqb d c ≡ false → has new.walking d ≡ has f.walking d) → (own : Bool) →
        after.cpus ≡ at_end own c (from_front c queue.cpus) → Awaits K c new set now → AreAwaited true f queue set →
        AreAwaited true new after now
    walked c u still own moved a was d = a d ∙ pick (eqb d c) refl
      where
        X : Bool
        X = asks_thread K (at_place new.by_cpu.items c)

        pick : (b : Bool) → eqb d c ≡ b → cond b X (has set d) ≡ (has new.walking d && not (among d after.cpus))
        pick true e = here c u ∙ ap (λ z. has new.walking z && not (among z after.cpus)) (sym (eqb-true d c e))
        pick false e =
            was d
            ∙ (ap (λ z. z && not (among d queue.cpus)) (sym (still d e))
            ∙ ap (λ z. has new.walking d && not z) (sym (ap (among d) moved ∙ among_moved own c d queue.cpus (unequal_turned d c e))))

    moves : (x : Event) → is_batch held ≡ true → WalksChanged K room freed x f new → TurnTaken K true x new queue after →
        Awaited K true x new set now → AreAwaited true f queue set → AreAwaited true new after now
    moves (WalkBegin seat c from to) u fl tu aw was =
        walked c u (λ d other. fl.0.walking_is d ∙ ap (λ b. b || has f.walking d) other) (asks_own K (at_place new.by_cpu.items c)) tu.cpus_are aw was
    moves (Call seat c state inst dir how) u fl tu aw was =
        walked c u (λ d other. went_on K (at_place f.by_cpu.items c) c d how f new fl.0) (asks_own K (at_place new.by_cpu.items c)) tu.cpus_are aw was
    moves (WalkEnd seat c answer) u fl tu aw was =
        walked c u (λ d other. fl.walking_is d ∙ ap (λ b. not b && has f.walking d) other) (asks_own K (at_place new.by_cpu.items c)) tu.cpus_are aw was
    moves x u fl tu aw was = λ d.
        ap (λ z. has z d) aw
        ∙ (was d
        ∙ (ap (λ (z : Flights). has z.walking d && not (among d queue.cpus)) (sym fl.0)
        ∙ ap (λ (z : Queue). has new.walking d && not (among d z.cpus)) (sym tu)))

    go : (b : Bool) → is_batch held ≡ b → TurnTaken K b e new queue after → Awaited K b e new set now → AreAwaited b f queue set →
        AreAwaited b new after now
    go false u tu aw was = λ d. ap (λ z. has z d) aw ∙ was d
    go true u tu aw was = moves e u flew tu aw was

pub awaited_more : (head : Head) (es : List Event) (places : List (Option Step)) (held newly : Option MapOperation) (e : Event) (room freed : ℕ)
    (f new : Flights) (queue after : Queue) (set now : CpuSet) → IsLawful head es → Stands head es e → IsTableOf head (es ++ e ∷ []) places →
    IsHeldBy head es held → IsHeldBy head (es ++ e ∷ []) newly → IsFlights head es f → IsFlights head (es ++ e ∷ []) new →
    IsTurns head (es ++ e ∷ []) after → WalksChanged (keys_by places) room freed e f new → TurnTaken (keys_by places) (is_batch held) e new queue after →
    Awaited (keys_by places) (is_batch held) e new set now → AreAwaited (is_batch held) f queue set →
    AreAwaited (is_batch newly) new after now
awaited_more head es places held newly (Enter seat op) room freed f new queue after set now lawful stands table by newly_by t u turns flew
    turned awaited is =
    λ d.
    ap (λ z. has z d) (same (is_batch held) awaited)
    ∙ (is d
    ∙ (none_and (is_batch held) (has f.walking d) (not (among d queue.cpus)) (rests d)
    ∙ sym (none_and (is_batch newly) (has new.walking d) (not (among d after.cpus)) (ap (λ (z : Flights). has z.walking d) flew.0 ∙ rests d))))
  where
    free : operation es ≡ None
    free = map_free es op stands.0.takes_map stands.0.passes.not_waiting

    rests : (d : ℕ) → has f.walking d ≡ false
    rests d = none_flies head es f d lawful t free

    same : (b : Bool) → Awaited (keys_by places) b (Enter seat op) new set now → now ≡ set
    same true h = h
    same false h = h
awaited_more head es places held newly (OpEnd seat answer) room freed f new queue after set now lawful stands table by newly_by t u turns
    flew turned awaited is =
    λ d.
    ap (λ z. has z d) (same (is_batch held) awaited)
    ∙ (is d
    ∙ (none_and (is_batch held) (has f.walking d) (not (among d queue.cpus)) (rests d)
    ∙ sym (none_and (is_batch newly) (has new.walking d) (not (among d after.cpus)) (ap (λ (z : Flights). has z.walking d) flew.0 ∙ rests d))))
  where
    rests : (d : ℕ) → has f.walking d ≡ false
    rests d =
        t.walking_is d ∙ ap (among d) (empty_of (walking es) (over_at_rest head es seat answer (owners head es lawful) stands.0))

    same : (b : Bool) → Awaited (keys_by places) b (OpEnd seat answer) new set now → now ≡ set
    same true h = h
    same false h = h
awaited_more head es places held newly e room freed f new queue after set now lawful stands table by newly_by t u turns flew turned awaited is =
    stays head es places held newly e room freed f new queue after set now lawful stands table by newly_by u turns flew turned awaited
    (operation_push es e) is

-- an event that leaves the walks, the queue and the set
pub awaited_stay : (held newly : Option MapOperation) (f new : Flights) (queue after : Queue) (set now : CpuSet) → newly ≡ held → new ≡ f → after ≡ queue →
    now ≡ set → AreAwaited (is_batch held) f queue set → AreAwaited (is_batch newly) new after now
awaited_stay held newly f new queue after set now h n a s is = λ d.
    ap (λ z. has z d) s
    ∙ (is d
    ∙ (ap (λ (z : Option MapOperation). is_batch z && (has f.walking d && not (among d queue.cpus))) (sym h)
    ∙ (ap (λ (z : Flights). is_batch newly && (has z.walking d && not (among d queue.cpus))) (sym n)
    ∙ ap (λ (z : Queue). is_batch newly && (has new.walking d && not (among d z.cpus))) (sym a))))

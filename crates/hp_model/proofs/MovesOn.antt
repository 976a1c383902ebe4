-- While an operation of a script isn't answered, some seat's turn makes an event or answers an operation.
use Rattle.std.proofs.Common.{◌≡◌, ℕ, zero, suc, ◌+◌, ◌-◌, ◌<◌, ◌≤◌, Bool, true, false, cond, ◌&&◌, eqb, ltb, is_none, Option, Some, None, List, [], ◌∷◌, ◌++◌, length, get_or, take_all, refl, ap, sym, ◌∙◌, subst, inl, inr, ◌⊎◌, arith}
use Rattle.std.specs.Prelude.{Contains, slice_get, slice_index_or}
use Rattle.std.proofs.lemmas.Bool.{true≢false, eqb-true, lt-ltb, le-ltb, ltb-true, ltb-false}
use Rattle.std.proofs.lemmas.Bool.Decides.{nat_tests}
use Rattle.std.proofs.lemmas.Option.{slice_get-get_or}
use Rattle.hp_states.proofs.Basics.{none_some}
use Rattle.hp_event.specs.declared.op.Op.{Op}
use Rattle.hp_event.specs.declared.event.Role.TheVariants.{Client}
use Rattle.hp_event.specs.declared.head.Head.{Head}
use Rattle.hp_event.specs.declared.event.Event.{Event}
use Rattle.hp_model.specs.Lists.{is_empty}
use Rattle.hp_model.specs.Events.{seat_of}
use Rattle.hp_model.specs.Processors.{present}
use Rattle.hp_model.specs.Readers.{is_reading}
use Rattle.hp_model.specs.Seats.{role_of}
use Rattle.hp_model.specs.Pending.{Pending, IsInFlight, IsAllowed}
use Rattle.hp_model.specs.Moves.{ArePending, CanMove}
use Rattle.hp_model.specs.Tasks.{entries, operation, task_of, IsFor, first_unanswered}
use Rattle.hp_model.specs.Scripts.{IsScript, is_locked}
use Rattle.hp_model.specs.ScriptTurns.{RunState, unanswered}
use Rattle.hp_model.specs.ScriptRun.{answered_below, is_over}
use Rattle.hp_model.specs.TurnMakes.{task, CanTake, LacksRoom}
use Rattle.hp_model.proofs.Owners.{Owners}
use Rattle.hp_model.proofs.OneNext.{owners}
use Rattle.hp_model.proofs.SomeMoves.{some_moves}
use Rattle.hp_model.proofs.Members.{Has, has_right}
use Rattle.hp_model.proofs.AnswerCounts.{done_ops}
use Rattle.hp_model.proofs.Going.{Going, IsGoing, asks_allowed}

-- the first operation of each actor that isn't answered
abbrev one_pending : (seat : ℕ) → Option Op → List Pending
one_pending k None = []
one_pending k (Some op) = record { seat = k; op = op } ∷ []

abbrev pendings : Head → (actors : List (List Op)) → (answers : List ℕ) → (actor : ℕ) → List Pending
pendings head actors ns zero = []
pendings head actors ns (suc n) =
    one_pending (length (present head) + n) (unanswered actors ns n) ++ pendings head actors ns n

has_pending : (head : Head) (actors : List (List Op)) (ns : List ℕ) (n i : ℕ) (op : Op) → i < n → unanswered actors ns i ≡ Some op →
    Has (pendings head actors ns n) (record { seat = length (present head) + i; op = op })
has_pending head actors ns zero i op h u = absurd (omega arith)
has_pending head actors ns (suc n) i op h u = go (eqb i n) refl (λ l. has_pending head actors ns n i op l u)
  where
    P : ℕ
    P = length (present head)

    go : (b : Bool) → eqb i n ≡ b → (i < n → Has (pendings head actors ns n) (record { seat = P + i; op = op })) →
        Has (one_pending (P + n) (unanswered actors ns n) ++ pendings head actors ns n) (record { seat = P + i; op = op })
    go true e r =
        let same : i ≡ n = eqb-true i n e in
        let at : unanswered actors ns n ≡ Some op = subst (λ z. unanswered actors ns z ≡ Some op) same u in
        subst (λ z. Has (one_pending (P + n) z ++ pendings head actors ns n) (record { seat = P + i; op = op })) (sym at)
        (inl (ap (λ z. record { seat = P + z; op = op }) (sym same)))
    go false e r =
        has_right (one_pending (P + n) (unanswered actors ns n)) (pendings head actors ns n) (record { seat = P + i; op = op })
        (r (grind (arith, nat_tests)))

record IsOfActor (head : Head) (actors : List (List Op)) (ns : List ℕ) (n : ℕ) (p : Pending) : Type 0 where
  actor : ℕ
  below : actor < n
  seat_is : p.seat ≡ length (present head) + actor
  op_is : unanswered actors ns actor ≡ Some p.op

of_pending : (head : Head) (actors : List (List Op)) (ns : List ℕ) (n : ℕ) (p : Pending) → Has (pendings head actors ns n) p →
    IsOfActor head actors ns n p
of_pending head actors ns zero p h = elim h [ ]
of_pending head actors ns (suc n) p h = go (unanswered actors ns n) refl h (of_pending head actors ns n p)
  where
    P : ℕ
    P = length (present head)

    later : IsOfActor head actors ns n p → IsOfActor head actors ns (suc n) p
    later r = record { actor = r.actor; below = let l = r.below in omega (arith, l); seat_is = r.seat_is; op_is = r.op_is }

    here : (op : Op) → unanswered actors ns n ≡ Some op → (record { seat = P + n; op = op } ≡ p) ⊎ Has (pendings head actors ns n) p →
        (Has (pendings head actors ns n) p → IsOfActor head actors ns n p) → IsOfActor head actors ns (suc n) p
    here op u (inl e) r =
        record { actor = n; below = omega arith; seat_is = ap (λ z. z.seat) (sym e); op_is = u ∙ ap (λ z. Some z.op) e }
    here op u (inr h) r = later (r h)

    go : (o : Option Op) → unanswered actors ns n ≡ o → Has (one_pending (P + n) o ++ pendings head actors ns n) p →
        (Has (pendings head actors ns n) p → IsOfActor head actors ns n p) → IsOfActor head actors ns (suc n) p
    go None u h r = later (r h)
    go (Some op) u h r = here op u h r

-- one of them isn't answered where the run isn't over
some_unanswered : (actors : List (List Op)) (ns : List ℕ) (n : ℕ) → answered_below actors ns n ≡ false →
    (i : ℕ) × (op : Op) × (i < n) × (unanswered actors ns i ≡ Some op)
some_unanswered actors ns zero h = absurd (true≢false h)
some_unanswered actors ns (suc n) h = go (unanswered actors ns n) refl (answered_below actors ns n) refl h (some_unanswered actors ns n)
  where
    go : (o : Option Op) → unanswered actors ns n ≡ o → (b : Bool) → answered_below actors ns n ≡ b → (b && is_none o) ≡ false →
        (answered_below actors ns n ≡ false → (i : ℕ) × (op : Op) × (i < n) × (unanswered actors ns i ≡ Some op)) →
        (i : ℕ) × (op : Op) × (i < suc n) × (unanswered actors ns i ≡ Some op)
    go (Some op) u b f q r = (n, op, omega arith, u)
    go None u true f q r = absurd (true≢false q)
    go None u false f q r = let t = r f in (t.0, t.1, omega (arith, t.2), t.3)

-- and that is so of an actor that reads
reader_asks : (head : Head) (actors : List (List Op)) (xs : List Event) (ns : List ℕ) (i : ℕ) → IsScript head actors →
    Going head actors xs ns → i < length actors → is_reading (length (present head) + i) xs ≡ true →
    (op : Op) × (unanswered actors ns i ≡ Some op)
reader_asks head actors xs ns i s g within r = go (unanswered actors ns i) refl
  where
    ops : List Op
    ops = get_or actors i []

    m : ℕ
    m = get_or ns i 0

    all_done : unanswered actors ns i ≡ None → length ops ≤ m
    all_done u =
        let a : slice_get actors i ≡ Some ops = slice_get-get_or actors i [] within in
        let b : slice_get ops m ≡ None = sym (ap (λ z. first_unanswered z m) a) ∙ u in
        not_below (ltb m (length ops)) refl b
      where
        not_below : (b : Bool) → ltb m (length ops) ≡ b → slice_get ops m ≡ None → length ops ≤ m
        not_below true f b =
            absurd (none_some (get_or ops m Op.Lock) (sym b ∙ slice_get-get_or ops m Op.Lock (ltb-true m (length ops) f)))
        not_below false f b = ltb-false m (length ops) f

    go : (o : Option Op) → unanswered actors ns i ≡ o → (op : Op) × (unanswered actors ns i ≡ Some op)
    go (Some op) u = (op, u)
    go None u =
        let l = all_done u in
        let all : done_ops actors ns i ≡ ops = take_all m ops l in
        let locked : is_locked ops ≡ true = sym (ap is_locked all) ∙ g.reads i r in
        absurd (true≢false (sym locked ∙ s.end_unlocked i [] within))

-- lists by place
contains_of : (ps : List Pending) (p : Pending) → Has ps p → Contains ps p
contains_of [] p h = elim h [ ]
contains_of (q ∷ ps) p (inl e) = (0, omega arith, e)
contains_of (q ∷ ps) p (inr h) = let c = contains_of ps p h in (suc c.0, omega (arith, c.1), c.2)

has_at : (ps : List Pending) (i : ℕ) (d : Pending) → i < length ps → Has ps (slice_index_or ps i d)
has_at [] i d h = absurd (omega arith)
has_at (q ∷ ps) zero d h = inl refl
has_at (q ∷ ps) (suc i) d h = inr (has_at ps i d (omega (arith, h)))

of_contains : (ps : List Pending) (p : Pending) → Contains ps p → Has ps p
of_contains ps p c = subst (λ z. Has ps z) c.2 (has_at ps c.0 p c.1)

not_empty : (ps : List Pending) (p : Pending) → Has ps p → is_empty ps ≡ false
not_empty [] p h = elim h [ ]
not_empty (q ∷ ps) p h = refl

are_pending : (head : Head) (actors : List (List Op)) (at : RunState) → IsScript head actors → IsGoing head actors at →
    is_over actors at ≡ false → ArePending head at.events (pendings head actors at.answers (length actors))
are_pending head actors at s g over = record {
  some =
      let u = some_unanswered actors ns A over in
      not_empty ps (record { seat = P + u.0; op = u.1 }) (has_pending head actors ns A u.0 u.1 u.2 u.3);
  allowed = λ i d h. allowed (slice_index_or ps i d) (of_pending head actors ns A (slice_index_or ps i d) (has_at ps i d h));
  in_flight = λ p f. in_flight p f (g.roster.only p.seat (client p f));
  readers = λ k r.
      let a = g.readers k r in
      let u = reader_asks head actors at.events ns a.0 s g a.1 (subst (λ z. is_reading z at.events ≡ true) a.2 r) in (
        u.0,
        subst (λ z. Contains ps (record { seat = z; op = u.0 })) (sym a.2)
            (contains_of ps (record { seat = P + a.0; op = u.0 }) (has_pending head actors ns A a.0 u.0 a.1 u.1)),
      );
  threads = g.roster.threads;
}
  where
    P : ℕ
    P = length (present head)

    A : ℕ
    A = length actors

    ns : List ℕ
    ns = at.answers

    ps : List Pending
    ps = pendings head actors ns A

    o : Owners at.events
    o = owners head at.events g.lawful

    allowed : (p : Pending) → IsOfActor head actors ns A p → IsAllowed head at.events p
    allowed p h = asks_allowed head actors at.events ns p.seat h.actor p.op s g h.seat_is h.op_is

    client : (p : Pending) → IsInFlight at.events p → role_of p.seat at.events ≡ Some Client
    client p (inl f) = subst (λ z. role_of z at.events ≡ Some Client) f.2 (o.op_client f.0 f.1)
    client p (inr f) = subst (λ z. role_of z at.events ≡ Some Client) f.2 (o.reg_client f.0 f.1)

    in_flight : (p : Pending) → IsInFlight at.events p → (i : ℕ) × (i < A) × (p.seat ≡ P + i) → Contains ps p
    in_flight p f a =
        let u = g.asked a.0 p.op (subst (λ z. IsInFlight at.events (record { seat = z; op = p.op })) a.2 f) in
        contains_of ps p
        (subst (λ z. Has ps (record { seat = z; op = p.op })) (sym a.2) (has_pending head actors ns A a.0 p.op a.1 u))

-- a seat whose turn does something
pub record Moves (head : Head) (actors : List (List Op)) (at : RunState) : Type 0 where
  pub seat : ℕ
  pub is_seat : seat < length (present head) + length actors
  pub does : ((e : Event) × CanTake head actors at seat e) ⊎ LacksRoom head at seat (task head actors at seat)

pub moves : (head : Head) (actors : List (List Op)) (at : RunState) → IsScript head actors → IsGoing head actors at →
    is_over actors at ≡ false → Moves head actors at
moves head actors at s g over =
    go (some_moves head at.events ps g.lawful (are_pending head actors at s g over))
  where
    P : ℕ
    P = length (present head)

    ps : List Pending
    ps = pendings head actors at.answers (length actors)

    own_task : (p : Pending) → IsOfActor head actors at.answers (length actors) p → task head actors at p.seat ≡ operation p.op
    own_task p a =
        let above : ltb p.seat P ≡ false = let q = a.seat_is in le-ltb p.seat P (omega (arith, q)) in
        let i : p.seat - P ≡ a.actor = let q = a.seat_is in omega (arith, q) in
        ap (λ z. cond z entries (task_of (unanswered actors at.answers (p.seat - P)))) above
        ∙ ap task_of (ap (λ z. unanswered actors at.answers z) i ∙ a.op_is)

    go : CanMove head at.events ps → Moves head actors at
    go (inl (e, h, inl (p, c, by, b))) =
        let a = of_pending head actors at.answers (length actors) p (of_contains ps p c) in
        record {
          seat = p.seat;
          is_seat = let q = a.seat_is in let l = a.below in omega (arith, q, l);
          does = inl (e, record { stands = h; by = by; is_for = subst (λ z. IsFor z e) (sym (own_task p a)) b });
        }
    go (inl (e, h, inr (cpu, t, c))) =
        let below : seat_of e < P = g.roster.below cpu (seat_of e) t in
        let named : task head actors at (seat_of e) ≡ entries =
        ap (λ z. cond z entries (task_of (unanswered actors at.answers (seat_of e - P)))) (lt-ltb (seat_of e) P below) in
        record {
          seat = seat_of e;
          is_seat = omega (arith, below);
          does = inl (e, record { stands = h; by = refl; is_for = subst (λ z. IsFor z e) (sym named) c });
        }
    go (inr (p, c, f)) =
        let a = of_pending head actors at.answers (length actors) p (of_contains ps p c) in
        record {
          seat = p.seat;
          is_seat = let q = a.seat_is in let l = a.below in omega (arith, q, l);
          does = inr (subst (λ z. LacksRoom head at p.seat z) (sym (own_task p a)) f);
        }

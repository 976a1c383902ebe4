-- What a seat may ask for after a turn: its own, that goes on, and every other's.
use Rattle.std.proofs.Common.{◌≡◌, ◌≢◌, ℕ, Option, Some, None, List, [], ◌∷◌, ◌++◌, inl, inr, refl, sym, ap, ◌∙◌, subst}
use Rattle.std.proofs.lemmas.Bool.{ne_eqb}
use Rattle.hp_states.proofs.Basics.{none_some, same_some}
use Rattle.hp_event.specs.declared.answer.Answer.{Answer}
use Rattle.hp_event.specs.declared.op.Op.{Op}
use Rattle.hp_event.specs.declared.head.Head.{Head}
use Rattle.hp_event.specs.declared.event.Event.{Event}
use Rattle.hp_event.specs.declared.event.Event.TheVariants.{Admit, Leave, Enter, OpEnd, RegBegin, RegEnd}
use Rattle.hp_model.specs.Events.{seat_of, BelongsTo}
use Rattle.hp_model.specs.Lawful.{IsLawful, Stands}
use Rattle.hp_model.specs.MapLock.{Operation, operation, operation_step}
use Rattle.hp_model.specs.NextEvent.{next_event}
use Rattle.hp_model.specs.Pending.{Pending, IsInFlight, IsAllowed}
use Rattle.hp_model.specs.Registrations.{Registration, registration, registration_step}
use Rattle.hp_model.specs.Seats.{role_of, role_step}
use Rattle.hp_model.proofs.DueGives.{due_stands}
use Rattle.hp_model.proofs.Laws.{operation_push, registration_push, role_push}
use Rattle.hp_model.proofs.NextStands.{next_stands, next_belongs}
use Rattle.hp_locks.specs.declared.why.Why.TheVariants.{HookOut, Idle}
use Rattle.hp_board.specs.declared.turn.Turn.{Turn}
use Rattle.hp_board.specs.declared.turn.Turn.TheVariants.{Made, Answered, NotYet}
use Rattle.hp_board.specs.Contents.{Contents, with_event}
use Rattle.hp_board.specs.Again.{StaysFor}
use Rattle.hp_board.specs.Turns.{IsTurn, IsServed, Makes}
use Rattle.hp_board.proofs.Busy.{others_keep}

-- the operation in flight after an event of another seat
op_before : (xs : List Event) (e : Event) (k : ℕ) (o : Operation) → seat_of e ≢ k → operation_step (operation xs) xs e ≡ Some o →
    o.seat ≡ k → operation xs ≡ Some o
op_before xs (Enter seat op) k o other is by =
    absurd (other (ap (λ (p : Operation). p.seat) (same_some (record { seat = seat; op = op; before = xs }) o is) ∙ by))
op_before xs (OpEnd seat answer) k o other is by = absurd (none_some o is)
op_before xs e k o other is by = is

registration_before : (xs : List Event) (e : Event) (k : ℕ) (r : Registration) → seat_of e ≢ k →
    registration_step (registration xs) xs e ≡ Some r → r.seat ≡ k → registration xs ≡ Some r
registration_before xs (RegBegin seat state op) k r other is by =
    absurd (other (ap (λ (p : Registration). p.seat) (same_some (record { seat = seat; state = state; op = op; before = xs }) r is) ∙ by))
registration_before xs (RegEnd seat answer) k r other is by = absurd (none_some r is)
registration_before xs e k r other is by = is

-- of another seat the same is in flight as before
flew : (xs : List Event) (e : Event) (p : Pending) → seat_of e ≢ p.seat → IsInFlight (xs ++ e ∷ []) p → IsInFlight xs p
flew xs e p other (inl f) = inl (f.0, op_before xs e p.seat f.0 other (sym (operation_push xs e) ∙ f.1) f.2, f.2, f.3)
flew xs e p other (inr f) = inr (f.0, registration_before xs e p.seat f.0 other (sym (registration_push xs e) ∙ f.1) f.2, f.2, f.3)

role_kept : (xs : List Event) (e : Event) (k : ℕ) → seat_of e ≢ k → role_step k (role_of k xs) xs e ≡ role_of k xs
role_kept xs (Admit seat role) k other = let apart = ne_eqb seat k other in rw apart refl
role_kept xs (Leave seat) k other = let apart = ne_eqb seat k other in rw apart refl
role_kept xs e k other = refl

pub allowed_after : (head : Head) (xs : List Event) (e : Event) (p : Pending) → seat_of e ≢ p.seat → IsAllowed head xs p →
    IsAllowed head (xs ++ e ∷ []) p
allowed_after head xs e p other a =
    record {
      client = role_push p.seat xs e ∙ role_kept xs e p.seat other ∙ a.client;
      same = λ op flies. a.same op (flew xs e (record { seat = p.seat; op = op }) other flies);
      has_sub = a.has_sub;
    }

-- the operation that the seat has in flight after an event of its own that belongs to its operation is that one
own_op : (xs : List Event) (e : Event) (p : Pending) (o : Operation) → BelongsTo p.op e →
    ((op : Op) → IsInFlight xs (record { seat = p.seat; op = op }) → op ≡ p.op) →
    operation_step (operation xs) xs e ≡ Some o → o.seat ≡ p.seat → o.op ≡ p.op
own_op xs (Enter seat op) p o of before is by =
    ap (λ (x : Operation). x.op) (sym (same_some (record { seat = seat; op = op; before = xs }) o is)) ∙ of
own_op xs (OpEnd seat answer) p o of before is by = absurd (none_some o is)
own_op xs e p o of before is by = before o.op (inl (o, is, by, refl))

own_registration : (xs : List Event) (e : Event) (p : Pending) (r : Registration) → BelongsTo p.op e →
    ((op : Op) → IsInFlight xs (record { seat = p.seat; op = op }) → op ≡ p.op) →
    registration_step (registration xs) xs e ≡ Some r → r.seat ≡ p.seat → r.op ≡ p.op
own_registration xs (RegBegin seat state op) p r of before is by =
    ap (λ (x : Registration). x.op) (sym (same_some (record { seat = seat; state = state; op = op; before = xs }) r is)) ∙ of
own_registration xs (RegEnd seat answer) p r of before is by = absurd (none_some r is)
own_registration xs e p r of before is by = before r.op (inr (r, is, by, refl))

own_role : (op : Op) (xs : List Event) (e : Event) (k : ℕ) → BelongsTo op e → role_step k (role_of k xs) xs e ≡ role_of k xs
own_role op xs (Admit seat role) k of = absurd of
own_role op xs (Leave seat) k of = absurd of
own_role op xs e k of = refl

pub own_after : (head : Head) (xs : List Event) (e : Event) (p : Pending) → BelongsTo p.op e → IsAllowed head xs p →
    IsAllowed head (xs ++ e ∷ []) p
own_after head xs e p of a =
    record {
      client = role_push p.seat xs e ∙ own_role p.op xs e p.seat of ∙ a.client;
      same = λ op flies. flies_on op flies;
      has_sub = a.has_sub;
    }
  where
    flies_on : (op : Op) → IsInFlight (xs ++ e ∷ []) (record { seat = p.seat; op = op }) → op ≡ p.op
    flies_on op (inl f) = sym f.3 ∙ own_op xs e p f.0 of a.same (sym (operation_push xs e) ∙ f.1) f.2
    flies_on op (inr f) = sym f.3 ∙ own_registration xs e p f.0 of a.same (sym (registration_push xs e) ∙ f.1) f.2

-- after a turn of its own
makes_own : (next : Option Event) (at : ℕ) (answer : Option Answer) (old new : Contents) (p : Pending) → IsLawful old.head old.events →
    IsAllowed old.head old.events p → next ≡ next_event old.head old.events p.seat p.op → Makes next at answer old new →
    IsAllowed new.head new.events p
makes_own next at answer old new p lawful a is m =
    subst (λ (b : Contents). IsAllowed b.head b.events p) (sym m.new_is)
    (own_after old.head old.events m.event p (next_belongs old.head old.events p m.event lawful a (sym is ∙ m.next_is)) a)

kept_own : (old new : Contents) (p : Pending) → IsAllowed old.head old.events p → new ≡ old → IsAllowed new.head new.events p
kept_own old new p a same = subst (λ (b : Contents). IsAllowed b.head b.events p) (sym same) a

pub allowed_again : (old new : Contents) (p : Pending) (turn : Turn) → IsLawful old.head old.events → IsAllowed old.head old.events p →
    IsTurn p.seat p.op old new turn → IsAllowed new.head new.events p
allowed_again old new p (Made at) lawful a t = makes_own _ at None old new p lawful a refl t
allowed_again old new p (Answered (Some at) answer) lawful a t = makes_own _ at (Some answer) old new p lawful a refl t
allowed_again old new p (Answered None answer) lawful a t = kept_own old new p a t.same
allowed_again old new p (NotYet why) lawful a t = kept_own old new p a t.1

stays_by : (old : Contents) (e : Event) (k by : ℕ) → Stands old.head old.events e × (seat_of e ≡ by) → by ≢ k →
    StaysFor old (with_event old e) k
stays_by old e k by s other =
    let apart : seat_of e ≢ k = λ is. other (sym s.1 ∙ is) in
    record {
      busy = others_keep old.head old.events e k s.0 apart;
      allowed = λ op a. allowed_after old.head old.events e (record { seat = k; op = op }) apart a;
    }

stays_same : (old new : Contents) (k : ℕ) → new ≡ old → StaysFor old new k
stays_same old new k same = subst (λ (b : Contents). StaysFor old b k) (sym same) (record { busy = refl; allowed = λ op a. a })

makes_other : (old new : Contents) (k by at : ℕ) (op : Op) (answer : Option Answer) →
    Makes (next_event old.head old.events by op) at answer old new → by ≢ k → StaysFor old new k
makes_other old new k by at op answer m other =
    subst (λ (b : Contents). StaysFor old b k) (sym m.new_is)
    (stays_by old m.event k by (next_stands old.head old.events by op m.event m.next_is) other)

pub turn_keeps : (old new : Contents) (k by : ℕ) (op : Op) (turn : Turn) → IsTurn by op old new turn → by ≢ k → StaysFor old new k
turn_keeps old new k by op (Made at) t other = makes_other old new k by at op None t other
turn_keeps old new k by op (Answered (Some at) answer) t other = makes_other old new k by at op (Some answer) t other
turn_keeps old new k by op (Answered None answer) t other = stays_same old new k t.same
turn_keeps old new k by op (NotYet why) t other = stays_same old new k t.1

pub serve_keeps : (old new : Contents) (k by : ℕ) (turn : Turn) → IsServed by old new turn → by ≢ k → StaysFor old new k
serve_keeps old new k by (Made at) t other =
    let s = due_stands old.head old.events by t.event t.next_is in
    subst (λ (b : Contents). StaysFor old b k) (sym t.new_is) (stays_by old t.event k by (s.0, s.2) other)
serve_keeps old new k by (NotYet (HookOut s)) t other = stays_same old new k t.1
serve_keeps old new k by (NotYet Idle) t other = stays_same old new k t.1
serve_keeps old new k by turn t other = absurd t

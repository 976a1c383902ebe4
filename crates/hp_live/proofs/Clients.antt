-- A client stays in a read section, or out of one, through the turns of an operation that isn't an unlock, or a lock.
use Rattle.std.proofs.Common.{◌≡◌, ◌≢◌, ℕ, Bool, true, false, cond, eqb, is_some, Option, Some, None, List, [], ◌∷◌, ◌++◌, refl, sym, ap, ◌∙◌, subst}
use Rattle.std.proofs.lemmas.Bool.{eqb-true}
use Rattle.hp_event.specs.declared.answer.Answer.{Answer}
use Rattle.hp_event.specs.declared.op.Op.{Op}
use Rattle.hp_event.specs.declared.op.Op.TheVariants.{Lock, Unlock}
use Rattle.hp_event.specs.declared.event.Role.TheVariants.{Client}
use Rattle.hp_event.specs.declared.head.Head.{Head}
use Rattle.hp_event.specs.declared.event.Event.{Event}
use Rattle.hp_event.specs.declared.event.Event.TheVariants.{Admit, Leave, ReadLock, ReadUnlock}
use Rattle.hp_model.specs.Events.{BelongsTo}
use Rattle.hp_model.specs.Front.{StandsFor}
use Rattle.hp_model.specs.Lawful.{IsLawful, Stands}
use Rattle.hp_model.specs.NextEvent.{next_event}
use Rattle.hp_model.specs.Readers.{reading_since, reading_since_step, is_reading}
use Rattle.hp_model.specs.RefusalsAtOnce.{first_that_holds, if_so}
use Rattle.hp_states.specs.declared.limits.TheConstants.{EDEADLK}
use Rattle.hp_model.specs.Seats.{role_of, role_step}
use Rattle.hp_model.proofs.Laws.{role_push, reading_since_push}
use Rattle.hp_model.proofs.NextStands.{next_belongs, next_stands}
use Rattle.hp_model.proofs.Passing.{passed}
use Rattle.hp_board.specs.declared.turn.Turn.{Turn}
use Rattle.hp_board.specs.declared.turn.Turn.TheVariants.{Made, Answered, NotYet}
use Rattle.hp_live.specs.Known.{IsOut, IsIn, Stays}
use Rattle.hp_live.specs.Sections.{Adds, CanAsk, TurnOn, TurnedIn}
use Rattle.hp_live.proofs.Others.{role_later, since_later}

role_same : (op : Op) (xs : List Event) (e : Event) (k : ℕ) → BelongsTo op e → role_step k (role_of k xs) xs e ≡ role_of k xs
role_same op xs (Admit seat role) k of = absurd of
role_same op xs (Leave seat) k of = absurd of
role_same op xs e k of = refl

cleared : (b : Bool) (o : Option (List Event)) → o ≡ None → cond b None o ≡ None
cleared true o none = refl
cleared false o none = none

out_since : (op : Op) (xs : List Event) (e : Event) (k : ℕ) → op ≢ Lock → BelongsTo op e → reading_since k xs ≡ None →
    reading_since_step k (reading_since k xs) xs e ≡ None
out_since op xs (ReadLock seat) k other of none = absurd (other of)
out_since op xs (ReadUnlock seat) k other of none = cleared (eqb seat k) (reading_since k xs) none
out_since op xs e k other of none = none

-- a reader's lock is refused, so no event of it is a ReadLock
reader_no_lock : (head : Head) (xs : List Event) (k : ℕ) (before : List Event) → Stands head xs (ReadLock k) →
    reading_since k xs ≡ Some before → ⊥
reader_no_lock head xs k before stands is =
    let p = stands.0.passes in
    let idle = stands.0.free.idle in
    let r : is_reading k xs ≡ true = ap is_some is in
    not_refused (is_reading k xs) r (passed head xs k Lock idle p.not_waiting p.not_refused).0
  where
    not_refused : (b : Bool) → b ≡ true → first_that_holds (if_so b EDEADLK ∷ []) ≡ None → ⊥
    not_refused true r h = absurd (cc h)
    not_refused false r h = absurd (cc r)

in_since : (head : Head) (op : Op) (xs : List Event) (e : Event) (k : ℕ) (before : List Event) → op ≢ Unlock → BelongsTo op e →
    Stands head xs e → reading_since k xs ≡ Some before → reading_since_step k (reading_since k xs) xs e ≡ Some before
in_since head op xs (ReadUnlock seat) k before other of stands is = absurd (other of)
in_since head op xs (ReadLock seat) k before other of stands is = locks (eqb seat k) refl
  where
    locks : (b : Bool) → eqb seat k ≡ b → cond b (Some xs) (reading_since k xs) ≡ Some before
    locks true own =
        absurd (reader_no_lock head xs k before (subst (λ n. Stands head xs (ReadLock n)) (eqb-true seat k own) stands) is)
    locks false own = is
in_since head op xs e k before other of stands is = is

pub stays_event : (head : Head) (op : Op) (xs : List Event) (e : Event) (k : ℕ) → BelongsTo op e → Stands head xs e →
    Stays k op xs (xs ++ e ∷ [])
stays_event head op xs e k of stands =
    record {
      out = λ other o.
          record {
            role = role_push k xs e ∙ role_same op xs e k of ∙ o.role;
            not_reading = reading_since_push k xs e ∙ out_since op xs e k other of o.not_reading;
          };
      inside = λ before other i.
          record {
            role = role_push k xs e ∙ role_same op xs e k of ∙ i.role;
            reading = reading_since_push k xs e ∙ in_since head op xs e k before other of stands i.reading;
          };
    }

pub out_later : (head : Head) (k : ℕ) (front found : List Event) → StandsFor (Some k) front found → IsLawful head found →
    IsOut k front → IsOut k found
out_later head k front found seen lawful o =
    record {
      role = role_later head k (Some Client) front found seen lawful o.role;
      not_reading = since_later head k None front found seen lawful o.not_reading;
    }

pub in_later : (head : Head) (k : ℕ) (before front found : List Event) → StandsFor (Some k) front found → IsLawful head found →
    IsIn k before front → IsIn k before found
in_later head k before front found seen lawful i =
    record {
      role = role_later head k (Some Client) front found seen lawful i.role;
      reading = since_later head k (Some before) front found seen lawful i.reading;
    }

pub stays_seen : (head : Head) (k : ℕ) (op : Op) (front found : List Event) → StandsFor (Some k) front found → IsLawful head found →
    Stays k op front found
stays_seen head k op front found seen lawful =
    record {
      out = λ other o. out_later head k front found seen lawful o;
      inside = λ before other i. in_later head k before front found seen lawful i;
    }

pub stays_self : (k : ℕ) (op : Op) (front : List Event) → Stays k op front front
stays_self k op front = record { out = λ other o. o; inside = λ before other i. i }

pub stays_on : (k : ℕ) (op : Op) (a b c : List Event) → Stays k op a b → Stays k op b c → Stays k op a c
stays_on k op a b c s t =
    record {
      out = λ other o. t.out other (s.out other o);
      inside = λ before other i. t.inside before other (s.inside before other i);
    }

-- the second stretch is of the operation that the ask still has
pub stays_to : (k : ℕ) (op o : Op) (a b c : List Event) → o ≡ op → Stays k op a b → Stays k o b c → Stays k op a c
stays_to k op o a b c is s t = stays_on k op a b c s (subst (λ (y : Op). Stays k y b c) is t)

stays_adds : (head : Head) (k : ℕ) (op : Op) (had : Bool) (found new : List Event) (at : ℕ) (answer : Option Answer) → IsLawful head found →
    CanAsk head found k op had → Adds (next_event head found k op) at answer found new → Stays k op found new
stays_adds head k op had found new at answer lawful m a =
    subst (Stays k op found) (sym a.new_is)
    (stays_event head op found a.event k
    (next_belongs head found (record { seat = k; op = op }) a.event lawful m.allowed a.next_is)
    (next_stands head found k op a.event a.next_is).0)

stays_turn : (head : Head) (k : ℕ) (op : Op) (had : Bool) (found new : List Event) (turn : Turn) → IsLawful head found →
    CanAsk head found k op had → TurnOn head k op found new turn → Stays k op found new
stays_turn head k op had found new (Made at) lawful m t = stays_adds head k op had found new at None lawful m t
stays_turn head k op had found new (Answered (Some at) answer) lawful m t =
    stays_adds head k op had found new at (Some answer) lawful m t
stays_turn head k op had found new (Answered None answer) lawful m t = subst (Stays k op found) (sym t.same) (stays_self k op found)
stays_turn head k op had found new (NotYet why) lawful m t = subst (Stays k op found) (sym t) (stays_self k op found)

pub stays_turned : (head : Head) (k : ℕ) (op : Op) (had has : Bool) (front new : List Event) (turn : Turn) →
    TurnedIn head k op had has front new turn → Stays k op front new
stays_turned head k op had has front new turn t =
    stays_on k op front t.found new (stays_seen head k op front t.found t.seen t.lawful)
    (stays_turn head k op had t.found new turn t.lawful t.asked t.turned)

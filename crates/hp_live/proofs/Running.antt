-- An operation goes on from turn to turn.
use Rattle.std.proofs.Common.{◌≡◌, ◌⊎◌, ⊎_elim, ℕ, Bool, true, false, not, ◌&&◌, All, Result, Ok, Err, OnErr, Option, Some, None, List, [], ◌∷◌, ◌++◌, inl, inr, refl, sym, ap, ◌∙◌, subst}
use Rattle.std.proofs.lemmas.Bool.{true≢false, false≢true}
use Rattle.std.proofs.lemmas.List.{append-nil}
use Rattle.std.proofs.lemmas.List.Elements.{All-nil, All-cons, All-append}
use Rattle.hp_event.specs.declared.answer.Answer.{Answer}
use Rattle.hp_event.specs.declared.op.Op.{Op}
use Rattle.hp_event.specs.declared.head.Head.{Head}
use Rattle.hp_event.specs.declared.event.Event.{Event}
use Rattle.hp_model.specs.Events.{BelongsTo}
use Rattle.hp_model.specs.Front.{StandsFor}
use Rattle.hp_model.specs.Lawful.{IsLawful}
use Rattle.hp_model.specs.NextEvent.{next_event, is_full, lacks_room}
use Rattle.hp_model.specs.FirstEvent.{first_event}
use Rattle.hp_model.specs.Pending.{IsAllowed}
use Rattle.hp_model.specs.Seats.{is_busy}
use Rattle.hp_model.proofs.NextStands.{next_stands, next_belongs}
use Rattle.hp_board.specs.Turns.{goes_on}
use Rattle.hp_board.specs.declared.turn.Turn.{Turn}
use Rattle.hp_board.specs.declared.turn.Turn.TheVariants.{Made, Answered, NotYet}
use Rattle.hp_live.specs.Grew.{Grew}
use Rattle.hp_live.specs.Runs.{GoesOn, AnsweredBy, FullFor, IsAnswered, Halted}
use Rattle.hp_live.specs.Sections.{Adds, LacksRoom, TurnOn, TurnedIn, WantedIn}
use Rattle.hp_board.proofs.GoesOn.{goes_on_busy}
use Rattle.hp_live.proofs.Growing.{grew_self, grew_seen, grew_on, grew_event}
use Rattle.hp_live.proofs.Others.{busy_later}

-- what the seat has of the operation so far, none of which answers it: with any event of it the seat is busy
pub record Going (head : Head) (seat : ℕ) (op : Op) (old now : List Event) : Type 0 where
  pub made : List Event
  pub grew : Grew seat old now made
  pub goes_on : All (GoesOn op) made
  pub busy : (made ≡ []) ⊎ (is_busy seat now ≡ true)

pub going_self : (head : Head) (k : ℕ) (op : Op) (front : List Event) → Going head k op front front
going_self head k op front =
    record { made = []; grew = grew_self k front; goes_on = All-nil (GoesOn op); busy = inl refl }

-- others may have gone on
pub going_seen : (head : Head) (k : ℕ) (op : Op) (old front found : List Event) → Going head k op old front →
    StandsFor (Some k) front found → IsLawful head found → Going head k op old found
going_seen head k op old front found g seen lawful =
    record {
      made = g.made;
      grew = subst (Grew k old found) (append-nil g.made) (grew_on k old front found g.made [] g.grew (grew_seen k front found seen));
      goes_on = g.goes_on;
      busy = ⊎_elim (λ none. inl none) (λ busy. inr (busy_later head k true front found seen lawful busy)) g.busy;
    }

belongs : (head : Head) (k : ℕ) (op : Op) (found : List Event) (e : Event) → IsLawful head found →
    IsAllowed head found (record { seat = k; op = op }) → next_event head found k op ≡ Some e → BelongsTo op e
belongs head k op found e lawful a next = next_belongs head found (record { seat = k; op = op }) e lawful a next

-- one event more that doesn't answer it
going_event : (head : Head) (k : ℕ) (op : Op) (old found new : List Event) (at : ℕ) → Going head k op old found →
    IsLawful head found → IsAllowed head found (record { seat = k; op = op }) →
    Adds (next_event head found k op) at None found new → Going head k op old new
going_event head k op old found new at g lawful a t =
    subst (Going head k op old) (sym t.new_is)
    (record {
      made = g.made ++ t.event ∷ [];
      grew =
          grew_on k old found (found ++ t.event ∷ []) g.made (t.event ∷ []) g.grew
          (grew_event k found t.event (next_stands head found k op t.event t.next_is).1);
      goes_on =
          All-append (GoesOn op) g.made (t.event ∷ []) g.goes_on
          (All-cons (GoesOn op) t.event [] (belongs head k op found t.event lawful a t.next_is, t.answer_is) (All-nil (GoesOn op)));
      busy = inr (goes_on_busy head found k op t.event t.next_is t.answer_is);
    })

going_turn : (head : Head) (k : ℕ) (op : Op) (old found new : List Event) (turn : Turn) → Going head k op old found →
    IsLawful head found → IsAllowed head found (record { seat = k; op = op }) → TurnOn head k op found new turn →
    goes_on turn ≡ true → Going head k op old new
going_turn head k op old found new (Made at) g lawful a t on = going_event head k op old found new at g lawful a t
going_turn head k op old found new (Answered at answer) g lawful a t on = absurd (false≢true on)
going_turn head k op old found new (NotYet why) g lawful a t on = subst (Going head k op old) (sym t) g

pub going_more : (head : Head) (k : ℕ) (op : Op) (had has : Bool) (old front new : List Event) (turn : Turn) →
    Going head k op old front → TurnedIn head k op had has front new turn → goes_on turn ≡ true → Going head k op old new
going_more head k op had has old front new turn g t on =
    going_turn head k op old t.found new turn (going_seen head k op old front t.found g t.seen t.lawful) t.lawful t.asked.allowed
    t.turned on

answered_event : (head : Head) (k : ℕ) (op : Op) (old found new : List Event) (at : ℕ) (answer : Answer) → Going head k op old found →
    IsLawful head found → IsAllowed head found (record { seat = k; op = op }) →
    Adds (next_event head found k op) at (Some answer) found new → AnsweredBy head k op old new answer
answered_event head k op old found new at answer g lawful a t =
    record {
      earlier = g.made;
      before = found;
      event = t.event;
      grew = g.grew;
      lawful = lawful;
      goes_on = g.goes_on;
      next_is = t.next_is;
      belongs = belongs head k op found t.event lawful a t.next_is;
      new_is = t.new_is;
      answers = t.answer_is;
    }

pub idle_full : (head : Head) (xs : List Event) (k : ℕ) (op : Op) (b : Bool) → is_busy k xs ≡ b → is_full head xs k op ≡ true → b ≡ false
unfolding is_full
idle_full head xs k op true busy full =
    absurd (false≢true (sym (ap (λ b. not b && lacks_room head xs (first_event head xs k op)) busy) ∙ full))
idle_full head xs k op false busy full = refl

full_none : (head : Head) (k : ℕ) (op : Op) (old found : List Event) → Going head k op old found → is_full head found k op ≡ true →
    Grew k old found []
full_none head k op old found g full =
    ⊎_elim (λ none. subst (Grew k old found) none g.grew)
    (λ busy. absurd (true≢false (idle_full head found k op true busy full))) g.busy

-- there is no room for it
pub full_answer : (head : Head) (k : ℕ) (op : Op) (old found new : List Event) (answer : Answer) → Going head k op old found →
    LacksRoom head k op answer found new → FullFor head k op old new answer
full_answer head k op old found new answer g t =
    subst (λ (w : List Event). FullFor head k op old w answer) (sym t.same)
    (record { grew = full_none head k op old found g t.full; full = t.full; answer_is = t.answer_is })

answered_turn : (head : Head) (k : ℕ) (op : Op) (old found new : List Event) (at : Option ℕ) (answer : Answer) →
    Going head k op old found → IsLawful head found → IsAllowed head found (record { seat = k; op = op }) →
    TurnOn head k op found new (Answered at answer) → IsAnswered head k op old new answer
answered_turn head k op old found new (Some at) answer g lawful a t = inl (answered_event head k op old found new at answer g lawful a t)
answered_turn head k op old found new None answer g lawful a t = inr (full_answer head k op old found new answer g t)

pub going_answered : (head : Head) (k : ℕ) (op : Op) (had has : Bool) (old front new : List Event) (at : Option ℕ) (answer : Answer) →
    Going head k op old front → TurnedIn head k op had has front new (Answered at answer) → IsAnswered head k op old new answer
going_answered head k op had has old front new at answer g t =
    answered_turn head k op old t.found new at answer (going_seen head k op old front t.found g t.seen t.lawful) t.lawful
    t.asked.allowed t.turned

pub going_halted : (head : Head) (k : ℕ) (op : Op) (old front new : List Event) → IsLawful head new →
    Going head k op old front → WantedIn head k op front new → Halted head k op old new
going_halted head k op old front new lawful g w =
    let now = going_seen head k op old front new g w.seen lawful in
    record { made = now.made; grew = now.grew; goes_on = now.goes_on; busy = now.busy; takes_room = w.takes_room }

-- the same, where head, seat and operation are those of the pass and the ask as they stand

pub turned_as : (head h : Head) (op o : Op) (k j : ℕ) (had has : Bool) (front new : List Event) (turn t : Turn) → h ≡ head →
    j ≡ k → o ≡ op → turn ≡ t → TurnedIn h j o had has front new turn → TurnedIn head k op had has front new t
turned_as head h op o k j had has front new turn t e s f i x =
    subst (λ (y : Turn). TurnedIn head k op had has front new y) i
    (subst (λ (y : Op). TurnedIn head k y had has front new turn) f
    (subst (λ (y : ℕ). TurnedIn head y o had has front new turn) s
    (subst (λ (y : Head). TurnedIn y j o had has front new turn) e x)))

pub wanted_as : (head h : Head) (op o : Op) (k j : ℕ) (front new : List Event) → h ≡ head → j ≡ k → o ≡ op →
    WantedIn h j o front new → WantedIn head k op front new
wanted_as head h op o k j front new e s f x =
    subst (λ (y : Op). WantedIn head k y front new) f
    (subst (λ (y : ℕ). WantedIn head y o front new) s (subst (λ (y : Head). WantedIn y j o front new) e x))

pub on_err : {A E P : Type 0} (r : Result A E) → P → OnErr r P
on_err (Ok x) p = tt
on_err (Err e) p = p

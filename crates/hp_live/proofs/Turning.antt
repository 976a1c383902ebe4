-- What a step of the board is of its events, by a client's seat.
use Rattle.std.proofs.Common.{◌≡◌, ℕ, Bool, true, false, is_some, Option, Some, None, Result, Ok, Err, List, refl, sym, ap, ◌∙◌, subst}
use Rattle.std.proofs.lemmas.Bool.{false≢true}
use Rattle.hp_states.specs.declared.no_memory.NoMemory.{NoMemory}
use Rattle.hp_event.specs.declared.answer.Answer.{Answer}
use Rattle.hp_event.specs.declared.op.Op.{Op}
use Rattle.hp_event.specs.declared.head.Head.{Head}
use Rattle.hp_event.specs.declared.event.Event.{Event}
use Rattle.hp_event.specs.declared.event.Event.TheVariants.{Admit, Call}
use Rattle.hp_hook.specs.Counted.{Counts}
use Rattle.hp_model.specs.Events.{BelongsTo, is_call}
use Rattle.hp_model.specs.Front.{StandsFor}
use Rattle.hp_model.specs.Lawful.{IsLawful}
use Rattle.hp_model.specs.NextEvent.{next_event, due_entry}
use Rattle.hp_model.specs.Pending.{Pending, IsAllowed}
use Rattle.hp_model.proofs.DueGives.{due_stands, call_belongs}
use Rattle.hp_model.proofs.NextGives.{next_exactly}
use Rattle.hp_model.proofs.NextStands.{next_stands, next_belongs}
use Rattle.hp_turn.specs.Pass.{Pass}
use Rattle.hp_turn.specs.Story.{IsOwn, IsNoAdmit}
use Rattle.hp_board.specs.Contents.{Contents}
use Rattle.hp_board.specs.Hooks.{GetsStatesHook, KeepsItsHook, has_hook, has_hook_after}
use Rattle.hp_board.specs.Loans.{loan}
use Rattle.hp_board.specs.Turns.{IsTurn, Makes, goes_on}
use Rattle.hp_board.specs.declared.turn.Ask.{Ask}
use Rattle.hp_board.specs.declared.turn.Turn.{Turn}
use Rattle.hp_board.specs.declared.turn.Turn.TheVariants.{Made, Answered, NotYet}
use Rattle.hp_board.proofs.AskAgain.{own_after}
use Rattle.hp_board.proofs.Busy.{hook_again}
use Rattle.hp_live.specs.declared.step.Step.{Step}
use Rattle.hp_live.specs.declared.step.Step.TheVariants.{Turned, Lent}
use Rattle.hp_live.specs.Sections.{Adds, CanAsk, EntersIn, TurnOn, TurnedIn, WantedIn, LentIn}
use Rattle.hp_live.specs.Hooks.{TurnsHook}
use Rattle.hp_live.specs.Runs.{SteppedIn}
use Rattle.hp_live.specs.declared.step.Stepped.TheVariants as did
use Rattle.hp_live.specs.Steps.{StepsOn, StepsIn, Finds, HasSeen, GivesIn, lent_of, stepped_by}
use Rattle.hp_live.proofs.Finding.{Puts, puts_one, puts_none, seen_by, lawful_found}
use Rattle.hp_live.proofs.HooksTurned.{turns_hook}
use Rattle.hp_live.proofs.Others.{asks_later}

adds : (next : Option Event) (at : ℕ) (answer : Option Answer) (old new : Contents) → Makes next at answer old new →
    Adds next at answer old.events new.events
adds next at answer old new m =
    record {
      event = m.event;
      next_is = m.next_is;
      new_is = ap (λ (b : Contents). b.events) m.new_is;
      place_is = m.place_is;
      answer_is = m.answer_is;
    }

pub turn_on : (k : ℕ) (op : Op) (old new : Contents) (turn : Turn) → IsTurn k op old new turn →
    TurnOn old.head k op old.events new.events turn
turn_on k op old new (Made at) t = adds _ at None old new t
turn_on k op old new (Answered (Some at) answer) t = adds _ at (Some answer) old new t
turn_on k op old new (Answered None answer) t =
    record { full = t.full; answer_is = t.answer_is; same = ap (λ (b : Contents). b.events) t.same }
turn_on k op old new (NotYet why) t = ap (λ (b : Contents). b.events) t.1

head_turned : (k : ℕ) (op : Op) (old new : Contents) (turn : Turn) → IsTurn k op old new turn → new.head ≡ old.head
head_turned k op old new (Made at) t = ap (λ (b : Contents). b.head) t.new_is
head_turned k op old new (Answered (Some at) answer) t = ap (λ (b : Contents). b.head) t.new_is
head_turned k op old new (Answered None answer) t = ap (λ (b : Contents). b.head) t.same
head_turned k op old new (NotYet why) t = ap (λ (b : Contents). b.head) t.1

no_admit : (op : Op) (e : Event) → BelongsTo op e → IsNoAdmit e
no_admit op (Admit seat role) of = absurd of
no_admit op e of = refl

-- what an operation's next event is of
own_next : (head : Head) (xs : List Event) (p : Pending) (e : Event) → IsLawful head xs → IsAllowed head xs p →
    next_event head xs p.seat p.op ≡ Some e → IsOwn (Some p.seat) e
own_next head xs p e lawful a next =
    (ap (λ (n : ℕ). Some n) (sym (next_stands head xs p.seat p.op e next).1), no_admit p.op e (next_belongs head xs p e lawful a next))

call_no_admit : (e : Event) → is_call e ≡ true → IsNoAdmit e
call_no_admit (Admit seat role) is = absurd (false≢true is)
call_no_admit e is = refl

pub own_due : (head : Head) (xs : List Event) (k : ℕ) (e : Event) → due_entry head xs k ≡ Some e → IsOwn (Some k) e
own_due head xs k e due =
    let s = due_stands head xs k e due in (ap (λ (n : ℕ). Some n) (sym s.2), call_no_admit e s.1)

turn_puts : (head : Head) (p : Pending) (old new : List Event) (turn : Turn) → IsLawful head old → IsAllowed head old p →
    TurnOn head p.seat p.op old new turn → Puts p.seat old new
turn_puts head p old new (Made at) lawful a t = puts_one p.seat old new t.event t.new_is (own_next head old p t.event lawful a t.next_is)
turn_puts head p old new (Answered (Some at) answer) lawful a t =
    puts_one p.seat old new t.event t.new_is (own_next head old p t.event lawful a t.next_is)
turn_puts head p old new (Answered None answer) lawful a t = puts_none p.seat old new t.same
turn_puts head p old new (NotYet why) lawful a t = puts_none p.seat old new t

-- ---- a step

pub step_puts : {H : Type 0} (k : ℕ) (op : Op) (had has : Bool) (old new : Contents) (step : Result (Step H) NoMemory) → IsLawful old.head old.events →
    CanAsk old.head old.events k op had → StepsOn k op had has old new step → Puts k old.events new.events
step_puts k op had has old new (Ok (Turned turn)) lawful asked s =
    turn_puts old.head (record { seat = k; op = op }) old.events new.events turn lawful asked.allowed (turn_on k op old new turn s.1)
step_puts k op had has old new (Err e) lawful asked s =
    puts_none k old.events new.events (ap (λ (b : Contents). b.events) s.1)
step_puts k op had has old new (Ok (Lent a)) lawful asked s = puts_none k old.events new.events s.2

pub step_head : {H : Type 0} (k : ℕ) (op : Op) (had has : Bool) (old new : Contents) (step : Result (Step H) NoMemory) →
    StepsOn k op had has old new step → new.head ≡ old.head
step_head k op had has old new (Ok (Turned turn)) s = head_turned k op old new turn s.1
step_head k op had has old new (Err e) s = ap (λ (b : Contents). b.head) s.1
step_head k op had has old new (Ok (Lent a)) s = s.1

pub step_lends : {H : Type 0} (k : ℕ) (op : Op) (had has : Bool) (old new : Contents) (step : Result (Step H) NoMemory) →
    loan old k ≡ None → StepsOn k op had has old new step → loan new k ≡ lent_of step
step_lends k op had has old new (Ok (Turned turn)) none s = s.2
step_lends k op had has old new (Err e) none s = ap (λ (b : Contents). loan b k) s.1 ∙ none
step_lends k op had has old new (Ok (Lent a)) none s = s.3

-- ---- a section

pub asks_found : (p : Pass) (k : ℕ) (op : Op) (had : Bool) (found : Contents) → Finds p found → p.seat ≡ Some k →
    CanAsk p.head p.front k op had → CanAsk found.head found.events k op had
asks_found p k op had found f own asked =
    subst (λ (h : Head). CanAsk h found.events k op had) (sym f.head_is)
    (asks_later p.head k op had p.front found.events (seen_by p k found.events own f.knew) (lawful_found p found f) asked)

-- of a turn, with what it makes of the hook
pub section_turned : {H : Type 0} (seen : H → Counts) (p after : Pass) (k : ℕ) (was now : Ask H) (found new : Contents) (turn : Turn) →
    Finds p found → p.seat ≡ Some k → CanAsk found.head found.events k was.op (is_some was.hook) → IsTurn k was.op found new turn →
    is_some now.hook ≡ has_hook_after found.events (next_event found.head found.events k was.op) (is_some was.hook) →
    (goes_on turn ≡ true → is_some now.hook ≡ has_hook new.events k was.op) → KeepsItsHook found k was now →
    GetsStatesHook seen found k was now → HasSeen after new →
    SteppedIn seen p.head k was.op was.hook now.hook p.front after.front (did.Turned turn)
section_turned seen p after k was now found new turn f own asked t hook again keeps gets sees = (
  record {
    found = found.events;
    seen = seen_by p k found.events own f.knew;
    lawful = lawful_found p found f;
    asked = subst (λ (h : Head). CanAsk h found.events k was.op (is_some was.hook)) f.head_is asked;
    turned =
        subst (λ (h : Head). TurnOn h k was.op found.events after.front turn) f.head_is
        (subst (λ (w : List Event). TurnOn found.head k was.op found.events w turn) (sym sees.front_is)
        (turn_on k was.op found new turn t));
    hook =
        subst
        (λ (h : Head). is_some now.hook ≡ has_hook_after found.events (next_event h found.events k was.op) (is_some was.hook))
        f.head_is hook;
    again = λ goes. again goes ∙ ap (λ (w : List Event). has_hook w k was.op) (sym sees.front_is);
  },
  subst (λ (h : Head). TurnsHook seen h found.events k was.op was.hook now.hook turn) f.head_is
      (turns_hook seen found new k was now turn f.board.table t hook keeps gets),
)

-- what it did, once the hook that it lent was called
pub steps_stepped : {H : Type 0} (seen : H → Counts) (p after : Pass) (k : ℕ) (was now : Ask H) (step : Step H) → p.seat ≡ Some k →
    StepsIn seen k was now p after (Ok step) →
    SteppedIn seen p.head k was.op was.hook now.hook p.front after.front (stepped_by step)
steps_stepped seen p after k was now (Turned turn) own s =
    let on = s.to.steps in
    section_turned seen p after k was now s.found s.to.new turn s.finds own s.asked on.1 on.3 on.4 s.ask.0 s.ask.1 s.to.seen
steps_stepped {H} seen p after k was now (Lent a) own s =
    let on = s.to.steps in
    let front : after.front ≡ s.found.events = s.to.seen.front_is ∙ on.2 in (
      subst (λ (w : List Event). LentIn p.head k p.front w) (sym front)
          (record { seen = seen_by p k s.found.events own s.finds.knew; lawful = lawful_found p s.found s.finds }),
      ap (λ (x : Ask H). x.hook) s.ask,
    )

pub steps_wanted : {H : Type 0} (seen : H → Counts) (p after : Pass) (k : ℕ) (was now : Ask H) (e : NoMemory) → p.seat ≡ Some k →
    StepsIn seen k was now p after (Err e) → WantedIn p.head k was.op p.front after.front × (now ≡ was)
steps_wanted seen p after k was now e own s =
    let on = s.to.steps in
    let front : after.front ≡ s.found.events = s.to.seen.front_is ∙ ap (λ (b : Contents). b.events) on.1 in (
      subst (λ (h : Head). WantedIn h k was.op p.front after.front) s.finds.head_is
          (subst (λ (w : List Event). WantedIn s.found.head k was.op p.front w) (sym front)
          (record { seen = seen_by p k s.found.events own s.finds.knew; lawful = s.finds.board.lawful; takes_room = on.2 })),
      s.ask,
    )

-- ---- a hook that comes back

-- the entry that is due from a client's seat is what comes next of its operation
pub due_next : (head : Head) (xs : List Event) (k : ℕ) (op : Op) (e : Event) → IsLawful head xs →
    IsAllowed head xs (record { seat = k; op = op }) → due_entry head xs k ≡ Some e → next_event head xs k op ≡ Some e
due_next head xs k op e lawful a due =
    let s = due_stands head xs k e due in
    (next_exactly head xs (record { seat = k; op = op }) e lawful a).1 (s.0, s.2, call_belongs op e s.1)

pub call_keeps_hook : (xs : List Event) (e : Event) (had : Bool) → is_call e ≡ true → has_hook_after xs (Some e) had ≡ had
call_keeps_hook xs e had call = call_hook e call had
  where
    call_hook : (x : Event) → is_call x ≡ true → (b : Bool) → has_hook_after xs (Some x) b ≡ b
    call_hook (Call seat cpu state inst dir how) c true = refl
    call_hook (Call seat cpu state inst dir how) c false = refl
    call_hook x c b = absurd (false≢true c)

-- the hook that the next ask has
pub hook_made : (head : Head) (found new : List Event) (k : ℕ) (op : Op) (had : Bool) (at : ℕ) →
    Adds (next_event head found k op) at None found new → had ≡ has_hook found k op →
    has_hook_after found (next_event head found k op) had ≡ has_hook new k op
hook_made head found new k op had at a is =
    ap (λ (o : Option Event). has_hook_after found o had) a.next_is ∙ ap (λ b. has_hook_after found (Some a.event) b) is
    ∙ hook_again head found k op a.event a.next_is a.answer_is ∙ ap (λ (w : List Event). has_hook w k op) (sym a.new_is)

-- the entry of a hook that came home
pub gives_entered : (p after : Pass) (k at : ℕ) → p.seat ≡ Some k → GivesIn k p after at → EntersIn p.head k p.front after.front at
gives_entered p after k at own g =
    let m = g.to.served in
    record {
      found = g.found.events;
      seen = seen_by p k g.found.events own g.finds.knew;
      lawful = lawful_found p g.found g.finds;
      entered =
          record {
            event = m.event;
            next_is = ap (λ (h : Head). due_entry h g.found.events k) (sym g.finds.head_is) ∙ m.next_is;
            new_is = g.to.seen.front_is ∙ ap (λ (b : Contents). b.events) m.new_is;
            place_is = m.place_is;
            answer_is = m.answer_is;
          };
    }

-- ---- what may be asked then

asks_on : (head : Head) (k : ℕ) (op : Op) (had has : Bool) (found new : List Event) (turn : Turn) → IsLawful head found →
    CanAsk head found k op had → TurnOn head k op found new turn → goes_on turn ≡ true → has ≡ has_hook new k op →
    CanAsk head new k op has
asks_on head k op had has found new (Made at) lawful asked t on again =
    subst (λ (w : List Event). CanAsk head w k op has) (sym t.new_is)
    (record {
      allowed =
          own_after head found t.event (record { seat = k; op = op })
          (next_belongs head found (record { seat = k; op = op }) t.event lawful asked.allowed t.next_is) asked.allowed;
      hook_is = again ∙ ap (λ (w : List Event). has_hook w k op) t.new_is;
    })
asks_on head k op had has found new (Answered at answer) lawful asked t on again = absurd (false≢true on)
asks_on head k op had has found new (NotYet why) lawful asked t on again =
    record {
      allowed = subst (λ (w : List Event). IsAllowed head w (record { seat = k; op = op })) (sym t) asked.allowed;
      hook_is = again;
    }

pub asks_turned : (head : Head) (k : ℕ) (op : Op) (had has : Bool) (old new : List Event) (turn : Turn) →
    TurnedIn head k op had has old new turn → goes_on turn ≡ true → CanAsk head new k op has
asks_turned head k op had has old new turn t on =
    asks_on head k op had has t.found new turn t.lawful t.asked t.turned on (t.again on)

-- where nothing was made
pub asks_seen : (head : Head) (k : ℕ) (op : Op) (had has : Bool) (old new : List Event) → StandsFor (Some k) old new →
    IsLawful head new → has ≡ had → CanAsk head old k op had → CanAsk head new k op has
asks_seen head k op had has old new seen lawful same asked =
    subst (λ (b : Bool). CanAsk head new k op b) (sym same) (asks_later head k op had old new seen lawful asked)

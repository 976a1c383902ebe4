-- What holds of a seat after a try, by what the try answered.
use Rattle.std.proofs.Common.{◌≡◌, ◌≢◌, ℕ, Bool, true, false, Result, Ok, Err, IfOk, OnErr, Option, None, List, inl, inr, refl, sym, ap, ◌∙◌, subst, is_some}
use Rattle.std.proofs.lemmas.Bool.{false≢true, true≢false}
use Rattle.hp_states.specs.declared.no_memory.NoMemory.{NoMemory}
use Rattle.hp_account.specs.TableChanges.{hands_out}
use Rattle.hp_event.specs.declared.answer.Answer.{Answer}
use Rattle.hp_event.specs.declared.aside.Aside.{Aside}
use Rattle.hp_event.specs.declared.event.Event.{Event}
use Rattle.hp_event.specs.declared.head.Head.{Head}
use Rattle.hp_event.specs.declared.op.Op.{Op}
use Rattle.hp_event.specs.declared.op.Op.TheVariants.{Lock}
use Rattle.hp_hook.specs.Counted.{Counts}
use Rattle.hp_model.specs.NextEvent.{next_event}
use Rattle.hp_model.specs.Seats.{is_busy}
use Rattle.hp_model.proofs.DueGives.{due_stands}
use Rattle.hp_turn.specs.Pass.{Pass}
use Rattle.hp_board.specs.Hooks.{has_hook_after}
use Rattle.hp_board.specs.declared.turn.Ask.{Ask}
use Rattle.hp_board.specs.declared.turn.Turn.{Turn}
use Rattle.hp_board.specs.declared.turn.Turn.TheVariants.{Made, Answered, NotYet}
use Rattle.hp_live.specs.HeldSteps.{seated}
use Rattle.hp_live.specs.Known.{IsOut, IsSamePass, IsThread, Seated}
use Rattle.hp_live.specs.Sections.{Adds, CanAsk, EntersIn, TurnedIn}
use Rattle.hp_live.specs.Tries.{BackTried, ServeTried, TurnTried, WantedOnce, is_answered}
use Rattle.hp_live.specs.Runs.{ComesBack, EnteredIn, SteppedIn}
use Rattle.hp_live.specs.declared.step.Stepped.{Stepped}
use Rattle.hp_live.specs.declared.step.Stepped.TheVariants as section
use Rattle.hp_live.specs.declared.tried.Tried.{Tried}
use Rattle.hp_live.specs.declared.tried.Tried.TheVariants as tried
use Rattle.hp_live.proofs.Clients.{out_later, stays_turned}
use Rattle.hp_live.proofs.Coming.{thread_told}
use Rattle.hp_live.proofs.Entries.{thread_entry, thread_turn}
use Rattle.hp_live.proofs.HooksBack.{comes_back}
use Rattle.hp_live.proofs.HooksLeft.{hook_left}
use Rattle.hp_live.proofs.HooksTurned.{entry_leaves}
use Rattle.hp_live.proofs.Idle.{answered_idle}
use Rattle.hp_live.proofs.Others.{asks_later}
use Rattle.hp_live.proofs.Running.{going_answered, going_self}
use Rattle.hp_live.proofs.Turning.{asks_seen, asks_turned, call_keeps_hook, due_next, hook_made}

-- the entry of a hook that came home is a turn of the client's operation
pub enters_turned : (head : Head) (k : ℕ) (op : Op) (had : Bool) (old new : List Event) (at : ℕ) → CanAsk head old k op had →
    EntersIn head k old new at → TurnedIn head k op had had old new (Made at)
enters_turned head k op had old new at asked e =
    let ask = asks_later head k op had old e.found e.seen e.lawful asked in
    let m = e.entered in
    let call = (due_stands head e.found k m.event m.next_is).1 in
    let next = due_next head e.found k op m.event e.lawful ask.allowed m.next_is in
    let made : Adds (next_event head e.found k op) at None e.found new =
    record { event = m.event; next_is = next; new_is = m.new_is; place_is = m.place_is; answer_is = m.answer_is } in
    let keeps : had ≡ has_hook_after e.found (next_event head e.found k op) had =
    sym (ap (λ (o : Option Event). has_hook_after e.found o had) next ∙ call_keeps_hook e.found m.event had call) in
    record {
      found = e.found;
      seen = e.seen;
      lawful = e.lawful;
      asked = ask;
      turned = made;
      hook = keeps;
      again = λ on. keeps ∙ hook_made head e.found new k op had at made ask.hook_is;
    }

-- and it leaves the hook of that
pub entered_turned : {H : Type 0} (seen : H → Counts) (head : Head) (k : ℕ) (op : Op) (hook : Option H) (old new : List Event)
    (stepped : Stepped) → CanAsk head old k op (is_some hook) → EnteredIn head k old new stepped →
    SteppedIn seen head k op hook hook old new stepped
unfolding enters_turned
entered_turned seen head k op hook old new (section.Turned (Made at)) asked e =
    let ask = asks_later head k op (is_some hook) old e.found e.seen e.lawful asked in
    let m = e.entered in (
      enters_turned head k op (is_some hook) old new at asked e,
      entry_leaves seen head e.found k op hook (Made at) m.event (due_next head e.found k op m.event e.lawful ask.allowed m.next_is)
          (due_stands head e.found k m.event m.next_is).1,
    )
entered_turned seen head k op hook old new stepped asked e = absurd e

module _ {H : Type 0} (seen : H → Counts) (old new : Seated) (before after : Ask H) where
  abbrev Asked : Type 0
  Asked = CanAsk old.head old.front old.seat before.op (is_some before.hook)

  -- what the try did, by its result
  abbrev pub Did : Result Tried NoMemory → Type 0
  Did (Ok t) = TurnTried seen old new before after t
  Did (Err e) = WantedOnce old new before × (after ≡ before)

  pub did : (r : Result Tried NoMemory) → IfOk r (TurnTried seen old new before after) → OnErr r (WantedOnce old new before) →
      OnErr r (after ≡ before) → Did r
  did (Ok t) ok err same = ok
  did (Err e) ok err same = (err, same)

  turned_in : (turn : Turn) → Asked → TurnTried seen old new before after (tried.Turned turn) →
      TurnedIn old.head old.seat before.op (is_some before.hook) (is_some after.hook) old.front new.front turn
  turned_in turn asked (inl t) = t.turned
  turned_in turn asked (inr g) =
      let had = is_some before.hook in
      subst (λ (t : Turn). TurnedIn old.head old.seat before.op had (is_some after.hook) old.front new.front t) (sym g.0.turn_is)
      (subst (λ (a : Ask H). TurnedIn old.head old.seat before.op had (is_some a.hook) old.front new.front (Made g.0.at)) (sym g.1)
      (enters_turned old.head old.seat before.op had old.front new.front g.0.at asked g.0.enters))

  -- the client stays out of read sections
  pub tried_out : (r : Result Tried NoMemory) → IsSamePass old new → before.op ≢ Lock → Asked → Did r → IsOut old.seat old.front →
      IsOut new.seat new.front
  tried_out (Ok tried.Busy) same other asked d out = subst (λ (s : Seated). IsOut s.seat s.front) (sym d.0) out
  tried_out (Ok (tried.Turned turn)) same other asked d out =
      subst (λ (k : ℕ). IsOut k new.front) (sym same.seat)
      ((stays_turned old.head old.seat before.op (is_some before.hook) (is_some after.hook) old.front new.front turn
      (turned_in turn asked d)).out
      other out)
  tried_out (Ok (tried.Lent state)) same other asked d out =
      subst (λ (k : ℕ). IsOut k new.front) (sym same.seat)
      (out_later old.head old.seat old.front new.front d.0.found.seen d.0.found.lawful out)
  tried_out (Err e) same other asked d out =
      subst (λ (k : ℕ). IsOut k new.front) (sym same.seat)
      (out_later old.head old.seat old.front new.front d.0.wanted.seen d.0.wanted.lawful out)

  asks_as : IsSamePass old new → after.op ≡ before.op → CanAsk old.head new.front old.seat before.op (is_some after.hook) →
      CanAsk new.head new.front new.seat after.op (is_some after.hook)
  asks_as same op a =
      subst (λ (o : Op). CanAsk new.head new.front new.seat o (is_some after.hook)) (sym op)
      (subst (λ (k : ℕ). CanAsk new.head new.front k before.op (is_some after.hook)) (sym same.seat)
      (subst (λ (h : Head). CanAsk h new.front old.seat before.op (is_some after.hook)) (sym same.head) a))

  -- it may be asked for again
  pub tried_asks : (r : Result Tried NoMemory) → IsSamePass old new → after.op ≡ before.op → Asked → Did r → is_answered r ≡ false →
      CanAsk new.head new.front new.seat after.op (is_some after.hook)
  tried_asks (Ok tried.Busy) same op asked d going =
      subst (λ (a : Ask H). CanAsk new.head new.front new.seat a.op (is_some a.hook)) (sym d.1)
      (subst (λ (s : Seated). CanAsk s.head s.front s.seat before.op (is_some before.hook)) (sym d.0) asked)
  tried_asks (Ok (tried.Turned (Made at))) same op asked d going =
      asks_as same op
      (asks_turned old.head old.seat before.op (is_some before.hook) (is_some after.hook) old.front new.front (Made at)
      (turned_in (Made at) asked d) refl)
  tried_asks (Ok (tried.Turned (Answered at answer))) same op asked d going = absurd (true≢false going)
  tried_asks (Ok (tried.Turned (NotYet why))) same op asked d going =
      asks_as same op
      (asks_turned old.head old.seat before.op (is_some before.hook) (is_some after.hook) old.front new.front (NotYet why)
      (turned_in (NotYet why) asked d) refl)
  tried_asks (Ok (tried.Lent state)) same op asked d going =
      asks_as same op
      (asks_seen old.head old.seat before.op (is_some before.hook) (is_some after.hook) old.front new.front d.0.found.seen
      d.0.found.lawful (ap (λ (a : Ask H). is_some a.hook) d.1) asked)
  tried_asks (Err e) same op asked d going =
      asks_as same op
      (asks_seen old.head old.seat before.op (is_some before.hook) (is_some after.hook) old.front new.front d.0.wanted.seen
      d.0.wanted.lawful (ap (λ (a : Ask H). is_some a.hook) d.1) asked)

  -- an answer leaves nothing in flight
  pub tried_idle : (r : Result Tried NoMemory) → IsSamePass old new → Asked → Did r → is_answered r ≡ true →
      is_busy new.seat new.front ≡ false
  tried_idle (Ok tried.Busy) same asked d ended = absurd (false≢true ended)
  tried_idle (Ok (tried.Turned (Made at))) same asked d ended = absurd (false≢true ended)
  tried_idle (Ok (tried.Turned (Answered at answer))) same asked d ended =
      subst (λ (k : ℕ). is_busy k new.front ≡ false) (sym same.seat)
      (answered_idle old.head old.seat before.op old.front new.front answer
      (going_answered old.head old.seat before.op (is_some before.hook) (is_some after.hook) old.front old.front new.front at answer
      (going_self old.head old.seat before.op old.front) (turned_in (Answered at answer) asked d)))
  tried_idle (Ok (tried.Turned (NotYet why))) same asked d ended = absurd (false≢true ended)
  tried_idle (Ok (tried.Lent state)) same asked d ended = absurd (false≢true ended)
  tried_idle (Err e) same asked d ended = absurd (false≢true ended)

  -- and the hook with the ask that the answer hands out
  pub tried_hook : (r : Result Tried NoMemory) → Asked → Did r → (at : Option ℕ) (answer : Answer) →
      r ≡ Ok (tried.Turned (Answered at answer)) → is_some after.hook ≡ hands_out before.op answer
  tried_hook r asked d at answer is =
      hook_left old.head old.seat before.op (is_some before.hook) (is_some after.hook) old.front new.front at answer
      (turned_in (Answered at answer) asked (subst Did is d))

  -- and which that is
  answered_back : (at : Option ℕ) (answer : Answer) → TurnTried seen old new before after (tried.Turned (Answered at answer)) →
      ComesBack seen old.head old.seat before.op old.front new.front before.hook after.hook answer
  answered_back at answer (inl t) =
      comes_back seen old.head old.seat before.op before.hook before.hook after.hook old.front old.front new.front at answer
      (going_self old.head old.seat before.op old.front) (inl refl) (t.turned, t.hook)
  answered_back at answer (inr g) = absurd (cc (g.0.turn_is))

  pub tried_back : (r : Result Tried NoMemory) → Did r → (at : Option ℕ) (answer : Answer) →
      r ≡ Ok (tried.Turned (Answered at answer)) →
      ComesBack seen old.head old.seat before.op old.front new.front before.hook after.hook answer
  tried_back r d at answer is = answered_back at answer (subst Did is d)

-- ---- threads

pub served_thread : (old new : Seated) (t : Tried) → ServeTried old new t → IsThread old.seat old.front → IsThread old.seat new.front
served_thread old new tried.Busy d is = subst (λ (s : Seated). IsThread old.seat s.front) (sym d) is
served_thread old new (tried.Turned turn) (inl s) is =
    thread_turn old.head old.seat s.served.found new.front turn s.served.served
    (thread_told old.head old.seat old.front s.served.found s.served.seen s.served.lawful is)
served_thread old new (tried.Turned turn) (inr g) is =
    thread_entry old.head old.seat g.enters.found new.front g.at g.enters.entered
    (thread_told old.head old.seat old.front g.enters.found g.enters.seen g.enters.lawful is)
served_thread old new (tried.Lent state) d is = thread_told old.head old.seat old.front new.front d.found.seen d.found.lawful is

-- ---- a hook that was carried

pub back_turned : {H : Type 0} (seen : H → Counts) (old new : Seated) (ask : Ask H) (t : Tried) → BackTried old new t →
    TurnTried seen old new ask ask t
back_turned seen old new ask tried.Busy b = (b, refl)
back_turned seen old new ask (tried.Turned turn) b = inr (b, refl)
back_turned seen old new ask (tried.Lent state) b = absurd b

pub back_served : (old new : Seated) (t : Tried) → BackTried old new t → ServeTried old new t
back_served old new tried.Busy b = b
back_served old new (tried.Turned turn) b = inr b
back_served old new (tried.Lent state) b = absurd b

-- ---- a seat is its pass of the lock, its number and the hook that it carries

abbrev pub carrying : (seat : ℕ) → Pass → Option Aside → Seated
carrying k p back = record {
  lock = p.lock;
  head = p.head;
  front = p.front;
  seat = k;
  misses = p.misses;
  lent = back;
  kept = p.kept;
}

pub seat_is : (k : ℕ) (p : Pass) (back : Option Aside) → p.aside ≡ back → seated k p ≡ carrying k p back
seat_is k p back is = ap (carrying k p) is

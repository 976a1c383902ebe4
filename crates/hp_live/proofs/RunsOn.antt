-- An operation from section to section: what holds of its pass while it goes on, and where it ends. `start` is the pass as the
-- operation was taken up, `now` as it stands before a section, `next` after it.
use Rattle.std.proofs.Common.{◌≡◌, ℕ, Bool, true, false, ◌&&◌, is_some, Option, Some, List, [], refl, sym, ◌∙◌, subst}
use Rattle.std.proofs.lemmas.Bool.{false≢true}
use Rattle.hp_event.specs.declared.answer.Answer.{Answer}
use Rattle.hp_event.specs.declared.op.Op.{Op}
use Rattle.hp_event.specs.declared.head.Head.{Head}
use Rattle.hp_event.specs.declared.event.Event.{Event}
use Rattle.hp_hook.specs.Counted.{Counts}
use Rattle.hp_locks.specs.declared.why.Why.{Why}
use Rattle.hp_model.specs.Front.{StandsFor}
use Rattle.hp_model.specs.Seats.{is_busy}
use Rattle.hp_board.specs.Turns.{goes_on}
use Rattle.hp_board.specs.declared.turn.Ask.{Ask}
use Rattle.hp_board.specs.declared.turn.Turn.{Turn}
use Rattle.hp_board.specs.declared.turn.Turn.TheVariants.{Answered, NotYet}
use Rattle.hp_live.specs.declared.step.Stepped.{Stepped}
use Rattle.hp_live.specs.declared.step.Stepped.TheVariants.{Turned, Lent}
use Rattle.hp_live.specs.Grew.{Grew}
use Rattle.hp_live.specs.Known.{IsSamePass, Seated, Stays}
use Rattle.hp_live.specs.Runs.{ComesBack, IsAnswered, Halted, SteppedIn}
use Rattle.hp_live.specs.Sections.{CanAsk, TurnedIn, WantedIn, LentIn}
use Rattle.hp_live.proofs.Clients.{stays_self, stays_on, stays_seen, stays_turned}
use Rattle.hp_live.proofs.Growing.{grew_self, grew_seen, grew_on}
use Rattle.hp_live.proofs.HooksBack.{Kept, ask_same, comes_back, kept_on, wants_same}
use Rattle.hp_live.proofs.Idle.{answered_idle}
use Rattle.hp_live.proofs.Running.{Going, going_self, going_seen, going_more, going_answered, going_halted, turned_as, wanted_as}
use Rattle.hp_live.proofs.Turning.{asks_turned, asks_seen}

pub record RunsOn (start now : Seated) (op asked : Op) (hook : Bool) : Type 0 where
  pub same : IsSamePass start now
  pub op_is : asked ≡ op
  pub asks : CanAsk now.head now.front now.seat asked hook
  pub going : Going start.head start.seat op start.front now.front
  pub stays : Stays start.seat op start.front now.front

pub same_self : (s : Seated) → IsSamePass s s
same_self s = record { lock = refl; head = refl; seat = refl }

pub same_on : (a b c : Seated) → IsSamePass a b → IsSamePass b c → IsSamePass a c
same_on a b c s t = record { lock = t.lock ∙ s.lock; head = t.head ∙ s.head; seat = t.seat ∙ s.seat }

pub runs_self : (start : Seated) (op : Op) (hook : Bool) → CanAsk start.head start.front start.seat op hook → RunsOn start start op op hook
runs_self start op hook asks =
    record {
      same = same_self start;
      op_is = refl;
      asks = asks;
      going = going_self start.head start.seat op start.front;
      stays = stays_self start.seat op start.front;
    }

can_ask_as : (h g : Head) (front : List Event) (k j : ℕ) (o p : Op) (b : Bool) → g ≡ h → j ≡ k → p ≡ o → CanAsk h front k o b →
    CanAsk g front j p b
can_ask_as h g front k j o p b e s f a =
    subst (λ (x : Op). CanAsk g front j x b) (sym f)
    (subst (λ (x : ℕ). CanAsk g front x o b) (sym s) (subst (λ (x : Head). CanAsk x front k o b) (sym e) a))

lent_as : (h g : Head) (k j : ℕ) (old new : List Event) → h ≡ g → k ≡ j → LentIn h k old new → LentIn g j old new
lent_as h g k j old new e s l =
    subst (λ (x : ℕ). LentIn g x old new) s (subst (λ (x : Head). LentIn x k old new) e l)

pub runs_more : (start now next : Seated) (op asked again : Op) (had has : Bool) (turn : Turn) → RunsOn start now op asked had →
    IsSamePass now next → again ≡ asked → TurnedIn now.head now.seat asked had has now.front next.front turn → goes_on turn ≡ true →
    RunsOn start next op again has
runs_more start now next op asked again had has turn r same is t on =
    let u = turned_as start.head now.head op asked start.seat now.seat had has now.front next.front turn turn r.same.head r.same.seat
    r.op_is refl t in
    record {
      same = same_on start now next r.same same;
      op_is = is ∙ r.op_is;
      asks =
          can_ask_as now.head next.head next.front now.seat next.seat asked again has same.head same.seat is
          (asks_turned now.head now.seat asked had has now.front next.front turn t on);
      going = going_more start.head start.seat op had has start.front now.front next.front turn r.going u on;
      stays =
          stays_on start.seat op start.front now.front next.front r.stays
          (stays_turned start.head start.seat op had has now.front next.front turn u);
    }

pub runs_lent : (start now next : Seated) (op asked again : Op) (had has : Bool) → RunsOn start now op asked had →
    IsSamePass now next → again ≡ asked → LentIn now.head now.seat now.front next.front → has ≡ had → RunsOn start next op again has
runs_lent start now next op asked again had has r same is l hook =
    let m = lent_as now.head start.head now.seat start.seat now.front next.front r.same.head r.same.seat l in
    record {
      same = same_on start now next r.same same;
      op_is = is ∙ r.op_is;
      asks =
          can_ask_as now.head next.head next.front now.seat next.seat asked again has same.head same.seat is
          (asks_seen now.head now.seat asked had has now.front next.front l.seen l.lawful hook r.asks);
      going = going_seen start.head start.seat op start.front now.front next.front r.going m.seen m.lawful;
      stays =
          stays_on start.seat op start.front now.front next.front r.stays
          (stays_seen start.head start.seat op now.front next.front m.seen m.lawful);
    }

pub runs_ends : (start now next : Seated) (op asked : Op) (had has : Bool) (at : Option ℕ) (answer : Answer) →
    RunsOn start now op asked had → TurnedIn now.head now.seat asked had has now.front next.front (Answered at answer) →
    IsAnswered start.head start.seat op start.front next.front answer
runs_ends start now next op asked had has at answer r t =
    going_answered start.head start.seat op had has start.front now.front next.front at answer r.going
    (turned_as start.head now.head op asked start.seat now.seat had has now.front next.front (Answered at answer) (Answered at answer)
    r.same.head r.same.seat r.op_is refl t)

pub runs_idle : (start now next : Seated) (op asked : Op) (had has : Bool) (at : Option ℕ) (answer : Answer) →
    RunsOn start now op asked had → IsSamePass now next → TurnedIn now.head now.seat asked had has now.front next.front (Answered at answer) →
    is_busy next.seat next.front ≡ false
runs_idle start now next op asked had has at answer r same t =
    subst (λ (n : ℕ). is_busy n next.front ≡ false) (sym (same.seat ∙ r.same.seat))
    (answered_idle start.head start.seat op start.front next.front answer (runs_ends start now next op asked had has at answer r t))

pub runs_stays : (start now next : Seated) (op asked : Op) (had has : Bool) (turn : Turn) → RunsOn start now op asked had →
    TurnedIn now.head now.seat asked had has now.front next.front turn → Stays start.seat op start.front next.front
runs_stays start now next op asked had has turn r t =
    stays_on start.seat op start.front now.front next.front r.stays
    (stays_turned start.head start.seat op had has now.front next.front turn
    (turned_as start.head now.head op asked start.seat now.seat had has now.front next.front turn turn r.same.head r.same.seat r.op_is
    refl t))

wanted_start : (start now next : Seated) (op asked : Op) (had : Bool) → RunsOn start now op asked had →
    WantedIn now.head now.seat asked now.front next.front → WantedIn start.head start.seat op now.front next.front
wanted_start start now next op asked had r w =
    wanted_as start.head now.head op asked start.seat now.seat now.front next.front r.same.head r.same.seat r.op_is w

pub runs_halts : (start now next : Seated) (op asked : Op) (had : Bool) → RunsOn start now op asked had →
    WantedIn now.head now.seat asked now.front next.front → Halted start.head start.seat op start.front next.front
runs_halts start now next op asked had r w =
    let v = wanted_start start now next op asked had r w in
    going_halted start.head start.seat op start.front now.front next.front v.lawful r.going v

pub halts_stays : (start now next : Seated) (op asked : Op) (had : Bool) → RunsOn start now op asked had →
    WantedIn now.head now.seat asked now.front next.front → Stays start.seat op start.front next.front
halts_stays start now next op asked had r w =
    let v = wanted_start start now next op asked had r w in
    stays_on start.seat op start.front now.front next.front r.stays
    (stays_seen start.head start.seat op now.front next.front v.seen v.lawful)

pub halts_asks : (start now next : Seated) (op asked again : Op) (had has : Bool) → RunsOn start now op asked had →
    IsSamePass now next → again ≡ asked → WantedIn now.head now.seat asked now.front next.front → has ≡ had →
    CanAsk next.head next.front next.seat again has
halts_asks start now next op asked again had has r same is w hook =
    can_ask_as now.head next.head next.front now.seat next.seat asked again has same.head same.seat is
    (asks_seen now.head now.seat asked had has now.front next.front w.seen w.lawful hook r.asks)

-- with the hook that it was handed in with
pub halts_same : {H : Type 0} (start now next : Seated) (was before after : Ask H) → RunsOn start now was.op before.op (is_some before.hook) →
    Kept was.op was.hook before.hook → WantedIn now.head now.seat before.op now.front next.front → after ≡ before → after ≡ was
halts_same start now next was before after r kept w same =
    let v = wanted_start start now next was.op before.op (is_some before.hook) r w in
    let asks =
    can_ask_as now.head start.head next.front now.seat start.seat before.op was.op (is_some before.hook) (sym r.same.head) (sym r.same.seat)
    (sym r.op_is)
    (asks_seen now.head now.seat before.op (is_some before.hook) (is_some before.hook) now.front next.front w.seen w.lawful refl r.asks) in
    same ∙ ask_same was before r.op_is (wants_same start.head start.seat was.op was.hook before.hook now.front next.front kept asks v)

-- and waits for memory
pub wants_more : (start now next : Seated) (op asked again : Op) (had has : Bool) → RunsOn start now op asked had →
    IsSamePass now next → again ≡ asked → WantedIn now.head now.seat asked now.front next.front → has ≡ had → RunsOn start next op again has
wants_more start now next op asked again had has r same is w hook =
    runs_lent start now next op asked again had has r same is (record { seen = w.seen; lawful = w.lawful }) hook

-- the same of a step by what it did

pub stepped_lent : {H : Type 0} (seen : H → Counts) (head : Head) (k : ℕ) (op : Op) (was now : Option H) (old new : List Event)
    (stepped : Stepped) (state : ℕ) → stepped ≡ Lent state → SteppedIn seen head k op was now old new stepped →
    LentIn head k old new × (now ≡ was)
stepped_lent seen head k op was now old new stepped state is s = subst (SteppedIn seen head k op was now old new) is s

-- ---- and of the hook of its operation

stepped_as : {H : Type 0} (seen : H → Counts) (head h : Head) (k j : ℕ) (op o : Op) (was now : Option H) (old new : List Event)
    (stepped : Stepped) → h ≡ head → j ≡ k → o ≡ op → SteppedIn seen h j o was now old new stepped →
    SteppedIn seen head k op was now old new stepped
stepped_as seen head h k j op o was now old new stepped e s f x =
    subst (λ (y : Op). SteppedIn seen head k y was now old new stepped) f
    (subst (λ (y : ℕ). SteppedIn seen head y o was now old new stepped) s
    (subst (λ (y : Head). SteppedIn seen y j o was now old new stepped) e x))

stepped_start : {H : Type 0} (seen : H → Counts) (start now next : Seated) (op asked : Op) (mid after : Option H) (turn : Turn) →
    RunsOn start now op asked (is_some mid) →
    SteppedIn seen now.head now.seat asked mid after now.front next.front (Turned turn) →
    SteppedIn seen start.head start.seat op mid after now.front next.front (Turned turn)
stepped_start seen start now next op asked mid after turn r s =
    stepped_as seen start.head now.head start.seat now.seat op asked mid after now.front next.front (Turned turn) r.same.head r.same.seat
    r.op_is s

pub runs_kept : {H : Type 0} (seen : H → Counts) (start now next : Seated) (op asked : Op) (was mid after : Option H) (turn : Turn) →
    RunsOn start now op asked (is_some mid) → Kept op was mid →
    SteppedIn seen now.head now.seat asked mid after now.front next.front (Turned turn) → goes_on turn ≡ true → Kept op was after
runs_kept seen start now next op asked was mid after turn r kept s on =
    kept_on seen start.head start.seat op was mid after now.front next.front turn kept
    (stepped_start seen start now next op asked mid after turn r s) on

pub runs_back : {H : Type 0} (seen : H → Counts) (start now next : Seated) (op asked : Op) (was mid after : Option H) (at : Option ℕ)
    (answer : Answer) → RunsOn start now op asked (is_some mid) → Kept op was mid →
    SteppedIn seen now.head now.seat asked mid after now.front next.front (Turned (Answered at answer)) →
    ComesBack seen start.head start.seat op start.front next.front was after answer
runs_back seen start now next op asked was mid after at answer r kept s =
    comes_back seen start.head start.seat op was mid after start.front now.front next.front at answer r.going kept
    (stepped_start seen start now next op asked mid after (Answered at answer) r s)

-- ---- while nothing was made

pub fresh_self : (start : Seated) → Grew start.seat start.front start.front []
fresh_self start = grew_self start.seat start.front

fresh_seen : (start now next : Seated) → IsSamePass start now → Grew start.seat start.front now.front [] →
    StandsFor (Some now.seat) now.front next.front → Grew start.seat start.front next.front []
fresh_seen start now next same g seen =
    grew_on start.seat start.front now.front next.front [] [] g
    (grew_seen start.seat now.front next.front (subst (λ (n : ℕ). StandsFor (Some n) now.front next.front) same.seat seen))

pub fresh_waits : (start now next : Seated) (op : Op) (had has : Bool) (why : Why) → IsSamePass start now →
    Grew start.seat start.front now.front [] → TurnedIn now.head now.seat op had has now.front next.front (NotYet why) →
    Grew start.seat start.front next.front []
fresh_waits start now next op had has why same g t =
    fresh_seen start now next same g (subst (λ (w : List Event). StandsFor (Some now.seat) now.front w) (sym t.turned) t.seen)

pub fresh_lent : (start now next : Seated) → IsSamePass start now → Grew start.seat start.front now.front [] →
    LentIn now.head now.seat now.front next.front → Grew start.seat start.front next.front []
fresh_lent start now next same g l = fresh_seen start now next same g l.seen

pub fresh_wants : (start now next : Seated) (op : Op) → IsSamePass start now → Grew start.seat start.front now.front [] →
    WantedIn now.head now.seat op now.front next.front → Grew start.seat start.front next.front []
fresh_wants start now next op same g w = fresh_seen start now next same g w.seen

pub not_begun : (finishes begun : Bool) → (finishes && begun) ≡ false → finishes ≡ true → begun ≡ false
not_begun true begun waits is = waits
not_begun false begun waits is = absurd (false≢true is)

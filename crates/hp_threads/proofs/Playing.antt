-- An actor goes through its operations.
use Rattle.std.proofs.Common.{◌≡◌, ℕ, Bool, true, false, fold, is_some, Some, List, [], ◌∷◌, ◌++◌, map, length, refl, sym, ap, ◌∙◌, subst, append_assoc}
use Rattle.std.proofs.lemmas.Bool.{true≢false}
use Rattle.std.proofs.lemmas.List.{append-nil}
use Rattle.hp_actors.specs.Positions.{op_of}
use Rattle.hp_board.specs.declared.turn.Ask.{Ask}
use Rattle.hp_event.specs.declared.answer.Answer.{Answer}
use Rattle.hp_event.specs.declared.event.Event.{Event}
use Rattle.hp_event.specs.declared.event.Role.TheVariants.{Client}
use Rattle.hp_event.specs.declared.head.Head.{Head}
use Rattle.hp_event.specs.declared.op.Op.{Op}
use Rattle.hp_event.specs.declared.op.Op.TheVariants as op
use Rattle.hp_model.specs.Lawful.{IsLawful}
use Rattle.hp_model.specs.Scripts.{is_locked, lock_step}
use Rattle.hp_model.specs.Seats.{is_busy, role_of}
use Rattle.hp_live.specs.Known.{IsSamePass, Seated}
use Rattle.hp_live.specs.Runs.{IsAnswered, Halted}
use Rattle.hp_live.specs.Sections.{CanAsk, LeavesIn}
use Rattle.hp_live.proofs.Again.{going_ends, going_halts}
use Rattle.hp_live.proofs.Finishing.{can_ask}
use Rattle.hp_live.proofs.Running.{Going, going_self}
use Rattle.hp_live.proofs.RunsOn.{same_self, same_on}
use Rattle.hp_threads.specs.Acting.{IsDone, Plays, Acts}
use Rattle.hp_threads.specs.Jobs.{IsReady}

-- ---- one operation, which is asked for until it is answered

pub record Tries (start now : Seated) (op asked : Op) (hook : Bool) : Type 0 where
  pub same : IsSamePass start now
  pub op_is : asked ≡ op
  pub asks : CanAsk now.head now.front now.seat asked hook
  pub going : Going start.head start.seat op start.front now.front

pub tries_self : {H : Type 0} (start : Seated) (ask : Ask H) → role_of start.seat start.front ≡ Some Client →
    is_busy start.seat start.front ≡ false → IsReady start.head ask → Tries start start ask.op ask.op (is_some ask.hook)
tries_self start ask role idle ready =
    record {
      same = same_self start;
      op_is = refl;
      asks = can_ask start.head start.front start.seat ask.op (is_some ask.hook) role idle ready.has_sub ready.loaded;
      going = going_self start.head start.seat ask.op start.front;
    }

halted_as : (head h : Head) (k j : ℕ) (op o : Op) (old new : List Event) → h ≡ head → j ≡ k → o ≡ op → Halted h j o old new →
    Halted head k op old new
halted_as head h k j op o old new e s f x =
    subst (λ (y : Op). Halted head k y old new) f
    (subst (λ (y : ℕ). Halted head y o old new) s (subst (λ (y : Head). Halted y j o old new) e x))

answered_as : (head h : Head) (k j : ℕ) (op o : Op) (old new : List Event) (answer : Answer) → h ≡ head → j ≡ k → o ≡ op →
    IsAnswered h j o old new answer → IsAnswered head k op old new answer
answered_as head h k j op o old new answer e s f x =
    subst (λ (y : Op). IsAnswered head k y old new answer) f
    (subst (λ (y : ℕ). IsAnswered head y o old new answer) s (subst (λ (y : Head). IsAnswered y j o old new answer) e x))

pub tries_more : (start now next : Seated) (op asked again : Op) (had has : Bool) → Tries start now op asked had →
    IsSamePass now next → again ≡ asked → IsLawful next.head next.front → Halted now.head now.seat asked now.front next.front →
    CanAsk next.head next.front next.seat again has → Tries start next op again has
tries_more start now next op asked again had has t same is lawful halted asks =
    let here = same_on start now next t.same same in
    record {
      same = here;
      op_is = is ∙ t.op_is;
      asks = asks;
      going =
          going_halts start.head start.seat op start.front now.front next.front
          (subst (λ (h : Head). IsLawful h next.front) here.head lawful) t.going
          (halted_as start.head now.head start.seat now.seat op asked now.front next.front t.same.head t.same.seat t.op_is halted);
    }

pub tries_ends : (start now next : Seated) (op asked : Op) (had : Bool) (answer : Answer) → Tries start now op asked had →
    IsSamePass now next → IsLawful next.head next.front → IsAnswered now.head now.seat asked now.front next.front answer →
    IsDone start.head start.seat op start.front next.front
tries_ends start now next op asked had answer t same lawful answered =
    let here = same_on start now next t.same same in
    record {
      answer = answer;
      answered =
          going_ends start.head start.seat op start.front now.front next.front answer
          (subst (λ (h : Head). IsLawful h next.front) here.head lawful) t.going
          (answered_as start.head now.head start.seat now.seat op asked now.front next.front answer t.same.head t.same.seat t.op_is
          answered);
    }

-- ---- all of them

pub plays_more : (head : Head) (k : ℕ) (ops : List Op) (op : Op) (old mid new : List Event) → Plays head k ops old mid →
    IsDone head k op mid new → Plays head k (ops ++ op ∷ []) old new
plays_more head k [] op old mid new p d = (new, subst (λ (w : List Event). IsDone head k op w new) p d, refl)
plays_more head k (o ∷ ops) op old mid new p d = (p.0, p.1, plays_more head k ops op p.0 mid new p.2 d)

locked_more : (found : Bool) (ops : List Op) (op : Op) → fold lock_step found (ops ++ op ∷ []) ≡ lock_step (fold lock_step found ops) op
locked_more found [] op = refl
locked_more found (o ∷ ops) op = locked_more (lock_step found o) ops op

-- a step that locks from an open section, or from one that is as the operations say, locks
locks : (inside : Bool) (found : Bool) (asked : Op) → (inside ≡ true → found ≡ true) → lock_step inside asked ≡ true →
    lock_step found asked ≡ true
locks true found asked knew is = subst (λ b. lock_step b asked ≡ true) (sym (knew refl)) is
locks false found op.Lock knew is = refl
locks false found op.Unlock knew is = is
locks false found asked knew is = absurd (true≢false (sym is))

-- of all operations these are left, and the seat stands so
pub record Played (start : Seated) (all left : List Op) (now : Seated) (inside : Bool) : Type 0 where
  pub done : List Op
  pub whole : done ++ left ≡ all
  pub same : IsSamePass start now
  pub plays : Plays start.head start.seat done start.front now.front
  pub locked : inside ≡ true → is_locked done ≡ true

pub played_none : (start : Seated) (all left : List Op) → left ≡ all → Played start all left start false
played_none start all left is =
    record { done = []; whole = is; same = same_self start; plays = refl; locked = λ not. absurd (true≢false (sym not)) }

done_as : (head h : Head) (k j : ℕ) (op : Op) (old new : List Event) → h ≡ head → j ≡ k → IsDone h j op old new → IsDone head k op old new
done_as head h k j op old new e f d =
    subst (λ (x : ℕ). IsDone head x op old new) f (subst (λ (x : Head). IsDone x j op old new) e d)

pub played_one : (start now next : Seated) (all before after : List Op) (op : Op) (had has : Bool) → before ≡ op ∷ after →
    Played start all before now had → IsSamePass now next → IsDone now.head now.seat op now.front next.front →
    (has ≡ true → lock_step had op ≡ true) → Played start all after next has
played_one start now next all before after op had has is p same d locked =
    record {
      done = p.done ++ op ∷ [];
      whole = append_assoc p.done (op ∷ []) after ∙ ap (λ (w : List Op). p.done ++ w) (sym is) ∙ p.whole;
      same = same_on start now next p.same same;
      plays =
          plays_more start.head start.seat p.done op start.front now.front next.front p.plays
          (done_as start.head now.head start.seat now.seat op now.front next.front p.same.head p.same.seat d);
      locked = λ in_it.
          locked_more false p.done op ∙ locks had (is_locked p.done) op p.locked (locked in_it);
    }

all_done : (done left all : List Op) → left ≡ [] → done ++ left ≡ all → done ≡ all
all_done done left all none whole = sym (append-nil done) ∙ ap (λ (w : List Op). done ++ w) (sym none) ∙ whole

-- where none is left, and they don't end in a section, the seat is in none
pub played_out : (start : Seated) (all left : List Op) (now : Seated) (inside : Bool) → left ≡ [] → is_locked all ≡ false →
    Played start all left now inside → inside ≡ true → ⊥
played_out start all left now inside none unlocked p in_it =
    true≢false (sym (ap is_locked (sym (all_done p.done left all none p.whole)) ∙ p.locked in_it) ∙ unlocked)

pub played_all : (start : Seated) (all left : List Op) (now : Seated) (inside : Bool) (new : List Event) → left ≡ [] →
    Played start all left now inside → LeavesIn now.head now.seat now.front new → Acts start.head start.seat all start.front new
played_all start all left now inside new none p l =
    record {
      last = now.front;
      plays =
          subst (λ (w : List Op). Plays start.head start.seat w start.front now.front) (all_done p.done left all none p.whole) p.plays;
      leaves =
          subst (λ (k : ℕ). LeavesIn start.head k now.front new) p.same.seat
          (subst (λ (h : Head). LeavesIn h now.seat now.front new) p.same.head l);
    }

pub none_left : {H : Type 0} (asks : List (Ask H)) → length asks ≡ 0 → map op_of asks ≡ []
none_left [] none = refl
none_left (ask ∷ asks) none = absurd (cc none)

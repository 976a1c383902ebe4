-- An event has no fault exactly where it can stand.
use Rattle.std.proofs.Common.{◌≡◌, ℕ, ◌<◌, Bool, true, false, cond, eqb, leb, ◌||◌, ◌&&◌, Option, Some, None, IfSome, OnSome, refl, ap, ◌∙◌, arith}
use Rattle.std.proofs.lemmas.Bool.{eqb-true, eq-eqb, leb-true, leb-false, and_parts}
use Rattle.hp_trace.specs.declared.event.Function.{Function}
use Rattle.hp_trace.specs.declared.event.Function.TheVariants.{Mark, Callback}
use Rattle.hp_trace.specs.declared.event.Payload.TheVariants.{Entered, Left}
use Rattle.hp_trace.specs.declared.event.Payload.{Payload}
use Rattle.hp_trace.specs.declared.nest.Open.{Open}
use Rattle.hp_trace.specs.declared.nest.Nest.{Nest}
use Rattle.hp_trace.specs.declared.nest.Fault.TheVariants.{OfAnother, NotLast, NotOwn}
use Rattle.hp_trace.specs.Nest.{IsOwn, OfPayload, last_open, is_own, not_own, room, within, unlike, fault_at}

-- ---- on its own processor

by_border : (b step cpu n : ℕ) (low same : Bool) → leb step b ≡ low → eqb n cpu ≡ same → cond (low || same) None (Some (NotOwn n)) ≡ None → b < step → n ≡ cpu
by_border b step cpu n true same l s h lt = absurd (omega (arith, leb-true step b l, lt))
by_border b step cpu n false true l s h lt = eqb-true n cpu s
by_border b step cpu n false false l s h lt = absurd cc

own_gives : (border : Option ℕ) (step cpu : ℕ) (on : Option ℕ) → not_own (is_own border step cpu on) on ≡ None → IsOwn border step cpu on
own_gives None step cpu on h = tt
own_gives (Some b) step cpu None h = λ lt. tt
own_gives (Some b) step cpu (Some n) h = λ lt. by_border b step cpu n (leb step b) (eqb n cpu) refl refl h lt

from_border : (b step cpu n : ℕ) (low same : Bool) → leb step b ≡ low → eqb n cpu ≡ same → (b < step → n ≡ cpu) → cond (low || same) None (Some (NotOwn n)) ≡ None
from_border b step cpu n true same l s h = refl
from_border b step cpu n false true l s h = refl
from_border b step cpu n false false l s h =
    let is : n ≡ cpu = h (omega (arith, leb-false step b l)) in
    let yes : eqb n cpu ≡ true = eq-eqb n cpu is in
    absurd cc

own_takes : (border : Option ℕ) (step cpu : ℕ) (on : Option ℕ) → IsOwn border step cpu on → not_own (is_own border step cpu on) on ≡ None
own_takes None step cpu None h = refl
own_takes None step cpu (Some n) h = refl
own_takes (Some b) step cpu None h = refl
own_takes (Some b) step cpu (Some n) h = from_border b step cpu n (leb step b) (eqb n cpu) refl refl h

-- ---- an enter

same_mark : (m : Open) (cpu : ℕ) (t : Bool) → eqb m.cpu cpu ≡ t → cond t None (Some (OfAnother m)) ≡ None → m.cpu ≡ cpu
same_mark m cpu true e h = eqb-true m.cpu cpu e
same_mark m cpu false e h = absurd cc

pub record MayEnter (call mark : Option Open) (border on : Option ℕ) (cpu step : ℕ) (function : Function) : Type 0 where
  pub no_call : call ≡ None
  pub same : IfSome mark (λ m. m.cpu ≡ cpu)
  pub alone : (m : _) → function ≡ Mark m → mark ≡ None
  pub own : function ≡ Callback → IsOwn border step cpu on

in_mark : (m : Open) (border on : Option ℕ) (cpu step : ℕ) (function : Function) (t : Bool) → eqb m.cpu cpu ≡ t →
    within (cond t None (Some (OfAnother m))) function (Some m) (not_own (is_own border step cpu on) on) ≡ None →
    MayEnter None (Some m) border on cpu step function
in_mark m border on cpu step (Mark k) true e h = absurd cc
in_mark m border on cpu step Callback true e h = record {
  no_call = refl;
  same = eqb-true m.cpu cpu e;
  alone = λ k is. absurd cc;
  own = λ is. own_gives border step cpu on h;
}
in_mark m border on cpu step function false e h = absurd cc

enter_gives : (call mark : Option Open) (border on : Option ℕ) (cpu step : ℕ) (function : Function) →
    within (room call mark cpu) function mark (not_own (is_own border step cpu on) on) ≡ None → MayEnter call mark border on cpu step function
enter_gives (Some c) mark border on cpu step function h = absurd cc
enter_gives None (Some m) border on cpu step function h = in_mark m border on cpu step function (eqb m.cpu cpu) refl h
enter_gives None None border on cpu step (Mark k) h = record {
  no_call = refl;
  same = tt;
  alone = λ m is. refl;
  own = λ is. absurd cc;
}
enter_gives None None border on cpu step Callback h = record {
  no_call = refl;
  same = tt;
  alone = λ m is. refl;
  own = λ is. own_gives border step cpu on h;
}

enter_takes : (call mark : Option Open) (border on : Option ℕ) (cpu step : ℕ) (function : Function) → MayEnter call mark border on cpu step function →
    within (room call mark cpu) function mark (not_own (is_own border step cpu on) on) ≡ None
enter_takes (Some c) mark border on cpu step function may = let none = may.no_call in absurd cc
enter_takes None (Some m) border on cpu step (Mark k) may = let none = may.alone k refl in absurd cc
enter_takes None (Some m) border on cpu step Callback may =
    let same : eqb m.cpu cpu ≡ true = eq-eqb m.cpu cpu may.same in
    rw same (own_takes border step cpu on (may.own refl))
enter_takes None None border on cpu step (Mark k) may = refl
enter_takes None None border on cpu step Callback may = own_takes border step cpu on (may.own refl)

-- ---- an exit

pub record MayLeave (call mark : Option Open) (border on : Option ℕ) (cpu step : ℕ) : Type 0 where
  pub top : Open
  pub last : last_open call mark ≡ Some top
  pub same_cpu : top.cpu ≡ cpu
  pub same_step : top.step ≡ step
  pub own : OnSome call (IsOwn border step cpu on)

of_call : (c : Open) (mark : Option Open) (border on : Option ℕ) (cpu step : ℕ) (t : Bool) → (eqb c.cpu cpu && eqb c.step step) ≡ t →
    cond t (not_own (is_own border step cpu on) on) (Some (NotLast c)) ≡ None → MayLeave (Some c) mark border on cpu step
of_call c mark border on cpu step true e h =
    let p = and_parts (eqb c.cpu cpu) (eqb c.step step) e in
    record {
      top = c;
      last = refl;
      same_cpu = eqb-true _ _ p.0;
      same_step = eqb-true _ _ p.1;
      own = own_gives border step cpu on h;
    }
of_call c mark border on cpu step false e h = absurd cc

of_mark : (m : Open) (border on : Option ℕ) (cpu step : ℕ) (t : Bool) → (eqb m.cpu cpu && eqb m.step step) ≡ t →
    cond t None (Some (NotLast m)) ≡ None → MayLeave None (Some m) border on cpu step
of_mark m border on cpu step true e h =
    let p = and_parts (eqb m.cpu cpu) (eqb m.step step) e in
    record {
      top = m;
      last = refl;
      same_cpu = eqb-true _ _ p.0;
      same_step = eqb-true _ _ p.1;
      own = tt;
    }
of_mark m border on cpu step false e h = absurd cc

exit_gives : (call mark : Option Open) (border on : Option ℕ) (cpu step : ℕ) →
    unlike call mark cpu step (not_own (is_own border step cpu on) on) ≡ None → MayLeave call mark border on cpu step
exit_gives (Some c) mark border on cpu step h = of_call c mark border on cpu step (eqb c.cpu cpu && eqb c.step step) refl h
exit_gives None (Some m) border on cpu step h = of_mark m border on cpu step (eqb m.cpu cpu && eqb m.step step) refl h
exit_gives None None border on cpu step h = absurd cc

exit_takes : (call mark : Option Open) (border on : Option ℕ) (cpu step : ℕ) → MayLeave call mark border on cpu step →
    unlike call mark cpu step (not_own (is_own border step cpu on) on) ≡ None
exit_takes (Some c) mark border on cpu step may =
    let top : c ≡ may.top = let l = may.last in cc in
    let one : eqb c.cpu cpu ≡ true = eq-eqb _ _ (ap (λ (o : Open). o.cpu) top ∙ may.same_cpu) in
    let two : eqb c.step step ≡ true = eq-eqb _ _ (ap (λ (o : Open). o.step) top ∙ may.same_step) in
    rw (one, two) (own_takes border step cpu on may.own)
exit_takes None (Some m) border on cpu step may =
    let top : m ≡ may.top = let l = may.last in cc in
    let one : eqb m.cpu cpu ≡ true = eq-eqb _ _ (ap (λ (o : Open). o.cpu) top ∙ may.same_cpu) in
    let two : eqb m.step step ≡ true = eq-eqb _ _ (ap (λ (o : Open). o.step) top ∙ may.same_step) in
    rw (one, two) refl
exit_takes None None border on cpu step may = let l = may.last in absurd cc

-- ---- both

pub fault_gives : (s : Nest) (on : Option ℕ) (p : Payload) → fault_at s on p ≡ None → OfPayload s on p
fault_gives s on (Entered multi cpu target step function) h =
    let may = enter_gives s.call s.mark s.border on cpu step function h in
    record {
      no_call = may.no_call;
      same = may.same;
      alone = may.alone;
      own = may.own;
    }
fault_gives s on (Left cpu state step code) h =
    let may = exit_gives s.call s.mark s.border on cpu step h in
    record {
      top = may.top;
      last = may.last;
      same_cpu = may.same_cpu;
      same_step = may.same_step;
      own = may.own;
    }

pub fault_takes : (s : Nest) (on : Option ℕ) (p : Payload) → OfPayload s on p → fault_at s on p ≡ None
fault_takes s on (Entered multi cpu target step function) may = enter_takes s.call s.mark s.border on cpu step function (record {
  no_call = may.no_call;
  same = may.same;
  alone = may.alone;
  own = may.own;
})
fault_takes s on (Left cpu state step code) may = exit_takes s.call s.mark s.border on cpu step (record {
  top = may.top;
  last = may.last;
  same_cpu = may.same_cpu;
  same_step = may.same_step;
  own = may.own;
})

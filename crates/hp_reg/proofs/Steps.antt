-- One step of a registration: what is asked for goes on with the entries so far, and once it is made the registration
-- stands after it.
use Rattle.std.proofs.Common.{◌≡◌, ℕ, zero, suc, ◌+◌, ◌-◌, ◌*◌, ◌<◌, ◌≤◌, Bool, true, false, cond, not, ◌||◌, Option, Some, None, List, [], ◌∷◌, ◌++◌, length, refl, ap, sym, ◌∙◌, arith}
use Rattle.std.specs.Prelude.{AllPairs}
use Rattle.std.proofs.lemmas.Bool.{false≢true}
use Rattle.std.proofs.lemmas.List.{append-nil}
use Rattle.std.proofs.lemmas.List.Elements.{filter_map-append}
use Rattle.hp_states.proofs.Basics.{not_not}
use Rattle.hp_states.specs.declared.dir.Dir.{Dir}
use Rattle.hp_states.specs.declared.place.Place.{Place}
use Rattle.hp_states.specs.declared.place.Place.TheVariants.{Undo, Remove}
use Rattle.hp_states.specs.Sections.{can_fail}
use Rattle.hp_event.specs.declared.op.Op.{Op}
use Rattle.hp_event.specs.declared.key.Key.{Key}
use Rattle.hp_event.specs.declared.how.How.{How}
use Rattle.hp_event.specs.declared.how.How.TheVariants.{RanOk, RanFault, Injected, Empty, Presumed, Overruled}
use Rattle.hp_event.specs.declared.event.Event.{Event}
use Rattle.hp_event.specs.declared.event.Event.TheVariants as event
use Rattle.hp_states.specs.declared.limits.TheConstants.{EAGAIN}
use Rattle.hp_model.specs.Entries.{is_done, fault_of, code_of, codes_of_faults}
use Rattle.hp_model.specs.Crossing.{Slot}
use Rattle.hp_model.specs.How.{fits}
use Rattle.hp_model.specs.RegistrationShape.{is_adding, ok_value, Registering, IsRegistrationAnswer}
use Rattle.hp_model.proofs.NextSlot.{with_fails, Tree, stop, dead, step}
use Rattle.hp_model.proofs.NextRegistration.{down_tree, add_tree, registration_tree}
use Rattle.hp_model.proofs.Cursor.{IsLive, runs_more}
use Rattle.hp_model.proofs.RegistrationCursor.{outcome_of}
use Rattle.hp_model.proofs.RegistrationCursor.{sound_down, sound_add, next_slot_of, end_of_registration}
use Rattle.hp_reg.specs.declared.phase.Phase.{Phase}
use Rattle.hp_reg.specs.declared.phase.Phase.TheVariants.{Making, Undoing}
use Rattle.hp_reg.specs.declared.step.RegStep.{RegStep}
use Rattle.hp_reg.specs.declared.step.RegStep.TheVariants.{Call}
use Rattle.hp_reg.specs.Progress.{Progress, from_on, below, cpus_left, past_done, past}
use Rattle.hp_reg.specs.Asked.{direction, place, answer_in, answer, call_or_end, asked}
use Rattle.hp_reg.specs.After.{tree_in, tree_left, codes_in, IsAfter, IsWhole, GoesOnBy, GoesOn}
use Rattle.hp_reg.specs.CallsLeft.{adds_left, calls_in, calls_left}
use Rattle.hp_reg.proofs.Rising.{Rises, rises_of, rises-below, from_start, below_start, split_length, lowest_from}

-- the slot of the entry on a processor
abbrev pub slot_on : Phase → (adding : Bool) → (state inst cpu : ℕ) → Slot
slot_on ph adding s i c =
    record { cpu = c; state = s; inst = i; dir = direction ph adding; place = place ph adding; first = false; fails = false }

-- where a processor is left, what can still follow begins with its entry
pub record IsAtStep (ph : Phase) (adding : Bool) (s i : ℕ) (cpus : List ℕ) (c : ℕ) : Type 0 where
  pub done_tree : Tree
  pub fault_tree : Tree
  pub tree_is : tree_in ph adding s i cpus ≡ step (slot_on ph adding s i c) done_tree fault_tree
  pub done_live : IsLive done_tree
  pub done_is : done_tree ≡ tree_in (past_done ph c) adding s i cpus
  pub same_codes : codes_in (past_done ph c) ≡ codes_in ph
  pub fault_live : can_fail (direction ph adding) s (place ph adding) ≡ true → IsLive fault_tree
  pub fault_is : can_fail (direction ph adding) s (place ph adding) ≡ true → (code : ℕ) →
      fault_tree ≡ tree_in (Undoing 0 c code) adding s i cpus
  pub no_codes : can_fail (direction ph adding) s (place ph adding) ≡ true → codes_in ph ≡ []

pub at_step : (ph : Phase) (adding : Bool) (s i : ℕ) (cpus : List ℕ) (c : ℕ) (others : List ℕ) → Rises cpus →
    cpus_left ph cpus ≡ c ∷ others → IsAtStep ph adding s i cpus c
at_step (Making from) true s i cpus c others r e =
    let l = lowest_from from cpus c others r e in
    record {
      done_tree = add_tree s i (below from cpus ++ c ∷ []) others;
      fault_tree = down_tree Undo s i (below from cpus);
      tree_is = rw e refl;
      done_live = (sound_add s i (below from cpus ++ c ∷ []) others).0;
      done_is = rw (l.after, l.done) refl;
      same_codes = refl;
      fault_live = λ h. (sound_down Undo s i (below from cpus)).0;
      fault_is = λ h code. rw (from_start, l.before) refl;
      no_codes = λ h. refl;
    }
at_step (Making from) false s i cpus c others r e =
    let l = lowest_from from cpus c others r e in
    record {
      done_tree = down_tree Remove s i others;
      fault_tree = dead;
      tree_is = rw e refl;
      done_live = (sound_down Remove s i others).0;
      done_is = rw l.after refl;
      same_codes = refl;
      fault_live = λ h. absurd (false≢true h);
      fault_is = λ h code. absurd (false≢true h);
      no_codes = λ h. refl;
    }
at_step (Undoing from failed code) adding s i cpus c others r e =
    let l = lowest_from from (below failed cpus) c others (rises-below failed cpus r) e in
    record {
      done_tree = down_tree Undo s i others;
      fault_tree = dead;
      tree_is = rw e refl;
      done_live = (sound_down Undo s i others).0;
      done_is = rw l.after refl;
      same_codes = refl;
      fault_live = λ h. absurd (false≢true h);
      fault_is = λ h code. absurd (false≢true h);
      no_codes = λ h. absurd (false≢true h);
    }

-- where none is left, nothing can follow
pub at_end : (ph : Phase) (adding : Bool) (s i : ℕ) (cpus : List ℕ) → cpus_left ph cpus ≡ [] → tree_in ph adding s i cpus ≡ stop
at_end (Making from) true s i cpus e = rw e refl
at_end (Making from) false s i cpus e = rw e refl
at_end (Undoing from failed code) adding s i cpus e = rw e refl

answered : (ph : Phase) (value : ℕ) (es : List Event) (o : Registering) → o ≡ outcome_of (codes_in ph) →
    codes_of_faults es ≡ codes_in ph → IsRegistrationAnswer o value es (answer_in ph value)
answered (Making from) value es o e h = rw e refl
answered (Undoing from failed code) value es o e h = rw e (code, h, refl)

whole : (key : Option ℕ) (cpus : List ℕ) (es : List Event) (p : Progress) → IsAfter key cpus es p → tree_left key cpus p ≡ stop →
    IsWhole key cpus es p (answer p)
whole key cpus es p h e =
    let w = end_of_registration (is_adding p.op) p.state key cpus es (rw e at h.leads) in
    record {
      outcome = w.outcome;
      slots = w.slots;
      shape = w.shape;
      filled = w.filled;
      answered =
          answered p.phase (ok_value p.op p.state) es w.outcome (w.outcome_is ∙ ap outcome_of h.codes) h.codes;
    }

branch_live : (done can : Bool) (a b : Tree) → IsLive a → (can ≡ true → IsLive b) → (done || can) ≡ true →
    IsLive (cond (not done) b a)
branch_live true can a b l m h = l
branch_live false can a b l m h = m h

by : (i : ℕ) (cpus : List ℕ) (es : List Event) (p : Progress) (c : ℕ) (others : List ℕ) → IsAfter (Some i) cpus es p →
    cpus_left p.phase cpus ≡ c ∷ others →
    GoesOnBy (Some i) cpus es p c (record { state = p.state; inst = i }) (direction p.phase (is_adding p.op)) (place p.phase (is_adding p.op))
by i cpus es p c others h e seat how f =
    let adding = is_adding p.op in
    let a = at_step p.phase adding p.state i cpus c others (rises_of cpus h.rising) e in
    let slot = slot_on p.phase adding p.state i c in
    let live = branch_live (is_done how) (can_fail (direction p.phase adding) p.state (place p.phase adding)) a.done_tree a.fault_tree
    a.done_live a.fault_live f in
    let n = next_slot_of adding p.state (Some i) cpus es slot a.done_tree a.fault_tree (not (is_done how)) (rw a.tree_is at h.leads) live in
    record {
      outcome = n.outcome;
      slots = n.slots;
      shape = n.shape;
      slot = with_fails slot (not (is_done how));
      is_next = n.is_next;
      fits = (refl, refl, refl, refl, not_not (is_done how));
      place_is = refl;
    }

-- what is asked for goes on with the entries so far
pub goes_on : (key : Option ℕ) (cpus : List ℕ) (es : List Event) (p : Progress) → IsAfter key cpus es p →
    GoesOn key cpus es p (asked key cpus p)
goes_on None cpus es p h = whole None cpus es p h refl
goes_on (Some i) cpus es p h = go (cpus_left p.phase cpus) refl
  where
    go : (left : List ℕ) → cpus_left p.phase cpus ≡ left → GoesOn (Some i) cpus es p (call_or_end p i left)
    go [] e = whole (Some i) cpus es p h (at_end p.phase (is_adding p.op) p.state i cpus e)
    go (c ∷ others) e = by i cpus es p c others h e

pub goes_on_by : (key : Option ℕ) (cpus : List ℕ) (es : List Event) (p : Progress) (next : RegStep) → next ≡ asked key cpus p →
    IsAfter key cpus es p → GoesOn key cpus es p next
goes_on_by key cpus es p next e h = rw e (goes_on key cpus es p h)

-- before the first entry
start_tree : (adding : Bool) (s i : ℕ) (cpus : List ℕ) → registration_tree adding s (Some i) cpus ≡ tree_in (Making 0) adding s i cpus
start_tree true s i cpus = rw (below_start cpus, from_start cpus) refl
start_tree false s i cpus = rw (from_start cpus) refl

pub begun : (op : Op) (state : ℕ) (key : Option ℕ) (cpus : List ℕ) → AllPairs (λ c d. c < d) cpus →
    IsAfter key cpus [] (record { op = op; state = state; phase = Making 0 })
begun op state key cpus rising = record { rising = rising; leads = start key; codes = refl }
  where
    start : (key : Option ℕ) →
        registration_tree (is_adding op) state key cpus ≡ tree_left key cpus (record { op = op; state = state; phase = Making 0 })
    start None = refl
    start (Some i) = start_tree (is_adding op) state i cpus

few_adds : (n : ℕ) → adds_left n n ≤ 2 * n - 1
few_adds zero = omega arith
few_adds (suc n) = omega arith

pub few_calls : (op : Op) (state : ℕ) (key : Option ℕ) (cpus : List ℕ) →
    calls_left key cpus (record { op = op; state = state; phase = Making 0 }) ≤ 2 * length cpus - 1
few_calls op state None cpus = omega arith
few_calls op state (Some i) cpus = go (is_adding op)
  where
    go : (adding : Bool) → calls_in (Making 0) adding (length (from_on 0 cpus)) (length cpus) ≤ 2 * length cpus - 1
    go true = rw (from_start cpus) (few_adds (length cpus))
    go false = rw (from_start cpus) (omega arith)

-- once the entry is made
abbrev pub moved : Progress → (cpu : ℕ) → How → Progress
moved p c how = record { op = p.op; state = p.state; phase = past p.phase c (fault_of how) }

branch_is : (ph : Phase) (adding : Bool) (s i : ℕ) (cpus : List ℕ) (c : ℕ) (a : IsAtStep ph adding s i cpus c) (how : How) →
    fits how (direction ph adding) s (place ph adding) ≡ true →
    cond (not (is_done how)) a.fault_tree a.done_tree ≡ tree_in (past ph c (fault_of how)) adding s i cpus
branch_is ph adding s i cpus c a RanOk f = a.done_is
branch_is ph adding s i cpus c a (RanFault code) f = a.fault_is f code
branch_is ph adding s i cpus c a Injected f = a.fault_is f EAGAIN
branch_is ph adding s i cpus c a Empty f = a.done_is
branch_is ph adding s i cpus c a Presumed f = a.done_is
branch_is ph adding s i cpus c a (Overruled code) f = a.done_is

one_done : (es : List Event) (e : Event) (before after : List ℕ) → codes_of_faults (e ∷ []) ≡ [] → codes_of_faults es ≡ before →
    after ≡ before → codes_of_faults (es ++ e ∷ []) ≡ after
one_done es e before after none h same =
    rw (filter_map-append code_of es (e ∷ []), none, append-nil (codes_of_faults es)) (h ∙ sym same)

one_fault : (es : List Event) (e : Event) (before : List ℕ) (code : ℕ) → codes_of_faults (e ∷ []) ≡ code ∷ [] → codes_of_faults es ≡ before →
    before ≡ [] → codes_of_faults (es ++ e ∷ []) ≡ code ∷ []
one_fault es e before code one h none = rw (filter_map-append code_of es (e ∷ []), one, h, none) refl

codes_are : (ph : Phase) (adding : Bool) (s i : ℕ) (cpus : List ℕ) (c : ℕ) (a : IsAtStep ph adding s i cpus c) (es : List Event)
    (seat : ℕ) (how : How) → fits how (direction ph adding) s (place ph adding) ≡ true → codes_of_faults es ≡ codes_in ph →
    codes_of_faults (es ++ event.Call seat c s i (direction ph adding) how ∷ []) ≡ codes_in (past ph c (fault_of how))
codes_are ph adding s i cpus c a es seat RanOk f h = one_done es _ (codes_in ph) (codes_in (past_done ph c)) refl h a.same_codes
codes_are ph adding s i cpus c a es seat (RanFault code) f h = one_fault es _ (codes_in ph) code refl h (a.no_codes f)
codes_are ph adding s i cpus c a es seat Injected f h = one_fault es _ (codes_in ph) EAGAIN refl h (a.no_codes f)
codes_are ph adding s i cpus c a es seat Empty f h = one_done es _ (codes_in ph) (codes_in (past_done ph c)) refl h a.same_codes
codes_are ph adding s i cpus c a es seat Presumed f h = one_done es _ (codes_in ph) (codes_in (past_done ph c)) refl h a.same_codes
codes_are ph adding s i cpus c a es seat (Overruled code) f h =
    one_done es _ (codes_in ph) (codes_in (past_done ph c)) refl h a.same_codes

taken_on : (i : ℕ) (cpus : List ℕ) (es : List Event) (p : Progress) (c : ℕ) (others : List ℕ) (seat : ℕ) (how : How) →
    IsAfter (Some i) cpus es p → cpus_left p.phase cpus ≡ c ∷ others →
    fits how (direction p.phase (is_adding p.op)) p.state (place p.phase (is_adding p.op)) ≡ true →
    IsAfter (Some i) cpus (es ++ event.Call seat c p.state i (direction p.phase (is_adding p.op)) how ∷ []) (moved p c how)
taken_on i cpus es p c others seat how h e f =
    let adding = is_adding p.op in
    let a = at_step p.phase adding p.state i cpus c others (rises_of cpus h.rising) e in
    record {
      rising = h.rising;
      leads =
          rw (← branch_is p.phase adding p.state i cpus c a how f)
          (runs_more (registration_tree adding p.state (Some i) cpus) es (slot_on p.phase adding p.state i c) a.done_tree a.fault_tree
          (not (is_done how)) (event.Call seat c p.state i (direction p.phase adding) how) (rw a.tree_is at h.leads)
          (refl, refl, refl, refl, not_not (is_done how)));
      codes = codes_are p.phase adding p.state i cpus c a es seat how f h.codes;
    }

-- an entry that is asked for is on the first processor that is left
pub record IsAskedOn (i : ℕ) (cpus : List ℕ) (p : Progress) (cpu : ℕ) (k : Key) (dir : Dir) (at : Place) : Type 0 where
  pub others : List ℕ
  pub left_is : cpus_left p.phase cpus ≡ cpu ∷ others
  pub key_is : k ≡ record { state = p.state; inst = i }
  pub dir_is : dir ≡ direction p.phase (is_adding p.op)
  pub place_is : at ≡ place p.phase (is_adding p.op)

asked_on : (i : ℕ) (cpus : List ℕ) (p : Progress) (cpu : ℕ) (k : Key) (dir : Dir) (at : Place) →
    asked (Some i) cpus p ≡ Call cpu k dir at → IsAskedOn i cpus p cpu k dir at
asked_on i cpus p cpu k dir at h = go (cpus_left p.phase cpus) refl h
  where
    go : (left : List ℕ) → cpus_left p.phase cpus ≡ left → call_or_end p i left ≡ Call cpu k dir at → IsAskedOn i cpus p cpu k dir at
    go [] e a = absurd (cc)
    go (c ∷ cs) e a =
        let same : c ≡ cpu = cc in record { others = cs; left_is = rw (← same) e; key_is = cc; dir_is = cc; place_is = cc }

pub taken : (key : Option ℕ) (cpus : List ℕ) (es : List Event) (p q : Progress) (seat cpu : ℕ) (k : Key) (dir : Dir) (at : Place)
    (how : How) → q ≡ moved p cpu how → IsAfter key cpus es p → asked key cpus p ≡ Call cpu k dir at →
    fits how dir k.state at ≡ true → IsAfter key cpus (es ++ event.Call seat cpu k.state k.inst dir how ∷ []) q
taken None cpus es p q seat cpu k dir at how e h a f = absurd (cc)
taken (Some i) cpus es p q seat cpu k dir at how e h a f =
    let o = asked_on i cpus p cpu k dir at a in
    rw (e, o.key_is, o.dir_is) (taken_on i cpus es p cpu o.others seat how h o.left_is (rw (o.key_is, o.dir_is, o.place_is) at f))

-- less is left after each entry
fewer_adds : (k n : ℕ) → k < n → adds_left k n < k + n
fewer_adds zero n h = omega arith
fewer_adds (suc k) n h = omega arith

less_done : (ph : Phase) (adding : Bool) (cpus : List ℕ) (c : ℕ) (others : List ℕ) → Rises cpus → cpus_left ph cpus ≡ c ∷ others →
    calls_in (past_done ph c) adding (length (cpus_left (past_done ph c) cpus)) (length cpus)
    < calls_in ph adding (length (cpus_left ph cpus)) (length cpus)
less_done (Making from) true cpus c others r e =
    let l = lowest_from from cpus c others r e in
    let all : length (below from cpus) + length (from_on from cpus) ≡ length cpus = split_length from cpus in
    let more : length (from_on from cpus) ≡ length (c ∷ others) = ap length e in
    rw (l.after, e) (fewer_adds (length others) (length cpus) (omega arith))
less_done (Making from) false cpus c others r e =
    let l = lowest_from from cpus c others r e in rw (l.after, e) (omega arith)
less_done (Undoing from failed code) adding cpus c others r e =
    let l = lowest_from from (below failed cpus) c others (rises-below failed cpus r) e in rw (l.after, e) (omega arith)

less_fault : (ph : Phase) (adding : Bool) (s : ℕ) (cpus : List ℕ) (c : ℕ) (others : List ℕ) (code : ℕ) → Rises cpus →
    cpus_left ph cpus ≡ c ∷ others → can_fail (direction ph adding) s (place ph adding) ≡ true →
    calls_in (Undoing 0 c code) adding (length (cpus_left (Undoing 0 c code) cpus)) (length cpus)
    < calls_in ph adding (length (cpus_left ph cpus)) (length cpus)
less_fault (Making from) true s cpus c others code r e f =
    let l = lowest_from from cpus c others r e in
    let all : length (below from cpus) + length (from_on from cpus) ≡ length cpus = split_length from cpus in
    let more : length (from_on from cpus) ≡ length (c ∷ others) = ap length e in
    rw (from_start, l.before, e) (omega arith)
less_fault (Making from) false s cpus c others code r e f = absurd (false≢true f)
less_fault (Undoing from failed kept) adding s cpus c others code r e f = absurd (false≢true f)

less_so : (ph : Phase) (adding : Bool) (s : ℕ) (cpus : List ℕ) (c : ℕ) (others : List ℕ) (how : How) → Rises cpus →
    cpus_left ph cpus ≡ c ∷ others → fits how (direction ph adding) s (place ph adding) ≡ true →
    calls_in (past ph c (fault_of how)) adding (length (cpus_left (past ph c (fault_of how)) cpus)) (length cpus)
    < calls_in ph adding (length (cpus_left ph cpus)) (length cpus)
less_so ph adding s cpus c others RanOk r e f = less_done ph adding cpus c others r e
less_so ph adding s cpus c others (RanFault code) r e f = less_fault ph adding s cpus c others code r e f
less_so ph adding s cpus c others Injected r e f = less_fault ph adding s cpus c others EAGAIN r e f
less_so ph adding s cpus c others Empty r e f = less_done ph adding cpus c others r e
less_so ph adding s cpus c others Presumed r e f = less_done ph adding cpus c others r e
less_so ph adding s cpus c others (Overruled code) r e f = less_done ph adding cpus c others r e

pub less : (key : Option ℕ) (cpus : List ℕ) (p q : Progress) (cpu : ℕ) (k : Key) (dir : Dir) (at : Place) (how : How) →
    q ≡ moved p cpu how → AllPairs (λ c d. c < d) cpus → asked key cpus p ≡ Call cpu k dir at →
    fits how dir k.state at ≡ true → calls_left key cpus q < calls_left key cpus p
less None cpus p q cpu k dir at how e h a f = absurd (cc)
less (Some i) cpus p q cpu k dir at how e h a f =
    let o = asked_on i cpus p cpu k dir at a in
    rw e
    (less_so p.phase (is_adding p.op) p.state cpus cpu o.others how (rises_of cpus h) o.left_is
    (rw (o.key_is, o.dir_is, o.place_is) at f))

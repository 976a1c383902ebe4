-- Which hook comes back with the answer of an operation, and that none is missed where memory is wanting.
use Rattle.std.proofs.Common.{◌≡◌, ◌⊎◌, inl, inr, ⊎_elim, ℕ, Bool, true, false, not, ◌&&◌, ◌||◌, Option, Some, None, IfSome, List, refl, sym, ap, ◌∙◌, subst, is_some}
use Rattle.std.specs.Prelude.{IsSome}
use Rattle.std.proofs.lemmas.Bool.{false≢true, true≢false}
use Rattle.hp_states.proofs.Basics.{and_false, none_some}
use Rattle.hp_event.specs.declared.answer.Answer.{Answer}
use Rattle.hp_event.specs.declared.event.Event.{Event}
use Rattle.hp_event.specs.declared.event.Event.TheVariants.{Admit, Enter, Refused, WalkBegin, RegBegin, RegEnd, ReadLock, Armed, Shown, Wakeup}
use Rattle.hp_event.specs.declared.head.Head.{Head}
use Rattle.hp_event.specs.declared.op.Op.{Op}
use Rattle.hp_event.specs.declared.op.Op.TheVariants.{Setup}
use Rattle.hp_hook.specs.Counted.{Counts}
use Rattle.hp_model.specs.Events.{BelongsTo, answer_by, seat_of}
use Rattle.hp_model.specs.Lawful.{Comes, IsLawful}
use Rattle.hp_model.specs.MapLock.{is_map_op}
use Rattle.hp_model.specs.Needs.{need}
use Rattle.hp_model.specs.NextEvent.{next_event}
use Rattle.hp_model.specs.Pending.{IsAllowed}
use Rattle.hp_model.specs.Seats.{IsFree, is_busy}
use Rattle.hp_model.proofs.NextStands.{next_belongs, next_stands}
use Rattle.hp_account.specs.TableChanges.{brings_hook, hands_hook, is_setup}
use Rattle.hp_board.specs.Hooks.{has_hook, has_hook_after, leaves_hook}
use Rattle.hp_board.specs.Turns.{TakesRoom, goes_on}
use Rattle.hp_board.specs.declared.turn.Ask.{Ask}
use Rattle.hp_board.specs.declared.turn.Turn.{Turn}
use Rattle.hp_board.specs.declared.turn.Turn.TheVariants.{Made, Answered, NotYet}
use Rattle.hp_machine.proofs.FullNone.{full_none}
use Rattle.hp_live.specs.Hooks.{IsOfState, TurnsHook}
use Rattle.hp_live.specs.Runs.{AnsweredBy, AnsweredWith, ComesBack, IsHandedIn, SteppedIn}
use Rattle.hp_live.specs.Sections.{CanAsk, TurnedIn, WantedIn}
use Rattle.hp_live.specs.declared.step.Stepped.TheVariants.{Turned}
use Rattle.hp_live.proofs.Running.{Going, full_answer, going_seen}

-- ---- an ask

abbrev ask_of : {H : Type 0} → Op → Option H → Ask H
ask_of op hook = record { op = op; hook = hook }

pub ask_same : {H : Type 0} (before after : Ask H) → after.op ≡ before.op → after.hook ≡ before.hook → after ≡ before
ask_same before after op hook = ap (λ o. ask_of o after.hook) op ∙ ap (λ h. ask_of before.op h) hook

pub has_same : {H : Type 0} (before after : Ask H) → after ≡ before → is_some after.hook ≡ is_some before.hook
has_same {H} before after same = ap (λ (x : Ask H). is_some x.hook) same

-- ---- while an operation goes on

-- it has the hook that it was handed in with, or it is a setup, which took its hook
abbrev pub Kept : {H : Type 0} → Op → (was now : Option H) → Type 0
Kept op was now = (now ≡ was) ⊎ ((now ≡ None) × (is_setup op ≡ true))

pub kept_same : {H : Type 0} (op : Op) (was : Option H) (before after : Ask H) → after ≡ before → Kept op was before.hook →
    Kept op was after.hook
kept_same {H} op was before after same kept = subst (λ (x : Ask H). Kept op was x.hook) (sym same) kept

none_there : {H : Type 0} (o : Option H) → is_some o ≡ false → o ≡ None
none_there None is = refl
none_there (Some h) is = absurd (true≢false is)

begun_setup : (op : Op) (e : Event) → BelongsTo op e → brings_hook e ≡ true → is_setup op ≡ true
begun_setup op (RegBegin seat state asked) of brings = ap is_setup (sym of) ∙ brings
begun_setup op e of brings = absurd (false≢true brings)

hands_none : (events : List Event) (e : Event) → answer_by e ≡ None → hands_hook events e ≡ false
hands_none events (RegEnd seat answer) none = absurd (none_some answer (sym none))
hands_none events e none = refl

-- an event that doesn't answer it
kept_event : {H : Type 0} (seen : H → Counts) (head : Head) (found : List Event) (k : ℕ) (op : Op) (turn : Turn) (e : Event)
    (was mid now : Option H) → Kept op was mid → next_event head found k op ≡ Some e → answer_by e ≡ None → BelongsTo op e →
    is_some now ≡ has_hook_after found (next_event head found k op) (is_some mid) → TurnsHook seen head found k op mid now turn →
    Kept op was now
kept_event seen head found k op turn e was mid now kept next none of has h = go (brings_hook e) refl
  where
    hands : hands_hook found e ≡ false
    hands = hands_none found e none

    go : (b : Bool) → brings_hook e ≡ b → Kept op was now
    go true brings =
        inr (
          none_there now
              (has ∙ ap (λ o. has_hook_after found o (is_some mid)) next
              ∙ ap (λ z. (is_some mid && not z) || hands_hook found e) brings
              ∙ ap (λ z. (is_some mid && false) || z) hands
              ∙ ap (λ z. z || false) (and_false (is_some mid))),
          begun_setup op e of brings,
        )
    go false brings =
        let same : now ≡ mid =
        h.same
        (ap (leaves_hook found) next ∙ ap (λ z. not z && not (hands_hook found e)) brings ∙ ap not hands) in
        subst (Kept op was) (sym same) kept

-- a turn that leaves it going on
pub kept_on : {H : Type 0} (seen : H → Counts) (head : Head) (k : ℕ) (op : Op) (was mid now : Option H) (old new : List Event) (turn : Turn) →
    Kept op was mid → SteppedIn seen head k op mid now old new (Turned turn) → goes_on turn ≡ true → Kept op was now
kept_on seen head k op was mid now old new (Made at) kept (t, h) on =
    kept_event seen head t.found k op (Made at) t.turned.event was mid now kept t.turned.next_is t.turned.answer_is
    (next_belongs head t.found (record { seat = k; op = op }) t.turned.event t.lawful t.asked.allowed t.turned.next_is) t.hook h
kept_on seen head k op was mid now old new (Answered at answer) kept (t, h) on = absurd (false≢true on)
kept_on seen head k op was mid now old new (NotYet why) kept (t, h) on = subst (Kept op was) (sym (h.waits why refl)) kept

-- ---- at the answer

answers_brings : (e : Event) (answer : Answer) → answer_by e ≡ Some answer → brings_hook e ≡ false
answers_brings (RegBegin seat state op) answer is = absurd (none_some answer is)
answers_brings e answer is = refl

handed_in : {H : Type 0} (op : Op) (was mid now : Option H) → Kept op was mid → now ≡ mid → IsHandedIn was now
handed_in op was mid None kept same = tt
handed_in op was mid (Some h) (inl is) same = sym is ∙ sym same
handed_in op was mid (Some h) (inr none) same = absurd (none_some h (sym none.0 ∙ sym same))

of_state_there : {H : Type 0} (seen : H → Counts) (head : Head) (found : List Event) (k : ℕ) (op : Op) (turn : Turn) (e : Event)
    (mid now : Option H) → TurnsHook seen head found k op mid now turn → next_event head found k op ≡ Some e →
    hands_hook found e ≡ true → IfSome now (IsOfState seen head found)
of_state_there seen head found k op turn e mid now h next hands =
    h.states
    (ap (leaves_hook found) next ∙ ap (λ z. not (brings_hook e) && not z) hands ∙ and_false (not (brings_hook e)))

left_by : {H : Type 0} (seen : H → Counts) (head : Head) (found : List Event) (k : ℕ) (op : Op) (turn : Turn) (e : Event)
    (was mid now : Option H) (answer : Answer) → Kept op was mid → TurnsHook seen head found k op mid now turn →
    next_event head found k op ≡ Some e → answer_by e ≡ Some answer → hands_hook found e ≡ false → IsHandedIn was now
left_by seen head found k op turn e was mid now answer kept h next is hands =
    handed_in op was mid now kept
    (h.same
    (ap (leaves_hook found) next
    ∙ ap (λ z. not z && not (hands_hook found e)) (answers_brings e answer is) ∙ ap not hands))

pub comes_back : {H : Type 0} (seen : H → Counts) (head : Head) (k : ℕ) (op : Op) (was mid now : Option H) (old front new : List Event)
    (at : Option ℕ) (answer : Answer) → Going head k op old front → Kept op was mid →
    SteppedIn seen head k op mid now front new (Turned (Answered at answer)) → ComesBack seen head k op old new was now answer
comes_back seen head k op was mid now old front new (Some at) answer g kept (t, h) =
    let so_far = going_seen head k op old front t.found g t.seen t.lawful in
    inl (record {
      by =
          record {
            earlier = so_far.made;
            before = t.found;
            event = t.turned.event;
            grew = so_far.grew;
            lawful = t.lawful;
            goes_on = so_far.goes_on;
            next_is = t.turned.next_is;
            belongs =
                next_belongs head t.found (record { seat = k; op = op }) t.turned.event t.lawful t.asked.allowed t.turned.next_is;
            new_is = t.turned.new_is;
            answers = t.turned.answer_is;
          };
      states = of_state_there seen head t.found k op (Answered (Some at) answer) t.turned.event mid now h t.turned.next_is;
      same =
          left_by seen head t.found k op (Answered (Some at) answer) t.turned.event was mid now answer kept h t.turned.next_is
          t.turned.answer_is;
    })
comes_back seen head k op was mid now old front new None answer g kept (t, h) =
    inr (
      full_answer head k op old t.found new answer (going_seen head k op old front t.found g t.seen t.lawful) t.turned,
      handed_in op was mid now kept
          (h.same (ap (leaves_hook t.found) (full_none head t.found k op t.turned.full))),
    )

-- ---- where memory is wanting

map_setup : (op : Op) → is_setup op ≡ true → is_map_op op ≡ true → ⊥
map_setup (Setup asked sub form) setup maps = false≢true maps
map_setup op setup maps = false≢true setup

-- an operation that has begun has no first event
begun_twice : (xs : List Event) (seat k : ℕ) → IsFree xs seat → seat ≡ k → is_busy k xs ≡ true → ⊥
begun_twice xs seat k free own busy =
    true≢false (sym busy ∙ sym (ap (λ n. is_busy n xs) own) ∙ free.idle)

-- a setup that has begun takes no room any more
no_room : (head : Head) (xs : List Event) (k : ℕ) (op : Op) (e : Event) → is_setup op ≡ true → BelongsTo op e → Comes head xs e →
    seat_of e ≡ k → is_busy k xs ≡ true → IsSome (need head xs e) → ⊥
no_room head xs k op (Admit seat role) setup of h own busy room = of
no_room head xs k op (Enter seat asked) setup of h own busy room = begun_twice xs seat k h.free own busy
no_room head xs k op (Refused seat errno asked) setup of h own busy room = begun_twice xs seat k h.free own busy
no_room head xs k op (WalkBegin seat cpu from to) setup of h own busy room = map_setup op setup of
no_room head xs k op (RegBegin seat state asked) setup of h own busy room = begun_twice xs seat k h.free own busy
no_room head xs k op (ReadLock seat) setup of h own busy room = begun_twice xs seat k h.free own busy
no_room head xs k op (Armed seat cpu value) setup of h own busy room = begun_twice xs seat k h.free own busy
no_room head xs k op (Shown seat file cpu value) setup of h own busy room = begun_twice xs seat k h.free own busy
no_room head xs k op (Wakeup seat) setup of h own busy room = begun_twice xs seat k h.free own busy
no_room head xs k op e setup of h own busy room = absurd (false≢true room)

busy_taken : (setup busy : Bool) → setup ≡ true → (setup && not busy) ≡ false → busy ≡ true
busy_taken true true is none = refl
busy_taken true false is none = absurd (true≢false none)
busy_taken false busy is none = absurd (false≢true is)

takes_none : (head : Head) (k : ℕ) (op : Op) (new : List Event) (next : Option Event) → IsLawful head new →
    IsAllowed head new (record { seat = k; op = op }) → is_setup op ≡ true → is_busy k new ≡ true → next_event head new k op ≡ next →
    TakesRoom head new next → ⊥
takes_none head k op new None lawful allowed setup busy is room = room
takes_none head k op new (Some e) lawful allowed setup busy is room =
    let s = next_stands head new k op e is in
    no_room head new k op e setup (next_belongs head new (record { seat = k; op = op }) e lawful allowed is) s.0.0 s.1 busy room

-- the hook is the one that was handed in
pub wants_same : {H : Type 0} (head : Head) (k : ℕ) (op : Op) (was mid : Option H) (old new : List Event) → Kept op was mid →
    CanAsk head new k op (is_some mid) → WantedIn head k op old new → mid ≡ was
wants_same head k op was mid old new (inl same) asks w = same
wants_same head k op was mid old new (inr none) asks w =
    let busy = busy_taken (is_setup op) (is_busy k new) none.1 (sym asks.hook_is ∙ ap is_some none.0) in
    absurd (takes_none head k op new (next_event head new k op) w.lawful asks.allowed none.1 busy refl w.takes_room)

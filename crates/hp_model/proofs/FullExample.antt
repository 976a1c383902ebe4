-- A journal that fills: two processors with their threads, one client that shows a file over and over, and then brings up
-- processor 1. After 1,048,564 times its walk has room, and after one time more it ends with LogFull.
use Rattle.std.proofs.Common.{◌≡◌, ℕ, zero, suc, ◌+◌, ◌≤◌, Bool, true, false, cond, not, ltb, leb, Some, None, List, [], ◌∷◌, ◌++◌, length, sum_by, reverse, refl, ap, sym, ◌∙◌, inr, arith, length-append}
use Rattle.std.specs.Prelude.{pos}
use Rattle.std.proofs.lemmas.Bool.{le-leb, and_parts}
use Rattle.std.proofs.lemmas.Bool.Decides.{nat_tests}
use Rattle.hp_states.specs.declared.limits.TheConstants.{MAX_EVENTS}
use Rattle.hp_event.specs.declared.op.Op.{Op}
use Rattle.hp_event.specs.declared.event.Role.TheVariants.{Client, Ap}
use Rattle.hp_event.specs.declared.event.File.TheVariants.{State}
use Rattle.hp_event.specs.declared.answer.Answer.TheVariants.{LogFull}
use Rattle.hp_event.specs.declared.head.Head.{Head}
use Rattle.hp_event.specs.declared.event.Event.{Event}
use Rattle.hp_event.specs.declared.event.Event.TheVariants.{Admit, Enter, WalkBegin, OpEnd, Shown}
use Rattle.hp_model.specs.Lists.{among}
use Rattle.hp_model.specs.Heads.{IsHead}
use Rattle.hp_model.specs.Walks.{walking}
use Rattle.hp_model.specs.Suspend.{held_by}
use Rattle.hp_model.specs.Batch.{is_upmany}
use Rattle.hp_model.specs.Registrations.{registration}
use Rattle.hp_model.specs.Registered.{registered, keys}
use Rattle.hp_model.specs.MapLock.{operation}
use Rattle.hp_model.specs.Readers.{readers}
use Rattle.hp_model.specs.Seats.{role_of, seats}
use Rattle.hp_model.specs.Settled.{settled}
use Rattle.hp_model.specs.Processors.{is_present, present}
use Rattle.hp_model.specs.Suspend.{disabled}
use Rattle.hp_model.specs.Plan.{keyed, keys_on}
use Rattle.hp_model.specs.Promised.{promised}
use Rattle.hp_model.specs.Needs.{walk_need}
use Rattle.hp_model.specs.Room.{has_room}
use Rattle.hp_model.specs.StandsOperations.{WalkBegins}
use Rattle.hp_model.specs.Lawful.{Stands, IsLawful}
use Rattle.hp_model.proofs.Laws.{walking_push, registration_push, registered_push, operation_push, readers_push, role_push, settled_push, seats_push, disabled_push, answers_push}
use Rattle.hp_model.proofs.InFlight.{walk_none, reader_none}
use Rattle.hp_model.proofs.WaitLemmas.{can_walk}
use Rattle.hp_model.proofs.HeadlineProof.{lawful_more}
use Rattle.hp_model.proofs.Promises.{promised_at_rest}
use Rattle.hp_model.proofs.RoomKept.{promises_after}
use Rattle.hp_model.proofs.RunLemmas.{admissions_lawful}

pub record TwoProcessors (head : Head) : Type 0 where
  pub is_head : IsHead head
  pub possible : head.possible ≡ 2
  pub present_are : present head ≡ 0 ∷ 1 ∷ []
  pub other : is_present head 1 ≡ true

abbrev show : Event
show = Shown 2 State 0 (pos 200)

-- the threads and the client come in, and the client shows the state of processor 0 so many times
abbrev shows : (times : ℕ) → List Event
shows zero = Admit 0 (Ap 0) ∷ Admit 1 (Ap 1) ∷ Admit 2 Client ∷ []
shows (suc n) = shows n ++ show ∷ []

-- what holds after each time
record Calm (head : Head) (xs : List Event) (n : ℕ) : Type 0 where
  lawful : IsLawful head xs
  client : role_of 2 xs ≡ Some Client
  no_operation : operation xs ≡ None
  no_registration : registration xs ≡ None
  still : walking xs ≡ []
  unread : readers xs ≡ []
  first : settled 0 xs ≡ 200
  second : settled 1 xs ≡ 0
  enabled : disabled xs ≡ 0
  nothing : (s : ℕ) → registered head s xs ≡ None
  seats_are : seats xs ≡ 0 ∷ 1 ∷ 2 ∷ []
  long : length xs ≡ n + 3

at_rest : (head : Head) (xs : List Event) (n : ℕ) → Calm head xs n → promised head xs ≡ 3
at_rest head xs n c =
    promised_at_rest head xs (rw c.still refl) c.no_registration c.no_operation (rw c.unread refl) ∙ ap length c.seats_are

room_for : (head : Head) (xs : List Event) (k n m : ℕ) → promised head xs ≡ k → length xs ≡ n → n + k + m ≤ MAX_EVENTS →
    leb (length xs + promised head xs + m) MAX_EVENTS ≡ true
room_for head xs k n m p l h = le-leb (length xs + promised head xs + m) MAX_EVENTS (omega arith)

show_stands : (head : Head) (xs : List Event) (n : ℕ) → TwoProcessors head → Calm head xs n → n + 7 ≤ MAX_EVENTS → Stands head xs show
show_stands head xs n two c few = (
  record {
    free = record { client = c.client; idle = rw (c.no_operation, c.no_registration) refl };
    passes = record { not_refused = rw (c.no_operation, c.no_registration, two.possible) refl; not_waiting = refl };
    has_file = tt;
    value_is = rw (walk_none xs (rw c.still refl) 0, c.first) refl;
  },
  room_for head xs 3 (n + 3) 1 (at_rest head xs n c) c.long (omega (arith, few)),
)

calm_more : (head : Head) (xs : List Event) (n : ℕ) → TwoProcessors head → Calm head xs n → n + 7 ≤ MAX_EVENTS →
    Calm head (xs ++ show ∷ []) (suc n)
calm_more head xs n two c few = record {
  lawful = lawful_more head xs show c.lawful (show_stands head xs n two c few);
  client = role_push 2 xs show ∙ c.client;
  no_operation = operation_push xs show ∙ c.no_operation;
  no_registration = registration_push xs show ∙ c.no_registration;
  still = walking_push xs show ∙ c.still;
  unread = readers_push xs show ∙ c.unread;
  first = settled_push 0 xs show ∙ c.first;
  second = settled_push 1 xs show ∙ c.second;
  enabled = disabled_push xs show ∙ c.enabled;
  nothing = λ s. registered_push head s xs show ∙ c.nothing s;
  seats_are = seats_push xs show ∙ c.seats_are;
  long = let l = length-append xs (show ∷ []) in let m = c.long in omega arith;
}

calm_first : (head : Head) → TwoProcessors head → Calm head (shows 0) 0
unfolding role_of operation registration walking readers settled disabled registered seats
calm_first head two = record {
  lawful =
      rw two.present_are at (admissions_lawful head ([] ∷ []) two.is_head (rw two.present_are (omega arith)));
  client = refl;
  no_operation = refl;
  no_registration = refl;
  still = refl;
  unread = refl;
  first = refl;
  second = refl;
  enabled = refl;
  nothing = λ s. refl;
  seats_are = refl;
  long = refl;
}

calm : (head : Head) → TwoProcessors head → (n : ℕ) → n + 6 ≤ MAX_EVENTS → Calm head (shows n) n
calm head two zero few = calm_first head two
calm head two (suc n) few =
    calm_more head (shows n) n two (calm head two n (omega (arith, few))) (omega (arith, few))

-- then it brings up processor 1
abbrev entered : List Event → List Event
entered xs = xs ++ Enter 2 (Op.Up 1) ∷ []

there_is : (head : Head) → TwoProcessors head → not (among 1 head.absent) ≡ true
there_is head two = (and_parts (ltb 1 head.possible) (not (among 1 head.absent)) two.other).1

enter_stands : (head : Head) (xs : List Event) (n : ℕ) → TwoProcessors head → Calm head xs n → n + 8 ≤ MAX_EVENTS →
    Stands head xs (Enter 2 (Op.Up 1))
enter_stands head xs n two c few = (
  record {
    free = record { client = c.client; idle = rw (c.no_operation, c.no_registration) refl };
    has_sub = refl;
    takes_map = refl;
    passes = record {
      not_refused =
          rw (c.no_operation, c.no_registration, reader_none xs (rw c.unread refl) 2, two.possible, c.enabled, there_is head two) refl;
      not_waiting = rw c.no_operation refl;
    };
  },
  room_for head xs 3 (n + 3) 2 (at_rest head xs n c) c.long (omega (arith, few)),
)

too_long : (a b : ℕ) → b + 1 ≤ a → leb a b ≡ false
too_long a b h = grind (arith, nat_tests)

-- no state has a key, so the walk crosses none
none_keyed : (K : ℕ → List ℕ) (ss : List ℕ) → ((s : ℕ) → K s ≡ []) → keyed K ss ≡ []
none_keyed K [] h = refl
none_keyed K (s ∷ ss) h = rw (h s) (none_keyed K ss h)

no_keys : (K : ℕ → List ℕ) (from to : ℕ) → ((s : ℕ) → K s ≡ []) → keys_on K from to ≡ 0
no_keys K from to h = go (ltb from to) (none_keyed K _ h) (none_keyed K _ h)
  where
    go : (b : Bool) {up down : List ℕ} → up ≡ [] → down ≡ [] → sum_by (λ s. length (K s)) (cond b up (reverse down)) ≡ 0
    go true u d = rw u refl
    go false u d = rw d refl

walk_begins : (head : Head) (xs : List Event) (n : ℕ) → Calm head xs n → WalkBegins head (entered xs) 2 1 0 200
walk_begins head xs n c =
    let e : Event = Enter 2 (Op.Up 1) in
    record {
      of = record { seat = 2; op = Op.Up 1; before = xs };
      held = operation_push xs e;
      seat_is = refl;
      between = rw (walking_push xs e, c.still) refl;
      gives = rw (settled_push 1 xs e, c.second, answers_push xs e) refl;
      from_is = sym (settled_push 1 xs e ∙ c.second);
      no_wait = can_walk (entered xs) (rw (readers_push xs e, c.unread) refl) (rw (registration_push xs e, c.no_registration) refl);
    }

need_is : (head : Head) (xs : List Event) (n from to : ℕ) → Calm head xs n → walk_need head (entered xs) from to ≡ 4
need_is head xs n from to c =
    let k = no_keys (keys head (entered xs)) from to (λ s. rw (registered_push head s xs (Enter 2 (Op.Up 1)), c.nothing s) refl) in
    omega arith

entered_promised : (head : Head) (xs : List Event) (n : ℕ) → TwoProcessors head → Calm head xs n → n + 8 ≤ MAX_EVENTS →
    promised head (entered xs) ≡ 4
entered_promised head xs n two c few =
    let a = promises_after head xs (Enter 2 (Op.Up 1)) c.lawful (enter_stands head xs n two c few).0 in
    let b = at_rest head xs n c in
    omega arith

entered_long : (head : Head) (xs : List Event) (n : ℕ) → Calm head xs n → length (entered xs) ≡ n + 4
entered_long head xs n c = let l = length-append xs (Enter 2 (Op.Up 1) ∷ []) in let m = c.long in omega arith

single : (xs : List Event) → held_by is_upmany (operation (entered xs)) ≡ false
single xs = rw (operation_push xs (Enter 2 (Op.Up 1))) refl

room_is : (head : Head) (xs : List Event) (n k seat cpu from to : ℕ) → promised head xs ≡ k → length xs ≡ n →
    walk_need head xs from to ≡ 4 → held_by is_upmany (operation xs) ≡ false → has_room head xs (WalkBegin seat cpu from to) ≡ leb (n + k + 4) MAX_EVENTS
room_is head xs n k seat cpu from to p l w s = rw (s, p, l, w) refl

pub walk_has_room : (head : Head) → TwoProcessors head → (n : ℕ) → n ≤ 1048564 →
    Stands head (entered (shows n)) (WalkBegin 2 1 0 200)
walk_has_room head two n few =
    let c = calm head two n (omega arith) in
    let p = entered_promised head (shows n) n two c (omega arith) in
    let l = entered_long head (shows n) n c in (
      walk_begins head (shows n) n c,
      room_is head (entered (shows n)) (n + 4) 4 2 1 0 200 p l (need_is head (shows n) n 0 200 c)
          (single (shows n))
          ∙ le-leb (n + 4 + 4 + 4) MAX_EVENTS (omega (arith, few)),
    )

-- and with one time more it hasn't
pub ends_full : (head : Head) → TwoProcessors head → (n : ℕ) → n ≡ 1048565 →
    IsLawful head (entered (shows n) ++ OpEnd 2 LogFull ∷ [])
ends_full head two n many =
    let c = calm head two n (omega arith) in
    let p = entered_promised head (shows n) n two c (omega arith) in
    let l = entered_long head (shows n) n c in
    let before = lawful_more head (shows n) (Enter 2 (Op.Up 1)) c.lawful (enter_stands head (shows n) n two c (omega arith)) in
    lawful_more head (entered (shows n)) (OpEnd 2 LogFull) before (
      inr (record {
        cpu = 1;
        from = 0;
        to = 200;
        begins = walk_begins head (shows n) n c;
        no_room =
            room_is head (entered (shows n)) (n + 4) 4 2 1 0 200 p l (need_is head (shows n) n 0 200 c)
            (single (shows n))
            ∙ too_long (n + 4 + 4 + 4) MAX_EVENTS (omega (arith, many));
        answer_is = refl;
      }),
      refl,
    )

-- Which journals a version has, one event more; and the numbers of operations in the words of a line.
use Rattle.std.proofs.Common.{◌≡◌, ℕ, ◌≤◌, true, eqb, List, [], ◌∷◌, ◌++◌, Option, refl, ap, append_assoc, arith}
use Rattle.std.proofs.lemmas.Bool.{ltb-true, lt-ltb, eqb-true, eq-eqb}
use Rattle.std.proofs.lemmas.List.{append-nil}
use Rattle.hp_states.specs.declared.limits.TheConstants.{MAX_CPUS}
use Rattle.hp_event.specs.declared.head.Head.{Head}
use Rattle.hp_event.specs.declared.event.Event.{Event}
use Rattle.hp_event.specs.declared.event.Event.TheVariants.{Admit, Leave, Enter, Refused, WalkBegin, Call, WalkEnd, OpEnd, RegBegin, RegEnd, ReadLock, ReadUnlock, Armed, Shown, Wakeup}
use Rattle.hp_event.specs.Events.{seat_of}
use Rattle.hp_model.specs.Heads.{IsHead}
use Rattle.hp_model.specs.Seats.{admits}
use Rattle.hp_model.specs.Lawful.{Stands, IsLawful}
use Rattle.hp_model.proofs.Laws.{admits_push}
use Rattle.hp_model.proofs.RoomKept.{promises_fit}
use Rattle.hp_event.specs.declared.version.Version.{Version}
use Rattle.hp_event.specs.declared.version.Version.TheVariants.{One, Two}
use Rattle.hp_model.specs.OperationNumber.{operation_number}
use Rattle.hp_model.specs.EventLine.{number_words, event_line}
use Rattle.hp_print.proofs.OperationNumbersLaws.{operations_few}
use Rattle.hp_replay.specs.Fits.{IsU32}
use Rattle.hp_replay.specs.Versions.{most_cpus, IsWithin, has_seat, number_in, named_number, numbered_event, is_its_number, is_numbered}
use Rattle.hp_replay.specs.Readers.{Tail}
use Rattle.hp_replay.specs.EventAt.{behind_number}
use Rattle.hp_replay.specs.declared.event.NumberedEvent.{NumberedEvent}
use Rattle.hp_replay.proofs.LineLaws.{all_free}
use Rattle.hp_replay.proofs.NumberLaws.{number_again}
use Rattle.hp_replay.proofs.OpWords.{number_free}

pub most_small : (v : Version) → most_cpus v ≤ MAX_CPUS
most_small One = omega arith
most_small Two = omega arith

pub most_some : (v : Version) → 1 ≤ most_cpus v
most_some One = omega arith
most_some Two = omega arith

pub cpus_within : (v : Version) (head : Head) (events : List Event) → IsHead head → IsWithin v head events → head.possible ≤ most_cpus v
cpus_within One head events h w = w.0
cpus_within Two head events h w = h.few_possible

no_admits : admits [] ≡ 0
unfolding admits
no_admits = refl

pub within_none : (v : Version) (head : Head) → head.possible ≤ most_cpus v → IsWithin v head []
within_none One head le = (le, omega (arith, no_admits))
within_none Two head le = tt

-- ---- one event more

one_more : (xs : List Event) (e : Event) → admits xs ≤ admits (xs ++ e ∷ [])
one_more xs (Admit seat role) = let a = admits_push xs (Admit seat role) in omega arith
one_more xs e = let a = admits_push xs e in omega arith

admits_grow : (xs ys : List Event) → admits xs ≤ admits (xs ++ ys)
admits_grow xs [] = omega (arith, ap admits (append-nil xs))
admits_grow xs (e ∷ ys) =
    let one = one_more xs e in
    let more = admits_grow (xs ++ e ∷ []) ys in
    omega (arith, ap admits (append_assoc xs (e ∷ []) ys))

pub within_more : (v : Version) (head : Head) (xs : List Event) (e : Event) → IsWithin v head xs → Stands head xs e → has_seat v e ≡ true →
    IsWithin v head (xs ++ e ∷ [])
within_more One head xs (Admit seat role) w s h =
    let few = ltb-true _ _ h in
    let is = s.0.seat_is in
    let a = admits_push xs (Admit seat role) in
    (w.0, omega arith)
within_more One head xs e w s h = let a = admits_push xs e in (w.0, omega (arith, w.1))
within_more Two head xs e w s h = tt

pub has_its_seat : (v : Version) (head : Head) (xs : List Event) (e : Event) (ys : List Event) → IsWithin v head (xs ++ e ∷ ys) → Stands head xs e →
    has_seat v e ≡ true
has_its_seat One head xs (Admit seat role) ys w s =
    let is = s.0.seat_is in
    let a = admits_push xs (Admit seat role) in
    let more = admits_grow (xs ++ Admit seat role ∷ []) ys in
    let same = ap admits (append_assoc xs (Admit seat role ∷ []) ys) in
    lt-ltb _ _ (omega (arith, w.1))
has_its_seat One head xs e ys w s = refl
has_its_seat Two head xs e ys w s = refl

-- ---- the number of an operation

pub number_small : (head : Head) (xs : List Event) (e : Event) → IsLawful head (xs ++ e ∷ []) → IsU32 (operation_number xs e)
number_small head xs e h =
    let few = operations_few (seat_of e) (xs ++ e ∷ []) in
    omega (arith, promises_fit head (xs ++ e ∷ []) h)

its_number : (v : Version) (n : ℕ) (e : Event) → is_its_number n (named_number v n e) ≡ true
its_number v n e = by_version v e
  where
    same : eqb n n ≡ true
    same = eq-eqb n n refl

    by_version : (v : Version) (e : Event) → is_its_number n (named_number v n e) ≡ true
    by_version One (Enter seat op) = refl
    by_version One (Refused seat errno op) = refl
    by_version One (OpEnd seat answer) = refl
    by_version One (RegBegin seat state op) = refl
    by_version One (RegEnd seat answer) = refl
    by_version One (ReadLock seat) = refl
    by_version One (ReadUnlock seat) = refl
    by_version One (Armed seat cpu value) = refl
    by_version One (Shown seat file cpu value) = refl
    by_version One (Wakeup seat) = refl
    by_version Two (Enter seat op) = same
    by_version Two (Refused seat errno op) = same
    by_version Two (OpEnd seat answer) = same
    by_version Two (RegBegin seat state op) = same
    by_version Two (RegEnd seat answer) = same
    by_version Two (ReadLock seat) = same
    by_version Two (ReadUnlock seat) = same
    by_version Two (Armed seat cpu value) = same
    by_version Two (Shown seat file cpu value) = same
    by_version Two (Wakeup seat) = same
    by_version v (Admit seat role) = refl
    by_version v (Leave seat) = refl
    by_version v (WalkBegin seat cpu from to) = refl
    by_version v (Call seat cpu state inst dir how) = refl
    by_version v (WalkEnd seat cpu answer) = refl

-- what the line of an event says after the events before it is right
pub rightly_numbered : (v : Version) (before : List Event) (e : Event) → has_seat v e ≡ true →
    is_numbered v before (numbered_event v (operation_number before e) e) ≡ true
rightly_numbered v before e seat = rw (its_number v (operation_number before e) e, seat) refl

-- the line that names a number that is right is that of this number
pub same_line : (v : Version) (n m : ℕ) (e : Event) → is_its_number m (named_number v n e) ≡ true → event_line v n e ≡ event_line v m e
same_line v n m e h = by_version v e h
  where
    by_number : {X : Type 0} (f : ℕ → X) → eqb n m ≡ true → f n ≡ f m
    by_number f h = ap f (eqb-true n m h)

    by_version : (v : Version) (e : Event) → is_its_number m (named_number v n e) ≡ true → event_line v n e ≡ event_line v m e
    by_version One (Enter seat op) h = refl
    by_version One (Refused seat errno op) h = refl
    by_version One (OpEnd seat answer) h = refl
    by_version One (RegBegin seat state op) h = refl
    by_version One (RegEnd seat answer) h = refl
    by_version One (ReadLock seat) h = refl
    by_version One (ReadUnlock seat) h = refl
    by_version One (Armed seat cpu value) h = refl
    by_version One (Shown seat file cpu value) h = refl
    by_version One (Wakeup seat) h = refl
    by_version Two (Enter seat op) h = by_number (λ k. event_line Two k (Enter seat op)) h
    by_version Two (Refused seat errno op) h = by_number (λ k. event_line Two k (Refused seat errno op)) h
    by_version Two (OpEnd seat answer) h = by_number (λ k. event_line Two k (OpEnd seat answer)) h
    by_version Two (RegBegin seat state op) h = by_number (λ k. event_line Two k (RegBegin seat state op)) h
    by_version Two (RegEnd seat answer) h = by_number (λ k. event_line Two k (RegEnd seat answer)) h
    by_version Two (ReadLock seat) h = by_number (λ k. event_line Two k (ReadLock seat)) h
    by_version Two (ReadUnlock seat) h = by_number (λ k. event_line Two k (ReadUnlock seat)) h
    by_version Two (Armed seat cpu value) h = by_number (λ k. event_line Two k (Armed seat cpu value)) h
    by_version Two (Shown seat file cpu value) h = by_number (λ k. event_line Two k (Shown seat file cpu value)) h
    by_version Two (Wakeup seat) h = by_number (λ k. event_line Two k (Wakeup seat)) h
    by_version v (Admit seat role) h = refl
    by_version v (Leave seat) h = refl
    by_version v (WalkBegin seat cpu from to) h = refl
    by_version v (Call seat cpu state inst dir how) h = refl
    by_version v (WalkEnd seat cpu answer) h = refl

-- it is read again, and has no spaces and newlines
pub number_behind : (v : Version) (n : ℕ) → IsU32 n → (tail : Option ℕ → Tail NumberedEvent) (ws : List (List ℕ)) →
    behind_number v tail (number_words v n ++ ws) ≡ tail (number_in v n) ws
number_behind One n h tail ws = refl
number_behind Two n h tail ws = rw (number_again n h) refl

pub number_behind_two : (v : Version) (n : ℕ) → IsU32 n → (tail : Option ℕ → Tail NumberedEvent) (us ws : List (List ℕ)) →
    behind_number v tail ((number_words v n ++ us) ++ ws) ≡ tail (number_in v n) (us ++ ws)
number_behind_two One n h tail us ws = refl
number_behind_two Two n h tail us ws = rw (number_again n h) refl

pub number_last : (v : Version) (n : ℕ) → IsU32 n → (tail : Option ℕ → Tail NumberedEvent) →
    behind_number v tail (number_words v n) ≡ tail (number_in v n) []
number_last One n h tail = refl
number_last Two n h tail = rw (number_again n h) refl

pub number_words_free : (v : Version) (n : ℕ) → IsU32 n → (ws : List (List ℕ)) → all_free (number_words v n ++ ws) ≡ all_free ws
number_words_free One n h ws = refl
number_words_free Two n h ws = rw (number_free n h) refl

pub number_two_free : (v : Version) (n : ℕ) → IsU32 n → (us ws : List (List ℕ)) → all_free ((number_words v n ++ us) ++ ws) ≡ all_free (us ++ ws)
number_two_free One n h us ws = refl
number_two_free Two n h us ws = rw (number_free n h) refl

pub number_alone_free : (v : Version) (n : ℕ) → IsU32 n → all_free (number_words v n) ≡ true
number_alone_free One n h = refl
number_alone_free Two n h = rw (number_free n h) refl

-- The operation that holds the map lock, and its walks, after one event more.
use Rattle.std.proofs.Common.{◌≡◌, ℕ, ℤ, pos, Bool, true, false, Option, Some, None, List, [], ◌∷◌, ◌++◌, length, refl, sym, ap, ◌∙◌, subst}
use Rattle.std.specs.Prelude.{slice_get}
use Rattle.hp_states.specs.declared.cpu_set.CpuSet.{CpuSet}
use Rattle.hp_event.specs.declared.answer.Answer.{Answer}
use Rattle.hp_event.specs.declared.answer.Answer.TheVariants.{Ok}
use Rattle.std.proofs.lemmas.Bool.{false≢true}
use Rattle.hp_states.proofs.Basics.{same_some}
use Rattle.hp_event.specs.declared.op.Op.{Op}
use Rattle.hp_event.specs.declared.op.Op.TheVariants as op
use Rattle.hp_event.specs.declared.event.Event.{Event}
use Rattle.hp_event.specs.declared.event.Event.TheVariants.{Enter, WalkBegin, WalkEnd, OpEnd}
use Rattle.hp_event.specs.declared.head.Head.{Head}
use Rattle.hp_model.specs.Batch.{batch, unbegun, to_begin_of, to_begin}
use Rattle.hp_model.specs.Lawful.{Comes, IsLawful}
use Rattle.hp_model.specs.MapLock.{Operation, operation}
use Rattle.hp_model.specs.Sequence.{answers, failures, target_of, batch_next, next, walks, ends, nothing}
use Rattle.hp_model.specs.Walks.{is_walking}
use Rattle.hp_model.proofs.Laws.{answers_push, operation_push}
use Rattle.hp_suspend.proofs.Quiet.{batching_quiet, quiet_answers}
use Rattle.hp_account.specs.declared.operation.OneWalk.{OneWalk}
use Rattle.hp_suspend.specs.declared.freeze.Freeze.{Freeze as AFreeze}
use Rattle.hp_suspend.specs.declared.thaw.Thaw.{Thaw as AThaw}
use Rattle.hp_suspend.specs.declared.boot.Boot.{Boot as ABoot}
use Rattle.hp_suspend.specs.declared.batch.Batch.{Batch as ABatch}
use Rattle.hp_suspend.specs.Batching.{IsBatching}
use Rattle.hp_suspend.specs.Freezing.{IsFreezing}
use Rattle.hp_suspend.specs.Thawing.{IsThawing}
use Rattle.hp_suspend.specs.Booting.{IsBooting, faults}
use Rattle.hp_suspend.specs.Quiet.{is_quiet, is_walk_begin}
use Rattle.hp_account.specs.declared.operation.Walks.{Walks}
use Rattle.hp_account.specs.declared.operation.Walks.TheVariants.{Single, Freeze, Thaw, Boot, Batch, NoWalk}
use Rattle.hp_account.specs.declared.operation.MapOperation.{MapOperation}
use Rattle.hp_account.specs.Operations.{IsSingle, AreWalks, IsHeld, IsHeldBy}

-- one walk that hasn't begun
pub single_begins : (cpu to : ℕ) (before : List Event) (seat : ℕ) (op : Op) →
    IsSingle cpu to (before ++ Enter seat op ∷ []) (record { cpu = cpu; to = to; answer = None })
single_begins cpu to before seat op = record {
  cpu_is = refl;
  to_is = refl;
  answer_is = ap (λ xs. slice_get xs 0) (sym (answers_push before (Enter seat op)));
}

abbrev pub first_of : Option Answer → Answer → Option Answer
first_of None answer = Some answer
first_of (Some first) answer = Some first

-- its answer, once it has ended
pub single_took : (cpu to : ℕ) (events : List Event) (seat of : ℕ) (answer : Answer) (old new : OneWalk) → IsSingle cpu to events old →
    new.cpu ≡ old.cpu → new.to ≡ old.to → new.answer ≡ first_of (old.answer) answer → IsSingle cpu to (events ++ WalkEnd seat of answer ∷ []) new
single_took cpu to events seat of answer old new is same_cpu same_to given = record {
  cpu_is = same_cpu ∙ is.cpu_is;
  to_is = same_to ∙ is.to_is;
  answer_is =
      given ∙ ap (λ a. first_of a answer) is.answer_is
      ∙ sym (ap (λ xs. slice_get xs 0) (answers_push events (WalkEnd seat of answer)) ∙ go (answers events));
}
  where
    go : (xs : List Answer) → slice_get (xs ++ answer ∷ []) 0 ≡ first_of (slice_get xs 0) answer
    go [] = refl
    go (x ∷ xs) = refl

-- of an operation that walks once, and of each other kind, what is so of its walks is so of the operation's
pub of_single : (head : Head) (entered events after : List Event) (op : Op) (old new : OneWalk) →
    AreWalks head entered events op (Single old) →
    ((cpu to : ℕ) → IsSingle cpu to events old → IsSingle cpu to after new) → AreWalks head entered after op (Single new)
of_single head entered events after (op.Up c) old new is more = more c 200 is
of_single head entered events after (op.Down c) old new is more = more c 0 is
of_single head entered events after (op.Target c v) old new is more = more c (target_of v) is
of_single head entered events after o old new is more = elim is [ ]

pub of_freeze : (head : Head) (entered events after : List Event) (op : Op) (old new : AFreeze) →
    AreWalks head entered events op (Freeze old) →
    ((p : ℤ) → IsFreezing head entered events p old → IsFreezing head entered after p new) → AreWalks head entered after op (Freeze new)
of_freeze head entered events after (op.Freeze p) old new is more = more p is
of_freeze head entered events after o old new is more = elim is [ ]

pub of_thaw : (head : Head) (entered events after : List Event) (op : Op) (old new : AThaw) →
    AreWalks head entered events op (Thaw old) → (IsThawing events old → IsThawing after new) → AreWalks head entered after op (Thaw new)
of_thaw head entered events after op.Thaw old new is more = more is
of_thaw head entered events after o old new is more = elim is [ ]

pub of_boot : (head : Head) (entered events after : List Event) (op : Op) (old new : ABoot) →
    AreWalks head entered events op (Boot old) → ((n : ℕ) → IsBooting n events old → IsBooting n after new) →
    AreWalks head entered after op (Boot new)
of_boot head entered events after (op.Boot n) old new is more = more n is
of_boot head entered events after o old new is more = elim is [ ]

pub of_batch : (head : Head) (entered events after : List Event) (op : Op) (old new : ABatch) →
    AreWalks head entered events op (Batch old) →
    ((set : CpuSet) → IsBatching head entered events set old → IsBatching head entered after set new) →
    AreWalks head entered after op (Batch new)
of_batch head entered events after (op.UpMany set) old new is more = more set is
of_batch head entered events after o old new is more = elim is [ ]

pub of_none : (head : Head) (entered events after : List Event) (op : Op) → AreWalks head entered events op NoWalk →
    AreWalks head entered after op NoWalk
of_none head entered events after op.Disable is = tt
of_none head entered events after op.Enable is = tt
of_none head entered events after o is = elim is [ ]

-- an event that is neither an operation's begin nor a walk's end leaves the walks as they are
single_stays : (cpu to : ℕ) (events : List Event) (e : Event) (w : OneWalk) → answers (events ++ e ∷ []) ≡ answers events →
    IsSingle cpu to events w → IsSingle cpu to (events ++ e ∷ []) w
single_stays cpu to events e w same is = record {
  cpu_is = is.cpu_is;
  to_is = is.to_is;
  answer_is = is.answer_is ∙ ap (λ xs. slice_get xs 0) (sym same);
}

pub sequence_stays : (head : Head) (entered events : List Event) (op : Op) (s : Walks) (e : Event) → is_quiet e ≡ true →
    ((b : ABatch) → s ≡ Batch b → is_walk_begin e ≡ false) → AreWalks head entered events op s →
    AreWalks head entered (events ++ e ∷ []) op s
sequence_stays head entered events op (Single w) e quiet begins is =
    of_single head entered events (events ++ e ∷ []) op w w is
    (λ cpu to h. single_stays cpu to events e w (quiet_answers events e quiet) h)
sequence_stays head entered events op (Freeze f) e quiet begins is =
    of_freeze head entered events (events ++ e ∷ []) op f f is (λ p h. record {
      primary_is = h.primary_is;
      ended_is = h.ended_is ∙ ap (λ xs. slice_get (failures xs) 0) (sym (quiet_answers events e quiet));
    })
sequence_stays head entered events op (Thaw t) e quiet begins is =
    of_thaw head entered events (events ++ e ∷ []) op t t is
    (λ h. record { failed_is = h.failed_is ∙ ap (λ xs. length (failures xs)) (sym (quiet_answers events e quiet)) })
sequence_stays head entered events op (Boot b) e quiet begins is =
    of_boot head entered events (events ++ e ∷ []) op b b is (λ n h. record {
      max_is = h.max_is;
      failed_is = h.failed_is ∙ ap (λ xs. length (failures xs)) (sym (quiet_answers events e quiet));
      turned_back_is = h.turned_back_is ∙ ap (λ xs. length (faults xs)) (sym (quiet_answers events e quiet));
    })
sequence_stays head entered events op (Batch b) e quiet begins is =
    of_batch head entered events (events ++ e ∷ []) op b b is
    (λ set h. batching_quiet e quiet (begins b refl) head entered events set b h)
sequence_stays head entered events op NoWalk e quiet begins is = of_none head entered events (events ++ e ∷ []) op is

-- the operation that holds the lock: it has entered, a walk of it has ended, it has ended, or it stays
pub held_enters : (head : Head) (es : List Event) (seat : ℕ) (asked : Op) (s : Walks) →
    AreWalks head es (es ++ Enter seat asked ∷ []) asked s →
    IsHeld head (es ++ Enter seat asked ∷ []) (record { seat = seat; op = asked; sequence = s })
held_enters head es seat asked s is = record {
  of = record { seat = seat; op = asked; before = es };
  held = operation_push es (Enter seat asked);
  seat_is = refl;
  op_is = refl;
  sequence_is = is;
}

pub held_walks : (head : Head) (es : List Event) (seat c : ℕ) (answer : Answer) (h : MapOperation) (new : Walks) →
    ((entered : List Event) (asked : Op) → AreWalks head entered es asked h.sequence →
    AreWalks head entered (es ++ WalkEnd seat c answer ∷ []) asked new) →
    IsHeld head es h → IsHeld head (es ++ WalkEnd seat c answer ∷ []) (record { seat = h.seat; op = h.op; sequence = new })
held_walks head es seat c answer h new took is = record {
  of = is.of;
  held = operation_push es (WalkEnd seat c answer) ∙ is.held;
  seat_is = is.seat_is;
  op_is = is.op_is;
  sequence_is = took is.of.before is.of.op is.sequence_is;
}

pub held_ends : (es : List Event) (seat : ℕ) (answer : Answer) → operation (es ++ OpEnd seat answer ∷ []) ≡ None
held_ends es seat answer = operation_push es (OpEnd seat answer)

abbrev LeavesOperation : Event → Type 0
LeavesOperation e = is_quiet e ≡ true × ((seat : ℕ) (answer : Answer) → e ≡ OpEnd seat answer → ⊥)

operation_stays : (es : List Event) (e : Event) → LeavesOperation e → operation (es ++ e ∷ []) ≡ operation es
operation_stays es (Enter seat asked) l = absurd (false≢true l.0)
operation_stays es (OpEnd seat answer) l = absurd (l.1 seat answer refl)
operation_stays es e l = operation_push es e

quiet : (e : Event) → ((seat : ℕ) (asked : Op) → e ≡ Enter seat asked → ⊥) →
    ((seat c : ℕ) (answer : Answer) → e ≡ WalkEnd seat c answer → ⊥) → is_quiet e ≡ true
quiet (Enter seat asked) enter over = absurd (enter seat asked refl)
quiet (WalkEnd seat c answer) enter over = absurd (over seat c answer refl)
quiet e enter over = refl

no_walk_begins : (e : Event) → ((seat c from to : ℕ) → e ≡ WalkBegin seat c from to → ⊥) → is_walk_begin e ≡ false
no_walk_begins (WalkBegin seat c from to) begins = absurd (begins seat c from to refl)
no_walk_begins e begins = refl

pub held_stays : (head : Head) (es : List Event) (e : Event) (held : Option MapOperation) →
    ((seat : ℕ) (asked : Op) → e ≡ Enter seat asked → ⊥) → ((seat c from to : ℕ) → e ≡ WalkBegin seat c from to → ⊥) →
    ((seat c : ℕ) (answer : Answer) → e ≡ WalkEnd seat c answer → ⊥) →
    ((seat : ℕ) (answer : Answer) → e ≡ OpEnd seat answer → ⊥) → IsHeldBy head es held → IsHeldBy head (es ++ e ∷ []) held
held_stays head es e None enter begins walk_end over is = operation_stays es e (quiet e enter walk_end, over) ∙ is
held_stays head es e (Some h) enter begins walk_end over is =
    let q = quiet e enter walk_end in
    record {
      of = is.of;
      held = operation_stays es e (q, over) ∙ is.held;
      seat_is = is.seat_is;
      op_is = is.op_is;
      sequence_is = sequence_stays head is.of.before es is.of.op h.sequence e q (λ b same. no_walk_begins e begins) is.sequence_is;
    }

pub none_walks_on : (head : Head) (es : List Event) (seat c : ℕ) (answer : Answer) → IsHeldBy head es None →
    IsHeldBy head (es ++ WalkEnd seat c answer ∷ []) None
none_walks_on head es seat c answer is = operation_push es (WalkEnd seat c answer) ∙ is

-- the begin of a walk: of any operation but an upmany nothing changes, and the processor of an upmany is the first that is to begin
pub none_begins : (es : List Event) (seat c from to : ℕ) → operation es ≡ None → operation (es ++ WalkBegin seat c from to ∷ []) ≡ None
none_begins es seat c from to is = operation_push es (WalkBegin seat c from to) ∙ is

pub single_walks : (head : Head) (es : List Event) (seat c from to : ℕ) (h : MapOperation) → ((b : ABatch) → h.sequence ≡ Batch b → ⊥) →
    IsHeld head es h → IsHeld head (es ++ WalkBegin seat c from to ∷ []) h
single_walks head es seat c from to h single is = record {
  of = is.of;
  held = operation_push es (WalkBegin seat c from to) ∙ is.held;
  seat_is = is.seat_is;
  op_is = is.op_is;
  sequence_is =
      sequence_stays head is.of.before es is.of.op h.sequence (WalkBegin seat c from to) refl (λ b same. absurd (single b same))
      is.sequence_is;
}

first_of_batch : (cs : List ℕ) (walking : Bool) (answer : Answer) (c to : ℕ) → batch_next cs walking answer ≡ walks c to →
    slice_get cs 0 ≡ Some c
first_of_batch (d ∷ ds) walking answer c to h = ap Some (same d 200 h)
  where
    same : (d n : ℕ) → walks d n ≡ walks c to → d ≡ c
    same d n e = cc
first_of_batch [] true answer c to h = absurd (not_nothing h)
  where
    not_nothing : nothing ≡ walks c to → ⊥
    not_nothing e = cc
first_of_batch [] false answer c to h = absurd (not_end answer h)
  where
    not_end : (x : Answer) → ends x ≡ walks c to → ⊥
    not_end x e = cc

-- the walk that begins is that of the first of the batch that is to begin
pub begins_first : (head : Head) (es : List Event) (seat c from to : ℕ) (o : Operation) (set : CpuSet) →
    Comes head es (WalkBegin seat c from to) → operation es ≡ Some o → o.op ≡ op.UpMany set → slice_get (to_begin head es) 0 ≡ Some c
begins_first head es seat c from to o set comes held asked =
    let same : comes.of ≡ o = same_some comes.of o (sym comes.held ∙ held) in
    let gives : next head es o.before (op.UpMany set) ≡ walks c to =
    ap (next head es o.before) (sym asked) ∙ ap (λ (x : Operation). next head es x.before x.op) (sym same) ∙ comes.gives
    in
    ap (λ x. slice_get (to_begin_of head x es) 0) held ∙ ap (λ x. slice_get (unbegun (batch head o.before x) es) 0) asked
    ∙ first_of_batch (unbegun (batch head o.before (op.UpMany set)) es) (is_walking es) (Ok (pos (length (failures (answers es))))) c to
    gives

pub batch_walks : (head : Head) (es : List Event) (seat c from to : ℕ) (h : MapOperation) (b new : ABatch) → IsLawful head es →
    Comes head es (WalkBegin seat c from to) → h.sequence ≡ Batch b →
    ((o : Operation) (set : CpuSet) → operation es ≡ Some o → o.op ≡ op.UpMany set → IsBatching head o.before es set b →
    slice_get (to_begin head es) 0 ≡ Some c → IsBatching head o.before (es ++ WalkBegin seat c from to ∷ []) set new) →
    IsHeld head es h →
    IsHeld head (es ++ WalkBegin seat c from to ∷ []) (record { seat = h.seat; op = h.op; sequence = Batch new })
batch_walks head es seat c from to h b new lawful comes batch began is = record {
  of = is.of;
  held = operation_push es (WalkBegin seat c from to) ∙ is.held;
  seat_is = is.seat_is;
  op_is = is.op_is;
  sequence_is = go is.of.op refl (subst (AreWalks head is.of.before es is.of.op) batch is.sequence_is);
}
  where
    go : (asked : Op) → is.of.op ≡ asked → AreWalks head is.of.before es asked (Batch b) →
        AreWalks head is.of.before (es ++ WalkBegin seat c from to ∷ []) asked (Batch new)
    go (op.UpMany set) e q = began is.of set is.held e q (begins_first head es seat c from to is.of set comes is.held e)
    go asked e q = elim q [ ]

-- What comes next of the operation that holds the map lock is what the journal says.
use Rattle.std.proofs.Common.{◌≡◌, ℕ, ℤ, zero, suc, pos, ◌<◌, Bool, false, not, Some, None, List, [], ◌∷◌, length, refl, sym, ap, ◌∙◌, subst, arith}
use Rattle.std.specs.Prelude.{slice_get, slice_index, map, option_map}
use Rattle.std.proofs.lemmas.Bool.{ltb-true}
use Rattle.std.proofs.lemmas.Option.{slice_get-get_or}
use Rattle.hp_states.proofs.Basics.{not_false}
use Rattle.hp_states.specs.declared.cpu_set.CpuSet.{CpuSet}
use Rattle.hp_states.specs.Sections.{is_online_state}
use Rattle.hp_event.specs.declared.answer.Answer.{Answer}
use Rattle.hp_event.specs.declared.answer.Answer.TheVariants.{Ok}
use Rattle.hp_event.specs.declared.op.Op.{Op}
use Rattle.hp_event.specs.declared.op.Op.TheVariants as op
use Rattle.hp_event.specs.declared.head.Head.{Head}
use Rattle.hp_event.specs.declared.event.Event.{Event}
use Rattle.hp_model.specs.MapLock.{Operation, operation}
use Rattle.hp_model.specs.Processors.{is_possible}
use Rattle.hp_model.specs.RefusalsAtOnce.{refusals_at_once, first_that_holds}
use Rattle.hp_model.specs.Settled.{settled}
use Rattle.hp_model.specs.Batch.{batch, unbegun, to_begin_of, to_begin}
use Rattle.hp_model.specs.Lists.{is_empty}
use Rattle.hp_model.specs.Walks.{walking, is_walking}
use Rattle.hp_model.specs.Sequence.{walks, ends, answers, failures, single_next, batch_next, next, target_of}
use Rattle.hp_model.specs.Lawful.{IsLawful}
use Rattle.hp_model.specs.StandsOperations.{Enters}
use Rattle.hp_model.proofs.Induction.{held_from, held_none}
use Rattle.hp_model.proofs.Operations.{EnteredBy}
use Rattle.hp_model.proofs.Passing.{passed, none_holds}
use Rattle.hp_suspend.specs.Tables.{AreAll, AreOnline, AreSettled}
use Rattle.hp_account.specs.declared.operation.OneWalk.{OneWalk}
use Rattle.hp_account.specs.Flags.{AreFlags}
use Rattle.hp_suspend.specs.declared.freeze.Freeze.{Freeze as AFreeze}
use Rattle.hp_suspend.specs.declared.thaw.Thaw.{Thaw as AThaw}
use Rattle.hp_suspend.specs.declared.boot.Boot.{Boot as ABoot}
use Rattle.hp_suspend.specs.declared.batch.Batch.{Batch as ABatch}
use Rattle.hp_suspend.specs.Batching.{IsBatching}
use Rattle.hp_suspend.specs.Freezing.{IsFreezing}
use Rattle.hp_suspend.specs.Thawing.{IsThawing}
use Rattle.hp_suspend.specs.Booting.{IsBooting}
use Rattle.hp_account.specs.declared.operation.Walks.TheVariants.{Single, Freeze, Thaw, Boot, Batch, NoWalk}
use Rattle.hp_account.specs.declared.operation.MapOperation.{MapOperation}
use Rattle.hp_account.specs.Operations.{IsSingle, AreWalks, IsHeld, single_by}
use Rattle.hp_account.specs.Processors.{ProcessorsView, IsStanding, online_flags}

-- flags are a list with a place for each
pub flags_all : (head : Head) (test : ℕ → Bool) (flags : List Bool) → AreFlags test head.possible flags → AreAll head test flags
flags_all head test flags h =
    let n = h.places in
    record {
      length_is = h.places;
      each = λ c below. slice_get-get_or flags c false (omega (arith, n, below)) ∙ ap Some (h.each c below);
    }

pub settled_all : (head : Head) (es : List Event) (p : ProcessorsView) → IsStanding head es p → AreSettled head es p.settled
settled_all head es p h =
    let n = h.cpus in
    record {
      length_is = h.cpus;
      each = λ c below. slice_get-get_or p.settled c 0 (omega (arith, n, below)) ∙ ap Some (h.settled_is c below);
    }

online_at : (xs : List ℕ) (c : ℕ) → slice_get (map is_online_state xs) c ≡ option_map is_online_state (slice_get xs c)
online_at [] c = refl
online_at (x ∷ xs) zero = refl
online_at (x ∷ xs) (suc c) = online_at xs c

map_length : (xs : List ℕ) → length (map is_online_state xs) ≡ length xs
map_length [] = refl
map_length (x ∷ xs) = ap suc (map_length xs)

pub online_all : (head : Head) (es : List Event) (p : ProcessorsView) → IsStanding head es p → AreOnline head es (online_flags p)
online_all head es p h =
    record {
      length_is = map_length p.settled ∙ h.cpus;
      each = λ c below. online_at p.settled c ∙ ap (option_map is_online_state) ((settled_all head es p h).each c below);
    }

-- the operation that holds the map lock has entered
entered : (head : Head) (es : List Event) (o : Operation) → IsLawful head es → operation es ≡ Some o → Enters head o.before o.seat o.op
entered head es o lawful held =
    let k : EnteredBy head (operation es) = (held_from head [] es (held_none head lawful.0) lawful.1).operations.entered in
    (rw held at k).enters

-- what one walk asks for, by the journal
one_next : (head : Head) (es : List Event) (p : ProcessorsView) (cpu to : ℕ) (w : OneWalk) → cpu < head.possible → IsStanding head es p →
    IsSingle cpu to es w → single_by w.cpu w.to (slice_index p.settled w.cpu) w.answer ≡ single_next cpu to (settled cpu es) (answers es)
one_next head es p cpu to w below standing is =
    rw (is.cpu_is, is.to_is, standing.settled_is cpu below, is.answer_is) (go (answers es))
  where
    go : (xs : List Answer) → single_by cpu to (settled cpu es) (slice_get xs 0) ≡ single_next cpu to (settled cpu es) xs
    go [] = refl
    go (x ∷ xs) = refl

-- so what comes next is what the journal says, whose processor is a possible one
pub single_is : (head : Head) (es : List Event) (p : ProcessorsView) (o : Operation) (w : OneWalk) → IsLawful head es → operation es ≡ Some o →
    IsStanding head es p → AreWalks head o.before es o.op (Single w) →
    single_by w.cpu w.to (slice_index p.settled w.cpu) w.answer ≡ next head es o.before o.op
single_is head es p o w lawful held standing is =
    let e = entered head es o lawful held in
    let q = passed head o.before o.seat o.op e.free.idle e.passes.not_waiting e.passes.not_refused in
    go o.op q.0 is
  where
    go : (asked : Op) → first_that_holds (refusals_at_once head o.before o.seat asked) ≡ None → AreWalks head o.before es asked (Single w) →
        single_by w.cpu w.to (slice_index p.settled w.cpu) w.answer ≡ next head es o.before asked
    go (op.Up c) h is =
        let n = none_holds (refusals_at_once head o.before o.seat (op.Up c)) h in
        one_next head es p c 200 w (ltb-true c head.possible (not_false (is_possible head c) n.1.0)) standing is
    go (op.Down c) h is =
        let n = none_holds (refusals_at_once head o.before o.seat (op.Down c)) h in
        one_next head es p c 0 w (ltb-true c head.possible (not_false (is_possible head c) n.1.0)) standing is
    go (op.Target c v) h is =
        let n = none_holds (refusals_at_once head o.before o.seat (op.Target c v)) h in
        one_next head es p c (target_of v) w (ltb-true c head.possible (not_false (is_possible head c) n.1.0)) standing is
    go asked h is = elim is [ ]

-- each other sequence is its operation's
pub record OfFreeze (head : Head) (es : List Event) (o : Operation) (f : AFreeze) : Type 0 where
  pub primary : ℤ
  pub op_is : o.op ≡ op.Freeze primary
  pub is : IsFreezing head o.before es primary f

pub freeze_is : (head : Head) (es : List Event) (o : Operation) (f : AFreeze) → AreWalks head o.before es o.op (Freeze f) → OfFreeze head es o f
freeze_is head es o f is = go o.op refl is
  where
    go : (asked : Op) → o.op ≡ asked → AreWalks head o.before es asked (Freeze f) → OfFreeze head es o f
    go (op.Freeze p) e is = record { primary = p; op_is = e; is = is }
    go asked e is = elim is [ ]

pub thaw_is : (head : Head) (es : List Event) (o : Operation) (t : AThaw) → AreWalks head o.before es o.op (Thaw t) →
    (o.op ≡ op.Thaw) × IsThawing es t
thaw_is head es o t is = go o.op refl is
  where
    go : (asked : Op) → o.op ≡ asked → AreWalks head o.before es asked (Thaw t) → (o.op ≡ op.Thaw) × IsThawing es t
    go op.Thaw e is = (e, is)
    go asked e is = elim is [ ]

pub record OfBoot (es : List Event) (o : Operation) (b : ABoot) : Type 0 where
  pub max : ℕ
  pub op_is : o.op ≡ op.Boot max
  pub is : IsBooting max es b

pub boot_is : (head : Head) (es : List Event) (o : Operation) (b : ABoot) → AreWalks head o.before es o.op (Boot b) → OfBoot es o b
boot_is head es o b is = go o.op refl is
  where
    go : (asked : Op) → o.op ≡ asked → AreWalks head o.before es asked (Boot b) → OfBoot es o b
    go (op.Boot n) e is = record { max = n; op_is = e; is = is }
    go asked e is = elim is [ ]

pub record OfBatch (head : Head) (es : List Event) (o : Operation) (b : ABatch) : Type 0 where
  pub set : CpuSet
  pub op_is : o.op ≡ op.UpMany set
  pub is : IsBatching head o.before es set b

pub batch_is : (head : Head) (es : List Event) (o : Operation) (b : ABatch) → AreWalks head o.before es o.op (Batch b) → OfBatch head es o b
batch_is head es o b is = go o.op refl is
  where
    go : (asked : Op) → o.op ≡ asked → AreWalks head o.before es asked (Batch b) → OfBatch head es o b
    go (op.UpMany set) e is = record { set = set; op_is = e; is = is }
    go asked e is = elim is [ ]

-- what comes next of an upmany is the walk of the first that is to begin, or where none is and nothing walks its end
first_walks : (cs : List ℕ) (walking : Bool) (answer : Answer) (c : ℕ) → Some c ≡ slice_get cs 0 → walks c 200 ≡ batch_next cs walking answer
first_walks (d ∷ ds) walking answer c h = ap (λ n. walks n 200) (same d h)
  where
    same : (d : ℕ) → Some c ≡ Some d → c ≡ d
    same d e = cc
first_walks [] walking answer c h = absurd (some_none h)
  where
    some_none : Some c ≡ None → ⊥
    some_none e = cc

none_ends : (cs : List ℕ) (answer : Answer) → None ≡ slice_get cs 0 → ends answer ≡ batch_next cs false answer
none_ends [] answer h = refl
none_ends (d ∷ ds) answer h = absurd (none_some h)
  where
    none_some : None ≡ Some d → ⊥
    none_some e = cc

left_of : (head : Head) (es : List Event) (o : Operation) (set : CpuSet) → operation es ≡ Some o → o.op ≡ op.UpMany set →
    slice_get (to_begin head es) 0 ≡ slice_get (unbegun (batch head o.before (op.UpMany set)) es) 0
left_of head es o set held asked =
    ap (λ x. slice_get (to_begin_of head x es) 0) held ∙ ap (λ x. slice_get (unbegun (batch head o.before x) es) 0) asked

pub batch_walks_next : (head : Head) (es : List Event) (o : Operation) (set : CpuSet) (c : ℕ) → operation es ≡ Some o →
    o.op ≡ op.UpMany set → Some c ≡ slice_get (to_begin head es) 0 → walks c 200 ≡ next head es o.before o.op
batch_walks_next head es o set c held asked h =
    first_walks (unbegun (batch head o.before (op.UpMany set)) es) (is_walking es) (Ok (pos (length (failures (answers es))))) c
    (h ∙ left_of head es o set held asked)
    ∙ ap (next head es o.before) (sym asked)

pub batch_ends_next : (head : Head) (es : List Event) (o : Operation) (set : CpuSet) (b : ABatch) → operation es ≡ Some o →
    o.op ≡ op.UpMany set → IsBatching head o.before es set b → walking es ≡ [] → None ≡ slice_get (to_begin head es) 0 →
    ends (Ok (pos b.failed)) ≡ next head es o.before o.op
batch_ends_next head es o set b held asked is still h =
    none_ends (unbegun (batch head o.before (op.UpMany set)) es) (Ok (pos b.failed)) (h ∙ left_of head es o set held asked)
    ∙ ap (λ n. batch_next (unbegun (batch head o.before (op.UpMany set)) es) false (Ok (pos n))) is.failed_is
    ∙ ap
    (λ cs. batch_next (unbegun (batch head o.before (op.UpMany set)) es) (not (is_empty cs)) (Ok (pos (length (failures (answers es))))))
    (sym still)
    ∙ ap (next head es o.before) (sym asked)

pub none_is : (head : Head) (es : List Event) (o : Operation) → AreWalks head o.before es o.op NoWalk →
    ends (Ok (pos 0)) ≡ next head es o.before o.op
none_is head es o is = go o.op is
  where
    go : (asked : Op) → AreWalks head o.before es asked NoWalk → ends (Ok (pos 0)) ≡ next head es o.before asked
    go op.Disable is = refl
    go op.Enable is = refl
    go asked is = elim is [ ]

-- of the operation that holds the lock
pub of_held : (head : Head) (es : List Event) (h : MapOperation) (o : Operation) → IsHeld head es h → operation es ≡ Some o →
    AreWalks head o.before es o.op h.sequence
of_held head es h o is held =
    subst (λ x. AreWalks head x.before es x.op h.sequence) (same is.of o (sym is.held ∙ held)) is.sequence_is
  where
    same : (a b : Operation) → Some a ≡ Some b → a ≡ b
    same a b e = cc

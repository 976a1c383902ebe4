-- One event more: the called set of a journal becomes that of the longer one.
use Rattle.std.proofs.Common.{◌≡◌, ℕ, ◌+◌, ◌≤◌, Bool, true, false, not, cond, ◌&&◌, ◌||◌, eqb, ltb, Option, Some, None, is_some, List, [], ◌∷◌, ◌++◌, refl, ap, sym, subst, ◌∙◌, arith, ℤ}
use Rattle.std.proofs.lemmas.Bool.Decides.{nat_tests}
use Rattle.std.proofs.lemmas.Bool.{true≢false, eq-eqb, eqb-true, ltb-true, lt-ltb, and_parts}
use Rattle.hp_states.proofs.Basics.{none_of, and_false}
use Rattle.hp_states.specs.declared.dir.Dir.{Dir}
use Rattle.hp_states.specs.declared.dir.Dir.TheVariants.{Up, Down}
use Rattle.hp_event.specs.Hows.{is_done}
use Rattle.hp_event.specs.Answers.{is_ok}
use Rattle.hp_event.specs.declared.answer.Answer.{Answer}
use Rattle.hp_event.specs.declared.answer.Answer.TheVariants.{Ok}
use Rattle.hp_event.specs.declared.event.Event.{Event}
use Rattle.hp_event.specs.declared.event.Event.TheVariants.{Call, RegBegin, RegEnd}
use Rattle.hp_event.specs.declared.head.Head.{Head}
use Rattle.hp_event.specs.declared.how.How.{How}
use Rattle.hp_event.specs.declared.key.Key.{Key}
use Rattle.hp_event.specs.declared.op.Op.{Op}
use Rattle.hp_event.specs.declared.op.Op.TheVariants.{Setup, Remove, Add, Del}
use Rattle.hp_states.specs.Rules.{same_dir}
use Rattle.hp_model.specs.InForce.{is_done_entry, done_entries, ups, downs}
use Rattle.hp_model.specs.Lawful.{Stands, IsLawful}
use Rattle.hp_model.specs.Lists.{occurs, among}
use Rattle.hp_model.specs.Net.{is_key_in_force}
use Rattle.hp_model.specs.Registered.{Registered, registered, applied, insts_of, keys, after_answer}
use Rattle.hp_model.specs.Registrations.{Registration, registration}
use Rattle.hp_model.specs.Subsystems.{is_multi}
use Rattle.hp_model.proofs.CanBegin.{CanBegin}
use Rattle.hp_model.proofs.Counts.{done_entries-none, done_entries_push}
use Rattle.hp_model.proofs.HeadlineProof.{lawful_more}
use Rattle.hp_model.proofs.Induction.{kept}
use Rattle.hp_model.proofs.Kept.{RegistrationKept}
use Rattle.hp_model.proofs.Laws.{registration_push, registered_push}
use Rattle.hp_model.proofs.ListLemmas.{occurs-without}
use Rattle.hp_model.proofs.Once.{once}
use Rattle.hp_model.proofs.Passing.{begins_alone}
use Rattle.hp_model.proofs.RegistrationSteps.{after_other}
use Rattle.hp_called.specs.declared.called.Called.{Called}
use Rattle.hp_called.specs.declared.ending.Ending.{Ending}
use Rattle.hp_called.specs.Called.{IsCalled, is_there, ending_of}
use Rattle.hp_states.specs.declared.cpu_set.CpuSet.{CpuSet}
use Rattle.hp_called.specs.declared.rows.Rows.{Rows}
use Rattle.hp_called.specs.Rows.{same, row, has_row, is_in, is_on, is_up}
use Rattle.hp_called.specs.Steps.{ending_by, takes_row, is_added, is_taken, row_after, on_after, ending_after}
use Rattle.hp_called.proofs.Unregistered.{in_force_there}

-- ---- what goes at the end of a registration

pub ending_push : (head : Head) (es : List Event) (e : Event) →
    ending_of head (registration (es ++ e ∷ [])) ≡ ending_after head e (ending_of head (registration es))
ending_push head es (RegBegin seat state op) = ap (ending_of head) (registration_push es (RegBegin seat state op))
ending_push head es (RegEnd seat answer) = ap (ending_of head) (registration_push es (RegEnd seat answer))
ending_push head es e = ap (ending_of head) (registration_push es e)

-- ---- which keys are there

-- with another registration and other keys
abbrev there_by : Head → Option Registration → (insts : List ℕ) → Key → Bool
there_by head r insts k = is_added (ending_of head r) k || among k.inst insts

there_push : (head : Head) (es : List Event) (e : Event) (k : Key) (r : Option Registration) (found : Option Registered) →
    registration (es ++ e ∷ []) ≡ r → registered head k.state (es ++ e ∷ []) ≡ found →
    is_there head (es ++ e ∷ []) k ≡ there_by head r (insts_of found) k
there_push head es e k r found a b = rw (a, b) refl

-- what a registration of another state adds and takes
not_at : (adds answered : Bool) (s t j i : ℕ) → eqb s t ≡ false → (adds && (eqb s t && eqb j i)) ≡ false
not_at true answered s t j i h = rw h refl
not_at false answered s t j i h = refl

added_other : (head : Head) (op : Op) (s : ℕ) (k : Key) → eqb s k.state ≡ false → is_added (ending_by head op s) k ≡ false
added_other head (Setup asked sub form) s k h = go (is_multi head sub)
  where
    go : (m : Bool) → is_added (cond m None (Some (record { key = record { state = s; inst = 0 }; adds = true }))) k ≡ false
    go true = refl
    go false = rw h refl
added_other head (Remove state form) s k h = refl
added_other head (Add state inst form) s k h = rw h refl
added_other head (Del state inst form) s k h = refl
added_other head op s k h = refl

taken_other : (head : Head) (op : Op) (answer : Answer) (s : ℕ) (k : Key) → eqb s k.state ≡ false →
    is_taken (ending_by head op s) answer k ≡ false
taken_other head (Setup asked sub form) answer s k h = go (is_multi head sub)
  where
    go : (m : Bool) → is_taken (cond m None (Some (record { key = record { state = s; inst = 0 }; adds = true }))) answer k ≡ false
    go true = refl
    go false = rw h (and_false (takes_row true answer))
taken_other head (Remove state form) answer s k h = rw h (and_false (takes_row false answer))
taken_other head (Add state inst form) answer s k h = rw h (and_false (takes_row true answer))
taken_other head (Del state inst form) answer s k h = rw h (and_false (takes_row false answer))
taken_other head op answer s k h = refl

-- what an answer leaves of what is registered at the state of its registration
abbrev left_by : Answer → (applied found : Option Registered) → Option Registered
left_by (Ok value) a found = a
left_by _ a found = found

after_same : (head : Head) (s : ℕ) (answer : Answer) (r : Registration) (found : Option Registered) → eqb r.state s ≡ true →
    after_answer head s answer (Some r) found ≡ left_by answer (applied head r.op found) found
after_same head s (Ok value) r found h = rw h refl
after_same head s answer r found h = refl

-- ---- the end of a registration, at its own state

some_of : (b : Bool) (n : ℕ) → ltb 0 (cond b 1 0 + n) ≡ (b || ltb 0 n)
some_of true n = grind (arith, nat_tests)
some_of false n = ap (λ m. ltb 0 m) (omega arith)

none_of_these : (b : Bool) (n : ℕ) → ltb 0 (cond b 0 n) ≡ (not b && ltb 0 n)
none_of_these true n = refl
none_of_these false n = refl

-- a key that is taken out again, which wasn't there before, or which was the only one
out_again : (b a : Bool) → (b ≡ true → a ≡ false) → a ≡ (not b && (b || a))
out_again true a h = h refl
out_again false a h = refl

only_one : (b a : Bool) → a ≡ true → b ≡ true → false ≡ (not b && a)
only_one b a p q = rw q refl

abbrev setup_ending : (multi : Bool) → (state : ℕ) → Option Ending
setup_ending m s = cond m None (Some (record { key = record { state = s; inst = 0 }; adds = true }))

abbrev key_at : (state inst : ℕ) → Key
key_at s i = record { state = s; inst = i }

abbrev AtEnd : Head → Op → (state : ℕ) → Answer → Option Registered → (inst : ℕ) → Type 0
AtEnd head op s answer found i =
    among i (insts_of (left_by answer (applied head op found) found))
    ≡ (not (is_taken (ending_by head op s) answer (key_at s i)) && (is_added (ending_by head op s) (key_at s i) || among i (insts_of found)))

self_at : (s : ℕ) → eqb s s ≡ true
self_at s = eq-eqb s s refl

setup_made : (m : Bool) (s i : ℕ) (value : ℤ) →
    among i (cond m [] (0 ∷ []))
    ≡ (not (is_taken (setup_ending m s) (Ok value) (key_at s i)) && (is_added (setup_ending m s) (key_at s i) || false))
setup_made true s i value = refl
setup_made false s i value = rw (self_at s) (some_of (eqb 0 i) 0)

setup_undone : (m : Bool) (s i : ℕ) (answer : Answer) → is_ok answer ≡ false →
    false ≡ (not (is_taken (setup_ending m s) answer (key_at s i)) && (is_added (setup_ending m s) (key_at s i) || false))
setup_undone true s i answer h = refl
setup_undone false s i answer h = rw (h, self_at s) (out_again (eqb 0 i) false (λ e. refl))

-- a removed state had no instances, or the key of a state without them
removed : (m : Bool) (insts : List ℕ) (i : ℕ) → (m ≡ true → insts ≡ []) → false ≡ (not (eqb 0 i) && among i (cond m insts (0 ∷ [])))
removed true insts i none = rw (none refl) (sym (and_false (not (eqb 0 i))))
removed false insts i none = rw (some_of (eqb 0 i) 0) (by (eqb 0 i))
  where
    by : (b : Bool) → false ≡ (not b && (b || false))
    by true = refl
    by false = refl

turned : (m n : ℕ) → eqb m n ≡ eqb n m
turned m n = grind (arith, nat_tests)

at_end : (head : Head) (op : Op) (s : ℕ) (answer : Answer) (found : Option Registered) (i : ℕ) → CanBegin op found →
    AtEnd head op s answer found i
at_end head (Setup asked sub form) s (Ok value) found i h = rw h (setup_made (is_multi head sub) s i value)
at_end head (Setup asked sub form) s answer found i h = rw h (setup_undone (is_multi head sub) s i answer refl)
at_end head (Remove state form) s (Ok value) found i h = rw (h.1, self_at s) (removed h.0.multi h.0.insts i h.2)
at_end head (Remove state form) s answer found i h = refl
at_end head (Add state inst form) s (Ok value) found i h =
    rw (h.1, h.2, self_at s) (some_of (eqb inst i) (occurs i h.0.insts))
at_end head (Add state inst form) s answer found i h =
    rw (h.1, h.2, self_at s)
    (out_again (eqb inst i) (among i h.0.insts) (λ e. let same = eqb-true inst i e in rw (← same) (rw h.3 refl)))
at_end head (Del state inst form) s (Ok value) found i h =
    rw (h.1, h.2, self_at s, occurs-without inst i h.0.insts, turned i inst) (none_of_these (eqb inst i) (occurs i h.0.insts))
at_end head (Del state inst form) s answer found i h = refl
at_end head op s answer found i h = elim h [ ]

ends : (head : Head) (r : Registration) (answer : Answer) (k : Key) (found : Option Registered) →
    (eqb r.state k.state ≡ true → CanBegin r.op found) →
    among k.inst (insts_of (after_answer head k.state answer (Some r) found))
    ≡ (not (is_taken (ending_by head r.op r.state) answer k) && (is_added (ending_by head r.op r.state) k || among k.inst (insts_of found)))
ends head r answer k found can = go (eqb r.state k.state) refl
  where
    go : (b : Bool) → eqb r.state k.state ≡ b →
        among k.inst (insts_of (after_answer head k.state answer (Some r) found))
        ≡ (not (is_taken (ending_by head r.op r.state) answer k)
        && (is_added (ending_by head r.op r.state) k || among k.inst (insts_of found)))
    go true e =
        let same = eqb-true r.state k.state e in
        ap (λ o. among k.inst (insts_of o)) (after_same head k.state answer r found e)
        ∙ rw same (at_end head r.op k.state answer found k.inst (can e))
    go false e =
        ap (λ o. among k.inst (insts_of o)) (after_other head k.state answer r found e)
        ∙ rw (taken_other head r.op answer r.state k e, added_other head r.op r.state k e) refl

-- ---- one event more

pub there_after : (head : Head) (es : List Event) (e : Event) (k : Key) → IsLawful head es → Stands head es e →
    is_there head (es ++ e ∷ []) k ≡ row_after head e (ending_of head (registration es)) k (is_there head es k)
there_after head es (RegBegin seat state op) k lawful stands =
    let e = RegBegin seat state op in
    let alone = none_of (registration es) (begins_alone head es op state stands.0.state_is stands.0.passes.not_waiting).1 in
    there_push head es e k _ (registered head k.state es) (registration_push es e) (registered_push head k.state es e)
    ∙ sym (ap (λ r. is_added (ending_by head op state) k || there_by head r (keys head es k.state) k) alone)
there_after head es (RegEnd seat answer) k lawful stands =
    let e = RegEnd seat answer in
    let h = stands.0 in
    let r = h.of in
    let kept' : RegistrationKept head r es = rw h.in_flight at (kept head es lawful).registration_kept in
    let found = registered head k.state es in
    let can : eqb r.state k.state ≡ true → CanBegin r.op found = λ same.
    subst (λ s. CanBegin r.op (registered head s es)) (eqb-true r.state k.state same)
    (subst (CanBegin r.op) (sym (kept'.registered_same r.state)) kept'.can_begin) in
    there_push head es e k None (after_answer head k.state answer (Some r) found) (registration_push es e)
    (registered_push head k.state es e ∙ ap (λ o. after_answer head k.state answer o found) h.in_flight)
    ∙ (ends head r answer k found can
    ∙ ap (λ o. not (is_taken (ending_of head o) answer k) && (is_added (ending_of head o) k || among k.inst (insts_of found))) (sym h.in_flight))
there_after head es e k lawful stands =
    there_push head es e k (registration es) (registered head k.state es) (registration_push es e) (registered_push head k.state es e)

-- ---- what is in force

not_there : (head : Head) (es : List Event) (c : ℕ) (k : Key) → IsLawful head es → is_there head es k ≡ false → is_key_in_force c es k ≡ false
not_there head es c k lawful h = go (is_key_in_force c es k) refl
  where
    go : (b : Bool) → is_key_in_force c es k ≡ b → b ≡ false
    go false e = refl
    go true e =
        let force = ltb-true (downs c k.state k.inst es) (ups c k.state k.inst es) e in
        absurd (true≢false (sym (in_force_there head es c k.state k.inst lawful force) ∙ h))

-- after an event that is no done entry of the key on the processor
more_of : (c s i : ℕ) (d : Dir) (es : List Event) (e : Event) (b : Bool) → is_done_entry c s i d e ≡ b →
    done_entries c s i d (es ++ e ∷ []) ≡ done_entries c s i d es + cond b 1 0
more_of c s i d es e b h = done_entries_push c s i d es e ∙ ap (λ t. done_entries c s i d es + cond t 1 0) h

same_force : (c : ℕ) (es : List Event) (e : Event) (k : Key) → ((d : Dir) → is_done_entry c k.state k.inst d e ≡ false) →
    is_key_in_force c (es ++ e ∷ []) k ≡ is_key_in_force c es k
same_force c es e k none =
    let up : ups c k.state k.inst (es ++ e ∷ []) ≡ ups c k.state k.inst es =
    more_of c k.state k.inst Up es e false (none Up) ∙ omega arith in
    let down : downs c k.state k.inst (es ++ e ∷ []) ≡ downs c k.state k.inst es =
    more_of c k.state k.inst Down es e false (none Down) ∙ omega arith in
    ap (λ n. ltb n (ups c k.state k.inst (es ++ e ∷ []))) down ∙ ap (λ n. ltb (downs c k.state k.inst es) n) up

left_in : (b found : Bool) → (b ≡ true → found ≡ false) → found ≡ (not b && found)
left_in true found h = h refl
left_in false found h = refl

-- a key that a registration adds isn't there before
added_parts : (head : Head) (op : Op) (s : ℕ) (k : Key) → is_added (ending_by head op s) k ≡ true → s ≡ k.state
added_parts head op s k h = go (eqb s k.state) refl
  where
    go : (b : Bool) → eqb s k.state ≡ b → s ≡ k.state
    go true e = eqb-true s k.state e
    go false e = absurd (true≢false (sym h ∙ added_other head op s k e))

setup_absent : (op : Op) (found : Option Registered) (i : ℕ) → found ≡ None → among i (insts_of found) ≡ false
setup_absent op found i h = rw h refl

add_key : (inst s i : ℕ) → (true && (eqb s s && eqb inst i)) ≡ true → inst ≡ i
add_key inst s i h = eqb-true inst i (and_parts (eqb s s) (eqb inst i) h).1

added_absent : (head : Head) (op : Op) (s : ℕ) (found : Option Registered) (i : ℕ) → CanBegin op found →
    is_added (ending_by head op s) (key_at s i) ≡ true → among i (insts_of found) ≡ false
added_absent head (Setup asked sub form) s found i h added = setup_absent (Setup asked sub form) found i h
added_absent head (Remove state form) s found i h added = absurd (true≢false (sym added))
added_absent head (Add state inst form) s found i h added = rw (h.1, h.2, ← (add_key inst s i added), h.3) refl
added_absent head (Del state inst form) s found i h added = absurd (true≢false (sym added))
added_absent head op s found i h added = elim h [ ]

begins_absent : (head : Head) (es : List Event) (seat state : ℕ) (op : Op) (k : Key) → IsLawful head es →
    Stands head es (RegBegin seat state op) → is_added (ending_by head op state) k ≡ true → is_there head es k ≡ false
begins_absent head es seat state op k lawful stands added =
    let e = RegBegin seat state op in
    let r : Registration = record { seat = seat; state = state; op = op; before = es } in
    let k' : RegistrationKept head r (es ++ e ∷ []) =
    rw (registration_push es e) at (kept head (es ++ e ∷ []) (lawful_more head es e lawful stands)).registration_kept in
    let alone = none_of (registration es) (begins_alone head es op state stands.0.state_is stands.0.passes.not_waiting).1 in
    let at = added_parts head op state k added in
    let absent = added_absent head op k.state (registered head k.state es) k.inst
    (subst (λ s. CanBegin op (registered head s es)) at k'.can_begin) (subst (λ s. is_added (ending_by head op s) k ≡ true) at added) in
    ap (λ o. is_added (ending_of head o) k || among k.inst (keys head es k.state)) alone ∙ absent

-- an entry
abbrev entry_on : (cpu state inst : ℕ) → (c : ℕ) → Key → Bool
entry_on cpu s i c k = same (key_at s i) k && eqb cpu c

is_entry : (seat cpu s i : ℕ) (way d : Dir) (how : How) (c : ℕ) (k : Key) (done on : Bool) → is_done how ≡ done → entry_on cpu s i c k ≡ on →
    is_done_entry c k.state k.inst d (Call seat cpu s i way how) ≡ (on && (same_dir way d && done))
is_entry seat cpu s i way d how c k done on a b =
    parts (eqb cpu c) (same_dir way d) (eqb s k.state && eqb i k.inst) (is_done how)
    ∙ (ap (λ t. t && (same_dir way d && is_done how)) b ∙ ap (λ t. on && (same_dir way d && t)) a)
  where
    parts : (p q m n : Bool) → ((p && q) && (m && n)) ≡ ((m && p) && (q && n))
    parts true true true n = refl
    parts true true false n = refl
    parts true false true n = refl
    parts true false false n = refl
    parts false q true n = refl
    parts false q false n = refl

no_entry : (on done : Bool) (way d : Dir) → (done && on) ≡ false → (on && (same_dir way d && done)) ≡ false
no_entry false done way d h = refl
no_entry true true way d h = absurd (true≢false h)
no_entry true false way d h = and_false (same_dir way d)

not_written : (done row on up found : Bool) → (done && on) ≡ false → found ≡ cond (done && (row && on)) up found
not_written false row on up found h = refl
not_written true true true up found h = absurd (true≢false h)
not_written true true false up found h = refl
not_written true false on up found h = refl

both : (a b : Bool) → (a && b) ≡ true → (a ≡ true) × (b ≡ true)
both a b h = and_parts a b h

up_raises : (d u : ℕ) → d ≤ u → ltb d (u + 1) ≡ true
up_raises d u h = lt-ltb d (u + 1) (omega (arith, h))

down_lowers : (d u : ℕ) → u ≤ d + 1 → ltb (d + 1) u ≡ false
down_lowers d u h = grind (arith, nat_tests)

written_up : (done row on found : Bool) → done ≡ true → on ≡ true → row ≡ true → true ≡ cond (done && (row && on)) true found
written_up done row on found a b h = rw (a, b, h) refl

written_down : (done row on found : Bool) → done ≡ true → on ≡ true → (row ≡ false → found ≡ false) →
    false ≡ cond (done && (row && on)) false found
written_down done true on found a b h = rw (a, b) refl
written_down done false on found a b h = rw a (sym (h refl))

entry_force : (head : Head) (es : List Event) (seat cpu s i : ℕ) (dir : Dir) (how : How) (c : ℕ) (k : Key) → IsLawful head es →
    Stands head es (Call seat cpu s i dir how) → (is_done how && entry_on cpu s i c k) ≡ true →
    is_key_in_force c (es ++ Call seat cpu s i dir how ∷ []) k
    ≡ cond (is_done how && (is_there head es k && entry_on cpu s i c k)) (is_up dir) (is_key_in_force c es k)
entry_force head es seat cpu s i Up how c k lawful stands hit =
    let e = Call seat cpu s i Up how in
    let h = both (is_done how) (entry_on cpu s i c k) hit in
    let up = more_of c k.state k.inst Up es e true (is_entry seat cpu s i Up Up how c k true true h.0 h.1) in
    let down = more_of c k.state k.inst Down es e false (is_entry seat cpu s i Up Down how c k true true h.0 h.1) in
    let o = once head c k.state k.inst es (kept head es lawful) in
    let force : is_key_in_force c (es ++ e ∷ []) k ≡ true =
    rw (up, down) (lt-ltb (downs c k.state k.inst es + 0) (ups c k.state k.inst es + 1) (let low = o.low in omega (arith, low))) in
    let there = sym (there_after head es e k lawful stands)
    ∙ in_force_there head (es ++ e ∷ []) c k.state k.inst (lawful_more head es e lawful stands)
    (ltb-true (downs c k.state k.inst (es ++ e ∷ [])) (ups c k.state k.inst (es ++ e ∷ [])) force) in
    force ∙ written_up (is_done how) (is_there head es k) (entry_on cpu s i c k) (is_key_in_force c es k) h.0 h.1 there
entry_force head es seat cpu s i Down how c k lawful stands hit =
    let e = Call seat cpu s i Down how in
    let h = both (is_done how) (entry_on cpu s i c k) hit in
    let up = more_of c k.state k.inst Up es e false (is_entry seat cpu s i Down Up how c k true true h.0 h.1) in
    let down = more_of c k.state k.inst Down es e true (is_entry seat cpu s i Down Down how c k true true h.0 h.1) in
    let o = once head c k.state k.inst es (kept head es lawful) in
    let force : is_key_in_force c (es ++ e ∷ []) k ≡ false =
    rw (up, down) (down_lowers (downs c k.state k.inst es) (ups c k.state k.inst es + 0) (let high = o.high in omega (arith, high))) in
    force
    ∙ written_down (is_done how) (is_there head es k) (entry_on cpu s i c k) (is_key_in_force c es k) h.0 h.1
    (λ none. not_there head es c k lawful none)

pub force_after : (head : Head) (es : List Event) (e : Event) (k : Key) (c : ℕ) → IsLawful head es → Stands head es e →
    is_key_in_force c (es ++ e ∷ []) k
    ≡ on_after head e (ending_of head (registration es)) k c (is_there head es k) (is_key_in_force c es k)
force_after head es (RegBegin seat state op) k c lawful stands =
    same_force c es (RegBegin seat state op) k (λ d. refl)
    ∙ left_in (is_added (ending_by head op state) k) (is_key_in_force c es k)
    (λ added. not_there head es c k lawful (begins_absent head es seat state op k lawful stands added))
force_after head es (RegEnd seat answer) k c lawful stands =
    let e = RegEnd seat answer in
    let same = same_force c es e k (λ d. refl) in
    same
    ∙ left_in (is_taken (ending_of head (registration es)) answer k) (is_key_in_force c es k)
    (λ taken.
    sym same
    ∙ not_there head (es ++ e ∷ []) c k (lawful_more head es e lawful stands)
    (there_after head es e k lawful stands ∙ ap (λ b. not b && is_there head es k) taken))
force_after head es (Call seat cpu s i dir how) k c lawful stands = go (is_done how && entry_on cpu s i c k) refl
  where
    e : Event
    e = Call seat cpu s i dir how

    go : (b : Bool) → (is_done how && entry_on cpu s i c k) ≡ b →
        is_key_in_force c (es ++ e ∷ []) k
        ≡ cond (is_done how && (is_there head es k && entry_on cpu s i c k)) (is_up dir) (is_key_in_force c es k)
    go true hit = entry_force head es seat cpu s i dir how c k lawful stands hit
    go false miss =
        same_force c es e k
        (λ d. is_entry seat cpu s i dir d how c k (is_done how) (entry_on cpu s i c k) refl refl
        ∙ no_entry (entry_on cpu s i c k) (is_done how) dir d miss)
        ∙ not_written (is_done how) (is_there head es k) (entry_on cpu s i c k) (is_up dir) (is_key_in_force c es k) miss
force_after head es e k c lawful stands = same_force c es e k (λ d. refl)

-- ---- together

pub record Followed (head : Head) (e : Event) (old new : Called) : Type 0 where
  pub rows : (k : Key) → has_row new.rows k ≡ row_after head e old.ending k (has_row old.rows k)
  pub sets : (k : Key) (c : ℕ) → is_on new.rows k c ≡ on_after head e old.ending k c (has_row old.rows k) (is_on old.rows k c)
  pub ending_is : new.ending ≡ ending_after head e old.ending

pub follows : (head : Head) (es : List Event) (e : Event) (old new : Called) → IsLawful head es → Stands head es e → IsCalled head es old →
    Followed head e old new → IsCalled head (es ++ e ∷ []) new
follows head es e old new lawful stands is f = record {
  rows = λ k.
      f.rows k
      ∙ (ap (λ o. row_after head e o k (has_row old.rows k)) is.ending_is
      ∙ (ap (λ b. row_after head e (ending_of head (registration es)) k b) (is.rows k) ∙ sym (there_after head es e k lawful stands)));
  in_force = λ k c.
      f.sets k c
      ∙ (ap (λ o. on_after head e o k c (has_row old.rows k) (is_on old.rows k c)) is.ending_is
      ∙ (ap (λ b. on_after head e (ending_of head (registration es)) k c b (is_on old.rows k c)) (is.rows k)
      ∙ (ap (λ b. on_after head e (ending_of head (registration es)) k c (is_there head es k) b) (is.in_force k c)
      ∙ sym (force_after head es e k c lawful stands))));
  ending_is = f.ending_is ∙ (ap (ending_after head e) is.ending_is ∙ sym (ending_push head es e));
}

-- ---- at the start

off_row : (o : Option CpuSet) (c : ℕ) → is_some o ≡ false → is_in o c ≡ false
off_row None c h = refl
off_row (Some set) c h = absurd (true≢false h)

none_in_force : (k : Key) (c : ℕ) → is_key_in_force c [] k ≡ false
none_in_force k c = rw (done_entries-none c k.state k.inst Up, done_entries-none c k.state k.inst Down) refl

pub begins_called : (head : Head) (rows : Rows) → ((k : Key) → has_row rows k ≡ false) →
    IsCalled head [] (record { rows = rows; ending = None })
unfolding registration registered
begins_called head rows none = record {
  rows = λ k. none k;
  in_force = λ k c. off_row (row rows k) c (none k) ∙ sym (none_in_force k c);
  ending_is = refl;
}

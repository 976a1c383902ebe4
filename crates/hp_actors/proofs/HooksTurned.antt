-- What a turn makes of the hooks of operations, and which stay.
use Rattle.std.proofs.Common.{◌≡◌, ◌≢◌, ℕ, zero, suc, ◌+◌, ◌-◌, ◌<◌, ◌≤◌, Result, Ok, Err, OnOk, OnErr, Bool, true, false, not, cond, eqb, ltb, ◌&&◌, ◌||◌, is_some, IfSome, Option, Some, None, List, [], ◌∷◌, length, map, set, get_or, refl, ap, sym, subst, ◌∙◌, arith}
use Rattle.std.specs.Prelude.{option_map, slice_get}
use Rattle.std.proofs.lemmas.Bool.{true≢false, eqb-true, eqb-false, lt-ltb}
use Rattle.std.proofs.lemmas.List.{map-set, set-get_or, get_or-set_same, get_or-set_other, length-map}
use Rattle.std.proofs.lemmas.Option.{slice_get-map, get_or_from_slice_get, slice_get_within}
use Rattle.hp_states.proofs.Basics.{and_false, or_true, not_below, less_apart}
use Rattle.hp_event.specs.declared.event.Event.{Event}
use Rattle.hp_event.specs.declared.event.Event.TheVariants.{RegEnd}
use Rattle.hp_event.specs.declared.head.Head.{Head}
use Rattle.hp_event.specs.declared.op.Op.{Op}
use Rattle.hp_board.specs.Contents.{Contents}
use Rattle.hp_board.specs.Hooks.{has_hook_after, leaves_hook}
use Rattle.hp_board.specs.declared.turn.Ask.{Ask}
use Rattle.hp_hook.specs.Counted.{Counts}
use Rattle.hp_account.specs.Table.{IsTableOf, IsStepOf, HasRegistration, counts_by}
use Rattle.hp_account.specs.TableChanges.{brings_hook, hands_at_end, hands_hook, registering_step}
use Rattle.hp_model.specs.Calls.{sub_at}
use Rattle.hp_model.specs.Events.{is_answer}
use Rattle.hp_model.specs.NextEvent.{next_event, is_full}
use Rattle.hp_model.specs.Processors.{present}
use Rattle.hp_model.specs.Registrations.{Registration, registration}
use Rattle.hp_model.specs.ScriptTurns.{turn, unanswered}
use Rattle.hp_model.specs.Subsystems.{plan_of}
use Rattle.hp_table.specs.Step.{Step, HasCounted}
use Rattle.hp_actors.specs.declared.actor.Actor.{Actor}
use Rattle.hp_actors.specs.Hooks.{hook_at, hook_of_state, hook_after, hooks_after, hooks_asked, hooks_turned, turned, answers_at, KeepsHooks}
use Rattle.hp_actors.specs.Positions.{Position, position_of, progress_of, hook_of, hooks_of, op_of, ops_of, answered_of}
use Rattle.hp_actors.specs.ActorTurns.{asked, is_answered, event_for, answers_for}
use Rattle.hp_actors.proofs.Playing.{asked_is}
use Rattle.hp_actors.proofs.Progressing.{no_actor}

-- ---- the hook that the machine hands back

-- that of the state which a registration is for, as the table has it
state_hook : (head : Head) (events : List Event) (places : List (Option Step)) (counts : Counts) (r : Registration) →
    IsTableOf head events places → registration events ≡ Some r →
    HasCounted counts (registering_step (registration events) places) → Some counts ≡ hook_of_state head events (registration events)
state_hook head events places counts r table is counted =
    let t : HasRegistration head events places r = subst (λ z. IfSome z (HasRegistration head events places)) is table.in_flight in
    let s : IsStepOf head events r.state t.step =
    subst (λ z. IfSome z (IsStepOf head events r.state)) t.place_is (table.steps r.state) in
    let here : counts ≡ t.step.kept.counts =
    subst (λ z. HasCounted counts z) t.place_is (subst (λ z. HasCounted counts (registering_step z places)) is counted) in
    let plan : plan_of (sub_at head r.state events) ≡ s.sub.plan = ap plan_of (t.sub_is ∙ s.sub_is) in
    ap Some (here ∙ (s.counts_are ∙ ap (λ p. counts_by p events r.state) (sym plan))) ∙ ap (hook_of_state head events) (sym is)

-- a hook is handed out at the end of a registration alone
hands_registers : (events : List Event) (e : Event) → hands_hook events e ≡ true → (r : Registration) × (registration events ≡ Some r)
hands_registers events (RegEnd seat answer) h = go (registration events) refl h
  where
    go : (r : Option Registration) → registration events ≡ r → hands_at_end r answer ≡ true →
        (r : Registration) × (registration events ≡ Some r)
    go None f h = absurd (true≢false (sym h))
    go (Some r) f h = (r, f)
hands_registers events e h = absurd (true≢false (sym h))

hands_answers : (events : List Event) (e : Event) → hands_hook events e ≡ true → is_answer e ≡ true
hands_answers events (RegEnd seat answer) h = refl
hands_answers events e h = absurd (true≢false (sym h))

-- what the hook has counted that an operation has after the machine's turn
pub hook_turned : {H : Type 0} (seen : H → Counts) (head : Head) (events : List Event) (places : List (Option Step)) (next : Option Event)
    (had now : Option H) → IsTableOf head events places → is_some now ≡ has_hook_after events next (is_some had) →
    (leaves_hook events next ≡ true → now ≡ had) →
    (leaves_hook events next ≡ false → IfSome now (λ h. HasCounted (seen h) (registering_step (registration events) places))) →
    option_map seen now ≡ hook_after head events next (option_map seen had)
hook_turned seen head events places None had now table has same handed = ap (option_map seen) (same refl)
hook_turned {H} seen head events places (Some e) had now table has same handed = go (hands_hook events e) (brings_hook e) refl refl
  where
    there : (o : Option H) → is_some o ≡ true → IfSome o (λ h. HasCounted (seen h) (registering_step (registration events) places)) →
        hands_hook events e ≡ true → option_map seen o ≡ hook_of_state head events (registration events)
    there None t c h = absurd (true≢false (sym t))
    there (Some h) t c hands =
        let r = hands_registers events e hands in state_hook head events places (seen h) r.0 table r.1 c

    none : (o : Option H) → is_some o ≡ false → option_map seen o ≡ None
    none None t = refl
    none (Some h) t = absurd (true≢false t)

    go : (a b : Bool) → hands_hook events e ≡ a → brings_hook e ≡ b →
        option_map seen now ≡ cond a (hook_of_state head events (registration events)) (cond b None (option_map seen had))
    go true b a_is b_is =
        there now (has ∙ (ap (λ z. (is_some had && not (brings_hook e)) || z) a_is ∙ or_true (is_some had && not (brings_hook e))))
        (handed (ap (λ z. not (brings_hook e) && not z) a_is ∙ and_false (not (brings_hook e)))) a_is
    go false true a_is b_is =
        none now (has ∙ (ap (λ z. (is_some had && not z) || hands_hook events e) b_is
        ∙ (ap (λ z. (is_some had && false) || z) a_is ∙ ap (λ z. z || false) (and_false (is_some had)))))
    go false false a_is b_is =
        ap (option_map seen) (same (ap (λ z. not z && not (hands_hook events e)) b_is ∙ ap not a_is))

-- those of an actor after the turn of its first operation that isn't answered
pub own_turned : {H : Type 0} (seen : H → Counts) (k : ℕ) (board : Contents) (actor : Actor H) (asks : List (Ask H)) (ask now : Ask H) →
    IsTableOf board.head board.events board.places → slice_get actor.asks actor.answered ≡ Some ask →
    asks ≡ set actor.asks actor.answered now →
    is_some now.hook ≡ has_hook_after board.events (next_event board.head board.events k ask.op) (is_some ask.hook) →
    (leaves_hook board.events (next_event board.head board.events k ask.op) ≡ true → now.hook ≡ ask.hook) →
    (leaves_hook board.events (next_event board.head board.events k ask.op) ≡ false →
    IfSome now.hook (λ h. HasCounted (seen h) (registering_step (registration board.events) board.places))) →
    map (hook_of seen) asks ≡ hooks_after board.head board.events k actor.answered (asked actor) (hooks_of seen actor)
own_turned seen k board actor asks ask now table at are has same handed =
    let n : ℕ = actor.answered in
    let op : asked actor ≡ Some ask.op = ap (option_map op_of) at in
    let had : get_or (hooks_of seen actor) n None ≡ hook_of seen ask =
    get_or_from_slice_get (hooks_of seen actor) n (hook_of seen ask) None
    (slice_get-map (hook_of seen) actor.asks n ∙ ap (option_map (hook_of seen)) at) in
    ap (map (hook_of seen)) are
    ∙ (map-set (hook_of seen) actor.asks n now
    ∙ ap (set (hooks_of seen actor) n)
    (hook_turned seen board.head board.events board.places (next_event board.head board.events k ask.op) ask.hook now.hook table has same handed
    ∙ (ap (hook_after board.head board.events (next_event board.head board.events k ask.op)) (sym had)
    ∙ ap (λ o. hook_after board.head board.events (event_for board.head board.events k o) (get_or (hooks_of seen actor) n None)) (sym op))))

-- where all operations are answered
pub none_turned : (head : Head) (events : List Event) (k n : ℕ) (op : Option Op) (hooks : List (Option Counts)) → op ≡ None →
    hooks ≡ hooks_after head events k n op hooks
none_turned head events k n op hooks none =
    sym (ap (λ o. hooks_after head events k n o hooks) none ∙ set-get_or hooks n None)

-- ---- those of the whole run

pub thread_hooks : (at : Position) (k : ℕ) → k < length (present at.head) → hooks_turned at k ≡ at.hooks
thread_hooks at k below = rw (lt-ltb k (length (present at.head)) below) refl

asked_hooks : (at : Position) (k i : ℕ) → k ≡ length (present at.head) + i → hooks_turned at k ≡ hooks_asked at k i
asked_hooks at k i is =
    let P : ℕ = length (present at.head) in
    let past : ltb k P ≡ false = not_below k P (omega (arith, is)) in
    let place : k - P ≡ i = omega (arith, is) in
    rw (past, place) refl

pub no_hooks : (at : Position) (k i : ℕ) → k ≡ length (present at.head) + i → length at.actors ≤ i → hooks_turned at k ≡ at.hooks
no_hooks at k i is past =
    let none = no_actor at.actors at.progress.answers i past in
    asked_hooks at k i is
    ∙ (ap (set at.hooks i) (sym (none_turned at.head at.progress.events k (answers_at at i) (unanswered at.actors at.progress.answers i) (get_or at.hooks i []) none))
    ∙ set-get_or at.hooks i [])

pub actor_hooks : {H : Type 0} (seen : H → Counts) (board : Contents) (actors : List (Actor H)) (k i : ℕ) (actor now : Actor H) →
    k ≡ length (present board.head) + i → slice_get actors i ≡ Some actor →
    hooks_of seen now ≡ hooks_after board.head board.events k actor.answered (asked actor) (hooks_of seen actor) →
    map (hooks_of seen) (set actors i now) ≡ hooks_turned (position_of seen board actors) k
actor_hooks {H} seen board actors k i actor now is at own =
    let here : get_or (map (hooks_of seen) actors) i [] ≡ hooks_of seen actor =
    get_or_from_slice_get (map (hooks_of seen) actors) i (hooks_of seen actor) []
    (slice_get-map (hooks_of seen) actors i ∙ ap (option_map (hooks_of seen)) at) in
    let n : get_or (map answered_of actors) i 0 ≡ actor.answered =
    get_or_from_slice_get (map answered_of actors) i actor.answered 0
    (slice_get-map answered_of actors i ∙ ap (option_map answered_of) at) in
    let asks = asked_is actors i actor at in
    map-set (hooks_of seen) actors i now
    ∙ (ap (set (map (hooks_of seen) actors) i)
    (own
    ∙ (ap (λ z. hooks_after board.head board.events k z (asked actor) (hooks_of seen actor)) (sym n)
    ∙ (ap (λ z. hooks_after board.head board.events k (get_or (map answered_of actors) i 0) z (hooks_of seen actor)) (sym asks)
    ∙ ap (hooks_after board.head board.events k (get_or (map answered_of actors) i 0) (unanswered (map ops_of actors) (map answered_of actors) i)) (sym here))))
    ∙ sym (asked_hooks (position_of seen board actors) k i is))

-- ---- which stay

pub keeps_same : (old new : Position) → new.progress.answers ≡ old.progress.answers → new.hooks ≡ old.hooks → KeepsHooks old new
keeps_same old new answers hooks = record {
  answered = λ i. let e : answers_at new i ≡ answers_at old i = ap (λ ns. get_or ns i 0) answers in omega (arith, e);
  came_back = λ i j below. ap (λ hs. hook_at hs i j) hooks;
  waiting = λ i j past. ap (λ hs. hook_at hs i j) hooks;
  in_turn = λ i had is. sym (ap (λ hs. hook_at hs i (answers_at new i)) hooks) ∙ is;
}

pub keeps_on : (old now after : Position) → KeepsHooks old now → KeepsHooks now after → KeepsHooks old after
keeps_on old now after a b = record {
  answered = λ i. let x = a.answered i in let y = b.answered i in omega (arith, x, y);
  came_back = λ i j below. let x = a.answered i in b.came_back i j (omega (arith, x, below)) ∙ a.came_back i j below;
  waiting = λ i j past. let y = b.answered i in b.waiting i j past ∙ a.waiting i j (omega (arith, y, past));
  in_turn = λ i had is. in_turn i had (b.in_turn i had is) (eqb (answers_at now i) (answers_at after i)) refl;
}
  where
    in_turn : (i : ℕ) (had : Counts) → hook_at now.hooks i (answers_at after i) ≡ Some had → (same : Bool) →
        eqb (answers_at now i) (answers_at after i) ≡ same → hook_at old.hooks i (answers_at after i) ≡ Some had
    in_turn i had is true e =
        let same : answers_at now i ≡ answers_at after i = eqb-true (answers_at now i) (answers_at after i) e in
        subst (λ n. hook_at old.hooks i n ≡ Some had) same
        (a.in_turn i had (subst (λ n. hook_at now.hooks i n ≡ Some had) (sym same) is))
    in_turn i had is false e =
        let y = b.answered i in
        let other = eqb-false (answers_at now i) (answers_at after i) e in
        sym (a.waiting i (answers_at after i) (less_apart (answers_at now i) (answers_at after i) y other)) ∙ is

-- what was written at a place, where something is read there
set_read : (hooks : List (Option Counts)) (n : ℕ) (hook : Option Counts) (had : Counts) → get_or (set hooks n hook) n None ≡ Some had →
    hook ≡ Some had
set_read [] zero hook had is = absurd (cc)
set_read [] (suc n) hook had is = absurd (cc)
set_read (x ∷ xs) zero hook had is = is
set_read (x ∷ xs) (suc n) hook had is = set_read xs n hook had is

-- an operation that goes on has the hook that it had, or none
goes_on_with : (head : Head) (events : List Event) (next : Option Event) (full : Bool) (hook : Option Counts) (had : Counts) →
    is_answered next full ≡ false → hook_after head events next hook ≡ Some had → hook ≡ Some had
goes_on_with head events None full hook had free is = is
goes_on_with head events (Some e) full hook had free is = go (hands_hook events e) (brings_hook e) refl is
  where
    go : (a b : Bool) → hands_hook events e ≡ a → cond a (hook_of_state head events (registration events)) (cond b None hook) ≡ Some had →
        hook ≡ Some had
    go true b h is = absurd (true≢false (sym (hands_answers events e h) ∙ free))
    go false true h is = absurd (cc)
    go false false h is = is

asked_goes_on : (head : Head) (events : List Event) (k : ℕ) (op : Option Op) (hook : Option Counts) (had : Counts) →
    answers_for head events k op ≡ false → hook_after head events (event_for head events k op) hook ≡ Some had → hook ≡ Some had
asked_goes_on head events k None hook had free is = is
asked_goes_on head events k (Some op) hook had free is =
    goes_on_with head events (next_event head events k op) (is_full head events k op) hook had free is

-- the hooks of one actor
record OwnKept (n m : ℕ) (old new : List (Option Counts)) : Type 0 where
  pub few : n ≤ m
  pub came_back : (j : ℕ) → j < n → get_or new j None ≡ get_or old j None
  pub waiting : (j : ℕ) → m < j → get_or new j None ≡ get_or old j None
  pub in_turn : (had : Counts) → get_or new m None ≡ Some had → get_or old m None ≡ Some had

own_kept : (head : Head) (events : List Event) (k n m : ℕ) (op : Option Op) (hooks : List (Option Counts)) →
    m ≡ n + (cond (answers_for head events k op) 1 0) → OwnKept n m hooks (hooks_after head events k n op hooks)
own_kept head events k n m op hooks is = record {
  few = omega (arith, is);
  came_back = λ j below. get_or-set_other hooks n j after None (λ e. absurd (omega (arith, e, below)));
  waiting = λ j past. get_or-set_other hooks n j after None (λ e. absurd (omega (arith, e, past, is)));
  in_turn = λ had there. go had there (answers_for head events k op) refl;
}
  where
    after : Option Counts
    after = hook_after head events (event_for head events k op) (get_or hooks n None)

    go : (had : Counts) → get_or (set hooks n after) m None ≡ Some had → (b : Bool) → answers_for head events k op ≡ b →
        get_or hooks m None ≡ Some had
    go had there true b =
        let e : m ≡ n + 1 = is ∙ ap (λ z. n + (cond z 1 0)) b in
        sym (get_or-set_other hooks n m after None (λ same. absurd (omega (arith, e, same)))) ∙ there
    go had there false b =
        let q : m ≡ n + 0 = is ∙ ap (λ z. n + (cond z 1 0)) b in
        let e : m ≡ n = omega (arith, q) in
        subst (λ z. get_or hooks z None ≡ Some had) (sym e)
        (asked_goes_on head events k op (get_or hooks n None) had b
        (set_read hooks n after had (subst (λ z. get_or (set hooks n after) z None ≡ Some had) e there)))

-- what is so of an actor that was written, and of the others
here : {X B : Type 0} (f : X → B) (xs : List X) (i : ℕ) (x now : X) (d : B) → slice_get xs i ≡ Some x →
    get_or (map f (set xs i now)) i d ≡ f now
here f xs i x now d at =
    let within = slice_get_within xs i x at in
    let long = length-map xs f in
    ap (λ z. get_or z i d) (map-set f xs i now) ∙ get_or-set_same (map f xs) i (f now) d (omega (arith, within, long))

others : {X B : Type 0} (f : X → B) (xs : List X) (i j : ℕ) (now : X) (d : B) → j ≢ i →
    get_or (map f (set xs i now)) j d ≡ get_or (map f xs) j d
others f xs i j now d other = ap (λ z. get_or z j d) (map-set f xs i now) ∙ get_or-set_other (map f xs) i j (f now) d other

was : {X B : Type 0} (f : X → B) (xs : List X) (i : ℕ) (x : X) (d : B) → slice_get xs i ≡ Some x → get_or (map f xs) i d ≡ f x
was f xs i x d at = get_or_from_slice_get (map f xs) i (f x) d (slice_get-map f xs i ∙ ap (option_map f) at)

pub actor_keeps : {H : Type 0} (seen : H → Counts) (old new : Contents) (actors : List (Actor H)) (k i : ℕ) (actor now : Actor H) →
    slice_get actors i ≡ Some actor → now.answered ≡ actor.answered + (cond (answers_for old.head old.events k (asked actor)) 1 0) →
    hooks_of seen now ≡ hooks_after old.head old.events k actor.answered (asked actor) (hooks_of seen actor) →
    KeepsHooks (position_of seen old actors) (position_of seen new (set actors i now))
actor_keeps {H} seen old new actors k i actor now at answered own = record {
  answered = λ x. few x (eqb x i) refl;
  came_back = λ x j below. came_back x j below (eqb x i) refl;
  waiting = λ x j past. waiting x j past (eqb x i) refl;
  in_turn = λ x had there. in_turn x had there (eqb x i) refl;
}
  where
    counted_old : ℕ → ℕ
    counted_old x = get_or (map answered_of actors) x 0

    counted_new : ℕ → ℕ
    counted_new x = get_or (map answered_of (set actors i now)) x 0

    hooks_old : ℕ → List (Option Counts)
    hooks_old x = get_or (map (hooks_of seen) actors) x []

    hooks_new : ℕ → List (Option Counts)
    hooks_new x = get_or (map (hooks_of seen) (set actors i now)) x []

    mine : (x : ℕ) → x ≡ i → OwnKept (counted_old x) (counted_new x) (hooks_old x) (hooks_new x)
    mine x is =
        subst (λ z. OwnKept (counted_old z) (counted_new z) (hooks_old z) (hooks_new z)) (sym is)
        (subst (λ a. OwnKept a (counted_new i) (hooks_old i) (hooks_new i)) (sym (was answered_of actors i actor 0 at))
        (subst (λ a. OwnKept actor.answered a (hooks_old i) (hooks_new i)) (sym (here answered_of actors i actor now 0 at))
        (subst (λ a. OwnKept actor.answered now.answered a (hooks_new i)) (sym (was (hooks_of seen) actors i actor [] at))
        (subst (λ a. OwnKept actor.answered now.answered (hooks_of seen actor) a) (sym (here (hooks_of seen) actors i actor now [] at ∙ own))
        (own_kept old.head old.events k actor.answered now.answered (asked actor) (hooks_of seen actor) answered)))))

    counted_same : (x : ℕ) → x ≢ i → counted_new x ≡ counted_old x
    counted_same x other = others answered_of actors i x now 0 other

    hooks_same : (x : ℕ) → x ≢ i → hooks_new x ≡ hooks_old x
    hooks_same x other = others (hooks_of seen) actors i x now [] other

    few : (x : ℕ) (b : Bool) → eqb x i ≡ b → counted_old x ≤ counted_new x
    few x true e = (mine x (eqb-true x i e)).few
    few x false e = let same = counted_same x (eqb-false x i e) in omega (arith, same)

    came_back : (x j : ℕ) → j < counted_old x → (b : Bool) → eqb x i ≡ b → get_or (hooks_new x) j None ≡ get_or (hooks_old x) j None
    came_back x j below true e = (mine x (eqb-true x i e)).came_back j below
    came_back x j below false e = ap (λ hs. get_or hs j None) (hooks_same x (eqb-false x i e))

    waiting : (x j : ℕ) → counted_new x < j → (b : Bool) → eqb x i ≡ b → get_or (hooks_new x) j None ≡ get_or (hooks_old x) j None
    waiting x j past true e = (mine x (eqb-true x i e)).waiting j past
    waiting x j past false e = ap (λ hs. get_or hs j None) (hooks_same x (eqb-false x i e))

    in_turn : (x : ℕ) (had : Counts) → get_or (hooks_new x) (counted_new x) None ≡ Some had → (b : Bool) → eqb x i ≡ b →
        get_or (hooks_old x) (counted_new x) None ≡ Some had
    in_turn x had there true e = (mine x (eqb-true x i e)).in_turn had there
    in_turn x had there false e = sym (ap (λ hs. get_or hs (counted_new x) None) (hooks_same x (eqb-false x i e))) ∙ there

-- whether memory was wanting or not
pub turn_keeps : {H E F : Type 0} (r : Result E F) (seen : H → Counts) (old new : Contents) (actors : List (Actor H)) (k i : ℕ)
    (actor now : Actor H) → slice_get actors i ≡ Some actor →
    OnOk r (now.answered ≡ actor.answered + (cond (answers_for old.head old.events k (asked actor)) 1 0)) →
    OnOk r (hooks_of seen now ≡ hooks_after old.head old.events k actor.answered (asked actor) (hooks_of seen actor)) →
    OnErr r (position_of seen new (set actors i now) ≡ position_of seen old actors) →
    KeepsHooks (position_of seen old actors) (position_of seen new (set actors i now))
turn_keeps (Ok x) seen old new actors k i actor now at answered own same = actor_keeps seen old new actors k i actor now at answered own
turn_keeps (Err e) seen old new actors k i actor now at answered own same =
    keeps_same (position_of seen old actors) (position_of seen new (set actors i now)) (ap (λ (p : Position). p.progress.answers) same)
    (ap (λ (p : Position). p.hooks) same)

-- where the run stands after an actor's turn
pub turn_turned : {H E F : Type 0} (r : Result E F) (seen : H → Counts) (old new : Contents) (actors : List (Actor H)) (k i : ℕ)
    (actor now : Actor H) → k ≡ length (present old.head) + i → slice_get actors i ≡ Some actor →
    OnOk r (hooks_of seen now ≡ hooks_after old.head old.events k actor.answered (asked actor) (hooks_of seen actor)) →
    OnOk r (position_of seen new (set actors i now)
    ≡ record (position_of seen old actors) {
      progress = turn old.head (map ops_of actors) (progress_of old.events actors) k;
      hooks = map (hooks_of seen) (set actors i now);
    }) →
    OnOk r (position_of seen new (set actors i now) ≡ turned (position_of seen old actors) k)
turn_turned (Ok x) seen old new actors k i actor now is at own stands =
    stands
    ∙ ap (λ (hs : List (List (Option Counts))).
    record (position_of seen old actors) { progress = turn old.head (map ops_of actors) (progress_of old.events actors) k; hooks = hs })
    (actor_hooks seen old actors k i actor now is at own)
turn_turned (Err e) seen old new actors k i actor now is at own stands = tt

-- a number that is no seat does nothing
pub none_stands : (at : Position) (k i : ℕ) → k ≡ length (present at.head) + i → length at.actors ≤ i →
    turn at.head at.actors at.progress k ≡ at.progress → at ≡ turned at k
none_stands at k i is past still = rw (still, no_hooks at k i is past) refl

-- What turns of a run under SMT control make of the hooks of operations.
use Rattle.std.proofs.Common.{◌≡◌, ℕ, ◌+◌, ◌-◌, ◌<◌, Result, Ok, Err, OnOk, Bool, true, false, cond, Some, None, List, [], ◌∷◌, ◌++◌, length, map, set, get_or, refl, ap, ap₂, sym, subst, ◌∙◌, arith}
use Rattle.std.specs.Prelude.{fold, option_map, slice_get}
use Rattle.std.proofs.lemmas.List.{length-map, map-set, set-get_or}
use Rattle.std.proofs.lemmas.List.Sums.{fold-append}
use Rattle.std.proofs.lemmas.Option.{slice_get-map, get_or_from_slice_get}
use Rattle.hp_event.specs.declared.event.Event.{Event}
use Rattle.hp_hook.specs.Counted.{Counts}
use Rattle.hp_account.specs.Table.{IsTableOf}
use Rattle.hp_board.specs.declared.turn.Ask.{Ask}
use Rattle.hp_board.specs.declared.turn.Turn.{Turn}
use Rattle.hp_model.specs.Processors.{present}
use Rattle.hp_model.specs.ScriptTurns.{unanswered}
use Rattle.hp_actors.specs.ActorTurns.{asked}
use Rattle.hp_actors.specs.Hooks.{hooks_left, hooks_turned}
use Rattle.hp_actors.specs.Positions.{hook_of, hooks_of, op_of, ops_of}
use Rattle.hp_actors.specs.declared.actor.Actor.{Actor}
use Rattle.hp_actors.proofs.HooksTurned.{actor_hooks, no_hooks, none_turned, own_turned, thread_hooks}
use Rattle.hp_actors.proofs.Playing.{asked_is, in_place}
use Rattle.hp_smt.specs.Contents.{Controlled}
use Rattle.hp_smt.specs.Hooks.{LeavesHook}
use Rattle.hp_smt.specs.Turns.{IsSmtTurn}
use Rattle.hp_smt.specs.declared.mode.Mode.{Mode}
use Rattle.hp_smt.specs.declared.turn.SmtTurn.{SmtTurn}
use Rattle.hp_smt.specs.declared.turn.SmtTurn.TheVariants.{Board, Denied}
use Rattle.hp_smt_run.specs.Hooks.{Standing, standing, denies, denies_at, position_in, hooks_under, turned_under, IsLaterUnder, standing_of, TurnsHooks, IsMadeLater, HasHooksUnder}
use Rattle.hp_smt_run.specs.Playing.{Setup, setup_of, ops_in, state_of, IsPlaying, IsTurned}
use Rattle.hp_smt_run.specs.declared.run.SmtRun.{SmtRun}

-- ---- turns one after the other

later_same : (s : Setup) (x : Standing) → IsLaterUnder s x x
later_same s x = ([], refl)

later_on : (s : Setup) (x y z : Standing) → IsLaterUnder s x y → IsLaterUnder s y z → IsLaterUnder s x z
later_on s x y z a b =
    (a.0 ++ b.0, b.1 ∙ (ap (λ p. fold (turned_under s) p b.0) a.1 ∙ sym (fold-append (turned_under s) x a.0 b.0)))

pub made_same : {H : Type 0} (seen : H → Counts) (run : SmtRun H) → IsMadeLater seen run run
made_same seen run = later_same (setup_of run) (standing_of seen run)

pub made_on : {H : Type 0} (seen : H → Counts) (old now after : SmtRun H) → setup_of now ≡ setup_of old → IsMadeLater seen old now →
    IsMadeLater seen now after → IsMadeLater seen old after
made_on seen old now after same a b =
    later_on (setup_of old) (standing_of seen old) (standing_of seen now) (standing_of seen after) a
    (subst (λ (s : Setup). IsLaterUnder s (standing_of seen now) (standing_of seen after)) same b)

-- one turn more
pub made_turn : {H : Type 0} (seen : H → Counts) (old now after : SmtRun H) (k : ℕ) → setup_of now ≡ setup_of old →
    IsMadeLater seen old now → IsTurned k now after → TurnsHooks seen k now after → IsMadeLater seen old after
made_turn seen old now after k same a t hooks = made_on seen old now after same a (k ∷ [], ap₂ standing t.state_is hooks)

-- whether memory was wanting or not
pub made_last : {H E F : Type 0} (r : Result E F) (seen : H → Counts) (old now after : SmtRun H) (k : ℕ) → setup_of now ≡ setup_of old →
    IsMadeLater seen old now → OnOk r (IsTurned k now after) → OnOk r (TurnsHooks seen k now after) → OnOk r (IsMadeLater seen old after)
made_last (Ok x) seen old now after k same a t hooks = made_turn seen old now after k same a t hooks
made_last (Err e) seen old now after k same a t hooks = tt

-- ---- a turn of a thread, or of the client that writes

still : (s : Setup) (x : Standing) (k : ℕ) → hooks_turned (position_in s x) k ≡ x.hooks → x.hooks ≡ hooks_under s x k
still s x k is = go (denies_at s x.at k)
  where
    go : (b : Bool) → x.hooks ≡ cond b x.hooks (hooks_turned (position_in s x) k)
    go true = refl
    go false = sym is

pub thread_under : {H : Type 0} (seen : H → Counts) (k : ℕ) (old : SmtRun H) → IsPlaying old → k < old.seats →
    map (hooks_of seen) old.actors.items ≡ hooks_under (setup_of old) (standing_of seen old) k
thread_under seen k old p below =
    let seats = p.seats_are in
    still (setup_of old) (standing_of seen old) k
    (thread_hooks (position_in (setup_of old) (standing_of seen old)) k (omega (arith, below, seats)))

pub writer_under : {H : Type 0} (seen : H → Counts) (k : ℕ) (old : SmtRun H) → IsPlaying old → k ≡ old.seats + length old.actors.items →
    map (hooks_of seen) old.actors.items ≡ hooks_under (setup_of old) (standing_of seen old) k
writer_under seen k old p is =
    let seats = p.seats_are in
    let many = length-map old.actors.items ops_of in
    still (setup_of old) (standing_of seen old) k
    (no_hooks (position_in (setup_of old) (standing_of seen old)) k (length old.actors.items) (omega (arith, is, seats)) (omega (arith, many)))

-- ---- a turn of an actor

-- the hooks of all actors, by those of the one whose turn it was
pub actor_under : {H : Type 0} (seen : H → Counts) (i : ℕ) (old : SmtRun H) (actor now : Actor H) → IsPlaying old →
    slice_get old.actors.items i ≡ Some actor → HasHooksUnder seen old.smt (old.seats + i) actor now →
    map (hooks_of seen) (set old.actors.items i now) ≡ hooks_under (setup_of old) (standing_of seen old) (old.seats + i)
actor_under {H} seen i old actor now p at own = go (denies xs n mode k (asked actor)) refl own
  where
    k : ℕ
    k = old.seats + i

    P : ℕ
    P = length (present old.smt.board.head)

    xs : List Event
    xs = old.smt.board.events

    n : ℕ
    n = old.smt.threads

    mode : Mode
    mode = old.smt.setting.mode

    is : k ≡ P + i
    is = ap (λ z. z + i) p.seats_are

    place : k - P ≡ i
    place = omega (arith, is)

    asks : unanswered (ops_in old) (state_of old).run.answers (k - P) ≡ asked actor
    asks = ap (unanswered (ops_in old) (state_of old).run.answers) place ∙ asked_is old.actors.items i actor at

    decides : denies_at (setup_of old) (state_of old) k ≡ denies xs n mode k (asked actor)
    decides = ap (denies xs n mode k) asks

    here : get_or (map (hooks_of seen) old.actors.items) i [] ≡ hooks_of seen actor
    here =
        get_or_from_slice_get (map (hooks_of seen) old.actors.items) i (hooks_of seen actor) []
        (slice_get-map (hooks_of seen) old.actors.items i ∙ ap (option_map (hooks_of seen)) at)

    go : (b : Bool) → denies xs n mode k (asked actor) ≡ b →
        hooks_of seen now ≡ cond b (hooks_of seen actor) (hooks_left seen old.smt.board k actor) →
        map (hooks_of seen) (set old.actors.items i now) ≡ hooks_under (setup_of old) (standing_of seen old) k
    go true e same =
        map-set (hooks_of seen) old.actors.items i now
        ∙ (ap (set (map (hooks_of seen) old.actors.items) i) (same ∙ sym here)
        ∙ (set-get_or (map (hooks_of seen) old.actors.items) i []
        ∙ sym (ap (λ b.
        cond b (map (hooks_of seen) old.actors.items) (hooks_turned (position_in (setup_of old) (standing_of seen old)) k))
        (decides ∙ e))))
    go false e left =
        actor_hooks seen old.smt.board old.actors.items k i actor now is at left
        ∙ sym (ap (λ b.
        cond b (map (hooks_of seen) old.actors.items) (hooks_turned (position_in (setup_of old) (standing_of seen old)) k))
        (decides ∙ e))

-- where all its operations are answered
pub none_under : {H : Type 0} (seen : H → Counts) (s : Controlled) (k : ℕ) (actor : Actor H) → asked actor ≡ None →
    HasHooksUnder seen s k actor actor
none_under seen s k actor none =
    none_turned s.board.head s.board.events k actor.answered (asked actor) (hooks_of seen actor) none
    ∙ sym (ap (λ o. cond (denies s.board.events s.threads s.setting.mode k o) (hooks_of seen actor) (hooks_left seen s.board k actor)) none)

-- one that is denied
pub denied_under : {H : Type 0} (seen : H → Counts) (k : ℕ) (old new : Controlled) (actor : Actor H) (ask ask_now : Ask H) (r : SmtTurn)
    (now : Actor H) → slice_get actor.asks actor.answered ≡ Some ask → r ≡ Denied → IsSmtTurn k ask.op old new r →
    LeavesHook seen k old ask ask_now r → now.asks ≡ set actor.asks actor.answered ask_now → HasHooksUnder seen old k actor now
denied_under seen k old new actor ask ask_now r now at is turn leaves are =
    let t = subst (IsSmtTurn k ask.op old new) is turn in
    let same = subst (LeavesHook seen k old ask ask_now) is leaves in
    ap (map (hook_of seen)) (are ∙ in_place actor.asks actor.answered ask ask_now at same)
    ∙ sym (ap (λ b. cond b (hooks_of seen actor) (hooks_left seen old.board k actor))
    (ap (denies old.board.events old.threads old.setting.mode k) (ap (option_map op_of) at) ∙ t.1))

-- one that isn't
pub board_under : {H : Type 0} (seen : H → Counts) (k : ℕ) (old new : Controlled) (actor : Actor H) (ask ask_now : Ask H) (r : SmtTurn) (t : Turn)
    (now : Actor H) → IsTableOf old.board.head old.board.events old.board.places → slice_get actor.asks actor.answered ≡ Some ask →
    r ≡ Board t → IsSmtTurn k ask.op old new r → LeavesHook seen k old ask ask_now r →
    now.asks ≡ set actor.asks actor.answered ask_now → HasHooksUnder seen old k actor now
board_under seen k old new actor ask ask_now r t now table at is turn leaves are =
    let s = subst (IsSmtTurn k ask.op old new) is turn in
    let l = subst (LeavesHook seen k old ask ask_now) is leaves in
    own_turned seen k old.board actor now.asks ask ask_now table at are l.0 l.1 l.2
    ∙ sym (ap (λ b. cond b (hooks_of seen actor) (hooks_left seen old.board k actor))
    (ap (denies old.board.events old.threads old.setting.mode k) (ap (option_map op_of) at) ∙ s.2))

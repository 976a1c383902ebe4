-- What the machine's turn makes of an actor: its events, whether its operation is answered, and the hooks that it has then.
use Rattle.std.proofs.Common.{◌≡◌, ℕ, ◌+◌, Bool, true, false, not, cond, is_some, drop, Option, Some, None, List, [], ◌∷◌, ◌++◌, map, set, refl, ap, sym, subst, ◌∙◌, inl, inr, ◌⊎◌, arith}
use Rattle.std.specs.Prelude.{option_to_list, option_map, slice_get}
use Rattle.std.proofs.lemmas.List.{append-nil}
use Rattle.std.proofs.lemmas.Option.{get_or_from_slice_get, slice_get_within}
use Rattle.std.proofs.Math.Seq.{map-set_same}
use Rattle.hp_event.specs.declared.op.Op.{Op}
use Rattle.hp_event.specs.declared.head.Head.{Head}
use Rattle.hp_event.specs.declared.event.Event.{Event}
use Rattle.hp_board.specs.Contents.{Contents}
use Rattle.hp_board.specs.HookCount.{hook_count, held}
use Rattle.hp_board.specs.Hooks.{has_hook, has_hook_after}
use Rattle.hp_board.proofs.HooksCounted.{turn_keeps_hooks}
use Rattle.hp_account.specs.Table.{IsTableOf}
use Rattle.hp_board.proofs.Waiting.{plain_wait}
use Rattle.hp_table.specs.Step.{AllHome}
use Rattle.hp_table.specs.Sound.{IsSound}
use Rattle.hp_model.specs.Pending.{IsAllowed}
use Rattle.std.specs.List.{sum_by}
use Rattle.hp_states.proofs.Basics.{not_false, drop_at}
use Rattle.hp_actors.proofs.Holding.{turn_holds}
use Rattle.hp_board.specs.Turns.{IsTurn, goes_on}
use Rattle.hp_board.specs.declared.turn.Ask.{Ask}
use Rattle.hp_board.specs.declared.turn.Turn.{Turn}
use Rattle.hp_board.specs.declared.turn.Turn.TheVariants.{Made, Answered, NotYet}
use Rattle.hp_account.specs.TableChanges.{is_setup}
use Rattle.hp_machine.proofs.FullNone.{full_none}
use Rattle.hp_model.specs.Events.{is_answer}
use Rattle.hp_model.specs.Lawful.{IsLawful}
use Rattle.hp_model.specs.NextEvent.{next_event, is_full}
use Rattle.hp_model.specs.Seats.{is_busy}
use Rattle.hp_model.proofs.NextGives.{full_only}
use Rattle.hp_model.proofs.NextStands.{next_stands}
use Rattle.hp_actors.specs.declared.actor.Actor.{Actor}
use Rattle.hp_actors.specs.Actors.{AreLoaded, with_ask}
use Rattle.hp_actors.specs.RunInvariant.{HasHook}
use Rattle.hp_actors.specs.Positions.{op_of}
use Rattle.hp_actors.specs.ActorTurns.{asked, is_answered, event_for, answers_for}
use Rattle.hp_actors.proofs.Busy.{answer_frees}
use Rattle.hp_actors.proofs.Playing.{ActorTurned, idle_hook, in_place, set_at}

pub record Turned (k : ℕ) (op : Op) (old new : Contents) (t : Turn) : Type 0 where
  pub head_is : new.head ≡ old.head
  pub events_are : new.events ≡ old.events ++ option_to_list (next_event old.head old.events k op)
  pub answers : is_answered (next_event old.head old.events k op) (is_full old.head old.events k op) ≡ not (goes_on t)

-- a turn that changed nothing
still : (k : ℕ) (op : Op) (old new : Contents) (t : Turn) → new ≡ old → next_event old.head old.events k op ≡ None →
    is_full old.head old.events k op ≡ not (goes_on t) → Turned k op old new t
still k op old new t same none full = record {
  head_is = ap (λ b. b.head) same;
  events_are =
      ap (λ b. b.events) same ∙ (sym (append-nil old.events) ∙ ap (λ o. old.events ++ option_to_list o) (sym none));
  answers = ap (λ o. is_answered o (is_full old.head old.events k op)) none ∙ full;
}

made : (k : ℕ) (op : Op) (old new : Contents) (t : Turn) (e : Event) → next_event old.head old.events k op ≡ Some e →
    new.head ≡ old.head → new.events ≡ old.events ++ e ∷ [] → is_answer e ≡ not (goes_on t) → Turned k op old new t
made k op old new t e next head events answers = record {
  head_is = head;
  events_are = events ∙ ap (λ o. old.events ++ option_to_list o) (sym next);
  answers = ap (λ o. is_answered o (is_full old.head old.events k op)) next ∙ answers;
}

pub turned : (k : ℕ) (op : Op) (old new : Contents) (t : Turn) → AllHome old.places → IsTurn k op old new t → Turned k op old new t
turned k op old new (Made at) home s =
    made k op old new (Made at) s.event s.next_is (ap (λ b. b.head) s.new_is) (ap (λ b. b.events) s.new_is) (ap is_some s.answer_is)
turned k op old new (Answered (Some at) answer) home s =
    made k op old new (Answered (Some at) answer) s.event s.next_is (ap (λ b. b.head) s.new_is) (ap (λ b. b.events) s.new_is)
    (ap is_some s.answer_is)
turned k op old new (Answered None answer) home s =
    still k op old new (Answered None answer) s.same (full_none old.head old.events k op s.full) s.full
turned k op old new (NotYet why) home s =
    let kept = plain_wait k op old why home s.0 in still k op old new (NotYet why) s.1 kept.no_event kept.not_full

-- an answered operation leaves its seat with nothing in flight
frees : (head : Head) (before : List Event) (k : ℕ) (op : Op) → IsLawful head before →
    is_answered (next_event head before k op) (is_full head before k op) ≡ true →
    is_busy k (before ++ option_to_list (next_event head before k op)) ≡ false
frees head before k op lawful = go (next_event head before k op) refl
  where
    go : (o : Option Event) → next_event head before k op ≡ o → is_answered o (is_full head before k op) ≡ true →
        is_busy k (before ++ option_to_list o) ≡ false
    go None f a = ap (is_busy k) (append-nil before) ∙ (full_only head before k op a).free.idle
    go (Some e) f a =
        let s = next_stands head before k op e f in
        subst (λ z. is_busy z (before ++ e ∷ []) ≡ false) s.1 (answer_frees head before e lawful s.0.0 a)

-- the one behind the operation that comes next
pub next_loaded : {H : Type 0} (asks : List (Ask H)) (n : ℕ) (x : Ask H) → AreLoaded (drop (n + 1) asks) → slice_get asks (n + 1) ≡ Some x →
    is_some x.hook ≡ is_setup x.op
next_loaded asks n x later at =
    let below = slice_get_within asks (n + 1) x at in
    let loaded = subst AreLoaded (drop_at asks (n + 1) x below) later in
    subst (λ y. is_some y.hook ≡ is_setup y.op) (get_or_from_slice_get asks (n + 1) x x at) (loaded 0 x (omega arith))

-- the operation that comes next after a turn has its hook
own_hook : {H : Type 0} (after : List Event) (k n m : ℕ) (b : Bool) (asks asks_now : List (Ask H)) (ask now : Ask H) →
    AreLoaded (drop (n + 1) asks) → asks_now ≡ set asks n now → m ≡ n + (cond b 1 0) → now.op ≡ ask.op →
    (b ≡ true → is_busy k after ≡ false) → (b ≡ false → is_some now.hook ≡ has_hook after k ask.op) →
    (x : Ask H) → slice_get asks_now m ≡ Some x → is_some x.hook ≡ has_hook after k x.op
own_hook {H} after k n m b asks asks_now ask now later are is op frees again x at =
    go b refl (set_at asks n m now x (ap (λ z. slice_get z m) (sym are) ∙ at))
  where
    go : (c : Bool) → b ≡ c → ((m ≡ n) × (x ≡ now)) ⊎ ((m ≡ n → ⊥) × (slice_get asks m ≡ Some x)) →
        is_some x.hook ≡ has_hook after k x.op
    go true f (inl s) = let e : m ≡ n + 1 = is ∙ ap (λ z. n + (cond z 1 0)) f in let t = s.0 in absurd (omega (arith, e, t))
    go true f (inr s) =
        let e : m ≡ n + 1 = is ∙ ap (λ z. n + (cond z 1 0)) f in
        next_loaded asks n x later (ap (slice_get asks) (sym e) ∙ s.1) ∙ idle_hook after k x.op (frees f)
    go false f (inl s) =
        ap (λ y. is_some y.hook) s.1
        ∙ (again f ∙ ap (has_hook after k) (sym op ∙ ap (λ y. y.op) (sym s.1)))
    go false f (inr s) =
        let e : m ≡ n + 0 = is ∙ ap (λ z. n + (cond z 1 0)) f in absurd (s.0 (omega (arith, e)))

pub ops_set : {H : Type 0} (asks : List (Ask H)) (n : ℕ) (ask now : Ask H) → slice_get asks n ≡ Some ask → now.op ≡ ask.op →
    map op_of (set asks n now) ≡ map op_of asks
ops_set asks n ask now at is =
    map-set_same op_of asks n now ask (is ∙ ap op_of (sym (get_or_from_slice_get asks n ask ask at)))

-- the operation that comes next, in place of itself
pub same_ask : {H : Type 0} (actor : Actor H) (ask now : Ask H) → slice_get actor.asks actor.answered ≡ Some ask → now ≡ ask →
    with_ask actor now ≡ actor
same_ask actor ask now at same =
    ap (λ asks. record actor { asks = asks }) (in_place actor.asks actor.answered ask now at same)

counts_on : (b : Bool) → ◌≡◌ {A = ℕ} (cond b 0 1) (cond (not b) 1 0)
counts_on true = refl
counts_on false = refl

-- a turn of the machine is a turn of the actor
pub asked_turned : {H : Type 0} (k : ℕ) (old new : Contents) (actor now : Actor H) (ask ask_now : Ask H) (t : Turn) →
    IsLawful old.head old.events → IsTableOf old.head old.events old.places → IsSound old.places → AllHome old.places →
    IsAllowed old.head old.events (record { seat = k; op = ask.op }) → HasHook old.events k actor →
    AreLoaded (drop (actor.answered + 1) actor.asks) → slice_get actor.asks actor.answered ≡ Some ask →
    IsTurn k ask.op old new t → ask_now.op ≡ ask.op →
    is_some ask_now.hook ≡ has_hook_after old.events (next_event old.head old.events k ask.op) (is_some ask.hook) →
    (goes_on t ≡ true → is_some ask_now.hook ≡ has_hook new.events k ask.op) →
    now.asks ≡ set actor.asks actor.answered ask_now → now.answered ≡ actor.answered + (cond (goes_on t) 0 1) →
    ActorTurned k old new actor now
asked_turned {H} k old new actor now ask ask_now t lawful table sound home allowed hook later at turn op after again asks answered = record {
  head_is = made.head_is;
  events_are = made.events_are ∙ ap (λ o. old.events ++ option_to_list (event_for old.head old.events k o)) (sym is);
  answered_is = counted ∙ ap (λ o. actor.answered + (cond (answers_for old.head old.events k o) 1 0)) (sym is);
  ops_are = ap (map op_of) asks ∙ ops_set actor.asks actor.answered ask ask_now at op;
  hook =
      own_hook new.events k actor.answered now.answered
      (is_answered (next_event old.head old.events k ask.op) (is_full old.head old.events k ask.op))
      actor.asks now.asks ask ask_now later asks counted op
      (λ b. ap (is_busy k) made.events_are ∙ frees old.head old.events k ask.op lawful b)
      (λ b. again (not_false (goes_on t) (sym made.answers ∙ b)));
  kept =
      ap (λ items. hook_count new.places + sum_by (λ x. held (is_some x.hook)) items) asks
      ∙ turn_holds old new actor.asks actor.answered ask ask_now
      (has_hook_after old.events (next_event old.head old.events k ask.op) (is_some ask.hook)) at after
      (turn_keeps_hooks old new (record { seat = k; op = ask.op }) (is_some ask.hook) t lawful table sound allowed (hook ask at) turn);
}
  where
    made : Turned k ask.op old new t
    made = turned k ask.op old new t home turn

    is : asked actor ≡ Some ask.op
    is = ap (option_map op_of) at

    counted :
        now.answered
        ≡ actor.answered + (cond (is_answered (next_event old.head old.events k ask.op) (is_full old.head old.events k ask.op)) 1 0)
    counted =
        answered
        ∙ (ap (λ m. actor.answered + m) (counts_on (goes_on t)) ∙ ap (λ b. actor.answered + (cond b 1 0)) (sym made.answers))

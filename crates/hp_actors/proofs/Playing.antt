-- What holds of a run holds after a turn of a thread or of an actor.
use Rattle.std.proofs.Common.{◌≡◌, ◌≢◌, ℕ, zero, suc, ◌+◌, ◌-◌, Result, Ok, Err, OnOk, OnErr, ◌<◌, ◌≤◌, Bool, true, false, not, cond, ◌&&◌, IfSome, Option, Some, None, List, [], ◌∷◌, ◌++◌, length, map, set, get_or, refl, ap, sym, subst, ◌∙◌, inl, inr, ◌⊎◌, arith}
use Rattle.std.specs.Prelude.{option_to_list, option_map, slice_get}
use Rattle.std.proofs.lemmas.List.{append-nil, map-set, set-get_or, length-map}
use Rattle.std.proofs.Math.Seq.{map-set_same}
use Rattle.std.proofs.lemmas.Option.{slice_get-map, get_or_from_slice_get}
use Rattle.hp_event.specs.declared.op.Op.{Op}
use Rattle.hp_event.specs.declared.head.Head.{Head}
use Rattle.hp_event.specs.declared.event.Event.{Event}
use Rattle.hp_hook.specs.Counted.{Counts}
use Rattle.hp_board.specs.Contents.{Contents}
use Rattle.hp_board.specs.HookCount.{hook_count}
use Rattle.hp_board.specs.Hooks.{has_hook}
use Rattle.hp_board.specs.Turns.{IsServed}
use Rattle.hp_board.specs.declared.turn.Turn.{Turn}
use Rattle.hp_board.specs.declared.turn.Turn.TheVariants.{Made, NotYet}
use Rattle.hp_board.specs.declared.turn.Ask.{Ask}
use Rattle.hp_locks.specs.declared.why.Why.TheVariants.{HookOut, Idle}
use Rattle.hp_table.specs.Step.{AllHome}
use Rattle.std.proofs.lemmas.Bool.{true≢false}
use Rattle.hp_account.specs.TableChanges.{is_setup}
use Rattle.hp_board.proofs.Busy.{others_keep}
use Rattle.hp_board.proofs.HooksCounted.{serve_keeps_hooks}
use Rattle.hp_model.specs.Events.{seat_of}
use Rattle.hp_model.specs.Lawful.{IsLawful, Stands}
use Rattle.hp_model.specs.NextEvent.{due_entry, next_event}
use Rattle.hp_model.specs.Processors.{present}
use Rattle.hp_model.specs.Scripts.{IsScript}
use Rattle.hp_model.specs.ScriptTurns.{unanswered, counted, turn}
use Rattle.hp_model.specs.Seats.{is_busy}
use Rattle.hp_model.specs.Pending.{IsAllowed}
use Rattle.hp_model.specs.ScriptRun.{start}
use Rattle.hp_model.proofs.Going.{Going, asks_allowed, turns_going, start_going}
use Rattle.hp_model.proofs.DueGives.{due_stands}
use Rattle.hp_model.proofs.NextStands.{next_stands}
use Rattle.hp_actors.specs.declared.actor.Actor.{Actor}
use Rattle.hp_actors.specs.Positions.{position_of, progress_of, hooks_of, ops_of, op_of, answered_of}
use Rattle.hp_actors.specs.RunInvariant.{HasHook, IsReached, IsPlaying}
use Rattle.hp_actors.specs.Racks.{hooks_with}
use Rattle.hp_actors.specs.ActorTurns.{asked, event_for, answers_for}
use Rattle.hp_script.specs.Playable.{setups_in}
use Rattle.std.specs.List.{sum_by}
use Rattle.hp_states.proofs.Basics.{same_some}
use Rattle.hp_actors.proofs.Holding.{all_hold}
use Rattle.hp_actors.proofs.Progressing.{reached_more, thread_turn, actor_turn, none_turn, no_actor}

-- at most one event more, which stands and is a seat's
pub record Grows (head : Head) (before after : List Event) (seat : ℕ) : Type 0 where
  pub next : Option Event
  pub after_is : after ≡ before ++ option_to_list next
  pub stands : IfSome next (λ e. Stands head before e × (seat_of e ≡ seat))

pub busy_kept : (head : Head) (before after : List Event) (k j : ℕ) → Grows head before after k → k ≢ j →
    is_busy j after ≡ is_busy j before
busy_kept head before after k j g other = ap (is_busy j) g.after_is ∙ go g.next g.stands
  where
    go : (o : Option Event) → IfSome o (λ e. Stands head before e × (seat_of e ≡ k)) →
        is_busy j (before ++ option_to_list o) ≡ is_busy j before
    go None s = ap (is_busy j) (append-nil before)
    go (Some e) s = others_keep head before e j s.0 (λ is. other (sym s.1 ∙ is))

pub hook_kept : {H : Type 0} (before after : List Event) (k : ℕ) (actor : Actor H) → is_busy k after ≡ is_busy k before →
    HasHook before k actor → HasHook after k actor
hook_kept before after k actor same h = λ ask at. h ask at ∙ ap (λ b. is_setup ask.op && not b) (sym same)

-- where nothing is in flight a setup has its hook
pub idle_hook : (events : List Event) (k : ℕ) (op : Op) → is_busy k events ≡ false → is_setup op ≡ has_hook events k op
idle_hook events k op idle = sym (ap (λ b. is_setup op && not b) idle ∙ and_true (is_setup op))
  where
    and_true : (b : Bool) → (b && true) ≡ b
    and_true true = refl
    and_true false = refl

pub due_grows : (head : Head) (before after : List Event) (k : ℕ) → after ≡ before ++ option_to_list (due_entry head before k) →
    Grows head before after k
due_grows head before after k is = record { next = due_entry head before k; after_is = is; stands = go (due_entry head before k) refl }
  where
    go : (o : Option Event) → due_entry head before k ≡ o → IfSome o (λ e. Stands head before e × (seat_of e ≡ k))
    go None f = tt
    go (Some e) f = let d = due_stands head before k e f in (d.0, d.2)

pub asked_grows : (head : Head) (before after : List Event) (k : ℕ) (op : Option Op) →
    after ≡ before ++ option_to_list (event_for head before k op) → Grows head before after k
asked_grows head before after k None is = record { next = None; after_is = is; stands = tt }
asked_grows head before after k (Some op) is =
    record { next = next_event head before k op; after_is = is; stands = go (next_event head before k op) refl }
  where
    go : (o : Option Event) → next_event head before k op ≡ o → IfSome o (λ e. Stands head before e × (seat_of e ≡ k))
    go None f = tt
    go (Some e) f = next_stands head before k op e f

-- what a thread's turn appends
pub record Served (seat : ℕ) (old new : Contents) : Type 0 where
  pub head_is : new.head ≡ old.head
  pub events_are : new.events ≡ old.events ++ option_to_list (due_entry old.head old.events seat)
  pub hooks_are : hook_count new.places ≡ hook_count old.places

-- every hook is home, so none is waited for
pub served : (k : ℕ) (old new : Contents) (t : Turn) → AllHome old.places → IsServed k old new t → Served k old new
served k old new (Made at) home s =
    record {
      head_is = ap (λ b. b.head) s.new_is;
      events_are = ap (λ b. b.events) s.new_is ∙ ap (λ o. old.events ++ option_to_list o) (sym s.next_is);
      hooks_are = serve_keeps_hooks old new k (Made at) s;
    }
served k old new (NotYet Idle) home s =
    record {
      head_is = ap (λ b. b.head) s.1;
      events_are =
          ap (λ b. b.events) s.1 ∙ sym (append-nil old.events) ∙ ap (λ o. old.events ++ option_to_list o) (sym s.0);
      hooks_are = serve_keeps_hooks old new k (NotYet Idle) s;
    }
served k old new (NotYet (HookOut state)) home s = absurd (true≢false (sym (home state) ∙ s.0.away))
served k old new t home s = absurd s

-- after a thread's turn
pub thread_position : {H : Type 0} (seen : H → Counts) (old new : Contents) (actors : List (Actor H)) (threads k : ℕ) →
    IsPlaying old threads actors → k < threads → Served k old new →
    position_of seen new actors
    ≡ record (position_of seen old actors) { progress = turn old.head (map ops_of actors) (progress_of old.events actors) k }
thread_position seen old new actors threads k p below s =
    let t = thread_turn old.head (map ops_of actors) (progress_of old.events actors) k (omega (arith, p.threads_are)) in
    rw (s.head_is, t, s.events_are) refl

pub thread_playing : {H : Type 0} (old new : Contents) (actors : List (Actor H)) (threads k : ℕ) →
    IsPlaying old threads actors → k < threads → Served k old new → IsPlaying new threads actors
thread_playing old new actors threads k p below s = record {
  script = subst (λ h. IsScript h (map ops_of actors)) (sym s.head_is) p.script;
  threads_are = p.threads_are ∙ ap (λ h. length (present h)) (sym s.head_is);
  reached =
      let t = thread_turn old.head (map ops_of actors) (progress_of old.events actors) k (omega (arith, p.threads_are)) in
      let r = reached_more old.head (map ops_of actors) (progress_of old.events actors) k p.reached in
      subst (λ h. IsReached h (map ops_of actors) (progress_of new.events actors)) (sym s.head_is)
      (subst (λ z. IsReached old.head (map ops_of actors) z)
      (t ∙ ap (λ es. record { events = es; answers = map answered_of actors }) (sym s.events_are)) r);
  hooks = λ i actor at.
      hook_kept old.events new.events (threads + i) actor
      (busy_kept old.head old.events new.events k (threads + i) (due_grows old.head old.events new.events k s.events_are)
      (λ is. absurd (omega (arith, is))))
      (p.hooks i actor at);
  held = ap (λ n. n + sum_by hooks_with actors) s.hooks_are ∙ p.held;
}

-- what an actor's turn makes
pub record ActorTurned {H : Type 0} (seat : ℕ) (old new : Contents) (actor now : Actor H) : Type 0 where
  pub head_is : new.head ≡ old.head
  pub events_are : new.events ≡ old.events ++ option_to_list (event_for old.head old.events seat (asked actor))
  pub answered_is :
      now.answered ≡ actor.answered + (cond (answers_for old.head old.events seat (asked actor)) 1 0)
  pub ops_are : ops_of now ≡ ops_of actor
  pub hook : HasHook new.events seat now
  pub kept : hook_count new.places + hooks_with now ≡ hook_count old.places + hooks_with actor

-- what an actor is asked for is the script's operation
pub asked_is : {H : Type 0} (actors : List (Actor H)) (i : ℕ) (actor : Actor H) → slice_get actors i ≡ Some actor →
    unanswered (map ops_of actors) (map answered_of actors) i ≡ asked actor
asked_is actors i actor at =
    let here : slice_get (map ops_of actors) i ≡ Some (ops_of actor) = slice_get-map ops_of actors i ∙ ap (option_map ops_of) at in
    let count : slice_get (map answered_of actors) i ≡ Some (answered_of actor) =
    slice_get-map answered_of actors i ∙ ap (option_map answered_of) at in
    let n : get_or (map answered_of actors) i 0 ≡ actor.answered =
    get_or_from_slice_get (map answered_of actors) i actor.answered 0 count in
    rw (here, n) (slice_get-map op_of actor.asks actor.answered)

counts : (b : Bool) (i : ℕ) (ns : List ℕ) (n : ℕ) → n ≡ get_or ns i 0 + (cond b 1 0) → set ns i n ≡ counted i b ns
counts true i ns n is = ap (set ns i) is
counts false i ns n is = let e : n ≡ get_or ns i 0 = omega (arith, is) in ap (set ns i) e ∙ set-get_or ns i 0

pub answers_are : {H : Type 0} (actors : List (Actor H)) (i : ℕ) (actor now : Actor H) (b : Bool) → slice_get actors i ≡ Some actor →
    now.answered ≡ actor.answered + (cond b 1 0) → map answered_of (set actors i now) ≡ counted i b (map answered_of actors)
answers_are actors i actor now b at is =
    let count : slice_get (map answered_of actors) i ≡ Some (answered_of actor) =
    slice_get-map answered_of actors i ∙ ap (option_map answered_of) at in
    let n : get_or (map answered_of actors) i 0 ≡ actor.answered =
    get_or_from_slice_get (map answered_of actors) i actor.answered 0 count in
    map-set answered_of actors i now
    ∙ counts b i (map answered_of actors) now.answered (is ∙ ap (λ z. z + (cond b 1 0)) (sym n))

pub ops_kept : {H : Type 0} (actors : List (Actor H)) (i : ℕ) (actor now : Actor H) → slice_get actors i ≡ Some actor →
    ops_of now ≡ ops_of actor → map ops_of (set actors i now) ≡ map ops_of actors
ops_kept actors i actor now at is =
    map-set_same ops_of actors i now actor (is ∙ ap ops_of (sym (get_or_from_slice_get actors i actor actor at)))

after_turn : {H : Type 0} (old new : Contents) (actors : List (Actor H)) (threads i : ℕ) (actor now : Actor H) →
    IsPlaying old threads actors → slice_get actors i ≡ Some actor → ActorTurned (threads + i) old new actor now →
    progress_of new.events (set actors i now) ≡ turn old.head (map ops_of actors) (progress_of old.events actors) (threads + i)
after_turn old new actors threads i actor now p at t =
    let asks = asked_is actors i actor at in
    let made = actor_turn old.head (map ops_of actors) (progress_of old.events actors) (threads + i) i (ap (λ z. z + i) p.threads_are) in
    let counted_so =
    answers_are actors i actor now (answers_for old.head old.events (threads + i) (asked actor)) at t.answered_is in
    rw (made, asks, t.events_are, counted_so) refl

-- after an actor's turn
pub actor_position : {H : Type 0} (seen : H → Counts) (old new : Contents) (actors : List (Actor H)) (threads i : ℕ) (actor now : Actor H) →
    IsPlaying old threads actors → slice_get actors i ≡ Some actor → ActorTurned (threads + i) old new actor now →
    position_of seen new (set actors i now)
    ≡ record (position_of seen old actors) {
      progress = turn old.head (map ops_of actors) (progress_of old.events actors) (threads + i);
      hooks = map (hooks_of seen) (set actors i now);
    }
actor_position seen old new actors threads i actor now p at t =
    let done = after_turn old new actors threads i actor now p at t in
    let ops = ops_kept actors i actor now at t.ops_are in
    rw (t.head_is, ops, done) refl

pub set_at : {X : Type 0} (xs : List X) (i j : ℕ) (x y : X) → slice_get (set xs i x) j ≡ Some y →
    ((j ≡ i) × (y ≡ x)) ⊎ ((j ≡ i → ⊥) × (slice_get xs j ≡ Some y))
set_at [] i j x y at = inr ((λ is. absurd (cc)), at)
set_at (z ∷ zs) zero zero x y at = inl (refl, sym (same_some x y at))
set_at (z ∷ zs) zero (suc j) x y at = inr ((λ is. absurd (omega (arith, is))), at)
set_at (z ∷ zs) (suc i) zero x y at = inr ((λ is. absurd (omega (arith, is))), at)
set_at (z ∷ zs) (suc i) (suc j) x y at = go (set_at zs i j x y at)
  where
    go : ((j ≡ i) × (y ≡ x)) ⊎ ((j ≡ i → ⊥) × (slice_get zs j ≡ Some y)) →
        ((suc j ≡ suc i) × (y ≡ x)) ⊎ ((suc j ≡ suc i → ⊥) × (slice_get zs j ≡ Some y))
    go (inl h) = inl (ap suc h.0, h.1)
    go (inr h) = inr ((λ is. h.0 (omega (arith, is))), h.1)

pub actor_playing : {H : Type 0} (old new : Contents) (actors : List (Actor H)) (threads i : ℕ) (actor now : Actor H) →
    IsPlaying old threads actors → slice_get actors i ≡ Some actor → ActorTurned (threads + i) old new actor now →
    IsPlaying new threads (set actors i now)
actor_playing {H} old new actors threads i actor now p at t = record {
  script =
      subst (λ h. IsScript h (map ops_of (set actors i now))) (sym t.head_is)
      (subst (λ z. IsScript old.head z) (sym ops) p.script);
  threads_are = p.threads_are ∙ ap (λ h. length (present h)) (sym t.head_is);
  reached =
      let r = reached_more old.head (map ops_of actors) (progress_of old.events actors) (threads + i) p.reached in
      subst (λ h. IsReached h (map ops_of (set actors i now)) (progress_of new.events (set actors i now))) (sym t.head_is)
      (subst (λ z. IsReached old.head z (progress_of new.events (set actors i now))) (sym ops)
      (subst (λ z. IsReached old.head (map ops_of actors) z) (sym (after_turn old new actors threads i actor now p at t)) r));
  hooks = λ j other found. hook j other (set_at actors i j now other found);
  held = all_hold old.places new.places actors i actor now at t.kept ∙ (p.held ∙ ap (sum_by setups_in) (sym ops));
}
  where
    ops : map ops_of (set actors i now) ≡ map ops_of actors
    ops = ops_kept actors i actor now at t.ops_are

    hook : (j : ℕ) (other : Actor H) → ((j ≡ i) × (other ≡ now)) ⊎ ((j ≡ i → ⊥) × (slice_get actors j ≡ Some other)) →
        HasHook new.events (threads + j) other
    hook j other (inl h) = rw (h.0, h.1) t.hook
    hook j other (inr h) =
        hook_kept old.events new.events (threads + j) other
        (busy_kept old.head old.events new.events (threads + i) (threads + j)
        (asked_grows old.head old.events new.events (threads + i) (asked actor) t.events_are)
        (λ is. h.0 (omega (arith, is))))
        (p.hooks j other h.1)

-- the run is one that the model's turns made
pub going_of : {H : Type 0} (board : Contents) (threads : ℕ) (actors : List (Actor H)) → IsPlaying board threads actors →
    Going board.head (map ops_of actors) board.events (map answered_of actors)
going_of board threads actors p =
    let g = turns_going board.head (map ops_of actors) p.reached.0 (start board.head (map ops_of actors)) p.script
    (start_going board.head (map ops_of actors) p.script) in
    subst (λ z. Going board.head (map ops_of actors) z.events z.answers) (sym p.reached.1) g

pub lawful_of : {H : Type 0} (board : Contents) (threads : ℕ) (actors : List (Actor H)) → IsPlaying board threads actors →
    IsLawful board.head board.events
lawful_of board threads actors p = (going_of board threads actors p).lawful

-- an actor's operation is one that its seat may ask for
pub allowed_of : {H : Type 0} (board : Contents) (threads : ℕ) (actors : List (Actor H)) (i : ℕ) (actor : Actor H) (ask : Ask H) →
    IsPlaying board threads actors → slice_get actors i ≡ Some actor → slice_get actor.asks actor.answered ≡ Some ask →
    IsAllowed board.head board.events (record { seat = threads + i; op = ask.op })
allowed_of board threads actors i actor ask p at asks =
    asks_allowed board.head (map ops_of actors) board.events (map answered_of actors) (threads + i) i ask.op p.script
    (going_of board threads actors p) (ap (λ z. z + i) p.threads_are)
    (asked_is actors i actor at ∙ ap (option_map op_of) asks)

-- an actor whose turn failed is as it was
pub in_place : {X : Type 0} (xs : List X) (i : ℕ) (x now : X) → slice_get xs i ≡ Some x → now ≡ x → set xs i now ≡ xs
in_place xs i x now at same = ap (set xs i) (same ∙ sym (get_or_from_slice_get xs i x x at)) ∙ set-get_or xs i x

-- an actor's turn, whether memory was wanting or not
pub turn_playing : {H E F : Type 0} (r : Result E F) (old new : Contents) (actors : List (Actor H)) (threads i : ℕ) (actor now : Actor H) →
    IsPlaying old threads actors → slice_get actors i ≡ Some actor → new.head ≡ old.head →
    OnOk r (new.events ≡ old.events ++ option_to_list (event_for old.head old.events (threads + i) (asked actor))) →
    OnOk r (now.answered ≡ actor.answered + (cond (answers_for old.head old.events (threads + i) (asked actor)) 1 0)) →
    ops_of now ≡ ops_of actor → HasHook new.events (threads + i) now →
    hook_count new.places + hooks_with now ≡ hook_count old.places + hooks_with actor →
    OnErr r ((new ≡ old) × (now ≡ actor)) → IsPlaying new threads (set actors i now)
turn_playing (Ok x) old new actors threads i actor now p at head events answered ops hook kept err =
    actor_playing old new actors threads i actor now p at
    (record { head_is = head; events_are = events; answered_is = answered; ops_are = ops; hook = hook; kept = kept })
turn_playing (Err e) old new actors threads i actor now p at head events answered ops hook kept err =
    subst (λ b. IsPlaying b threads (set actors i now)) (sym err.0)
    (subst (IsPlaying old threads) (sym (in_place actors i actor now at err.1)) p)

pub turn_position : {H E F : Type 0} (r : Result E F) (seen : H → Counts) (old new : Contents) (actors : List (Actor H)) (threads i : ℕ)
    (actor now : Actor H) → IsPlaying old threads actors → slice_get actors i ≡ Some actor → new.head ≡ old.head →
    OnOk r (new.events ≡ old.events ++ option_to_list (event_for old.head old.events (threads + i) (asked actor))) →
    OnOk r (now.answered ≡ actor.answered + (cond (answers_for old.head old.events (threads + i) (asked actor)) 1 0)) →
    ops_of now ≡ ops_of actor → HasHook new.events (threads + i) now →
    hook_count new.places + hooks_with now ≡ hook_count old.places + hooks_with actor →
    OnOk r
    (position_of seen new (set actors i now)
    ≡ record (position_of seen old actors) {
      progress = turn old.head (map ops_of actors) (progress_of old.events actors) (threads + i);
      hooks = map (hooks_of seen) (set actors i now);
    })
turn_position (Ok x) seen old new actors threads i actor now p at head events answered ops hook kept =
    actor_position seen old new actors threads i actor now p at
    (record { head_is = head; events_are = events; answered_is = answered; ops_are = ops; hook = hook; kept = kept })
turn_position (Err e) seen old new actors threads i actor now p at head events answered ops hook kept = tt

-- a number that is no seat does nothing
pub no_seat : {H : Type 0} (board : Contents) (threads : ℕ) (actors : List (Actor H)) (seat : ℕ) → IsPlaying board threads actors →
    threads + length actors ≤ seat →
    turn board.head (map ops_of actors) (progress_of board.events actors) seat ≡ progress_of board.events actors
no_seat board threads actors seat p past =
    let i : ℕ = seat - threads in
    none_turn board.head (map ops_of actors) (progress_of board.events actors) seat i (omega (arith, p.threads_are, past))
    (no_actor (map ops_of actors) (map answered_of actors) i (omega (arith, past, length-map actors ops_of)))

-- the same, where the seat is known by its number
pub turn_playing_at : {H E F : Type 0} (r : Result E F) (old new : Contents) (actors : List (Actor H)) (threads i k : ℕ)
    (actor now : Actor H) → threads + i ≡ k → IsPlaying old threads actors → slice_get actors i ≡ Some actor →
    new.head ≡ old.head →
    OnOk r (new.events ≡ old.events ++ option_to_list (event_for old.head old.events k (asked actor))) →
    OnOk r (now.answered ≡ actor.answered + (cond (answers_for old.head old.events k (asked actor)) 1 0)) →
    ops_of now ≡ ops_of actor → HasHook new.events k now →
    hook_count new.places + hooks_with now ≡ hook_count old.places + hooks_with actor →
    OnErr r ((new ≡ old) × (now ≡ actor)) → IsPlaying new threads (set actors i now)
turn_playing_at r old new actors threads i k actor now e p at head events answered ops hook kept err =
    turn_playing r old new actors threads i actor now p at head
    (subst (λ z. OnOk r (new.events ≡ old.events ++ option_to_list (event_for old.head old.events z (asked actor)))) (sym e) events)
    (subst (λ z. OnOk r (now.answered ≡ actor.answered + (cond (answers_for old.head old.events z (asked actor)) 1 0))) (sym e) answered)
    ops (subst (λ z. HasHook new.events z now) (sym e) hook) kept err

pub turn_position_at : {H E F : Type 0} (r : Result E F) (seen : H → Counts) (old new : Contents) (actors : List (Actor H)) (threads i k : ℕ)
    (actor now : Actor H) → threads + i ≡ k → IsPlaying old threads actors → slice_get actors i ≡ Some actor →
    new.head ≡ old.head →
    OnOk r (new.events ≡ old.events ++ option_to_list (event_for old.head old.events k (asked actor))) →
    OnOk r (now.answered ≡ actor.answered + (cond (answers_for old.head old.events k (asked actor)) 1 0)) →
    ops_of now ≡ ops_of actor → HasHook new.events k now →
    hook_count new.places + hooks_with now ≡ hook_count old.places + hooks_with actor →
    OnOk r
    (position_of seen new (set actors i now)
    ≡ record (position_of seen old actors) {
      progress = turn old.head (map ops_of actors) (progress_of old.events actors) k;
      hooks = map (hooks_of seen) (set actors i now);
    })
turn_position_at r seen old new actors threads i k actor now e p at head events answered ops hook kept =
    subst (λ z.
    OnOk r
    (position_of seen new (set actors i now)
    ≡ record (position_of seen old actors) {
      progress = turn old.head (map ops_of actors) (progress_of old.events actors) z;
      hooks = map (hooks_of seen) (set actors i now);
    })) e
    (turn_position r seen old new actors threads i actor now p at head
    (subst (λ z. OnOk r (new.events ≡ old.events ++ option_to_list (event_for old.head old.events z (asked actor)))) (sym e) events)
    (subst (λ z. OnOk r (now.answered ≡ actor.answered + (cond (answers_for old.head old.events z (asked actor)) 1 0))) (sym e) answered)
    ops (subst (λ z. HasHook new.events z now) (sym e) hook) kept)

pub failed_position : {H E F : Type 0} (r : Result E F) (seen : H → Counts) (old new : Contents) (actors : List (Actor H)) (i : ℕ) (actor now : Actor H) →
    slice_get actors i ≡ Some actor → OnErr r ((new ≡ old) × (now ≡ actor)) →
    OnErr r (position_of seen new (set actors i now) ≡ position_of seen old actors)
failed_position (Ok x) seen old new actors i actor now at err = tt
failed_position (Err e) seen old new actors i actor now at err =
    ap (λ b. position_of seen b (set actors i now)) err.0
    ∙ ap (position_of seen old) (in_place actors i actor now at err.1)

-- A write of control is a turn of the client that writes.
use Rattle.std.proofs.Common.{◌≡◌, ℕ, ◌+◌, Bool, true, false, cond, not, ◌||◌, eqb, IfSome, Option, Some, None, List, [], ◌∷◌, ◌++◌, length, append-nil, map, refl, ap, sym, ◌∙◌, subst, arith}
use Rattle.std.specs.Prelude.{slice_get, option_to_list, pos}
use Rattle.std.specs.List.{sum_by}
use Rattle.std.proofs.lemmas.Bool.{eqb-true}
use Rattle.std.proofs.lemmas.List.{length-map, map-append}
use Rattle.std.proofs.lemmas.Option.{slice_get_within}
use Rattle.hp_states.specs.declared.cpu_set.CpuSet.{CpuSet}
use Rattle.hp_event.specs.declared.answer.Answer.{Answer}
use Rattle.hp_event.specs.declared.answer.Answer.TheVariants.{Ok, Refused}
use Rattle.hp_event.specs.declared.head.Head.{Head}
use Rattle.hp_event.specs.declared.event.Event.{Event}
use Rattle.hp_model.specs.Events.{seat_of, answer_by}
use Rattle.hp_model.specs.Lawful.{Stands}
use Rattle.hp_model.specs.Lists.{is_empty}
use Rattle.hp_model.specs.MapLock.{is_map_held}
use Rattle.hp_model.specs.NextEvent.{next_event, is_full}
use Rattle.hp_model.specs.Processors.{present, online}
use Rattle.hp_model.specs.Suspend.{is_disabled, frozen}
use Rattle.hp_model.proofs.NextStands.{next_stands}
use Rattle.hp_board.specs.Contents.{Contents}
use Rattle.hp_board.specs.HookCount.{hook_count}
use Rattle.hp_board.specs.declared.turn.Turn.{Turn}
use Rattle.hp_board.specs.declared.turn.Turn.TheVariants.{Made, Answered, NotYet}
use Rattle.hp_actors.specs.declared.actor.Actor.{Actor}
use Rattle.hp_actors.specs.Positions.{ops_of}
use Rattle.hp_actors.specs.Racks.{hooks_with}
use Rattle.hp_actors.specs.RunInvariant.{HasHook}
use Rattle.hp_actors.proofs.Playing.{Grows, busy_kept, hook_kept}
use Rattle.hp_smt.specs.Contents.{Controlled, after_event as board_after}
use Rattle.hp_smt.specs.Modes.{wants_on, ended_mode, own_op}
use Rattle.hp_smt.specs.Run.{and_event, if_answered, after_write, after_writing, writes}
use Rattle.hp_smt.specs.Turns.{IsControl, SaysStep, step_of}
use Rattle.hp_smt.specs.Writes.{Step, write_by, current, begun, or_begun, after_own, after_answer, finished, gone_on_with, own_cpu, unless_at_once, at_once, control_step, is_done, goes_on, answers, at_rest, mode_before, under, recorded_after, taking_of}
use Rattle.hp_smt.specs.declared.mode.Control.{Control}
use Rattle.hp_smt.specs.declared.setting.Setting.{Setting}
use Rattle.hp_smt.specs.declared.setting.Write.{Write}
use Rattle.hp_smt_run.specs.Playing.{setup_of, ops_in, state_of, written_as, turn_at, IsPlaying, IsTurned}
use Rattle.hp_smt_run.specs.SiblingsOff.{SiblingsAreOff}
use Rattle.hp_smt_run.specs.declared.run.SmtRun.{SmtRun}
use Rattle.hp_smt_run.specs.declared.written.Written.{Written}
use Rattle.hp_smt_run.proofs.Moving.{writer_is}
use Rattle.hp_smt_run.proofs.Turned.{turned_by}

-- ---- the event of a step stands, and is of the seat

abbrev IsOfSeat : Head → List Event → (seat : ℕ) → Option Event → Type 0
IsOfSeat head xs k o = IfSome o (λ e. Stands head xs e × (seat_of e ≡ k))

current_seat : (xs : List Event) (s : Setting) (k : ℕ) (want : Control) → (current xs s k want).seat ≡ k
current_seat xs s k want = go s.write
  where
    by : (w : Write) (b : Bool) → eqb w.seat k ≡ b →
        (or_begun (cond b (Some w) None) (begun s k want (length xs))).seat ≡ k
    by w true e = eqb-true w.seat k e
    by w false e = refl

    go : (o : Option Write) → (or_begun (write_by k o) (begun s k want (length xs))).seat ≡ k
    go None = refl
    go (Some w) = by w (eqb w.seat k) refl

own_of_seat : (head : Head) (xs : List Event) (recorded : CpuSet) (w : Write) (c k : ℕ) → w.seat ≡ k → (o : Option Event) →
    next_event head xs w.seat (own_op w.want c) ≡ o → (full : Bool) → IsOfSeat head xs k (after_own recorded w c o full).event
own_of_seat head xs recorded w c k is (Some e) f full = go (answer_by e)
  where
    made : IsOfSeat head xs k (Some e)
    made = let d = next_stands head xs w.seat (own_op w.want c) e f in (d.0, d.1 ∙ is)

    done : (a : Answer) (b : Bool) →
        IsOfSeat head xs k
        (cond b (goes_on (Some e) (under (recorded_after w.want recorded c) (taking_of w None)))
        (answers (Some e) (at_rest (mode_before w) recorded) a)).event
    done a true = made
    done a false = made

    go : (a : Option Answer) → IsOfSeat head xs k (after_answer recorded w c e a).event
    go None = made
    go (Some a) = done a (is_done a)
own_of_seat head xs recorded w c k is None f true = tt
own_of_seat head xs recorded w c k is None f false = tt

finished_of_seat : (head : Head) (xs : List Event) (recorded : CpuSet) (w : Write) (k : ℕ) (on : Bool) →
    IsOfSeat head xs k (finished xs recorded w on).event
finished_of_seat head xs recorded w k true = tt
finished_of_seat head xs recorded w k false = by_held (is_map_held xs)
  where
    by_frozen : (d : Bool) →
        IsOfSeat head xs k
        (cond d (answers None (at_rest (mode_before w) recorded) (Refused 16))
        (answers None (at_rest (ended_mode w.want) recorded) (Ok (pos 0)))).event
    by_frozen true = tt
    by_frozen false = tt

    by_held : (b : Bool) →
        IsOfSeat head xs k
        (cond b (goes_on None (under recorded w))
        (cond (is_disabled xs || not (is_empty (frozen xs))) (answers None (at_rest (mode_before w) recorded) (Refused 16))
        (answers None (at_rest (ended_mode w.want) recorded) (Ok (pos 0))))).event
    by_held true = tt
    by_held false = by_frozen (is_disabled xs || not (is_empty (frozen xs)))

step_of_seat : (head : Head) (xs : List Event) (n : ℕ) (s : Setting) (k : ℕ) (want : Control) →
    IsOfSeat head xs k (control_step head xs n s k want).event
step_of_seat head xs n s k want = go (at_once s k want)
  where
    w : Write
    w = current xs s k want

    gone : (o : Option ℕ) → IsOfSeat head xs k (gone_on_with head xs s.recorded w o).event
    gone None = finished_of_seat head xs s.recorded w k (wants_on w.want)
    gone (Some c) =
        own_of_seat head xs s.recorded w c k (current_seat xs s k want) (next_event head xs w.seat (own_op w.want c)) refl
        (is_full head xs w.seat (own_op w.want c))

    go : (o : Option Answer) →
        IsOfSeat head xs k (unless_at_once s o (gone_on_with head xs s.recorded w (own_cpu head xs n s.recorded w))).event
    go (Some a) = tt
    go None = gone (own_cpu head xs n s.recorded w)

-- ---- what the client has written

events_after : (b : Contents) (o : Option Event) → (board_after b o).events ≡ and_event b.events o
events_after b None = refl
events_after b (Some e) = refl

head_after : (b : Contents) (o : Option Event) → (board_after b o).head ≡ b.head
head_after b None = refl
head_after b (Some e) = refl

list_after : (xs : List Event) (o : Option Event) → and_event xs o ≡ xs ++ option_to_list o
list_after xs None = sym (append-nil xs)
list_after xs (Some e) = refl

-- what is noted of the turn
pub record IsNoted {H : Type 0} (want : Control) (a : Answer) (old new : SmtRun H) : Type 0 where
  pub written : Written
  pub pushed : new.written.items ≡ old.written.items ++ written ∷ []
  pub want_is : written.want ≡ want
  pub answer_is : written.answer ≡ a
  pub online_are : written.online.items ≡ online new.smt.board.head new.smt.board.events

abbrev pub Notes : {H : Type 0} → Control → Turn → (old new : SmtRun H) → Type 0
Notes want (Answered at a) old new = IsNoted want a old new
Notes want _ old new = new.written.items ≡ old.written.items

pub record IsWritersTurn {H : Type 0} (seat : ℕ) (want : Control) (turn : Turn) (old new : SmtRun H) : Type 0 where
  pub seat_is : seat ≡ old.seats + length old.actors.items
  pub next_is : slice_get (writes old.want) (length old.written.items) ≡ Some want
  pub control : IsControl seat want old.smt new.smt turn
  pub actors_are : new.actors.items ≡ old.actors.items
  pub seats_are : new.seats ≡ old.seats
  pub want_is : new.want ≡ old.want
  pub denied_are : new.denied.items ≡ old.denied.items
  pub as_many : hook_count new.smt.board.places ≡ hook_count old.smt.board.places
  pub off : SiblingsAreOff new.smt.threads (state_of new)
  pub notes : Notes want turn old new

same_written : (w : Written) (want : Control) (a : Answer) (on : List ℕ) → w.want ≡ want → w.answer ≡ a → w.online.items ≡ on →
    written_as w ≡ record { want = want; answer = a; online = on }
same_written w want a on x y z = rw (x, y, z) refl

noted : {H : Type 0} (head : Head) (want : Control) (a : Answer) (xs : List Event) (old new : SmtRun H) → IsNoted want a old new →
    new.smt.board.head ≡ head → new.smt.board.events ≡ xs → (o : Option Answer) → o ≡ Some a →
    map written_as new.written.items ≡ map written_as old.written.items ++ if_answered head xs want o
noted head want a xs old new n heads events o is =
    ap (map written_as) n.pushed
    ∙ (map-append written_as old.written.items (n.written ∷ [])
    ∙ ap (λ z. map written_as old.written.items ++ z)
    (ap (λ z. z ∷ [])
    (same_written n.written want a (online head xs) n.want_is n.answer_is
    (n.online_are ∙ (ap (λ h. online h new.smt.board.events) heads ∙ ap (online head) events)))
    ∙ ap (if_answered head xs want) (sym is)))

not_noted : {H : Type 0} (head : Head) (want : Control) (xs : List Event) (old new : SmtRun H) →
    new.written.items ≡ old.written.items → (o : Option Answer) → o ≡ None →
    map written_as new.written.items ≡ map written_as old.written.items ++ if_answered head xs want o
not_noted head want xs old new same o is =
    ap (map written_as) same
    ∙ (sym (append-nil (map written_as old.written.items))
    ∙ ap (λ z. map written_as old.written.items ++ if_answered head xs want z) (sym is))

pub write_turned : {H : Type 0} (k : ℕ) (want : Control) (turn : Turn) (old new : SmtRun H) → IsPlaying old →
    IsWritersTurn k want turn old new → IsTurned k old new
write_turned {H} k want turn old new p t =
    turned_by k old new p t.seats_are setups state hooks
    (ap (λ n. n + sum_by hooks_with new.actors.items) t.as_many
    ∙ ap (λ (z : List (Actor H)). hook_count old.smt.board.places + sum_by hooks_with z) t.actors_are)
    t.off
  where
    head : Head
    head = old.smt.board.head

    xs : List Event
    xs = old.smt.board.events

    step : Step
    step = step_of old.smt k want

    heads : new.smt.board.head ≡ head
    heads = ap (λ (z : Controlled). z.board.head) t.control.new_is ∙ head_after old.smt.board step.event

    events : new.smt.board.events ≡ and_event xs step.event
    events = ap (λ (z : Controlled). z.board.events) t.control.new_is ∙ events_after old.smt.board step.event

    threads : new.smt.threads ≡ old.smt.threads
    threads = ap (λ (z : Controlled). z.threads) t.control.new_is

    setting : new.smt.setting ≡ step.setting
    setting = ap (λ (z : Controlled). z.setting) t.control.new_is

    setups : setup_of new ≡ setup_of old
    setups = rw (heads, threads, t.actors_are, t.want_is) refl

    written : (turn : Turn) → SaysStep old.smt.board step turn → Notes want turn old new →
        map written_as new.written.items ≡ map written_as old.written.items ++ if_answered head (and_event xs step.event) want step.answer
    written (Made at) says notes = not_noted head want (and_event xs step.event) old new notes step.answer says.1
    written (Answered (Some at) a) says notes = noted head want a (and_event xs step.event) old new notes heads events step.answer says.1
    written (Answered None a) says notes = noted head want a (and_event xs step.event) old new notes heads events step.answer says.1
    written (NotYet why) says notes = not_noted head want (and_event xs step.event) old new notes step.answer says.1

    place : k ≡ length (present head) + length (ops_in old)
    place =
        let l = length-map old.actors.items ops_of in
        let s = p.seats_are in
        let i = t.seat_is in
        omega (arith, l, s, i)

    turn_is : turn_at (setup_of old) (state_of old) k ≡ after_write head want step (state_of old)
    turn_is =
        writer_is head old.smt.threads (ops_in old) old.want (state_of old) k place
        ∙ ap (λ o. after_writing head old.smt.threads k o (state_of old))
        (ap (slice_get (writes old.want)) (length-map old.written.items written_as) ∙ t.next_is)

    state : state_of new ≡ turn_at (setup_of old) (state_of old) k
    state =
        let w = written turn t.control.says t.notes in
        rw (setting, events, t.actors_are, w, t.denied_are) (sym turn_is)

    hooks : (i : ℕ) (actor : Actor H) → slice_get new.actors.items i ≡ Some actor → HasHook new.smt.board.events (new.seats + i) actor
    hooks i actor at =
        let here : slice_get old.actors.items i ≡ Some actor = ap (λ z. slice_get z i) (sym t.actors_are) ∙ at in
        let below = slice_get_within old.actors.items i actor here in
        let s = t.seat_is in
        let grows : Grows head xs new.smt.board.events k =
        record {
          next = step.event;
          after_is = events ∙ list_after xs step.event;
          stands = step_of_seat head xs old.smt.threads old.smt.setting k want;
        } in
        subst (λ z. HasHook new.smt.board.events (z + i) actor) (sym t.seats_are)
        (hook_kept xs new.smt.board.events (old.seats + i) actor
        (busy_kept head xs new.smt.board.events k (old.seats + i) grows (λ is. absurd (omega (arith, is, s, below))))
        (p.hooks i actor here))

-- the client is through: a turn of its seat changes nothing
pub through_turned : {H : Type 0} (k : ℕ) (old : SmtRun H) → IsPlaying old → k ≡ old.seats + length old.actors.items →
    slice_get (writes old.want) (length old.written.items) ≡ None → SiblingsAreOff old.smt.threads (state_of old) → IsTurned k old old
through_turned k old p is none off =
    turned_by k old old p refl refl
    (sym (writer_is old.smt.board.head old.smt.threads (ops_in old) old.want (state_of old) k place
    ∙ ap (λ o. after_writing old.smt.board.head old.smt.threads k o (state_of old))
    (ap (slice_get (writes old.want)) (length-map old.written.items written_as) ∙ none)))
    p.hooks refl off
  where
    place : k ≡ length (present old.smt.board.head) + length (ops_in old)
    place =
        let l = length-map old.actors.items ops_of in let s = p.seats_are in omega (arith, l, s, is)

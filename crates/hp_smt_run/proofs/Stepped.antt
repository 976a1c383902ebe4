-- A turn of the machine under SMT control for the operation of an actor.
use Rattle.std.proofs.Common.{◌≡◌, ℕ, ◌+◌, ◌<◌, Bool, true, false, cond, not, ◌&&◌, eqb, Option, Some, None, List, [], ◌∷◌, ◌++◌, length, map, drop, refl, ap, sym, subst, ◌∙◌, inl, inr, arith}
use Rattle.std.specs.Prelude.{option_map, slice_get, option_to_list, is_some}
use Rattle.std.specs.List.{sum_by}
use Rattle.std.proofs.lemmas.Bool.{and_parts, eqb-true}
use Rattle.std.proofs.lemmas.List.{length-map}
use Rattle.hp_states.proofs.Basics.{same_some}
use Rattle.hp_event.specs.declared.op.Op.{Op}
use Rattle.hp_event.specs.declared.event.Event.{Event}
use Rattle.hp_account.specs.Table.{IsTableOf}
use Rattle.hp_table.specs.Sound.{IsSound}
use Rattle.hp_table.specs.Step.{AllHome}
use Rattle.hp_model.specs.Lawful.{IsLawful}
use Rattle.hp_model.specs.Pending.{IsAllowed, IsInFlight}
use Rattle.hp_model.specs.Processors.{present}
use Rattle.hp_model.specs.ScriptTurns.{unanswered}
use Rattle.hp_model.specs.Seats.{is_busy, holds_map, registers}
use Rattle.hp_model.specs.MapLock.{Operation, operation}
use Rattle.hp_model.specs.Registrations.{Registration, registration}
use Rattle.hp_model.proofs.AnswerCounts.{nth_of}
use Rattle.hp_model.proofs.Going.{asks_allowed}
use Rattle.hp_board.specs.HookCount.{hook_count, held}
use Rattle.hp_board.specs.declared.turn.Ask.{Ask}
use Rattle.hp_board.specs.declared.turn.Turn.{Turn}
use Rattle.hp_board.specs.declared.turn.Turn.TheVariants.{Answered}
use Rattle.hp_event.specs.declared.answer.Answer.{Answer}
use Rattle.hp_hook.specs.Counted.{Counts}
use Rattle.hp_actors.specs.Actors.{AreLoaded, noted, with_ask}
use Rattle.hp_actors.specs.Positions.{op_of, ops_of}
use Rattle.hp_actors.specs.Racks.{hooks_with}
use Rattle.hp_actors.specs.RunInvariant.{HasHook}
use Rattle.hp_actors.specs.declared.actor.Actor.{Actor}
use Rattle.hp_actors.proofs.Playing.{ActorTurned, asked_is, idle_hook, in_place}
use Rattle.hp_actors.proofs.TurnsAsked.{asked_turned, next_loaded}
use Rattle.hp_smt.specs.Contents.{Controlled}
use Rattle.hp_smt.specs.Hooks.{LeavesHook, HasHookAgain}
use Rattle.hp_smt.specs.Modes.{is_on}
use Rattle.hp_smt.specs.Run.{writes}
use Rattle.hp_smt.specs.Siblings.{is_up_of_sibling}
use Rattle.hp_smt.specs.Turns.{IsSmtTurn, is_denied}
use Rattle.hp_smt.specs.Writes.{write_by}
use Rattle.hp_smt.specs.declared.setting.Write.{Write}
use Rattle.hp_smt.specs.declared.turn.SmtTurn.{SmtTurn}
use Rattle.hp_smt.specs.declared.turn.SmtTurn.TheVariants.{Board, Denied}
use Rattle.hp_smt_run.specs.Asked.{IsStepped}
use Rattle.hp_smt_run.specs.Playing.{ops_in, state_of, IsPlaying}
use Rattle.hp_smt_run.specs.declared.run.SmtRun.{SmtRun}
use Rattle.hp_smt_run.proofs.Beside.{beside, un_left}
use Rattle.hp_smt_run.proofs.Kept.{op_of_write, IsWriterOf, script_of}
use Rattle.hp_smt_run.proofs.Rounds.{fits, kept_of}

-- what is known of an actor that asks
pub record Asks {H : Type 0} (k : ℕ) (old : Controlled) (actor : Actor H) (ask : Ask H) : Type 0 where
  pub at : slice_get actor.asks actor.answered ≡ Some ask
  pub later : AreLoaded (drop (actor.answered + 1) actor.asks)
  pub hook : HasHook old.board.events k actor
  pub allowed : IsAllowed old.board.head old.board.events (record { seat = k; op = ask.op })
  pub lawful : IsLawful old.board.head old.board.events
  pub table : IsTableOf old.board.head old.board.events old.board.places
  pub sound : IsSound old.board.places
  pub home : AllHome old.board.places

not_true : (b : Bool) → not b ≡ true → b ≡ false
not_true true h = absurd (cc)
not_true false h = refl

-- one that is denied
pub stepped_denied : {H : Type 0} (seen : H → Counts) (k : ℕ) (old new : Controlled) (actor now : Actor H) (ask ask_now : Ask H) (place : Option ℕ)
    (answer : Answer) (r : SmtTurn) (d e : List ℕ) → Asks k old actor ask → r ≡ Denied → IsSmtTurn k ask.op old new r →
    LeavesHook seen k old ask ask_now r → now ≡ noted (with_ask actor ask_now) (Answered place answer) → e ≡ d ++ k ∷ [] →
    IsStepped k old new actor now d e
stepped_denied {H} seen k old new actor now ask ask_now place answer r d e a is turn leaves now_is noted_is = inl (record {
  op = ask.op;
  asked_is = ap (option_map op_of) a.at;
  denied = t.1;
  same = t.0;
  answered_is = ap (λ (z : Actor H). z.answered) now_is;
  ops_are = ap (map op_of) asks;
  hook = λ x found.
      next_loaded actor.asks actor.answered x a.later
      (ap (slice_get actor.asks) (sym answered) ∙ (ap (λ z. slice_get z now.answered) (sym asks) ∙ found))
      ∙ idle_hook old.board.events k x.op idle;
  kept =
      ap (λ (z : Controlled). hook_count z.board.places + hooks_with now) t.0
      ∙ ap (λ (z : List (Ask H)). hook_count old.board.places + sum_by (λ x. held (is_some x.hook)) z) asks;
  denied_are = noted_is;
})
  where
    t : (new ≡ old) × (is_denied old k ask.op ≡ true)
    t = subst (IsSmtTurn k ask.op old new) is turn

    same : ask_now ≡ ask
    same = subst (LeavesHook seen k old ask ask_now) is leaves

    asks : now.asks ≡ actor.asks
    asks = ap (λ (z : Actor H). z.asks) now_is ∙ in_place actor.asks actor.answered ask ask_now a.at same

    answered : now.answered ≡ actor.answered + 1
    answered = ap (λ (z : Actor H). z.answered) now_is

    idle : is_busy k old.board.events ≡ false
    idle =
        not_true (is_busy k old.board.events)
        (and_parts (not (is_busy k old.board.events)) (not (is_on old.setting.mode) && is_up_of_sibling old.threads ask.op) t.1).0

-- one that isn't
pub stepped_board : {H : Type 0} (seen : H → Counts) (k : ℕ) (old new : Controlled) (actor now : Actor H) (ask ask_now : Ask H) (r : SmtTurn) (t : Turn)
    (d : List ℕ) → Asks k old actor ask → r ≡ Board t → IsSmtTurn k ask.op old new r → ask_now.op ≡ ask.op →
    LeavesHook seen k old ask ask_now r → HasHookAgain k new ask ask_now r → now ≡ noted (with_ask actor ask_now) t →
    IsStepped k old new actor now d d
stepped_board {H} seen k old new actor now ask ask_now r t d a is turn op leaves again now_is =
    let s = subst (IsSmtTurn k ask.op old new) is turn in
    let l = subst (LeavesHook seen k old ask ask_now) is leaves in
    let g = subst (HasHookAgain k new ask ask_now) is again in
    let made : ActorTurned k old.board new.board actor now =
    asked_turned k old.board new.board actor now ask ask_now t a.lawful a.table a.sound a.home a.allowed a.hook a.later a.at s.0 op l.0 g
    (ap (λ (z : Actor H). z.asks) now_is) (ap (λ (z : Actor H). z.answered) now_is) in
    inr (record {
      let_through = λ other e.
          subst (λ z. is_denied old k z ≡ false) (same_some ask.op other (sym (ap (option_map op_of) a.at) ∙ e)) s.2;
      moves = s.1;
      head_is = made.head_is;
      events_are = made.events_are;
      answered_is = made.answered_is;
      ops_are = made.ops_are;
      hook = made.hook;
      kept = made.kept;
      denied_are = refl;
    })

-- ---- what may be asked for

pub allowed_of : {H : Type 0} (run : SmtRun H) (i : ℕ) (actor : Actor H) (ask : Ask H) → IsPlaying run →
    slice_get run.actors.items i ≡ Some actor → slice_get actor.asks actor.answered ≡ Some ask →
    IsAllowed run.smt.board.head run.smt.board.events (record { seat = run.seats + i; op = ask.op })
allowed_of run i actor ask p at asks =
    let k = kept_of run p in
    let write = run.smt.setting.write in
    let ops = ops_in run in
    let ns = (state_of run).run.answers in
    let u : unanswered ops ns i ≡ Some ask.op = asked_is run.actors.items i actor at ∙ ap (option_map op_of) asks in
    let below = (nth_of ops ns i ask.op u).within in
    asks_allowed run.smt.board.head (beside ops (op_of_write write)) run.smt.board.events (ns ++ 0 ∷ []) (run.seats + i) i ask.op
    (script_of run.smt.board.head ops write (fits run p)) k.going (ap (λ z. z + i) p.seats_are)
    (un_left ops (option_to_list (op_of_write write)) ns 0 i k.long below ∙ u)

-- no actor writes
pub no_actor_writes : {H : Type 0} (run : SmtRun H) (i : ℕ) → IsPlaying run → i < length run.actors.items →
    write_by (run.seats + i) run.smt.setting.write ≡ None
no_actor_writes run i p below = go run.smt.setting.write (kept_of run p).writer
  where
    k : ℕ
    k = length (present run.smt.board.head) + length (ops_in run)

    by : (w : Write) (b : Bool) → eqb w.seat (run.seats + i) ≡ b → w.seat ≡ k → cond b (Some w) None ≡ None
    by w true e s =
        let q = eqb-true w.seat (run.seats + i) e in
        let l = length-map run.actors.items ops_of in
        let a = p.seats_are in
        absurd (omega (arith, q, s, l, a, below))
    by w false e s = refl

    go : (o : Option Write) → IsWriterOf k (slice_get (writes run.want) (length (state_of run).written)) o →
        write_by (run.seats + i) o ≡ None
    go None h = refl
    go (Some w) h = by w (eqb w.seat (run.seats + i)) refl h.0

-- a seat with nothing in flight isn't busy
pub idle_unless : (xs : List Event) (k : ℕ) → ((op : Op) → IsInFlight xs (record { seat = k; op = op }) → ⊥) → is_busy k xs ≡ false
idle_unless xs k none = go (operation xs) (registration xs) refl refl
  where
    reg : (r : Option Registration) → registration xs ≡ r → registers k r ≡ false
    reg None f = refl
    reg (Some r) f = by (eqb r.seat k) refl
      where
        by : (b : Bool) → eqb r.seat k ≡ b → b ≡ false
        by true e = absurd (none r.op (inr (r, f, eqb-true r.seat k e, refl)))
        by false e = refl

    map_lock : (o : Option Operation) → operation xs ≡ o → holds_map k o ≡ false
    map_lock None f = refl
    map_lock (Some o) f = by (eqb o.seat k) refl
      where
        by : (b : Bool) → eqb o.seat k ≡ b → b ≡ false
        by true e = absurd (none o.op (inl (o, f, eqb-true o.seat k e, refl)))
        by false e = refl

    go : (o : Option Operation) (r : Option Registration) → operation xs ≡ o → registration xs ≡ r → is_busy k xs ≡ false
    go o r f g = rw (ap (holds_map k) f ∙ map_lock o f, ap (registers k) g ∙ reg r g) refl

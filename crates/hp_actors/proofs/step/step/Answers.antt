-- The machine's turn is the actor's, which notes what it did and whether it waits.
use Rattle.std.proofs.Common.{◌≡◌, ℕ, ◌+◌, ◌<◌, ◌≤◌, Result, Ok, Err, OnErr, cond, set, length, ap, sym, subst, ◌∙◌, arith}
use Rattle.std.proofs.lemmas.List.{length-set}
use Rattle.std.proofs.lemmas.Option.{slice_get_within}
use Rattle.hp_board.specs.Contents.{Contents}
use Rattle.hp_board.specs.HookCount.{hook_count}
use Rattle.hp_board.proofs.Homes.{idle_home, turn_home}
use Rattle.hp_model.specs.Seats.{is_busy}
use Rattle.hp_actors.specs.Actors.{noted, with_ask}
use Rattle.hp_actors.specs.RunInvariant.{HasHook}
use Rattle.hp_actors.specs.Positions.{ops_of}
use Rattle.hp_actors.specs.Racks.{hooks_with}
use Rattle.hp_actors.specs.ActorTurns.{asked, event_for}
use Rattle.hp_actors.specs.PassedOver.{waited}
use Rattle.hp_actors.specs.declared.actor.Actor.{Actor}
use Rattle.hp_actors.proofs.TurnsAsked.{asked_turned, same_ask}
use Rattle.hp_actors.proofs.HooksTurned.{own_turned}
use Rattle.hp_actors.proofs.PassedOverStay.{ends_known, turn_notes}
use Rattle.hp_actors.proofs.step.step.Given as given
use Rattle.hp_actors.proofs.step.step.Goals as goal
use Rattle.hp_actors.proofs.step.step.Goals.{In_err-turn}

pub turn-requires-clause-nothing : goal.turn-requires-clause-nothing
turn-requires-clause-nothing g c = idle_home c.args.board.now c.args.seat c.requires.home

pub turn-requires-clause-allowed : goal.turn-requires-clause-allowed
turn-requires-clause-allowed g c = c.requires.allowed c.in-Some.ask.now c.in-Some.ensures.some

pub turn-requires-clause-hook : goal.turn-requires-clause-hook
turn-requires-clause-hook g c = c.requires.hook c.in-Some.ask.now c.in-Some.ensures.some

pub note-requires : goal.note-requires
note-requires g c =
    let actor = c.args.actor.now in
    subst (λ n. actor.answered < n) (sym (length-set actor.asks actor.answered c.turn.new.ask))
    (slice_get_within actor.asks actor.answered c.in-Some.ask.now c.in-Some.ensures.some)

pub note_wait-requires : goal.note_wait-requires
note_wait-requires g c = λ on.
    let actor = c.args.actor.now in
    let below = slice_get_within actor.asks actor.answered c.in-Some.ask.now c.in-Some.ensures.some in
    let same = length-set actor.asks actor.answered c.turn.new.ask in
    let none = ap {B = ℕ} (λ b. cond b 0 1) on in
    subst (λ (a : Actor g.row.H.Denot). a.answered < length a.asks) (sym c.note.ensures) (omega (arith, below, same, none))

-- where memory was wanting the actor is as it was
still_same : (g : given.Over) (c : In_err-turn g) → with_ask c.args.actor.now c.turn.new.ask ≡ c.args.actor.now
still_same g c = same_ask c.args.actor.now c.in-Some.ask.now c.turn.new.ask c.in-Some.ensures.some c.in_err-turn.ensures.err.1

both_same : {T E H : Type 0} (r : Result T E) (old new : Contents) (actor now : Actor H) → new ≡ old → now ≡ actor →
    OnErr r ((new ≡ old) × (now ≡ actor))
both_same (Ok x) old new actor now board same = tt
both_same (Err x) old new actor now board same = (board, same)

pub returns-in_err-turn-clause-ops : goal.returns-in_err-turn-clause-ops
returns-in_err-turn-clause-ops g c =
    ap (λ (a : Actor g.row.H.Denot). ops_of a) (still_same g (goal.at.returns-in_err-turn-clause-ops g c).In_err-turn)

pub returns-in_err-turn-clause-hook : goal.returns-in_err-turn-clause-hook
returns-in_err-turn-clause-hook g c =
    let same = still_same g (goal.at.returns-in_err-turn-clause-hook g c).In_err-turn in
    subst (λ (b : Contents). HasHook b.events c.args.seat (with_ask c.args.actor.now c.turn.new.ask)) (sym c.in_err-turn.ensures.err.0)
    (subst (HasHook c.args.board.now.events c.args.seat) (sym same) c.requires.hook)

pub returns-in_err-turn-clause-kept : goal.returns-in_err-turn-clause-kept
returns-in_err-turn-clause-kept g c =
    let same = still_same g (goal.at.returns-in_err-turn-clause-kept g c).In_err-turn in
    ap (λ (b : Contents). hook_count b.places + hooks_with (with_ask c.args.actor.now c.turn.new.ask)) c.in_err-turn.ensures.err.0
    ∙ ap (λ (a : Actor g.row.H.Denot). hook_count c.args.board.now.places + hooks_with a) same

pub returns-in_err-turn-clause-err : goal.returns-in_err-turn-clause-err
returns-in_err-turn-clause-err g c =
    both_same c.from_residual.result c.args.board.now c.turn.new.self c.args.actor.now (with_ask c.args.actor.now c.turn.new.ask)
    c.in_err-turn.ensures.err.0 (still_same g (goal.at.returns-in_err-turn-clause-err g c).In_err-turn)

pub returns : goal.returns
returns g c =
    let seat = c.args.seat in
    let old = c.args.board.now in
    let new = c.turn.new.self in
    let actor = c.args.actor.now in
    let now = c.note_wait.new.actor in
    let ask = c.in-Some.ask.now in
    let at = c.in-Some.ensures.some in
    let turn = c.in_ok-turn.turn in
    let e = c.in_ok-turn.ensures in
    let is : now ≡ waited (noted (with_ask actor c.turn.new.ask) turn) turn (is_busy seat new.events) c.args.last_end.now =
    c.note_wait.ensures
    ∙ ap (λ (a : Actor g.row.H.Denot). waited a turn (is_busy seat new.events) c.args.last_end.now) c.note.ensures in
    let asks : now.asks ≡ set actor.asks actor.answered c.turn.new.ask = ap (λ (a : Actor g.row.H.Denot). a.asks) is in
    let made =
    asked_turned seat old new actor now ask c.turn.new.ask turn c.requires.lawful c.sound.ensures.table c.sound.ensures.places
    c.requires.home (c.requires.allowed ask at) c.requires.hook c.sound-2.ensures.later at e.turn e.op e.has_hook e.again asks
    (ap (λ (a : Actor g.row.H.Denot). a.answered) is) in
    let up = c.end_after.ensures.within in
    record {
      head = made.head_is;
      home = turn_home seat ask.op old new turn e.turn c.requires.home;
      events = made.events_are;
      answered = made.answered_is;
      ops = made.ops_are;
      hook = made.hook;
      own_hooks = own_turned g.H.Hook.counts seat old actor now.asks ask c.turn.new.ask c.sound.ensures.table at asks e.has_hook e.same_hook e.handed;
      kept = made.kept;
      last_end = (up.0, subst (λ es. c.end_after.result ≤ length es) c.journal.ensures.events up.1);
      ends =
          ends_known old.events new.events (event_for old.head old.events seat (asked actor)) c.args.last_end.now c.end_after.result
          made.events_are c.requires.last_end (λ front event are. c.end_after.ensures.ends front event (c.journal.ensures.events ∙ are));
      waits =
          turn_notes seat c.args.last_end.now c.end_after.result old new actor now ask c.turn.new.ask turn c.requires.lawful c.requires.home
          e.turn e.op at is up.0;
      err = tt;
      still = tt;
    }

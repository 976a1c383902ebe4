-- A turn of the machine under SMT control is a turn of the run.
use Rattle.std.proofs.Common.{◌≡◌, ℕ, suc, ◌+◌, ◌<◌, true, false, cond, Option, Some, None, List, [], ◌∷◌, ◌++◌, length, append-nil, map, set, refl, ap, sym, ◌∙◌, subst, inl, inr, ◌⊎◌, arith}
use Rattle.std.specs.Prelude.{fold, slice_get, option_to_list}
use Rattle.std.specs.List.{sum_by}
use Rattle.std.proofs.lemmas.List.{length-map}
use Rattle.std.proofs.lemmas.List.Sums.{fold-append}
use Rattle.std.proofs.lemmas.Option.{slice_get_within}
use Rattle.hp_event.specs.declared.op.Op.{Op}
use Rattle.hp_event.specs.declared.head.Head.{Head}
use Rattle.hp_event.specs.declared.event.Event.{Event}
use Rattle.hp_model.specs.Lists.{numbers}
use Rattle.hp_model.specs.NextEvent.{due_entry, next_event, is_full}
use Rattle.hp_model.specs.Processors.{present}
use Rattle.hp_model.specs.Scripts.{IsScript}
use Rattle.hp_model.specs.ScriptTurns.{counted, after_event}
use Rattle.hp_script.specs.Playable.{setups_in}
use Rattle.hp_table.specs.Step.{AllHome}
use Rattle.hp_board.specs.Contents.{Contents}
use Rattle.hp_board.specs.declared.turn.Turn.{Turn}
use Rattle.hp_actors.specs.declared.actor.Actor.{Actor}
use Rattle.hp_actors.specs.ActorTurns.{asked, event_for, answers_for}
use Rattle.hp_actors.specs.Positions.{ops_of, answered_of}
use Rattle.hp_actors.specs.Racks.{hooks_in, hooks_with}
use Rattle.hp_actors.specs.RunInvariant.{HasHook}
use Rattle.hp_actors.proofs.Holding.{all_hold}
use Rattle.hp_actors.proofs.Playing.{Grows, Served, due_grows, asked_grows, busy_kept, hook_kept, served, asked_is, answers_are, ops_kept, set_at}
use Rattle.hp_actors.proofs.Progressing.{entry_is, event_is}
use Rattle.hp_smt.specs.Contents.{Controlled}
use Rattle.hp_smt.specs.Run.{SmtState, with_run, without, after_asking, and_event, if_answered, after_write, after_writing, writes, smt_turn, after_smt_round, after_smt_rounds, is_over, IsSmtRun}
use Rattle.hp_smt.specs.Run as smt
use Rattle.hp_smt.specs.Turns.{IsSmtServed, is_denied_by}
use Rattle.hp_smt_run.specs.Asked.{IsStepped}
use Rattle.hp_smt_run.specs.Playing.{Setup, setup_of, ops_in, state_of, run_of, turn_at, IsPlaying, IsTurned, IsRounded}
use Rattle.hp_smt_run.specs.Reached.{IsReached}
use Rattle.hp_smt_run.specs.SiblingsOff.{SiblingsAreOff, SiblingsStayOff}
use Rattle.hp_smt_run.specs.declared.run.SmtRun.{SmtRun}
use Rattle.hp_smt_run.proofs.Moving.{thread_is, actor_is}

-- ---- any turn

reached_more : (s : Setup) (at after : SmtState) (k : ℕ) → IsReached s.head s.threads s.actors s.want at → after ≡ turn_at s at k →
    IsReached s.head s.threads s.actors s.want after
reached_more s at after k r is =
    (r.0 ++ k ∷ [], is ∙ (ap (λ z. turn_at s z k) r.1 ∙ sym (fold-append (turn_at s) (smt.smt_start s.head s.actors) r.0 (k ∷ []))))

-- what stays, how far the run is after the turn, and that no hook is lost
pub turned_by : {H : Type 0} (k : ℕ) (old new : SmtRun H) → IsPlaying old → new.seats ≡ old.seats → setup_of new ≡ setup_of old →
    state_of new ≡ turn_at (setup_of old) (state_of old) k →
    ((i : ℕ) (actor : Actor H) → slice_get new.actors.items i ≡ Some actor → HasHook new.smt.board.events (new.seats + i) actor) →
    hooks_in new.smt.board.places new.actors.items ≡ hooks_in old.smt.board.places old.actors.items →
    SiblingsAreOff new.smt.threads (state_of new) → IsTurned k old new
turned_by k old new p seats same is hooks held off = record {
  playing = record {
    script = subst (λ (s : Setup). IsScript s.head s.actors) (sym same) p.script;
    room =
        let h : length (present new.smt.board.head) ≡ length (present old.smt.board.head) = ap (λ (s : Setup). length (present s.head)) same in
        let a = ap (λ (s : Setup). length s.actors) same in
        let b = length-map new.actors.items ops_of in
        let c = length-map old.actors.items ops_of in
        let r = p.room in
        omega (arith, h, a, b, c, r);
    seats_are = seats ∙ (p.seats_are ∙ ap (λ (s : Setup). length (present s.head)) (sym same));
    reached =
        subst (λ (s : Setup). IsReached s.head s.threads s.actors s.want (state_of new)) (sym same)
        (reached_more (setup_of old) (state_of old) (state_of new) k p.reached is);
    hooks = hooks;
    held = held ∙ (p.held ∙ ap (λ (s : Setup). sum_by setups_in s.actors) (sym same));
  };
  same = same;
  state_is = is;
  off = subst (λ (s : Setup). SiblingsAreOff s.threads (state_of new)) same off;
}

-- ---- a thread's

pub thread_turned : {H : Type 0} (k : ℕ) (old : SmtRun H) (now : Controlled) (t : Turn) → IsPlaying old → AllHome old.smt.board.places →
    k < old.seats → IsSmtServed k old.smt now t → SiblingsAreOff now.threads (state_of (record old { smt = now })) →
    IsTurned k old (record old { smt = now })
thread_turned {H} k old now t p home below served_so off =
    turned_by k old (record old { smt = now }) p refl same state hooks
    (ap (λ n. n + sum_by hooks_with old.actors.items) s.hooks_are) off
  where
    s : Served k old.smt.board now.board
    s = served k old.smt.board now.board t home served_so.0

    threads : now.threads ≡ old.smt.threads
    threads = ap (λ (z : Controlled). z.threads) served_so.1

    setting : now.setting ≡ old.smt.setting
    setting = ap (λ (z : Controlled). z.setting) served_so.1

    same : setup_of (record old { smt = now }) ≡ setup_of old
    same = rw (s.head_is, threads) refl

    state : state_of (record old { smt = now }) ≡ turn_at (setup_of old) (state_of old) k
    state =
        rw (setting, s.events_are)
        (sym (thread_is old.smt.board.head old.smt.threads (ops_in old) old.want (state_of old) k (omega (arith, below, p.seats_are))
        ∙ ap (with_run (state_of old)) (entry_is (due_entry old.smt.board.head old.smt.board.events k) (run_of old))))

    hooks : (i : ℕ) (actor : Actor H) → slice_get old.actors.items i ≡ Some actor → HasHook now.board.events (old.seats + i) actor
    hooks i actor at =
        hook_kept old.smt.board.events now.board.events (old.seats + i) actor
        (busy_kept old.smt.board.head old.smt.board.events now.board.events k (old.seats + i)
        (due_grows old.smt.board.head old.smt.board.events now.board.events k s.events_are)
        (λ is. absurd (omega (arith, below, is)))) (p.hooks i actor at)

-- ---- an actor's

asking_let : (head : Head) (n k i : ℕ) (o : Option Op) (at : SmtState) →
    ((op : Op) → o ≡ Some op → is_denied_by at.run.events n at.setting.mode k op ≡ false) →
    after_asking head n k i o at
    ≡ with_run at (record {
      events = at.run.events ++ option_to_list (event_for head at.run.events k o);
      answers = counted i (answers_for head at.run.events k o) at.run.answers;
    })
asking_let head n k i None at through =
    ap (λ es. with_run at (record { events = es; answers = at.run.answers })) (sym (append-nil at.run.events))
asking_let head n k i (Some op) at through =
    ap (λ b.
    cond b (without k i at)
    (with_run at (after_event i (next_event head at.run.events k op) (is_full head at.run.events k op) at.run))) (through op refl)
    ∙ ap (with_run at) (event_is i (next_event head at.run.events k op) (is_full head at.run.events k op) at.run)

asking_denied : (head : Head) (n k i : ℕ) (op : Op) (at : SmtState) → is_denied_by at.run.events n at.setting.mode k op ≡ true →
    after_asking head n k i (Some op) at ≡ without k i at
asking_denied head n k i op at denied =
    ap (λ b.
    cond b (without k i at)
    (with_run at (after_event i (next_event head at.run.events k op) (is_full head at.run.events k op) at.run))) denied

-- what an actor's turn leaves of the run
pub record IsActorsTurn {H : Type 0} (i : ℕ) (old new : SmtRun H) (actor now : Actor H) : Type 0 where
  pub at : slice_get old.actors.items i ≡ Some actor
  pub actors_are : new.actors.items ≡ set old.actors.items i now
  pub seats_are : new.seats ≡ old.seats
  pub want_is : new.want ≡ old.want
  pub written_are : new.written.items ≡ old.written.items
  pub stepped : IsStepped (old.seats + i) old.smt new.smt actor now old.denied.items new.denied.items

pub actor_turned : {H : Type 0} (i : ℕ) (old new : SmtRun H) (actor now : Actor H) → IsPlaying old → IsActorsTurn i old new actor now →
    SiblingsAreOff new.smt.threads (state_of new) → IsTurned (old.seats + i) old new
actor_turned {H} i old new actor now p t off = go t.stepped
  where
    k : ℕ
    k = old.seats + i

    head : Head
    head = old.smt.board.head

    xs : List Event
    xs = old.smt.board.events

    below : i < length old.actors.items
    below = slice_get_within old.actors.items i actor t.at

    turn_is : turn_at (setup_of old) (state_of old) k ≡ after_asking head old.smt.threads k i (asked actor) (state_of old)
    turn_is =
        let l = length-map old.actors.items ops_of in
        actor_is head old.smt.threads (ops_in old) old.want (state_of old) k i (ap (λ z. z + i) p.seats_are) (omega (arith, below, l))
        ∙ ap (λ o. after_asking head old.smt.threads k i o (state_of old)) (asked_is old.actors.items i actor t.at)

    setups : ops_of now ≡ ops_of actor → new.smt.board.head ≡ head → new.smt.threads ≡ old.smt.threads → setup_of new ≡ setup_of old
    setups ops heads threads =
        let o : ops_in new ≡ ops_in old = ap (map ops_of) t.actors_are ∙ ops_kept old.actors.items i actor now t.at ops in
        rw (heads, threads, o, t.want_is) refl

    hooks : Grows head xs new.smt.board.events k → HasHook new.smt.board.events k now →
        (j : ℕ) (other : Actor H) → slice_get new.actors.items j ≡ Some other → HasHook new.smt.board.events (new.seats + j) other
    hooks grows own j other found =
        subst (λ z. HasHook new.smt.board.events (z + j) other) (sym t.seats_are)
        (by (set_at old.actors.items i j now other (ap (λ z. slice_get z j) (sym t.actors_are) ∙ found)))
      where
        by : ((j ≡ i) × (other ≡ now)) ⊎ ((j ≡ i → ⊥) × (slice_get old.actors.items j ≡ Some other)) →
            HasHook new.smt.board.events (old.seats + j) other
        by (inl h) = rw (h.0, h.1) own
        by (inr h) =
            hook_kept xs new.smt.board.events (old.seats + j) other
            (busy_kept head xs new.smt.board.events k (old.seats + j) grows (λ is. h.0 (omega (arith, is)))) (p.hooks j other h.1)

    held : hooks_in new.smt.board.places (set old.actors.items i now) ≡ hooks_in old.smt.board.places old.actors.items →
        hooks_in new.smt.board.places new.actors.items ≡ hooks_in old.smt.board.places old.actors.items
    held h = ap (hooks_in new.smt.board.places) t.actors_are ∙ h

    go : IsStepped k old.smt new.smt actor now old.denied.items new.denied.items → IsTurned k old new
    go (inl d) =
        let board : new.smt.board ≡ old.smt.board = ap (λ (z : Controlled). z.board) d.same in
        let events : new.smt.board.events ≡ xs = ap (λ (z : Controlled). z.board.events) d.same in
        let answers = ap (map answered_of) t.actors_are ∙ answers_are old.actors.items i actor now true t.at d.answered_is in
        let state : state_of new ≡ without k i (state_of old) =
        rw (d.same, answers, t.written_are, d.denied_are) refl in
        turned_by k old new p t.seats_are
        (setups d.ops_are (ap (λ (b : Contents). b.head) board) (ap (λ (z : Controlled). z.threads) d.same))
        (state
        ∙ sym (turn_is
        ∙ (ap (λ o. after_asking head old.smt.threads k i o (state_of old)) d.asked_is
        ∙ asking_denied head old.smt.threads k i d.op (state_of old) d.denied)))
        (hooks (record { next = None; after_is = events ∙ sym (append-nil xs); stands = tt })
        (subst (λ es. HasHook es k now) (sym events) d.hook))
        (held (all_hold old.smt.board.places new.smt.board.places old.actors.items i actor now t.at d.kept)) off
    go (inr d) =
        let threads = ap (λ (z : Controlled). z.threads) d.moves in
        let setting = ap (λ (z : Controlled). z.setting) d.moves in
        let b = answers_for head xs k (asked actor) in
        let answers = ap (map answered_of) t.actors_are ∙ answers_are old.actors.items i actor now b t.at d.answered_is in
        let state : state_of new
        ≡ with_run (state_of old) (record {
          events = xs ++ option_to_list (event_for head xs k (asked actor));
          answers = counted i b (map answered_of old.actors.items);
        }) =
        rw (setting, d.events_are, answers, t.written_are, d.denied_are) refl in
        turned_by k old new p t.seats_are (setups d.ops_are d.head_is threads)
        (state ∙ sym (turn_is ∙ asking_let head old.smt.threads k i (asked actor) (state_of old) d.let_through))
        (hooks (asked_grows head xs new.smt.board.events k (asked actor) d.events_are) d.hook)
        (held (all_hold old.smt.board.places new.smt.board.places old.actors.items i actor now t.at d.kept)) off

-- ---- rounds

none_before : (front rest : List ℕ) → front ++ rest ≡ [] → front ≡ []
none_before [] rest is = refl
none_before (k ∷ ks) rest is = absurd (cc)

-- what stands at the front of a list and one more is all of it, or stands at the front of the list
front_of : (front rest seats : List ℕ) (k : ℕ) → front ++ rest ≡ seats ++ k ∷ [] →
    (front ≡ seats ++ k ∷ []) ⊎ ((left : List ℕ) × (front ++ left ≡ seats))
front_of [] rest seats k is = inr (seats, refl)
front_of (f ∷ fs) rest [] k is =
    let e : fs ++ rest ≡ [] = cc in
    let none = none_before fs rest e in
    let first : f ≡ k = cc in
    inl (rw (none, first) refl)
front_of (f ∷ fs) rest (s ∷ seats) k is = go (front_of fs rest seats k e)
  where
    e : fs ++ rest ≡ seats ++ k ∷ []
    e = cc

    first : f ≡ s
    first = cc

    go : (fs ≡ seats ++ k ∷ []) ⊎ ((left : List ℕ) × (fs ++ left ≡ seats)) →
        (f ∷ fs ≡ s ∷ (seats ++ k ∷ [])) ⊎ ((left : List ℕ) × (f ∷ (fs ++ left) ≡ s ∷ seats))
    go (inl all) = inl (rw (first, all) refl)
    go (inr more) = inr (more.0, rw (first, more.1) refl)

-- turns of the first seats made it
pub record IsPartly {H : Type 0} (old now : SmtRun H) (seats : ℕ) : Type 0 where
  pub playing : IsPlaying now
  pub same : setup_of now ≡ setup_of old
  pub state_is : state_of now ≡ fold (turn_at (setup_of old)) (state_of old) (numbers seats)
  pub off : SiblingsStayOff old.smt.board.head old.smt.threads (ops_in old) old.want (state_of old) (numbers seats)

pub none_yet : {H : Type 0} (old : SmtRun H) → IsPlaying old → SiblingsAreOff old.smt.threads (state_of old) → IsPartly old old 0
none_yet old p off = record {
  playing = p;
  same = refl;
  state_is = refl;
  off = λ front rest is.
      subst (λ z. SiblingsAreOff old.smt.threads (fold (turn_at (setup_of old)) (state_of old) z)) (sym (none_before front rest is)) off;
}

pub one_more : {H : Type 0} (old now after : SmtRun H) (k m n : ℕ) → IsPartly old now m → IsTurned k now after → k ≡ m → n ≡ m + 1 →
    IsPartly old after n
one_more old now after k m n i t is next = record {
  playing = t.playing;
  same = t.same ∙ i.same;
  state_is =
      let e : suc m ≡ n = omega (arith, next) in
      now_is ∙ ap (λ z. fold (turn_at (setup_of old)) (state_of old) (numbers z)) e;
  off = λ front rest all.
      let e : suc m ≡ n = omega (arith, next) in
      go front (front_of front rest (numbers m) m (all ∙ ap numbers (sym e)));
}
  where
    now_is : state_of after ≡ fold (turn_at (setup_of old)) (state_of old) (numbers m ++ m ∷ [])
    now_is =
        t.state_is
        ∙ (ap (λ (s : Setup). turn_at s (state_of now) k) i.same
        ∙ (ap (λ z. turn_at (setup_of old) (state_of now) z) is
        ∙ (ap (λ z. turn_at (setup_of old) z m) i.state_is
        ∙ sym (fold-append (turn_at (setup_of old)) (state_of old) (numbers m) (m ∷ [])))))

    here : SiblingsAreOff old.smt.threads (state_of after)
    here = subst (λ (s : Setup). SiblingsAreOff s.threads (state_of after)) i.same t.off

    go : (front : List ℕ) → (front ≡ numbers m ++ m ∷ []) ⊎ ((left : List ℕ) × (front ++ left ≡ numbers m)) →
        SiblingsAreOff old.smt.threads (fold (turn_at (setup_of old)) (state_of old) front)
    go front (inl all) =
        subst (λ z. SiblingsAreOff old.smt.threads (fold (turn_at (setup_of old)) (state_of old) z)) (sym all)
        (subst (SiblingsAreOff old.smt.threads) now_is here)
    go front (inr more) = i.off front more.0 more.1

pub whole_round : {H : Type 0} (old now : SmtRun H) (n : ℕ) → IsPartly old now n →
    n ≡ length (present old.smt.board.head) + length (ops_in old) + 1 → IsRounded old now
whole_round old now n i is = record {
  playing = i.playing;
  same = i.same;
  state_is = i.state_is ∙ ap (λ z. fold (turn_at (setup_of old)) (state_of old) (numbers z)) is;
  off = λ front rest all. i.off front rest (all ∙ ap numbers (sym is));
}

-- as many seats and actors as before
pub seats_same : {H : Type 0} (old now : SmtRun H) (m : ℕ) → IsPlaying old → IsPartly old now m → now.seats ≡ old.seats
seats_same old now m p i = i.playing.seats_are ∙ (ap (λ (s : Setup). length (present s.head)) i.same ∙ sym p.seats_are)

pub actors_same : {H : Type 0} (old now : SmtRun H) → setup_of now ≡ setup_of old → length now.actors.items ≡ length old.actors.items
actors_same old now same =
    sym (length-map now.actors.items ops_of) ∙ (ap (λ (s : Setup). length s.actors) same ∙ length-map old.actors.items ops_of)

-- A run at its start: every seat is in, and nothing is answered.
use Rattle.std.proofs.Common.{◌≡◌, ℕ, suc, ◌+◌, false, ◌||◌, is_some, Some, List, [], ◌∷◌, ◌++◌, length, map, replicate, refl, ap, sym, subst, ◌∙◌, arith}
use Rattle.std.specs.Prelude.{slice_get}
use Rattle.std.proofs.lemmas.List.{length-map}
use Rattle.std.proofs.lemmas.Option.{slice_get_within, get_or_from_slice_get}
use Rattle.hp_event.specs.declared.op.Op.{Op}
use Rattle.hp_event.specs.declared.head.Head.{Head}
use Rattle.hp_event.specs.declared.event.Event.{Event}
use Rattle.hp_board.specs.Contents.{Contents}
use Rattle.hp_hook.specs.Counted.{Counts}
use Rattle.hp_account.specs.TableChanges.{is_setup}
use Rattle.hp_model.specs.Processors.{present}
use Rattle.hp_model.specs.Admissions.{admissions, ap_admits}
use Rattle.hp_model.specs.Scripts.{IsScript}
use Rattle.hp_model.specs.ScriptRun.{start}
use Rattle.hp_model.specs.ScriptTurns.{RunState, after_turns}
use Rattle.hp_model.specs.Seats.{is_busy, holds_map, registers}
use Rattle.hp_model.specs.Registrations.{registration}
use Rattle.hp_model.proofs.Roster.{operation_first, registration_first}
use Rattle.hp_actors.specs.declared.actor.Actor.{Actor}
use Rattle.hp_actors.specs.Actors.{AreLoaded}
use Rattle.hp_actors.specs.RunInvariant.{HasHook, IsPlaying}
use Rattle.hp_actors.specs.Positions.{Position, position_of, hooks_of, ops_of, answered_of, progress_of}
use Rattle.hp_actors.specs.Racks.{IsFresh}
use Rattle.hp_board.specs.HookCount.{hook_count}
use Rattle.hp_actors.proofs.Holding.{fresh_count}
use Rattle.hp_actors.proofs.Admissions.{clients_are}
use Rattle.hp_actors.proofs.Playing.{idle_hook}
use Rattle.hp_actors.proofs.Progressing.{turns_none}

pub none_answered : {H : Type 0} (actors : List (Actor H)) → IsFresh actors → map answered_of actors ≡ replicate (length actors) 0
none_answered [] fresh = refl
none_answered {H} (a ∷ more) fresh =
    let first : a.answered ≡ 0 = ap (λ (x : Actor H). x.answered) (fresh 0 a (omega arith)).0 in
    ap (λ (n : ℕ). n ∷ map answered_of more) first
    ∙ ap (λ ns. 0 ∷ ns) (none_answered more (λ k d below. fresh (suc k) d (omega (arith, below))))

pub idle_first : (head : Head) (actors : List (List Op)) (k : ℕ) → is_busy k (admissions head actors) ≡ false
idle_first head actors k =
    ap (λ o. holds_map k o || registers k (registration (admissions head actors))) (operation_first head actors)
    ∙ ap (registers k) (registration_first head actors)

-- the admissions are those of the script's actors
pub same_admissions : (head : Head) (actors : List (List Op)) → admissions head (replicate (length actors) []) ≡ admissions head actors
same_admissions head actors = ap (λ es. ap_admits 0 (present head) ++ es) (sym (clients_are (length (present head)) actors))

pub loaded_hook : {H : Type 0} (events : List Event) (k : ℕ) (actor : Actor H) → is_busy k events ≡ false → AreLoaded actor.asks →
    HasHook events k actor
loaded_hook events k actor idle loaded = λ ask at.
    subst (λ x. is_some x.hook ≡ is_setup x.op) (get_or_from_slice_get actor.asks actor.answered ask ask at)
    (loaded actor.answered ask (slice_get_within actor.asks actor.answered ask at))
    ∙ idle_hook events k ask.op idle

pub record Opened {H : Type 0} (board : Contents) (threads : ℕ) (actors : List (Actor H)) (head : Head) (ops : List (List Op)) : Type 0
  where
    pub script : IsScript head ops
    pub head_is : board.head ≡ head
    pub events_are : board.events ≡ admissions head (replicate (length ops) [])
    pub threads_are : threads ≡ length (present head)
    pub ops_are : map ops_of actors ≡ ops
    pub fresh : IsFresh actors
    pub none_yet : hook_count board.places ≡ 0

pub at_start : {H : Type 0} (board : Contents) (threads : ℕ) (actors : List (Actor H)) (head : Head) (ops : List (List Op)) →
    Opened board threads actors head ops → progress_of board.events actors ≡ start head ops
at_start board threads actors head ops o =
    let n : length actors ≡ length ops = sym (length-map actors ops_of) ∙ ap length o.ops_are in
    let answers : map answered_of actors ≡ replicate (length ops) 0 = none_answered actors o.fresh ∙ ap (λ k. replicate k 0) n in
    let events : board.events ≡ admissions head ops = o.events_are ∙ same_admissions head ops in
    same board.events (map answered_of actors) (admissions head ops) (replicate (length ops) 0) events answers
  where
    same : (es : List Event) (ns : List ℕ) (fs : List Event) (ms : List ℕ) → es ≡ fs → ns ≡ ms →
        ◌≡◌ {A = RunState} (record { events = es; answers = ns }) (record { events = fs; answers = ms })
    same es ns fs ms a b = rw (a, b) refl

pub opened_position : {H : Type 0} (seen : H → Counts) (board : Contents) (threads : ℕ) (actors : List (Actor H)) (head : Head) (ops : List (List Op)) →
    Opened board threads actors head ops →
    position_of seen board actors
    ≡ record { head = head; actors = ops; progress = start head ops; hooks = map (hooks_of seen) actors }
opened_position seen board threads actors head ops o =
    same board.head (map ops_of actors) (progress_of board.events actors) head ops (start head ops) o.head_is o.ops_are
    (at_start board threads actors head ops o)
  where
    same : (h : Head) (a : List (List Op)) (p : RunState) (i : Head) (b : List (List Op)) (q : RunState) → h ≡ i → a ≡ b → p ≡ q →
        ◌≡◌ {A = Position} (record { head = h; actors = a; progress = p; hooks = map (hooks_of seen) actors })
        (record { head = i; actors = b; progress = q; hooks = map (hooks_of seen) actors })
    same h a p i b q x y z = rw (x, y, z) refl

pub opened_playing : {H : Type 0} (board : Contents) (threads : ℕ) (actors : List (Actor H)) (head : Head) (ops : List (List Op)) →
    Opened board threads actors head ops → IsPlaying board threads actors
opened_playing {H} board threads actors head ops o = record {
  script = subst (λ h. IsScript h (map ops_of actors)) (sym o.head_is) (subst (λ a. IsScript head a) (sym o.ops_are) o.script);
  threads_are = o.threads_are ∙ ap (λ h. length (present h)) (sym o.head_is);
  reached = ([], reached);
  hooks = λ i actor at. hooks i actor at;
  held =
      let loaded = fresh_count actors o.fresh in
      omega (arith, o.none_yet, loaded);
}
  where
    reached :
        progress_of board.events actors
        ≡ after_turns board.head (map ops_of actors) (start board.head (map ops_of actors)) []
    reached =
        at_start board threads actors head ops o
        ∙ (ap (λ h. start h ops) (sym o.head_is)
        ∙ (ap (start board.head) (sym o.ops_are) ∙ sym (turns_none board.head (map ops_of actors) (start board.head (map ops_of actors)))))

    hooks : (i : ℕ) (actor : Actor H) → slice_get actors i ≡ Some actor → HasHook board.events (threads + i) actor
    hooks i actor at =
        let there = get_or_from_slice_get actors i actor actor at in
        loaded_hook board.events (threads + i) actor
        (ap (is_busy (threads + i)) (o.events_are ∙ same_admissions head ops) ∙ idle_first head ops (threads + i))
        (subst (λ (a : Actor H). AreLoaded a.asks) there (o.fresh i actor (slice_get_within actors i actor at)).1)

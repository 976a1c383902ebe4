-- A run at its start.
use Rattle.std.proofs.Common.{◌≡◌, ℕ, ◌+◌, ◌≤◌, Bool, true, false, None, List, [], ◌∷◌, ◌++◌, length, length-append, map, replicate, is_some, refl, ap, sym, subst, ◌∙◌, arith}
use Rattle.std.proofs.lemmas.List.{length-map}
use Rattle.std.proofs.lemmas.Option.{slice_get_within, get_or_from_slice_get}
use Rattle.hp_states.specs.declared.limits.TheConstants.{MAX_SEATS}
use Rattle.hp_states.specs.declared.cpu_set.CpuSet.{CpuSet}
use Rattle.hp_states.specs.CpuSets.{has}
use Rattle.hp_board.specs.HookCount.{hook_count}
use Rattle.hp_event.specs.declared.op.Op.{Op}
use Rattle.hp_event.specs.declared.head.Head.{Head}
use Rattle.hp_model.specs.Admissions.{admissions}
use Rattle.hp_model.specs.Processors.{present}
use Rattle.hp_model.specs.Scripts.{IsScript}
use Rattle.hp_model.specs.SetOf.{set_of, IsSet}
use Rattle.hp_model.proofs.SetLemmas.{none_listed, of_listed}
use Rattle.hp_actors.specs.Actors.{AreLoaded}
use Rattle.hp_actors.specs.declared.actor.Actor.{Actor}
use Rattle.hp_actors.specs.Positions.{ops_of, answered_of}
use Rattle.hp_actors.specs.Racks.{IsFresh}
use Rattle.hp_actors.proofs.Holding.{fresh_count}
use Rattle.hp_actors.proofs.Opening.{none_answered, same_admissions, idle_first, loaded_hook}
use Rattle.hp_model.specs.Seats.{is_busy}
use Rattle.hp_smt.specs.Run.{smt_start}
use Rattle.hp_smt.specs.Siblings.{lowest_of}
use Rattle.hp_smt.specs.Writes.{at_rest}
use Rattle.hp_smt.specs.declared.mode.Control.{Control}
use Rattle.hp_smt.specs.declared.mode.Mode.TheVariants as mode
use Rattle.hp_smt.proofs.Sets.{none_in_set}
use Rattle.hp_smt_run.specs.Playing.{Setup, setup, setup_of, ops_in, state_of, IsPlaying}
use Rattle.hp_smt_run.specs.declared.run.SmtRun.{SmtRun}

-- a set without a lowest is empty
pub empty_set : (set : CpuSet) → IsSet set → lowest_of set ≡ None → set ≡ set_of []
empty_set set is none =
    sym (of_listed set is) ∙ ap set_of (none_listed set (λ c. no c (has set c) refl))
  where
    no : (c : ℕ) (b : Bool) → has set c ≡ b → b ≡ false
    no c false e = refl
    no c true e = absurd (none_in_set set c is (ap is_some none) e)

pub record Started {H : Type 0} (run : SmtRun H) (head : Head) (threads : ℕ) (ops : List (List Op)) (want : Control) : Type 0 where
  pub script : IsScript head ops
  pub room : length (present head) + length ops + 1 ≤ MAX_SEATS
  pub head_is : run.smt.board.head ≡ head
  pub events_are : run.smt.board.events ≡ admissions head (replicate (length ops + 1) [])
  pub threads_are : run.smt.threads ≡ threads
  pub setting_is : run.smt.setting ≡ at_rest mode.On run.smt.setting.recorded
  pub recorded : lowest_of run.smt.setting.recorded ≡ None
  pub is_set : IsSet run.smt.setting.recorded
  pub seats_are : run.seats ≡ length (present head)
  pub ops_are : ops_in run ≡ ops
  pub fresh : IsFresh run.actors.items
  pub want_is : run.want ≡ want
  pub written_none : run.written.items ≡ []
  pub denied_none : run.denied.items ≡ []
  pub none_yet : hook_count run.smt.board.places ≡ 0

pub started_setup : {H : Type 0} (run : SmtRun H) (head : Head) (threads : ℕ) (ops : List (List Op)) (want : Control) →
    Started run head threads ops want → setup_of run ≡ setup head threads ops want
started_setup run head threads ops want s = rw (s.head_is, s.threads_are, s.ops_are, s.want_is) refl

events_of : {H : Type 0} (run : SmtRun H) (head : Head) (threads : ℕ) (ops : List (List Op)) (want : Control) →
    Started run head threads ops want → run.smt.board.events ≡ admissions head (ops ++ [] ∷ [])
events_of run head threads ops want s =
    s.events_are
    ∙ (ap (λ n. admissions head (replicate n [])) (sym (length-append ops ([] ∷ []))) ∙ same_admissions head (ops ++ [] ∷ []))

pub started_state : {H : Type 0} (run : SmtRun H) (head : Head) (threads : ℕ) (ops : List (List Op)) (want : Control) →
    Started run head threads ops want → state_of run ≡ smt_start head ops
started_state {H} run head threads ops want s =
    let n : length run.actors.items ≡ length ops = sym (length-map run.actors.items ops_of) ∙ ap length s.ops_are in
    let answers : map answered_of run.actors.items ≡ replicate (length ops) 0 =
    none_answered run.actors.items s.fresh ∙ ap (λ k. replicate k 0) n in
    let setting : run.smt.setting ≡ at_rest mode.On (set_of []) =
    s.setting_is ∙ ap (at_rest mode.On) (empty_set run.smt.setting.recorded s.is_set s.recorded) in
    let events = events_of run head threads ops want s in
    rw (events, answers, setting, s.written_none, s.denied_none) refl

pub started_playing : {H : Type 0} (run : SmtRun H) (head : Head) (threads : ℕ) (ops : List (List Op)) (want : Control) →
    Started run head threads ops want → IsPlaying run
started_playing {H} run head threads ops want s = record {
  script = subst (λ (z : Setup). IsScript z.head z.actors) (sym same) s.script;
  room =
      let h : length (present run.smt.board.head) ≡ length (present head) = ap (λ z. length (present z)) s.head_is in
      let n : length run.actors.items ≡ length ops = sym (length-map run.actors.items ops_of) ∙ ap length s.ops_are in
      let r = s.room in
      omega (arith, h, n, r);
  seats_are = s.seats_are ∙ ap (λ z. length (present z)) (sym s.head_is);
  reached =
      ([], started_state run head threads ops want s ∙ ap (λ (z : Setup). smt_start z.head z.actors) (sym same));
  hooks = λ i actor at.
      let there = get_or_from_slice_get run.actors.items i actor actor at in
      loaded_hook run.smt.board.events (run.seats + i) actor
      (ap (is_busy (run.seats + i)) (events_of run head threads ops want s) ∙ idle_first head (ops ++ [] ∷ []) (run.seats + i))
      (subst (λ (a : Actor H). AreLoaded a.asks) there (s.fresh i actor (slice_get_within run.actors.items i actor at)).1);
  held = let n = s.none_yet in let c = fresh_count run.actors.items s.fresh in omega (arith, n, c);
}
  where
    same : setup_of run ≡ setup head threads ops want
    same = started_setup run head threads ops want s

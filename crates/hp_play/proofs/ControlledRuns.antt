-- A run under SMT control, to what is written of it and to the rack.
use Rattle.std.proofs.Common.{◌≡◌, ℕ, ◌+◌, true, None, Option, List, ◌++◌, length, map, reverse, take, refl, ap, sym, subst, ◌∙◌}
use Rattle.std.specs.List.{sum_by, take-map}
use Rattle.std.proofs.lemmas.List.{map-append, append_cancel_left}
use Rattle.std.proofs.Math.Seq.{take-append_seam}
use Rattle.hp_actors.specs.Hooks.{AreFromRack, OneForEachSetup, hooks_among, hooks_there}
use Rattle.hp_actors.specs.Positions.{hooks_of}
use Rattle.hp_actors.specs.Racks.{Takes}
use Rattle.hp_board.specs.Retired.{registered_hooks, IsRacked}
use Rattle.hp_command.specs.declared.controlling.Controlling.{Controlling}
use Rattle.hp_event.specs.declared.event.Event.{Event}
use Rattle.hp_event.specs.declared.head.Head.{Head}
use Rattle.hp_hook.specs.Counted.{Counts}
use Rattle.hp_model.specs.Lawful.{IsLawful}
use Rattle.hp_model.specs.MapLock.{operation}
use Rattle.hp_model.specs.Registrations.{registration}
use Rattle.hp_print.specs.TallyText.{text_and_summary}
use Rattle.hp_script.specs.Playable.{setups_in}
use Rattle.hp_script.specs.Script.{Contents}
use Rattle.hp_smt.specs.Run.{IsSmtRun, smt_start, is_over}
use Rattle.hp_smt_run.specs.Hooks.{standing, standing_of, IsLaterUnder, IsMadeLater}
use Rattle.hp_smt_run.specs.Playing.{Setup, setup, setup_of, ops_in, state_of, written_as, IsPlayed}
use Rattle.hp_smt_run.specs.SiblingsOff.{SiblingsStayOffFor}
use Rattle.hp_smt_run.specs.declared.run.SmtRun.{SmtRun}
use Rattle.hp_smt_run.specs.declared.written.Written.{Written}
use Rattle.hp_play.specs.ControlText.{control_text}
use Rattle.hp_play.specs.Controlled.{control_of, setup_under, IsRunUnder, WasControlled, controlled_text}
use Rattle.hp_play.specs.Racks.{racks}
use Rattle.hp_play.proofs.JournalLaws.{laws_of}
use Rattle.hp_play.proofs.RackLaws.{refilled}

-- a run that was played is over
pub over : {H : Type 0} (old new : SmtRun H) (p : IsPlayed old new) → is_over (ops_in new) (state_of new) ≡ true
over old new p =
    ap (λ (s : Setup). is_over s.actors (state_of new)) p.same
    ∙ (ap (is_over (ops_in old)) p.is_run.state_is ∙ p.is_run.over)

-- as what stays says the setup of it
pub record IsPlayedTo {H : Type 0} (c : Controlling) (script : Contents) (run : SmtRun H) : Type 0 where
  pub setup_is : setup_of run ≡ setup script.head c.threads script.actors (control_of c.mode)
  pub under : IsRunUnder c script (state_of run)

pub played_to : {H : Type 0} (c : Controlling) (script : Contents) (old new : SmtRun H) (s : Setup) → IsPlayed old new →
    setup_of old ≡ s → s ≡ setup script.head c.threads script.actors (control_of c.mode) →
    IsLawful new.smt.board.head new.smt.board.events → operation new.smt.board.events ≡ None → registration new.smt.board.events ≡ None →
    IsPlayedTo c script new
played_to c script old new s p starts is lawful free quiet = record {
  setup_is = p.same ∙ same;
  under = by (subst (λ (z : Setup). Ran z) same (p.is_run, p.off));
}
  where
    same : setup_of old ≡ setup script.head c.threads script.actors (control_of c.mode)
    same = starts ∙ is

    Ran : Setup → Type 0
    Ran z =
        (r : IsSmtRun z.head z.threads z.actors z.want (state_of new)) × SiblingsStayOffFor z.head z.threads z.actors z.want r.rounds

    by : Ran (setup script.head c.threads script.actors (control_of c.mode)) → IsRunUnder c script (state_of new)
    by r = record {
      run = r.0;
      off = r.1;
      laws =
          laws_of script.head new.smt.board.events
          (subst (λ (z : Setup). IsLawful z.head new.smt.board.events) (p.same ∙ same) lawful) free quiet;
    }

-- the hooks of its operations at its start, and that turns made of these those at its end
pub record HasDealt {H : Type 0} (seen : H → Counts) (old left : List H) (s : Setup) (run : SmtRun H) : Type 0 where
  pub first : List (List (Option Counts))
  pub one_for_each : OneForEachSetup s.actors first
  pub in_turn : AreFromRack (map seen old) (map seen left) (hooks_there first)
  pub made : IsLaterUnder s (standing (smt_start s.head s.actors) first) (standing_of seen run)

pub dealt : {H : Type 0} (seen : H → Counts) (old left : List H) (s : Setup) (start run : SmtRun H) →
    setup_of start ≡ s → state_of start ≡ smt_start s.head s.actors → OneForEachSetup s.actors (map (hooks_of seen) start.actors.items) →
    AreFromRack (map seen old) (map seen left) (hooks_among seen start.actors.items) → IsMadeLater seen start run →
    HasDealt seen old left s run
dealt seen old left s start run same starts loaded from made = record {
  first = map (hooks_of seen) start.actors.items;
  one_for_each = loaded;
  in_turn = from;
  made =
      subst (λ z. IsLaterUnder s (standing z (map (hooks_of seen) start.actors.items)) (standing_of seen run)) starts
      (subst (λ (z : Setup). IsLaterUnder z (standing_of seen start) (standing_of seen run)) same made);
}

pub controlled : {H : Type 0} (seen : H → Counts) (old left new : List H) (c : Controlling) (script : Contents) (run : SmtRun H)
    (written : List ℕ) → IsPlayedTo c script run → Takes old left (sum_by setups_in script.actors) →
    HasDealt seen old left (setup_under c script) run →
    IsRacked seen left new (hooks_among seen run.actors.items ++ registered_hooks run.smt.board.head run.smt.board.events) →
    length new ≡ length left + sum_by setups_in (ops_in run) → written ≡ controlled_text script (state_of run) →
    WasControlled c script (racks seen old new) written
controlled {H} seen old left new c script run written p takes d racked all is = record {
  at = state_of run;
  under = p.under;
  rack_is =
      refilled seen old left new script run.smt.board.events back takes r
      (all ∙ ap (λ (z : Setup). length left + sum_by setups_in z.actors) p.setup_is);
  back_are = record {
    first = d.first;
    one_for_each = d.one_for_each;
    in_turn =
        append_cancel_left (map seen left) (map seen takes.taken) (reverse (hooks_there d.first))
        (sym (ap (map seen) takes.old_is ∙ map-append seen left takes.taken) ∙ d.in_turn);
    last = map (hooks_of seen) run.actors.items;
    made = d.made;
    back_are =
        sym (take-map seen (length back) r.added)
        ∙ (ap (take (length back)) r.are ∙ take-append_seam back (registered_hooks script.head run.smt.board.events));
  };
  written_is = is;
}
  where
    back : List Counts
    back = hooks_among seen run.actors.items

    r : IsRacked seen left new (back ++ registered_hooks script.head run.smt.board.events)
    r =
        subst (λ (z : Setup). IsRacked seen left new (back ++ registered_hooks z.head run.smt.board.events)) p.setup_is racked

-- what is written is of the run
pub text_is : {H : Type 0} (c : Controlling) (script : Contents) (run : SmtRun H) (head : Head) (events : List Event) (text out : List ℕ)
    (writes : List Written) (denied : ℕ) → IsPlayedTo c script run → head ≡ run.smt.board.head → events ≡ run.smt.board.events →
    text ≡ text_and_summary head events → out ≡ text ++ control_text (map written_as writes) denied → writes ≡ run.written.items →
    denied ≡ length run.denied.items → out ≡ controlled_text script (state_of run)
text_is c script run head events text out writes denied p heads all is whole written count =
    let h : head ≡ script.head = heads ∙ ap (λ (s : Setup). s.head) p.setup_is in
    rw (whole, is, h, all, written, count) refl

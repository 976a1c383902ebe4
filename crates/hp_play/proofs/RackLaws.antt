-- The rack after a run.
use Rattle.std.proofs.Common.{◌≡◌, ◌+◌, List, ◌++◌, map, reverse, length, take, drop, refl, ap, sym, subst, ◌∙◌, arith}
use Rattle.std.specs.List.{sum_by, take-map}
use Rattle.std.proofs.lemmas.List.{length-append, take-append-drop, drop-map, map-append, append_cancel_left}
use Rattle.std.proofs.Math.Seq.{drop-append_seam, take-append_seam}
use Rattle.hp_board.specs.Retired.{registered_hooks, IsRacked}
use Rattle.hp_event.specs.declared.event.Event.{Event}
use Rattle.hp_event.specs.declared.head.Head.{Head}
use Rattle.hp_hook.specs.Counted.{Counts}
use Rattle.hp_script.specs.Playable.{setups_in}
use Rattle.hp_script.specs.Script.{Contents}
use Rattle.hp_actors.specs.Hooks.{hooks_there}
use Rattle.hp_actors.specs.Positions.{Position}
use Rattle.hp_play.specs.Played.{IsRunOf}
use Rattle.hp_actors.specs.Racks.{Takes}
use Rattle.hp_play.specs.Racks.{IsRefilled, IsRackAfter, racks}

-- what the setups took is back, and the last are those of the registered states
abbrev pub refilled : {H : Type 0} (seen : H → Counts) (old left new : List H) (script : Contents) (events : List Event) (back : List Counts) →
    Takes old left (sum_by setups_in script.actors) → IsRacked seen left new (back ++ registered_hooks script.head events) →
    length new ≡ length left + sum_by setups_in script.actors → IsRefilled script events (racks seen old new)
refilled seen old left new script events back takes r all = record {
  untaken = left;
  taken = takes.taken;
  back = take (length back) r.added;
  last = drop (length back) r.added;
  old_is = takes.old_is;
  new_is = r.behind ∙ ap (λ z. left ++ z) (sym (take-append-drop (length back) r.added));
  by_setups = takes.count_is;
  none_lost =
      let both = length-append (take (length back) r.added) (drop (length back) r.added) in
      let whole = ap length (take-append-drop (length back) r.added) in
      let behind = ap length r.behind ∙ length-append left r.added in
      let count = takes.count_is in
      omega (arith, both, whole, behind, all, count);
  last_are =
      sym (drop-map seen (length back) r.added)
      ∙ (ap (drop (length back)) r.are ∙ drop-append_seam back (registered_hooks script.head events));
}

pub rack_after : {H : Type 0} (seen : H → Counts) (old left new : List H) (script : Contents) (run : Position) →
    IsRunOf script (racks seen old left) run →
    IsRacked seen left new (hooks_there run.hooks ++ registered_hooks run.head run.progress.events) →
    length new ≡ length left + sum_by setups_in run.actors → IsRackAfter script run.progress.events (racks seen old new)
rack_after {H} seen old left new script run is racked all = record {
  refilled =
      refilled seen old left new script events (hooks_there run.hooks) is.takes r
      (all ∙ ap (λ z. length left + sum_by setups_in z) is.actors_are);
  back_are = record {
    first = is.first;
    one_for_each = is.one_for_each;
    in_turn =
        append_cancel_left (map seen left) (map seen is.takes.taken) (reverse (hooks_there is.first))
        (sym (ap (map seen) is.takes.old_is ∙ map-append seen left is.takes.taken) ∙ is.in_turn);
    last = run;
    made = is.made;
    journal = refl;
    back_are =
        sym (take-map seen (length (hooks_there run.hooks)) r.added)
        ∙ (ap (take (length (hooks_there run.hooks))) r.are ∙ take-append_seam (hooks_there run.hooks) (registered_hooks script.head events));
  };
}
  where
    events : List Event
    events = run.progress.events

    r : IsRacked seen left new (hooks_there run.hooks ++ registered_hooks script.head events)
    r = subst (λ (h : Head). IsRacked seen left new (hooks_there run.hooks ++ registered_hooks h events)) is.head_is racked

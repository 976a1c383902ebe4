use Rattle.std.proofs.Common.{◌≡◌, List, Some, [], ◌∷◌, ◌++◌, ap, ◌∙◌, sym}
use Rattle.std.specs.Prelude.{slice_get}
use Rattle.std.specs.List.{flat_map}
use Rattle.std.proofs.lemmas.List.{append-nil}
use Rattle.hp_event.specs.declared.event.Event.{Event}
use Rattle.hp_timeline.specs.declared.mark.Mark.{Mark}
use Rattle.hp_timeline.specs.Marks.{marked, mark_text}
use Rattle.hp_timeline.proofs.Events.{got}
use Rattle.hp_timeline.proofs.Lasting.{on_ok_so}
use Rattle.hp_timeline.proofs.MarkLaws.{no_mark}
use Rattle.hp_timeline.proofs.mark.append_mark.Goals as goal

pub returns-in-Call : goal.returns-in-Call
returns-in-Call c =
    let mark : Mark = record {
      place = c.args.place;
      cpu = c.in-Call.cpu;
      state = c.in-Call.state;
      dir = c.in-Call.dir;
      how = c.in-Call.how;
    } in
    let one : marked c.args.place (slice_get c.args.events.now c.args.place) ≡ mark ∷ [] =
    ap (λ o. marked c.args.place o) (got c.args.events.now c.args.place c.requires ∙ ap (λ (e : Event). Some e) c.in-Call.is) in
    on_ok_so c.append_one.result _ _
    (λ made.
    made
    ∙ ap (λ bytes. c.args.out.now.items ++ bytes)
    (sym (append-nil (mark_text c.args.window c.args.events.now mark))
    ∙ ap (λ (marks : List Mark). flat_map (mark_text c.args.window c.args.events.now) marks) (sym one)))
    c.append_one.ensures

pub returns-in_default : goal.returns-in_default
returns-in_default c =
    let none : marked c.args.place (slice_get c.args.events.now c.args.place) ≡ [] =
    ap (λ o. marked c.args.place o) (got c.args.events.now c.args.place c.requires) ∙ no_mark c.args.place _ c.in_default.not-Call in
    sym (append-nil c.args.out.now.items)
    ∙ ap (λ (marks : List Mark). c.args.out.now.items ++ flat_map (mark_text c.args.window c.args.events.now) marks) (sym none)

use Rattle.std.proofs.Common.{ap, sym, ◌∙◌, OnOk, ◌≡◌, [], Some, ◌++◌, subst, take, List}
use Rattle.std.specs.Prelude.{option_to_list}
use Rattle.std.specs.List.{flat_map}
use Rattle.std.proofs.lemmas.List.{append-nil}
use Rattle.hp_event.specs.declared.event.Event.{Event}
use Rattle.hp_timeline.specs.declared.span.Span.{Span}
use Rattle.hp_timeline.specs.Spans.{ended, ended_at, span_text}
use Rattle.hp_timeline.proofs.Events.{got}
use Rattle.hp_timeline.proofs.SpansMade.{ended_here}
use Rattle.hp_timeline.proofs.drawing.append_ended.Goals as goal

pub returns-in-Call : goal.returns-in-Call
returns-in-Call c =
    let none : ended_at c.args.events.now c.args.place ≡ [] =
    ap (λ o. ended (take c.args.place c.args.events.now) o)
    (got c.args.events.now c.args.place c.requires.place ∙ ap (λ (e : Event). Some e) c.in-Call.is) in
    sym (append-nil c.args.out.now.items)
    ∙ ap (λ (xs : List Span). c.args.out.now.items ++ flat_map (span_text c.args.sheet.now c.args.events.now) xs) (sym none)

pub returns : goal.returns
returns c =
    subst (λ (xs : List Span).
    OnOk c.append_some.result
    (c.append_some.new.out.items ≡ c.args.out.now.items ++ flat_map (span_text c.args.sheet.now c.args.events.now) xs))
    (ap (λ o. option_to_list o) c.ended.ensures
    ∙ ended_here c.args.head.now c.args.events.now c.args.place c.args.scene.now c.requires.lawful c.requires.place c.requires.scene)
    c.append_some.ensures

use Rattle.std.proofs.Common.{◌≡◌, ◌<◌, ◌+◌, ℕ, List, ◌++◌, length, get_or, codes, decimal, sym, ap, ◌∙◌, append_assoc}
use Rattle.hp_states.proofs.Basics.{same_some}
use Rattle.hp_event.specs.declared.event.Event.{Event}
use Rattle.hp_event.specs.declared.event.Event.TheVariants.{Admit, Call}
use Rattle.hp_event.specs.declared.event.Role.TheVariants.{Client}
use Rattle.hp_event.specs.declared.version.Version.TheVariants.{Two}
use Rattle.hp_model.specs.EventLine.{event_line}
use Rattle.hp_timeline.proofs.Events.{got, there}
use Rattle.hp_timeline.proofs.Lasting.{on_ok_so}
use Rattle.hp_timeline.proofs.mark.append_line.Goals as goal

pub bounds-events-at : goal.bounds-events-at
bounds-events-at c = there c.args.events.now c.args.mark.place _ c.requires.event

-- a line behind its number
behind : (old mid new number colon line : List ℕ) → mid ≡ old ++ (number ++ colon) → new ≡ mid ++ line →
    new ≡ old ++ (number ++ (colon ++ line))
behind old mid new number colon line first last =
    last
    ∙ (ap (λ z. z ++ line) first
    ∙ (append_assoc old (number ++ colon) line ∙ ap (λ z. old ++ z) (append_assoc number colon line)))

pub returns : goal.returns
returns c =
    let low : c.args.mark.place < length c.args.events.now = there c.args.events.now c.args.mark.place _ c.requires.event in
    let entry : Event = Call c.requires.seat c.args.mark.cpu c.args.mark.state c.requires.inst c.args.mark.dir c.args.mark.how in
    let is : get_or c.args.events.now c.args.mark.place (Admit 0 Client) ≡ entry =
    same_some (get_or c.args.events.now c.args.mark.place (Admit 0 Client)) entry
    (sym (got c.args.events.now c.args.mark.place low) ∙ c.requires.event) in
    on_ok_so c.append_event.result _ _
    (λ made.
    rw c.requires.event
    (behind c.args.out.now.items c.append_before.new.out.items c.append_event.new.out.items (decimal (c.args.mark.place + 1))
    (codes ": ") (event_line Two 0 entry) c.in_ok-append_before.ensures
    (made ∙ ap (λ (e : Event). c.append_before.new.out.items ++ event_line Two 0 e) is)))
    c.append_event.ensures

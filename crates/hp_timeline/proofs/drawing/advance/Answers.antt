use Rattle.std.proofs.Common.{◌≡◌, ◌<◌, ℕ, List, OnOk, get_or, take, length, ap, ap₂, sym, ◌∙◌, arith}
use Rattle.std.specs.List.{flat_map}
use Rattle.std.proofs.lemmas.List.{take_more}
use Rattle.hp_event.specs.declared.event.Event.{Event}
use Rattle.hp_event.specs.declared.event.Event.TheVariants.{Admit}
use Rattle.hp_event.specs.declared.event.Role.TheVariants.{Client}
use Rattle.hp_timeline.specs.declared.scene.Lane.{Lane}
use Rattle.hp_timeline.specs.Tracks.{step_to, step_text}
use Rattle.hp_timeline.proofs.Lasting.{on_ok_any, on_ok_so}
use Rattle.hp_timeline.proofs.TrackSteps.{tracks_stay, tracks_go}
use Rattle.hp_timeline.proofs.drawing.advance.Goals as goal

pub returns-in-None-clause-tracks : goal.returns-in-None-clause-tracks
returns-in-None-clause-tracks c =
    let k : ℕ = c.args.place in
    let events : List Event = c.args.events.now in
    let e : Event = get_or events k (Admit 0 Client) in
    let low : k < length events = omega arith in
    on_ok_any c.take_event.result _
    (tracks_stay c.args.head.now events c.args.window k e c.args.tracks.now.items (omega arith) (take_more events k (Admit 0 Client) low)
    (sym c.cpu_of.ensures ∙ c.in-None.is) c.requires.tracks)

pub returns-in_ok-take_event-in-Some-clause-tracks : goal.returns-in_ok-take_event-in-Some-clause-tracks
returns-in_ok-take_event-in-Some-clause-tracks c =
    let k : ℕ = c.args.place in
    let events : List Event = c.args.events.now in
    let e : Event = get_or events k (Admit 0 Client) in
    let low : k < length events = omega arith in
    let d : ℕ = c.in-Some.cpu in
    on_ok_so c.follow.result _ _
    (λ made.
    rw made
    (tracks_go c.args.head.now events c.args.window k d e c.args.tracks.now.items
    (flat_map (step_text c.args.window d) (step_to k c.shown-from.result c.shown.result)) (omega arith)
    (take_more events k (Admit 0 Client) low) (sym c.cpu_of.ensures ∙ c.in-Some.is)
    (λ possible.
    ap₂ (λ (a b : ℕ). flat_map (step_text c.args.window d) (step_to k a b))
    (c.shown-from.ensures ∙ ap (λ (l : Lane). l.shown) (c.requires.scene.lanes_are d possible))
    (c.shown.ensures ∙ ap (λ (l : Lane). l.shown) (c.in_ok-take_event-in-Some.ensures.lanes_are d possible)))
    c.requires.tracks))
    c.follow.ensures

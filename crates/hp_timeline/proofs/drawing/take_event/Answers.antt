-- One event more.
use Rattle.std.proofs.Common.{◌≡◌, ℕ, List, ◌<◌, ◌^◌, length, take, get_or, arith}
use Rattle.std.proofs.lemmas.List.{take_more}
use Rattle.hp_event.specs.declared.event.Event.{Event}
use Rattle.hp_event.specs.declared.event.Event.TheVariants.{Admit}
use Rattle.hp_event.specs.declared.event.Role.TheVariants.{Client}
use Rattle.hp_timeline.proofs.SceneSteps.{scene_step}
use Rattle.hp_timeline.proofs.Events.{lawful_take, length_take}
use Rattle.hp_timeline.proofs.drawing.take_event.Goals as goal

pub returns : goal.returns
returns c =
    let k : ℕ = c.args.place in
    let events : List Event = c.args.events.now in
    let e : Event = get_or events k (Admit 0 Client) in
    let low : k < length events = omega (arith, c.requires.place) in
    let many : length (take k events) ≡ k = length_take events k (omega arith) in
    let few : length (take k events) < 2 ^ 63 = omega (arith, many) in
    let s = c.in_ok-take.ensures in
    rw (take_more events k (Admit 0 Client) low)
    (scene_step c.args.head.now (take k events) e c.args.scene.now c.take.new.self
    (lawful_take c.args.head.now events k c.requires.lawful) few c.requires.scene (rw many s.lanes) (rw many s.operation)
    (rw many s.registration) (rw many s.sections) s.asked s.subs s.insts)

-- An actor that is known to wait makes nothing of a turn.
use Rattle.std.proofs.Common.{◌≡◌, ℕ, ◌+◌, true, is_some, Option, Some, None, ap, sym, ◌∙◌, subst, length, map, refl}
use Rattle.std.specs.Prelude.{option_map, slice_get}
use Rattle.std.proofs.lemmas.Bool.{eqb-true}
use Rattle.std.proofs.lemmas.Option.{slice_get_read}
use Rattle.hp_model.specs.MapLock.{Operation, operation, is_map_held}
use Rattle.hp_model.specs.Processors.{present}
use Rattle.hp_model.specs.ScriptTurns.{turn}
use Rattle.hp_actors.specs.Positions.{Position, ops_of, progress_of}
use Rattle.hp_actors.proofs.PassedOverStay.{passed_over, passed_by, known_forever, known_held, known_until}
use Rattle.hp_actors.proofs.run.Run.actor_waits.Given as given
use Rattle.hp_actors.proofs.run.Run.actor_waits.Goals as goal
use Rattle.hp_actors.proofs.run.Run.actor_waits.Goals.{In-Some}

some_held : (o : Option Operation) → is_some (option_map (λ (o : Operation). o.seat) o) ≡ true → is_some o ≡ true
some_held None h = h
some_held (Some o) h = refl

-- the actor that was looked up, at its place
looked_up : (g : given.Over) (c : In-Some g) →
    slice_get c.self.inside.actors.items c.args.place ≡ Some c.in-Some.actor.now
looked_up g c =
    let h = c.in-Some.ensures.lookup in
    ap (λ xs. slice_get xs c.args.place) (sym c.deref.ensures.value)
    ∙ slice_get_read c.deref.result.now (length c.deref.result.now) c.args.place c.in-Some.actor.now refl h.3.0 h.1

pub returns-in-Unknown : goal.returns-in-Unknown
returns-in-Unknown g c = λ yes.
    let threads : ℕ = c.self.inside.threads in
    let place : ℕ = c.args.place in
    let actors = c.self.inside.actors.items in
    let b = c.self.inside.board in
    let seat : ℕ = length (present c.self.inside.board.head) + place in
    let here : threads + place ≡ seat = ap (λ n. n + place) c.self.invariant.playing.threads_are in
    let at = looked_up g (goal.at.returns-in-Unknown g c).In-Some in
    subst (λ (p : Position). turn p.head p.actors p.progress (length (present p.head) + place) ≡ p.progress) c.self.view_is
    (subst
    (λ k. turn b.head (map ops_of actors) (progress_of b.events actors) k ≡ progress_of b.events actors) here
    (passed_by b threads place (threads + place) actors c.in-Some.actor.now c.self.invariant.playing refl at
    (c.waits_for_thread.ensures.nothing yes)))

pub returns-in-WhileMapHeld : goal.returns-in-WhileMapHeld
returns-in-WhileMapHeld g c = λ yes.
    let threads : ℕ = c.self.inside.threads in
    let place : ℕ = c.args.place in
    let actors = c.self.inside.actors.items in
    let b = c.self.inside.board in
    let seat : ℕ = length (present c.self.inside.board.head) + place in
    let here : threads + place ≡ seat = ap (λ n. n + place) c.self.invariant.playing.threads_are in
    let at = looked_up g (goal.at.returns-in-WhileMapHeld g c).In-Some in
    let held : is_map_held b.events ≡ true =
    some_held (operation b.events) (ap is_some (sym c.holder.ensures) ∙ (sym c.is_some.ensures ∙ yes)) in
    subst (λ (p : Position). turn p.head p.actors p.progress (length (present p.head) + place) ≡ p.progress) c.self.view_is
    (passed_over b threads place seat actors c.in-Some.actor.now c.self.invariant.playing here at
    (known_held b threads c.self.inside.last_end place actors c.in-Some.actor.now c.self.invariant.waits at
    (sym c.waits.ensures ∙ c.in-WhileMapHeld.is) held))

pub returns-in-UntilEnd : goal.returns-in-UntilEnd
returns-in-UntilEnd g c = λ yes.
    let threads : ℕ = c.self.inside.threads in
    let place : ℕ = c.args.place in
    let actors = c.self.inside.actors.items in
    let b = c.self.inside.board in
    let seat : ℕ = length (present c.self.inside.board.head) + place in
    let here : threads + place ≡ seat = ap (λ n. n + place) c.self.invariant.playing.threads_are in
    let at = looked_up g (goal.at.returns-in-UntilEnd g c).In-Some in
    subst (λ (p : Position). turn p.head p.actors p.progress (length (present p.head) + place) ≡ p.progress) c.self.view_is
    (passed_over b threads place seat actors c.in-Some.actor.now c.self.invariant.playing here at
    (known_until b threads c.self.inside.last_end place c.in-UntilEnd.end actors c.in-Some.actor.now c.self.invariant.waits at
    (sym c.waits.ensures ∙ c.in-UntilEnd.is) (eqb-true c.in-UntilEnd.end c.self.inside.last_end yes)))

pub returns-in-Forever : goal.returns-in-Forever
returns-in-Forever g c = λ yes.
    let threads : ℕ = c.self.inside.threads in
    let place : ℕ = c.args.place in
    let actors = c.self.inside.actors.items in
    let b = c.self.inside.board in
    let seat : ℕ = length (present c.self.inside.board.head) + place in
    let here : threads + place ≡ seat = ap (λ n. n + place) c.self.invariant.playing.threads_are in
    let at = looked_up g (goal.at.returns-in-Forever g c).In-Some in
    subst (λ (p : Position). turn p.head p.actors p.progress (length (present p.head) + place) ≡ p.progress) c.self.view_is
    (passed_over b threads place seat actors c.in-Some.actor.now c.self.invariant.playing here at
    (known_forever b threads c.self.inside.last_end place actors c.in-Some.actor.now c.self.invariant.waits at
    (sym c.waits.ensures ∙ c.in-Forever.is)))

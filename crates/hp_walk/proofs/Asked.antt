-- What a walk asks for comes next or is its answer, and an entry that it asks for is of a key that its table has.
use Rattle.std.proofs.Common.{◌≡◌, ◌≢◌, ℕ, ◌<◌, ◌≤◌, Bool, List, [], length, refl, ap, arith}
use Rattle.hp_states.specs.declared.limits.TheConstants.{ONLINE}
use Rattle.hp_states.specs.declared.dir.Dir.{Dir}
use Rattle.hp_states.specs.declared.dir.Dir.TheVariants.{Up, Down}
use Rattle.hp_states.specs.declared.place.Place.{Place}
use Rattle.hp_event.specs.declared.answer.Answer.{Answer}
use Rattle.hp_event.specs.declared.key.Key.{Key}
use Rattle.hp_model.specs.Plan.{direction}
use Rattle.hp_walk.specs.declared.position.Position.{Position}
use Rattle.hp_walk.specs.declared.position.Position.TheVariants.{Forward, UndoingPart, Back, RedoingPart, Ended}
use Rattle.hp_walk.specs.declared.step.Step.TheVariants as ask
use Rattle.hp_walk.specs.declared.walk.Walk.{Walk}
use Rattle.hp_walk.specs.After.{IsWithin, IsAt, IsAfter, Asks}
use Rattle.hp_event.specs.declared.event.Event.{Event}
use Rattle.hp_walk.proofs.Asking.{asks_forward, asks_undoing, asks_back, asks_redoing, asks_ended}
use Rattle.hp_walk.specs.Asked.{asked, asked_at}
use Rattle.hp_walk.specs.Keys.{IsCrossed}

crossed_most : (d : Dir) (from to s : ℕ) → IsCrossed d from to s → from ≤ ONLINE → to ≤ ONLINE → s ≤ ONLINE
crossed_most Up from to s h f t = omega (arith, h.1, t)
crossed_most Down from to s h f t = omega (arith, h.1, f)

has_key : (keys : ℕ → List ℕ) (s k : ℕ) → k < length (keys s) → keys s ≢ []
has_key keys s k h = λ none. let e : length (keys s) ≡ 0 = ap length none in absurd (omega (arith, h, e))

-- of a state, one of whose keys it is
pub record IsOfState (keys : ℕ → List ℕ) (key : Key) : Type 0 where
  pub most : key.state ≤ ONLINE
  pub some : keys key.state ≢ []

same_key : (a b : Key) (d e : Dir) (p q : Place) (f g : Bool) → ask.Call a d p f ≡ ask.Call b e q g → a ≡ b
same_key a b d e p q f g h = cc

no_entry : (answer : Answer) (key : Key) (d : Dir) (place : Place) (first : Bool) → ask.Ended answer ≡ ask.Call key d place first → ⊥
no_entry answer key d place first h = cc

of_state : (keys : ℕ → List ℕ) (from to : ℕ) (p : Position) (key : Key) (d : Dir) (place : Place) (first : Bool) → from ≤ ONLINE → to ≤ ONLINE →
    IsAt keys (direction from to) from to p → asked_at keys (direction from to) p ≡ ask.Call key d place first → IsOfState keys key
of_state keys from to (Forward s k) key d place first f t at is =
    rw (← same_key _ key _ d _ place _ first is)
    (record { most = crossed_most (direction from to) from to s at.0 f t; some = has_key keys s k at.1 })
of_state keys from to (UndoingPart s k n code) key d place first f t at is =
    rw (← same_key _ key _ d _ place _ first is)
    (record { most = crossed_most (direction from to) from to s at.0 f t; some = has_key keys s n at.2 })
of_state keys from to (Back s k code) key d place first f t at is =
    rw (← same_key _ key _ d _ place _ first is)
    (record { most = crossed_most (direction from to) from to s at.0 f t; some = has_key keys s k at.1 })
of_state keys from to (RedoingPart s k n one two) key d place first f t at is =
    rw (← same_key _ key _ d _ place _ first is)
    (record { most = crossed_most (direction from to) from to s at.0 f t; some = has_key keys s n at.2 })
of_state keys from to (Ended answer) key d place first f t at is = absurd (no_entry answer key d place first is)

pub asked_state : (keys : ℕ → List ℕ) (w : Walk) (key : Key) (d : Dir) (place : Place) (first : Bool) → IsWithin keys w →
    asked keys w ≡ ask.Call key d place first → IsOfState keys key
asked_state keys w key d place first h is =
    of_state keys w.from w.to w.position key d place first h.from_most h.to_most h.at is

pub asks : (keys : ℕ → List ℕ) (entries : List Event) (w : Walk) → IsAfter keys entries w → Asks keys entries w (asked keys w)
asks keys entries w h = go w.position refl
  where
    go : (p : Position) → w.position ≡ p → Asks keys entries w (asked_at keys (direction w.from w.to) p)
    go (Forward s k) e = asks_forward keys entries w s k e h
    go (UndoingPart s k n code) e = asks_undoing keys entries w s k n code e h
    go (Back s k code) e = asks_back keys entries w s k code e h
    go (RedoingPart s k n one two) e = asks_redoing keys entries w s k n one two e h
    go (Ended answer) e = asks_ended keys entries w answer e h

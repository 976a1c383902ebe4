-- Turns of seats, one after the other, with the hooks that operations have then.
use Rattle.std.proofs.Common.{◌≡◌, ℕ, ◌<◌, Result, Ok, Err, OnOk, OnErr, List, [], ◌∷◌, ◌++◌, length, refl, ap, sym, ◌∙◌}
use Rattle.hp_model.specs.Processors.{present}
use Rattle.hp_model.specs.ScriptTurns.{turn}
use Rattle.hp_actors.specs.Hooks.{turned, after_seats, IsLater}
use Rattle.hp_actors.specs.Positions.{Position}
use Rattle.hp_actors.proofs.HooksTurned.{thread_hooks}

seats_more : (at : Position) (xs ys : List ℕ) → after_seats at (xs ++ ys) ≡ after_seats (after_seats at xs) ys
unfolding after_seats
seats_more at [] ys = refl
seats_more at (x ∷ xs) ys = seats_more (turned at x) xs ys

pub later_same : (at : Position) → IsLater at at
unfolding after_seats
later_same at = ([], refl)

pub later_one : (old new : Position) (k : ℕ) → new ≡ turned old k → IsLater old new
unfolding after_seats
later_one old new k is = (k ∷ [], is)

pub later_on : (old now after : Position) → IsLater old now → IsLater now after → IsLater old after
later_on old now after a b = (a.0 ++ b.0, b.1 ∙ (ap (λ p. after_seats p b.0) a.1 ∙ sym (seats_more old a.0 b.0)))

-- a turn, whether memory was wanting or not
pub turn_later : {E F : Type 0} (r : Result E F) (old new : Position) (k : ℕ) → OnOk r (new ≡ turned old k) → OnErr r (new ≡ old) →
    IsLater old new
unfolding after_seats
turn_later (Ok x) old new k ok err = (k ∷ [], ok)
turn_later (Err e) old new k ok err = ([], err)

-- a thread's turn leaves all hooks
pub thread_later : (old now after : Position) (k : ℕ) → IsLater old now → k < length (present now.head) →
    after
    ≡ record {
      head = now.head;
      actors = now.actors;
      progress = turn now.head now.actors now.progress k;
      hooks = now.hooks;
    } →
    IsLater old after
thread_later old now after k before below is =
    later_on old now after before
    (later_one now after k
    (is
    ∙ ap (λ hooks. record { head = now.head; actors = now.actors; progress = turn now.head now.actors now.progress k; hooks = hooks })
    (sym (thread_hooks now k below))))

-- What it means that a walk went on past an entry. This project's own.
use Rattle.std.specs.Prelude.{◌≡◌, ℕ, pos, ◌<◌, List, [], ◌∷◌, ◌++◌}
use Rattle.hp_states.specs.declared.dir.Dir.{Dir}
use Rattle.hp_event.specs.declared.answer.Answer.TheVariants.{Ok, Fault}
use Rattle.hp_event.specs.declared.event.Event.{Event}
use Rattle.hp_event.specs.declared.how.How.{How}
use Rattle.hp_walk.specs.declared.position.Position.{Position}
use Rattle.hp_walk.specs.declared.position.Position.TheVariants.{Forward, Back, Ended}
use Rattle.hp_walk.specs.Keys.{IsNextState, IsNoState}
use Rattle.hp_walk.specs.declared.walk.Walk.{Walk}
use Rattle.hp_walk.specs.Asked.{asked, IfCall, entry_of}
use Rattle.hp_walk.specs.After.{IsWithin, IsAfter, entries_left}

-- It stands after one entry more, which was made so, whoever made it; and fewer can come.
pub record Took (keys : ℕ → List ℕ) (how : How) (old new : Walk) : Type 0 where
  pub same : (new.cpu ≡ old.cpu) × (new.from ≡ old.from) × (new.to ≡ old.to)
  pub within : IsWithin keys new
  pub after :
      (entries : List Event) (seat : ℕ) → IsAfter keys entries old →
      IfCall (asked keys old) (λ key d. IsAfter keys (entries ++ entry_of seat old.cpu key d how ∷ []) new)
  pub less : entries_left keys new < entries_left keys old

-- it goes on from a state that it has reached, at the next with a key, or it is at its end
abbrev pub IsNextOnTheWay : (keys : ℕ → List ℕ) → Dir → (reached to : ℕ) → Position → Type 0
IsNextOnTheWay keys d reached to (Forward s k) = IsNextState keys d reached to s × (k ≡ 0)
IsNextOnTheWay keys d reached to (Ended answer) = IsNoState keys d reached to × (answer ≡ Ok (pos 0))
IsNextOnTheWay keys d reached to _ = ⊥

abbrev pub IsNextInRollback : (keys : ℕ → List ℕ) → Dir → (reached from code : ℕ) → Position → Type 0
IsNextInRollback keys d reached from code (Back s k e) = IsNextState keys d reached from s × (k ≡ 0) × (e ≡ code)
IsNextInRollback keys d reached from code (Ended answer) = IsNoState keys d reached from × (answer ≡ Fault code)
IsNextInRollback keys d reached from code _ = ⊥

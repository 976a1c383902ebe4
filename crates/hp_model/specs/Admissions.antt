-- The admissions that a run begins with: a seat for the thread of each present processor, and one for each actor. This project's own.
use Rattle.std.specs.Prelude.{ℕ, ◌+◌, List, [], ◌∷◌, ◌++◌, length}
use Rattle.hp_event.specs.declared.op.Op.{Op}
use Rattle.hp_event.specs.declared.event.Role.TheVariants.{Client, Ap}
use Rattle.hp_event.specs.declared.head.Head.{Head}
use Rattle.hp_event.specs.declared.event.Event.{Event}
use Rattle.hp_event.specs.declared.event.Event.TheVariants.{Admit}
use Rattle.hp_model.specs.Processors.{present}

-- the seats of the present processors, in rising number, and then one client for each actor
abbrev pub ap_admits : (seat : ℕ) → (cpus : List ℕ) → List Event
ap_admits k [] = []
ap_admits k (c ∷ cs) = Admit k (Ap c) ∷ ap_admits (k + 1) cs

abbrev pub client_admits : (seat : ℕ) → (actors : List (List Op)) → List Event
client_admits k [] = []
client_admits k (ops ∷ more) = Admit k Client ∷ client_admits (k + 1) more

abbrev pub admissions : Head → (actors : List (List Op)) → List Event
admissions head actors = ap_admits 0 (present head) ++ client_admits (length (present head)) actors

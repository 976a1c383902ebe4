-- The faults among some entries, and what a walk or a registration answers that ends with them. This project's own.
use Rattle.std.specs.Prelude.{ℕ, pos, Option, Some, None, List, [], ◌∷◌, filter_map}
use Rattle.hp_states.specs.declared.dir.Dir.{Dir}
use Rattle.hp_event.specs.declared.answer.Answer.{Answer}
use Rattle.hp_event.specs.declared.answer.Answer.TheVariants.{Ok, Fault, Stuck}
use Rattle.hp_event.specs.declared.event.Event.{Event}
use Rattle.hp_event.specs.declared.event.Event.TheVariants.{Call}
use Rattle.hp_model.specs.Entries.{fault_of}
use Rattle.hp_model.specs.Crossing.{far}

-- a fault among some entries: its code, and its state
pub record Faulty : Type 0 where
  pub code : ℕ
  pub state : ℕ

abbrev pub faulty_at : (state : ℕ) → Option ℕ → Option Faulty
faulty_at s None = None
faulty_at s (Some e) = Some (record { code = e; state = s })

abbrev pub faulty : Event → Option Faulty
faulty (Call seat cpu state inst dir how) = faulty_at state (fault_of how)
faulty _ = None

abbrev pub faults : List Event → List Faulty
faults entries = filter_map faulty entries

-- what a walk answers that ends with these faults
abbrev pub walk_answer : Dir → List Faulty → Option Answer
walk_answer d [] = Some (Ok (pos 0))
walk_answer d (f ∷ []) = Some (Fault f.code)
walk_answer d (f ∷ (g ∷ [])) = Some (Stuck f.code g.code (far d g.state))
walk_answer d (f ∷ (g ∷ (h ∷ hs))) = None

-- what a registration answers that ends with these faults
abbrev pub registration_answer : (value : ℕ) → List Faulty → Option Answer
registration_answer value [] = Some (Ok (pos value))
registration_answer value (f ∷ []) = Some (Fault f.code)
registration_answer value (f ∷ (g ∷ gs)) = None

-- What the slow functions keep of a state, of the registration in flight and of a processor, as the definitions see it.
use Rattle.std.specs.Prelude.{◌≡◌, ℕ, Option, option_map, List}
use Rattle.hp_event.specs.declared.answer.Answer.{Answer}
use Rattle.hp_event.specs.declared.head.Head.{Head}
use Rattle.hp_event.specs.declared.event.Event.{Event}
use Rattle.hp_model.specs.declared.registered.Found.{Found}
use Rattle.hp_model.specs.declared.registered.Asked.{Asked}
use Rattle.hp_model.specs.declared.settled.Standing.{Standing}
use Rattle.hp_model.specs.Registrations.{Registration}
use Rattle.hp_model.specs.Registered.{Registered, after_answer}
use Rattle.hp_model.specs.Settled.{settled_step}
use Rattle.hp_model.specs.Walks.{Walk, walk, walk_step}

abbrev pub registered_by : Found → Registered
registered_by f = record { sub = f.sub; multi = f.multi; insts = f.insts.items }

abbrev pub asked_by : Registration → Asked
asked_by r = record { state = r.state; op = r.op }

-- what is registered, where anything is
abbrev pub as_registered : Option Found → Option Registered
as_registered found = option_map registered_by found

-- an answer makes that of what was found, whichever registration it ends that is the one that was asked for
abbrev pub FoundAfter : Head → (state : ℕ) → Answer → Option Asked → (old new : Option Found) → Type 0
FoundAfter head s answer asked old new =
    (r : Option Registration) → asked ≡ option_map asked_by r →
    as_registered new ≡ after_answer head s answer r (as_registered old)

-- where a walk goes, if one is in flight
abbrev pub target : Option Walk → Option ℕ
target w = option_map (λ w. w.to) w

-- an event leaves the processor there, after whatever events its walk in flight goes where the standing says
abbrev pub SettlesAt : (cpu : ℕ) → Standing → Event → (at : ℕ) → Type 0
SettlesAt c standing e at =
    (before : List Event) → standing.to ≡ target (walk c before) → at ≡ settled_step c standing.at before e

-- and after it the walk in flight goes there
abbrev pub GoesOnTo : (cpu : ℕ) → Standing → Event → (to : Option ℕ) → Type 0
GoesOnTo c standing e to =
    (before : List Event) → standing.to ≡ target (walk c before) → to ≡ target (walk_step c (walk c before) before e)

-- The callbacks of a state: which subsystem stands there, and what was called of it. This project's own.
use Rattle.std.specs.Prelude.{ℕ, ◌&&◌, ◌==◌, if◌then◌else◌, Option, Some, None, List, [], ◌∷◌, ◌++◌}
use Rattle.hp_states.specs.Rules.{Site}
pub use Rattle.hp_event.specs.Hows.{is_called}
use Rattle.hp_event.specs.declared.op.Op.{Op}
use Rattle.hp_event.specs.declared.op.Op.TheVariants.{Setup}
use Rattle.hp_event.specs.declared.head.Sub.{Sub}
use Rattle.hp_event.specs.declared.head.Head.{Head}
use Rattle.hp_event.specs.declared.event.Event.{Event}
use Rattle.hp_event.specs.declared.event.Event.TheVariants.{Call, RegBegin}
use Rattle.hp_model.specs.Journal.{over}
use Rattle.hp_model.specs.Registrations.{Registration, registration}
use Rattle.hp_model.specs.Subsystems.{sub_numbered}
use Rattle.hp_model.specs.Registered.{Registered, registered}

abbrev pub forgotten_by : (state : ℕ) → (at : ℕ) → Op → List Site → List Site
forgotten_by s at (Setup asked sub form) found = if at == s then [] else found
forgotten_by s at _ found = found

abbrev pub sites_step : (state : ℕ) → List Site → List Event → Event → List Site
sites_step s found before (RegBegin seat state op) = forgotten_by s state op found
sites_step s found before (Call seat cpu state inst dir how) =
    if state == s && is_called how then found ++ record { cpu = cpu; inst = inst; dir = dir } ∷ [] else found
sites_step s found before _ = found

-- the calls at a state since the setup that registered it began
unfoldable pub sites : (state : ℕ) → List Event → List Site
sites s events = over (sites_step s) [] events

abbrev pub number_found : Option Registered → ℕ
number_found None = 0
number_found (Some r) = r.sub

abbrev pub number_asked : (state : ℕ) → (at : ℕ) → Op → ℕ → ℕ
number_asked s at (Setup asked sub form) found = if at == s then sub else found
number_asked s at _ found = found

-- the number of the subsystem of a state that is registered or is being set up
abbrev pub number_at : (state : ℕ) → Option Registration → Option Registered → ℕ
number_at s None found = number_found found
number_at s (Some r) found = number_asked s r.state r.op (number_found found)

-- the subsystem of a state
abbrev pub sub_at : Head → (state : ℕ) → List Event → Option Sub
sub_at head s events = sub_numbered head (number_at s (registration events) (registered head s events))

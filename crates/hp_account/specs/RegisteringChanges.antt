-- What changes of a registration in flight: that it has begun, and that it went on past an entry. This project's own.
use Rattle.std.specs.Prelude.{◌≡◌, ◌-◌, ℕ, true, Option, List, [], ◌∷◌, ◌++◌, AllPairs}
use Rattle.std.specs.Prelude.{◌<◌}
use Rattle.hp_states.specs.declared.dir.Dir.{Dir}
use Rattle.hp_states.specs.declared.place.Place.{Place}
use Rattle.hp_event.specs.declared.op.Op.{Op}
use Rattle.hp_event.specs.declared.how.How.{How}
use Rattle.hp_event.specs.declared.key.Key.{Key}
use Rattle.hp_event.specs.declared.event.Event.{Event}
use Rattle.hp_event.specs.declared.event.Event.TheVariants as event
use Rattle.hp_model.specs.How.{fits}
use Rattle.hp_reg.specs.After.{IsAfter}
use Rattle.hp_reg.specs.Asked.{asked}
use Rattle.hp_reg.specs.declared.step.RegStep.TheVariants.{Call}
use Rattle.hp_account.specs.declared.registering.Registering.{Registering}

-- a seat's registration that has no entry yet, and took so much room, its begin counted
pub record RegistrationBegan (seat : ℕ) (op : Op) (state need : ℕ) (g : Registering) : Type 0 where
  pub seat_is : g.seat ≡ seat
  pub op_is : g.reg.op ≡ op
  pub state_is : g.reg.state ≡ state
  pub after : (key : Option ℕ) (cpus : List ℕ) → AllPairs (λ c d. c < d) cpus → IsAfter key cpus [] g.reg
  pub left_is : g.left ≡ need - 1

-- it stands after one entry more, where that was the one asked for, made as it may be
pub record RegistrationWentOn (cpu : ℕ) (how : How) (old new : Registering) : Type 0 where
  pub seat_same : new.seat ≡ old.seat
  pub op_same : new.reg.op ≡ old.reg.op
  pub state_same : new.reg.state ≡ old.reg.state
  pub after :
      (key : Option ℕ) (cpus : List ℕ) (entries : List Event) (seat : ℕ) (at : Key) (dir : Dir) (place : Place) →
      IsAfter key cpus entries old.reg → asked key cpus old.reg ≡ Call cpu at dir place → fits how dir at.state place ≡ true →
      IsAfter key cpus (entries ++ event.Call seat cpu at.state at.inst dir how ∷ []) new.reg
  pub left_is : new.left ≡ old.left - 1

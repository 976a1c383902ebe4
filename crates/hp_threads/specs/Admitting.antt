-- How seats come in before a run, and what each has heard then. This project's own.
use Rattle.std.specs.Prelude.{◌≡◌, None, Some, List, [], ◌∷◌, ◌++◌, All}
use Rattle.atomic_table.specs.Seated.{TableId}
use Rattle.hp_board.specs.declared.turn.Ask.{Ask}
use Rattle.hp_event.specs.declared.event.Event.{Event}
use Rattle.hp_event.specs.declared.event.Role.{Role}
use Rattle.hp_event.specs.declared.event.Role.TheVariants.{Client}
use Rattle.hp_event.specs.declared.head.Head.{Head}
use Rattle.hp_event.specs.declared.op.Op.{Op}
use Rattle.hp_live.specs.Known.{IsSamePass, Known, Seated}
use Rattle.hp_live.specs.Sections.{AdmitsIn}
use Rattle.hp_model.specs.Front.{StandsFor}
use Rattle.hp_turn.specs.Story.{longer}
use Rattle.hp_threads.specs.declared.job.Job.{Job}

abbrev pub pass_in : {H : Type 0} → Job H → Seated
pass_in job = job.pass

abbrev pub asks_in : {H : Type 0} → Job H → List (Ask H)
asks_in job = job.asks.items

-- each actor is a client
abbrev pub client_of : (ops : List Op) → Role
client_of ops = Client

-- a pass of this lock and head, which carries nothing
pub record IsSeated (lock : TableId) (head : Head) (pass : Seated) : Type 0 where
  pub lock_is : pass.lock ≡ lock
  pub head_is : pass.head ≡ head
  pub nothing : pass.lent ≡ None

-- a seat came in with this role, and the root has seen what its pass has
pub record IsAdmitted (role : Role) (old new : Known) (pass : Seated) : Type 0 where
  pub lock : new.lock ≡ old.lock
  pub head : new.head ≡ old.head
  pub seated : IsSeated old.lock old.head pass
  pub admitted : AdmitsIn old.head role old.front pass.front pass.seat
  pub front : new.front ≡ pass.front

-- and its pass was put behind others
pub record HasEntered (role : Role) (old new : Known) (before after : List Seated) : Type 0 where
  pub pass : Seated
  pub admitted : IsAdmitted role old new pass
  pub pushed : after ≡ before ++ pass ∷ []

-- seats came in with these roles, one after another: their passes, and the root's front before and after
abbrev pub CameIn : Head → List Role → List Seated → (old new : List Event) → Type 0
CameIn head [] [] old new = new ≡ old
CameIn head (role ∷ roles) (pass ∷ passes) old new =
    AdmitsIn head role old pass.front pass.seat × CameIn head roles passes pass.front new
CameIn head _ _ old new = ⊥

-- so, by the root before and after
pub record HaveEntered (old new : Known) (roles : List Role) (passes : List Seated) : Type 0 where
  pub lock : new.lock ≡ old.lock
  pub head : new.head ≡ old.head
  pub seated : All (IsSeated old.lock old.head) passes
  pub came : CameIn old.head roles passes old.front new.front

-- a pass heard what the root has seen
pub record HasHeard (front : List Event) (before after : Seated) : Type 0 where
  pub same : IsSamePass before after
  pub nothing : after.lent ≡ None
  pub front_is : after.front ≡ longer before.front front
  pub knew : StandsFor (Some before.seat) before.front after.front

abbrev pub HaveHeard : (front : List Event) → (before after : List Seated) → Type 0
HaveHeard front [] [] = Unit {0}
HaveHeard front (b ∷ before) (a ∷ after) = HasHeard front b a × HaveHeard front before after
HaveHeard front _ _ = ⊥

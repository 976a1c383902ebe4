-- What the threads of a run are given, and what comes back of each. This project's own.
use Rattle.std.specs.Prelude.{◌≡◌, true, false, is_some, None, List, [], ◌∷◌, map, All}
use Rattle.hp_account.specs.TableChanges.{is_setup}
use Rattle.hp_actors.specs.Positions.{op_of}
use Rattle.hp_board.specs.declared.turn.Ask.{Ask}
use Rattle.hp_event.specs.declared.head.Head.{Head}
use Rattle.hp_model.specs.Scripts.{is_locked}
use Rattle.hp_model.specs.Seats.{is_busy}
use Rattle.hp_model.specs.Subsystems.{names_sub}
use Rattle.hp_live.specs.Known.{Gone, IsOf, IsSamePass, Seated}
use Rattle.hp_live.specs.Threads.{Serves}
use Rattle.hp_live.specs.declared.hotplug.Hotplug.{Hotplug}
use Rattle.hp_threads.specs.declared.job.Job.{Job}
use Rattle.hp_threads.specs.Acting.{Acts}

-- an operation that hasn't begun, with its hook
pub record IsReady {H : Type 0} (head : Head) (ask : Ask H) : Type 0 where
  pub has_sub : names_sub head ask.op ≡ true
  pub loaded : is_some ask.hook ≡ is_setup ask.op

-- a client's pass of the machine that has nothing in flight and carries nothing, and operations that don't end in a read section
pub record CanAct {H : Type 0} (machine : Hotplug H) (job : Job H) : Type 0 where
  pub own : IsOf machine job.pass.lock
  pub idle : is_busy job.pass.seat job.pass.front ≡ false
  pub nothing : job.pass.lent ≡ None
  pub ready : All (IsReady job.pass.head) job.asks.items
  pub unlocked : is_locked (map op_of job.asks.items) ≡ false

-- what comes back of an actor's thread: it made its operations and its leave
pub record HasRun {H : Type 0} (job : Job H) (left : Gone) : Type 0 where
  pub lock : left.lock ≡ job.pass.lock
  pub head : left.head ≡ job.pass.head
  pub seat : left.seat ≡ job.pass.seat
  pub acts : Acts job.pass.head job.pass.seat (map op_of job.asks.items) job.pass.front left.front

-- of all actors, each in its place
abbrev pub HaveRun : {H : Type 0} → List (Job H) → List Gone → Type 0
HaveRun [] [] = Unit {0}
HaveRun (job ∷ jobs) (left ∷ lefts) = HasRun job left × HaveRun jobs lefts
HaveRun _ _ = ⊥

-- the pass of a processor's thread, which the machine gave, and which carries nothing
pub record CanServe {H : Type 0} (machine : Hotplug H) (pass : Seated) : Type 0 where
  pub own : IsOf machine pass.lock
  pub nothing : pass.lent ≡ None

-- what comes back of it: it served until no client was in
pub record HasStayed (before after : Seated) : Type 0 where
  pub same : IsSamePass before after
  pub serves : Serves before.head before.seat before.front after.front
  pub nothing : after.lent ≡ None

abbrev pub HaveStayed : List Seated → List Seated → Type 0
HaveStayed [] [] = Unit {0}
HaveStayed (b ∷ before) (a ∷ after) = HasStayed b a × HaveStayed before after
HaveStayed _ _ = ⊥

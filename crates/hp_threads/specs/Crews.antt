-- The threads of a run, and what comes of each. This project's own.
use Rattle.std.specs.Prelude.{◌≡◌, ◌≤◌, ℕ, List, [], ◌∷◌, vec_capacity}
use Rattle.hp_live.specs.Known.{Gone, Seated}
use Rattle.hp_threads.specs.declared.job.Job.{Job}
use Rattle.hp_threads.specs.declared.threads.ActorThread.{ActorThread}
use Rattle.hp_threads.specs.declared.threads.ActorThread.TheVariants as actor
use Rattle.hp_threads.specs.declared.threads.Room.{Room}
use Rattle.hp_threads.specs.declared.threads.ServerThread.{ServerThread}
use Rattle.hp_threads.specs.declared.threads.ServerThread.TheVariants as server
use Rattle.hp_threads.specs.Jobs.{HasRun, HasStayed}

-- nothing has been started, and there is room for so many actors and threads of processors, and for what comes of them
pub record HasRoom {H : Type 0} (jobs seats : ℕ) (room : Room H) : Type 0 where
  pub no_actors : room.crew.actors.items ≡ []
  pub no_servers : room.crew.servers.items ≡ []
  pub no_lefts : room.lefts.items ≡ []
  pub no_passes : room.passes.items ≡ []
  pub for_actors : jobs ≤ vec_capacity room.crew.actors
  pub for_servers : seats ≤ vec_capacity room.crew.servers
  pub for_lefts : jobs ≤ vec_capacity room.lefts
  pub for_passes : seats ≤ vec_capacity room.passes

-- a job has its thread, or was done
abbrev pub IsActing : {H : Type 0} → Job H → ActorThread H → Type 0
IsActing job (actor.Started thread) = thread.promise.job.value ≡ job
IsActing job (actor.Ran left) = HasRun job left

abbrev pub AreActing : {H : Type 0} → List (Job H) → List (ActorThread H) → Type 0
AreActing [] [] = Unit {0}
AreActing (job ∷ jobs) (thread ∷ threads) = IsActing job thread × AreActing jobs threads
AreActing _ _ = ⊥

abbrev pub IsServing : {H : Type 0} → Seated → ServerThread H → Type 0
IsServing pass (server.Started thread) = thread.promise.pass.value ≡ pass
IsServing pass (server.Ran back) = HasStayed pass back

abbrev pub AreServing : {H : Type 0} → List Seated → List (ServerThread H) → Type 0
AreServing [] [] = Unit {0}
AreServing (pass ∷ passes) (thread ∷ threads) = IsServing pass thread × AreServing passes threads
AreServing _ _ = ⊥

-- this came of a thread
abbrev pub HasLeft : {H : Type 0} → ActorThread H → Gone → Type 0
HasLeft (actor.Started thread) left = HasRun thread.promise.job.value left
HasLeft (actor.Ran had) left = left ≡ had

abbrev pub HaveLeft : {H : Type 0} → List (ActorThread H) → List Gone → Type 0
HaveLeft [] [] = Unit {0}
HaveLeft (thread ∷ threads) (left ∷ lefts) = HasLeft thread left × HaveLeft threads lefts
HaveLeft _ _ = ⊥

abbrev pub HasServed : {H : Type 0} → ServerThread H → Seated → Type 0
HasServed (server.Started thread) back = HasStayed thread.promise.pass.value back
HasServed (server.Ran had) back = back ≡ had

abbrev pub HaveServed : {H : Type 0} → List (ServerThread H) → List Seated → Type 0
HaveServed [] [] = Unit {0}
HaveServed (thread ∷ threads) (back ∷ more) = HasServed thread back × HaveServed threads more
HaveServed _ _ = ⊥

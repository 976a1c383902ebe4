-- What the seats of a run have before their threads are started. This project's own.
use Rattle.std.specs.Prelude.{◌≡◌, ℕ, ◌+◌, List, [], ◌∷◌, map, All, length}
use Rattle.hp_event.specs.declared.event.Event.{Event}
use Rattle.hp_live.specs.Known.{Seated}
use Rattle.hp_live.specs.declared.hotplug.Hotplug.{Hotplug}
use Rattle.hp_model.specs.Seats.{admits}
use Rattle.hp_script.specs.Script.{Contents}
use Rattle.hp_threads.specs.declared.job.Job.{Job}
use Rattle.hp_threads.specs.Admitting.{pass_in}
use Rattle.hp_threads.specs.Jobs.{CanAct, CanServe}
use Rattle.hp_threads.specs.Loaded.{ops_in}
use Rattle.hp_threads.specs.Journals.{first_of, threads_of}

-- a pass with this seat, which has seen just the admissions
pub record IsSeatedAt (script : Contents) (seat : ℕ) (pass : Seated) : Type 0 where
  pub seat_is : pass.seat ≡ seat
  pub head_is : pass.head ≡ script.head
  pub front_is : pass.front ≡ first_of script

-- passes with seats in rising number from this one on
abbrev pub AreSeatedFrom : Contents → (seat : ℕ) → List Seated → Type 0
AreSeatedFrom script k [] = Unit {0}
AreSeatedFrom script k (pass ∷ passes) = IsSeatedAt script k pass × AreSeatedFrom script (k + 1) passes

-- every seat is in and has seen just the admissions; the threads can serve, and the actors have the script's operations
pub record IsOpened {H : Type 0} (machine : Hotplug H) (script : Contents) (front : List Event) (passes : List Seated) (jobs : List (Job H)) : Type 0
  where
    pub front_is : front ≡ first_of script
    pub count : length passes ≡ threads_of script
    pub seats : admits (first_of script) ≡ threads_of script + length jobs
    pub threads : AreSeatedFrom script 0 passes
    pub clients : AreSeatedFrom script (threads_of script) (map pass_in jobs)
    pub serve : All (CanServe machine) passes
    pub act : All (CanAct machine) jobs
    pub ops : map ops_in jobs ≡ script.actors

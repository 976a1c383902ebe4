-- What an operation of the map lock does next: a walk, or its end; in an upmany nothing, while its walks go on. After `cpu_up`, `cpu_down`,
-- `bringup_nonboot_cpus`, `freeze_secondary_cpus` and `thaw_secondary_cpus` of `kernel/cpu.c`; what the
-- ends answer is this project's own.
use Rattle.std.specs.Prelude.{ℕ, ℤ, pos, negsuc, Bool, true, false, not, ◌&&◌, ◌||◌, ◌==◌, nat_le, nat_lt, if◌then◌else◌, List, [], ◌∷◌, ◌++◌, length, filter}
use Rattle.hp_states.specs.declared.limits.TheConstants.{OFFLINE, ONLINE, EBUSY}
use Rattle.hp_event.specs.declared.op.Op.{Op}
use Rattle.hp_event.specs.declared.op.Op.TheVariants.{Up, Down, Target, Boot, Disable, Enable, Freeze, Thaw, UpMany}
use Rattle.hp_event.specs.declared.answer.Answer.{Answer}
use Rattle.hp_event.specs.declared.answer.Answer.TheVariants.{Ok, Refused}
use Rattle.hp_event.specs.declared.head.Head.{Head}
use Rattle.hp_event.specs.declared.event.Event.{Event}
use Rattle.hp_event.specs.declared.event.Event.TheVariants.{Enter, WalkEnd}
use Rattle.hp_model.specs.Journal.{over}
use Rattle.hp_model.specs.Lists.{among, numbers}
use Rattle.hp_model.specs.Walks.{is_walking}
use Rattle.hp_model.specs.Settled.{settled, is_online}
use Rattle.hp_model.specs.Processors.{is_present, online}
use Rattle.hp_model.specs.Suspend.{is_ok, frozen, wakeup_pending}
unfoldable pub use Rattle.hp_model.specs.Batch.{begun_step, begun}
use Rattle.hp_model.specs.Batch.{is_upmany, batch, unbegun}

abbrev pub answers_step : List Answer → List Event → Event → List Answer
answers_step found before (Enter seat op) = []
answers_step found before (WalkEnd seat cpu answer) = found ++ answer ∷ []
answers_step found before _ = found

-- the answers of the walks that ended since the last Enter
unfoldable pub answers : List Event → List Answer
answers events = over answers_step [] events

-- those that aren't Ok
abbrev pub failures : List Answer → List Answer
failures xs = filter (λ x. not (is_ok x)) xs

-- what comes next: a walk, or the end with an answer
pub data Next : Type 0 where
  walks : (cpu to : ℕ) → Next
  ends : Answer → Next
  nothing : Next

-- one walk of one processor, unless it stands there already
abbrev pub single_next : (cpu to : ℕ) → (now : ℕ) → List Answer → Next
single_next c to now [] = if now == to then ends (Ok (pos 0)) else walks c to
single_next c to now (answer ∷ more) = ends answer

abbrev pub target_of : ℤ → ℕ
target_of (pos n) = n
target_of (negsuc n) = OFFLINE

-- a walk of the first of some processors, or the end with the number of walks that failed
abbrev pub first_next : (to : ℕ) → List ℕ → Answer → Next
first_next to [] answer = ends answer
first_next to (c ∷ cs) answer = walks c to

abbrev pub boot_next : (enough : Bool) → List ℕ → (failed : ℕ) → Next
boot_next true todo failed = ends (Ok (pos failed))
boot_next false todo failed = first_next ONLINE todo (Ok (pos failed))

-- a boot brings up the present processors in rising number, each once
abbrev pub to_boot : Head → List Event → List ℕ
to_boot head events =
    filter (λ c. is_present head c && (not (is_online c events) && not (among c (begun events)))) (numbers head.possible)

abbrev pub first_of : List ℕ → ℕ
first_of [] = 0
first_of (c ∷ cs) = c

-- the processor that a freeze leaves online: the one asked for where it is online, else the lowest
abbrev pub primary_of : ℤ → List ℕ → ℕ
primary_of (pos p) on = if among p on then p else first_of on
primary_of (negsuc p) on = first_of on

-- a freeze takes down those that were online at its Enter, in rising number, but the primary
abbrev pub to_freeze : Head → ℤ → (entered events : List Event) → List ℕ
to_freeze head p entered events =
    filter (λ c. not (c == primary_of p (online head entered)) && not (among c (begun events))) (online head entered)

-- it stops at the first walk that fails, and before a walk where a wakeup is pending
abbrev pub freeze_next : (waking : Bool) → (failed : List Answer) → List ℕ → Next
freeze_next waking (answer ∷ more) todo = ends answer
freeze_next waking [] [] = ends (Ok (pos 0))
freeze_next waking [] (c ∷ cs) = if waking then ends (Refused EBUSY) else walks c OFFLINE

-- a thaw brings up those that are frozen and aren't up, each once
abbrev pub to_thaw : List Event → List ℕ
to_thaw events = filter (λ c. nat_lt (settled c events) ONLINE && not (among c (begun events))) (frozen events)

-- an upmany begins the walks of its batch in rising number, and ends when all have ended
abbrev pub batch_next : List ℕ → (walking : Bool) → Answer → Next
batch_next (c ∷ cs) walking answer = walks c ONLINE
batch_next [] true answer = nothing
batch_next [] false answer = ends answer

abbrev pub next : Head → List Event → (entered : List Event) → Op → Next
next head events entered (Up c) = single_next c ONLINE (settled c events) (answers events)
next head events entered (Down c) = single_next c OFFLINE (settled c events) (answers events)
next head events entered (Target c v) = single_next c (target_of v) (settled c events) (answers events)
next head events entered (Boot n) =
    boot_next (nat_le n (length (online head events))) (to_boot head events) (length (failures (answers events)))
next head events entered Disable = ends (Ok (pos 0))
next head events entered Enable = ends (Ok (pos 0))
next head events entered (Freeze p) =
    freeze_next (wakeup_pending events) (failures (answers events)) (to_freeze head p entered events)
next head events entered Thaw =
    first_next ONLINE (to_thaw events) (Ok (pos (length (failures (answers events)))))
next head events entered (UpMany set) =
    batch_next (unbegun (batch head entered (UpMany set)) events) (is_walking events)
    (Ok (pos (length (failures (answers events)))))
next head events entered _ = nothing

-- whether an operation may begin a walk: where none is in flight, and in an upmany beside others
abbrev pub is_between : Op → List Event → Bool
is_between op events = is_upmany op || not (is_walking events)

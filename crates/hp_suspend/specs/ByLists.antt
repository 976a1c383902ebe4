-- What comes next of a freeze, a thaw and a boot by what each keeps and the lists of the moment, of any lists with one
-- place for each processor; and what each keeps past a walk. After `freeze_secondary_cpus`, `thaw_secondary_cpus` and
-- `bringup_nonboot_cpus` of `kernel/cpu.c`; that thaw and boot count the walks that failed is this project's own.
use Rattle.std.specs.Prelude.{ℕ, ◌+◌, pos, Bool, false, not, ◌&&◌, ◌==◌, nat_le, nat_lt, if◌then◌else◌, Option, Some, None, List, [], length, filter, drop, slice_index, slice_index_or}
use Rattle.hp_states.specs.declared.limits.TheConstants.{ONLINE}
use Rattle.hp_event.specs.declared.answer.Answer.{Answer}
use Rattle.hp_event.specs.declared.answer.Answer.TheVariants.{Ok}
use Rattle.hp_event.specs.Answers.{is_ok}
use Rattle.hp_model.specs.Lists.{numbers}
use Rattle.hp_model.specs.Sequence.{Next, ends, first_next, boot_next, freeze_next}
use Rattle.hp_suspend.specs.declared.freeze.Freeze.{Freeze}
use Rattle.hp_suspend.specs.declared.thaw.Thaw.{Thaw}
use Rattle.hp_suspend.specs.declared.boot.Boot.{Boot}
use Rattle.hp_suspend.specs.Booting.{is_fault}

-- the processors that are online, in rising number
abbrev pub all_online : (online : List Bool) → List ℕ
all_online online = filter (λ c. slice_index_or online c false) (numbers (length online))

-- the processors that are online but for the one that is left so, in rising number
abbrev pub online_but : (primary : ℕ) → (online : List Bool) → List ℕ
online_but primary online = filter (λ c. slice_index_or online c false && not (c == primary)) (numbers (length online))

-- the frozen processors that stand below ONLINE, in rising number
abbrev pub frozen_below : (frozen : List Bool) → (settled : List ℕ) → List ℕ
frozen_below frozen settled =
    filter (λ c. slice_index_or frozen c false && nat_lt (slice_index settled c) ONLINE) (numbers (length frozen))

-- the present processors that are offline, in rising number
abbrev pub present_offline : (present online : List Bool) → List ℕ
present_offline present online =
    filter (λ c. slice_index_or present c false && not (slice_index_or online c false)) (numbers (length present))

-- how many are online
abbrev pub online_count : (online : List Bool) → ℕ
online_count online = length (filter (λ on. on) online)

-- a freeze ends with the answer that ended it early; else the lowest that is to go down walks, unless a wakeup is pending
abbrev pub freeze_by : (ended : Option Answer) → (wakeup : Bool) → (left : List ℕ) → Next
freeze_by (Some answer) wakeup left = ends answer
freeze_by None wakeup left = freeze_next wakeup [] left

abbrev pub next_of_freeze : Freeze → (online : List Bool) → (wakeup : Bool) → Next
next_of_freeze f online wakeup = freeze_by f.ended wakeup (online_but f.primary online)

-- a walk of a thaw that failed has left its processor below ONLINE: so many of the lowest were walked, and the next walks
abbrev pub next_of_thaw : Thaw → (frozen : List Bool) → (settled : List ℕ) → Next
next_of_thaw t frozen settled = first_next ONLINE (drop t.failed (frozen_below frozen settled)) (Ok (pos t.failed))

-- a walk of a boot that turned back has left its processor offline: so many of the lowest were walked, and the next walks
-- unless so many are online as are to be
abbrev pub next_of_boot : Boot → (present online : List Bool) → Next
next_of_boot b present online =
    boot_next (nat_le b.max (online_count online)) (drop b.turned_back (present_offline present online)) b.failed

-- past a walk: a freeze keeps the first answer that isn't Ok
abbrev pub ended_after : Answer → (ended : Option Answer) → Option Answer
ended_after answer (Some first) = Some first
ended_after answer None = if is_ok answer then None else Some answer

abbrev pub freeze_after : Freeze → Answer → Freeze
freeze_after f answer = record { primary = f.primary; ended = ended_after answer f.ended }

-- a thaw counts it if it failed
abbrev pub thaw_after : Thaw → Answer → Thaw
thaw_after t answer = record { failed = t.failed + (if is_ok answer then 0 else 1) }

-- and a boot counts beside that whether it turned back
abbrev pub boot_after : Boot → Answer → Boot
boot_after b answer =
    record {
      max = b.max;
      failed = b.failed + (if is_ok answer then 0 else 1);
      turned_back = b.turned_back + (if is_fault answer then 1 else 0);
    }

-- Where processors stand and at which state they are armed, by number; and that this is what a journal says. After
-- `st->state` and `st->fail` of `kernel/cpu.c`; what a stuck walk leaves is this project's own.
use Rattle.std.specs.Prelude.{◌≡◌, ◌<◌, ◌≤◌, ℕ, Bool, if◌then◌else◌, Option, List, length, map, count_by, slice_index, slice_set}
use Rattle.hp_states.specs.declared.limits.TheConstants.{MAX_CPUS, ONLINE}
use Rattle.hp_states.specs.CpuSets.{has}
use Rattle.hp_states.specs.declared.cpu_set.CpuSet.{CpuSet}
use Rattle.hp_states.specs.Sections.{is_online_state}
use Rattle.hp_event.specs.declared.head.Head.{Head}
use Rattle.hp_event.specs.declared.event.Event.{Event}
use Rattle.hp_model.specs.Settled.{settled}
use Rattle.hp_model.specs.Armed.{armed}
use Rattle.hp_model.specs.Processors.{is_present}
use Rattle.hp_account.specs.Flags.{AreFlags}
use Rattle.hp_account.specs.Places.{at_place}

-- what contracts see of the processors: the settled state of each, where it is armed, and whether it is present
pub record ProcessorsView : Type 0 where
  pub settled : List ℕ
  pub armed : List (Option ℕ)
  pub present : List Bool

-- just the processors that are online where they stand so are in a set
abbrev pub IsOnlineSet : (settled : List ℕ) → CpuSet → Type 0
IsOnlineSet settled set = (cpu : ℕ) → has set cpu ≡ is_online_state (slice_index settled cpu)

-- beside them stands which are online, as a list and as a set, and how many
pub record IsSound (settled : List ℕ) (online : List Bool) (set : CpuSet) (count : ℕ) : Type 0 where
  pub few : length settled ≤ MAX_CPUS
  pub online_is : online ≡ map is_online_state settled
  pub set_is : IsOnlineSet settled set
  pub counts : count ≡ count_by is_online_state settled

abbrev pub one_if : Bool → ℕ
one_if online = if online then 1 else 0

abbrev pub online_flags : ProcessorsView → List Bool
online_flags p = map is_online_state p.settled

-- how many are online
abbrev pub online_count : ProcessorsView → ℕ
online_count p = count_by is_online_state p.settled

abbrev pub with_settled : (cpu state : ℕ) → ProcessorsView → ProcessorsView
with_settled c s p = record p { settled = slice_set p.settled c s }

abbrev pub with_armed : (cpu : ℕ) → Option ℕ → ProcessorsView → ProcessorsView
with_armed c s p = record p { armed = slice_set p.armed c s }

pub record IsStanding (head : Head) (events : List Event) (p : ProcessorsView) : Type 0 where
  pub cpus : length p.settled ≡ head.possible
  pub settled_is : (c : ℕ) → c < head.possible → slice_index p.settled c ≡ settled c events
  pub highest : (c : ℕ) → slice_index p.settled c ≤ ONLINE
  pub armed_cpus : length p.armed ≡ head.possible
  pub armed_is : (c : ℕ) → c < head.possible → at_place p.armed c ≡ armed c events
  pub present_is : AreFlags (is_present head) head.possible p.present

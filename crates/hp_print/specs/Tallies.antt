-- What a tally of some events is, part by part. This project's own.
use Rattle.std.specs.Prelude.{◌≡◌, ℕ, ◌<◌, ◌+◌, Option, Some, None, List, [], length, map, slice_index_or}
use Rattle.hp_states.specs.declared.limits.TheConstants.{ONLINE}
use Rattle.hp_event.specs.declared.key.Key.{Key}
use Rattle.hp_event.specs.declared.op.Op.{Op}
use Rattle.hp_event.specs.declared.event.Event.{Event}
use Rattle.hp_event.specs.declared.head.Head.{Head}
use Rattle.hp_model.specs.InForce.{ups, downs}
use Rattle.hp_model.specs.Walks.{Walk, walk}
use Rattle.hp_model.specs.Settled.{settled}
use Rattle.hp_model.specs.MapLock.{Operation, operation}
use Rattle.hp_model.specs.Suspend.{disabled, frozen}
use Rattle.hp_model.specs.Registrations.{Registration, registration}
use Rattle.hp_model.specs.Registered.{Registered, registered, instances}
use Rattle.hp_model.specs.Calls.{sites}
use Rattle.hp_model.specs.Net.{entered}
use Rattle.hp_model.specs.Summary.{hook_faults, answered_by, ok, refused, fault, stuck, full}
use Rattle.hp_print.specs.declared.keys.KeyCount.{KeyCount}
use Rattle.hp_print.specs.declared.state_tally.Asked.{Asked}
use Rattle.hp_print.specs.Counts.{AreInOrder}
use Rattle.hp_print.specs.declared.suspend_tally.SuspendTally.{SuspendTally}
use Rattle.hp_print.specs.declared.processor_tally.ProcessorTally.{ProcessorTally}
use Rattle.hp_print.specs.declared.state_tally.StateTally.{StateTally}
use Rattle.hp_print.specs.declared.answer_counts.AnswerCounts.{AnswerCounts}
use Rattle.hp_print.specs.declared.tally.Tally.{Tally}

abbrev pub op_held : Option Operation → Option Op
op_held None = None
op_held (Some o) = Some o.op

pub record IsSuspendTally (events : List Event) (s : SuspendTally) : Type 0 where
  pub op : s.op ≡ op_held (operation events)
  pub disabled_is : s.disabled ≡ disabled events
  pub frozen_is : s.frozen.items ≡ frozen events

abbrev pub target_of : Option Walk → Option ℕ
target_of None = None
target_of (Some w) = Some w.to

abbrev pub count_of : (cpu : ℕ) → List Event → Key → KeyCount
count_of c events k = record { key = k; ups = ups c k.state k.inst events; downs = downs c k.state k.inst events }

-- how often the entries of each key of a processor are done
unfoldable pub counts_of : (cpu : ℕ) → List Event → List KeyCount
counts_of c events = map (count_of c events) (entered c events)

pub record IsProcessorTally (possible : ℕ) (events : List Event) (w : ProcessorTally) : Type 0 where
  pub as_many_settled : length w.settled.items ≡ possible
  pub as_many_targets : length w.targets.items ≡ possible
  pub as_many_keys : length w.keys.items ≡ possible
  pub settled_is : (c : ℕ) → c < possible → slice_index_or w.settled.items c 0 ≡ settled c events
  pub target_is : (c : ℕ) → c < possible → slice_index_or w.targets.items c None ≡ target_of (walk c events)
  pub keys_is : (c : ℕ) → c < possible → slice_index_or w.keys.items c [] ≡ counts_of c events
  pub order : (c : ℕ) → AreInOrder (slice_index_or w.keys.items c [])

abbrev pub asked_of : Option Registration → Option Asked
asked_of None = None
asked_of (Some r) = Some (record { state = r.state; op = r.op })

abbrev pub sub_of : Option Registered → Option ℕ
sub_of None = None
sub_of (Some r) = Some r.sub

pub record IsStateTally (head : Head) (many : ℕ) (events : List Event) (t : StateTally) : Type 0 where
  pub as_many_subs : length t.subs.items ≡ many
  pub as_many_insts : length t.insts.items ≡ many
  pub as_many_made : length t.made.items ≡ many
  pub as_many_faults : length t.faults.items ≡ many
  pub asked : t.asked ≡ asked_of (registration events)
  pub sub_is : (s : ℕ) → s < many → slice_index_or t.subs.items s None ≡ sub_of (registered head s events)
  pub insts_is : (s : ℕ) → s < many → slice_index_or t.insts.items s [] ≡ instances (registered head s events)
  pub made_is : (s : ℕ) → s < many → slice_index_or t.made.items s 0 ≡ length (sites s events)
  pub faults_is : (s : ℕ) → s < many → slice_index_or t.faults.items s 0 ≡ hook_faults s events

pub record IsAnswerCounts (events : List Event) (a : AnswerCounts) : Type 0 where
  pub ok_is : a.ok ≡ answered_by ok events
  pub refused_is : a.refused ≡ answered_by refused events
  pub fault_is : a.fault ≡ answered_by fault events
  pub stuck_is : a.stuck ≡ answered_by stuck events
  pub full_is : a.full ≡ answered_by full events

pub record IsTally (head : Head) (events : List Event) (t : Tally) : Type 0 where
  pub suspended_is : IsSuspendTally events t.suspended
  pub processors_is : IsProcessorTally head.possible events t.processors
  pub states_is : IsStateTally head (ONLINE + 1) events t.states
  pub answers_is : IsAnswerCounts events t.answers

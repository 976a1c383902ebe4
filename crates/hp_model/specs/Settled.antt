-- The settled state of a processor: where its last walk left it. After `st->state` of `kernel/cpu.c`;
-- what a stuck walk leaves is this project's own.
use Rattle.std.specs.Prelude.{ℕ, Bool, ◌==◌, if◌then◌else◌, Option, Some, None, List}
use Rattle.hp_states.specs.Sections.{is_online_state, first_state}
use Rattle.hp_event.specs.declared.answer.Answer.{Answer}
use Rattle.hp_event.specs.Leaves.{leaves_at}
use Rattle.hp_event.specs.declared.event.Event.{Event}
use Rattle.hp_event.specs.declared.event.Event.TheVariants.{WalkEnd}
use Rattle.hp_model.specs.Journal.{over}
use Rattle.hp_model.specs.Walks.{Walk, walk}

abbrev pub went_to : Option Walk → ℕ → ℕ
went_to None at = at
went_to (Some w) at = w.to

abbrev pub left_at : Answer → Option Walk → ℕ → ℕ
left_at answer w at = leaves_at answer (went_to w at) at

abbrev pub settled_step : (cpu : ℕ) → ℕ → List Event → Event → ℕ
settled_step c at before (WalkEnd seat cpu answer) = if cpu == c then left_at answer (walk c before) at else at
settled_step c at before _ = at

-- processor 0 begins at the highest state, the others at the lowest
unfoldable pub settled : (cpu : ℕ) → List Event → ℕ
settled c events = over (settled_step c) (first_state c) events

abbrev pub is_online : (cpu : ℕ) → List Event → Bool
is_online c events = is_online_state (settled c events)

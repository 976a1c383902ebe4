use Rattle.std.proofs.Common.{ℕ, ◌<◌}
use Rattle.std.specs.Prelude.{slice_index_or}
use Rattle.hp_event.specs.declared.event.Event.{Event}
use Rattle.hp_replay.specs.Fits.{EventFits}
use Rattle.hp_replay.proofs.fits.events_fit.Given as goal

abbrev pub invariant-loop-event : goal.invariant-loop-event
invariant-loop-event l = (k : ℕ) (d : Event) → k < l.event-index → EventFits (slice_index_or l.events k d)

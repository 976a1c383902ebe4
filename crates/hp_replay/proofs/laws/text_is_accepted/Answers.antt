use Rattle.std.proofs.Common.{List, inr, subst}
use Rattle.std.specs.List.{All}
use Rattle.hp_event.specs.declared.event.Event.{Event}
use Rattle.hp_replay.specs.Fits.{EventFits}
use Rattle.hp_replay.proofs.laws.text_is_accepted.Goals as goal

pub returns : goal.returns
returns c = λ lawful short is.
    let fit = subst (λ (events : List Event). All EventFits events) c.events.ensures c.events_fit.ensures in
    inr (short, record { journal = record { lawful = lawful; fit = fit; within = tt }; bytes_are = is })

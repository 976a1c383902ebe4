use Rattle.hp_model.proofs.Fronts.{none_above}
use Rattle.hp_model.proofs.next_seat.Goals as goal

pub returns : goal.returns
returns c = λ h seat le. none_above c.args.head.now c.args.events.now seat h le

use Rattle.hp_called.proofs.Follows.{begins_called}
use Rattle.hp_called.proofs.called.Called.new.Goals as goal

pub returns : goal.returns
returns c = λ head. begins_called head c.in_ok-new.field-0 c.in_ok-new.ensures

-- What an answer of `next` means: what comes next of the operation, a walk or its end. This project's own.
use Rattle.hp_model.specs.Sequence.{Next, walks, ends}
use Rattle.hp_suspend.specs.declared.asked.Asked.{Asked}
use Rattle.hp_suspend.specs.declared.asked.Asked.TheVariants.{Walk, Ended}

abbrev pub meaning : Asked → Next
meaning (Walk ask) = walks ask.cpu ask.to
meaning (Ended answer) = ends answer

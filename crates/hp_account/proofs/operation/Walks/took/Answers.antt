use Rattle.std.proofs.Common.{[], ◌∷◌, ◌++◌, subst}
use Rattle.hp_event.specs.declared.event.Event.TheVariants.{WalkEnd}
use Rattle.hp_account.specs.Operations.{AreWalks}
use Rattle.hp_account.proofs.OperationMore.{of_batch}
use Rattle.hp_account.proofs.operation.Walks.took.Goals as goal

pub returns-in-Batch : goal.returns-in-Batch
returns-in-Batch c = λ head entered events op seat cpu is.
    of_batch head entered events (events ++ WalkEnd seat cpu c.args.answer ∷ []) op c.in-Batch.batch c.took-in-Batch.new.self
    (subst (AreWalks head entered events op) c.in-Batch.is is)
    (λ set h. c.took-in-Batch.ensures.batching head entered events set seat cpu h)

-- An actor's job can go to another thread where the hooks can, as the pass in it can.
use denote.Param.Send
use denote.RattleType
use denote.Struct.Declared
use Rattle.std.below.std_heap.proofs.GlobalAllocator.TheSendSync as Heap
use Rattle.std.proofs.alloc.Global.TheSendSync as Global'
use Rattle.std.proofs.vec.Vec.TheSendSync as Vec'
use Rattle.std.specs.contracts.alloc.Global
use Rattle.std.specs.contracts.impls.GlobalAllocator.TheImpl as Allocator
use Rattle.hp_board.proofs.turn.Ask.TheSendSync as Ask'
use Rattle.hp_board.specs.contracts.turn.Ask
use Rattle.hp_hook.specs.declared.hook.Hook
use Rattle.hp_live.proofs.Sending.{parked_send}
use Rattle.hp_threads.specs.contracts.job.Job

module _ (T : RattleType.RattleType) where
  module _ (g : Hook.Ghosts T.Denot) where
    pub job_send : Send.IsSend T → Send.IsSend (Job.the_row T g)
    job_send = λ s. Send.recorded_send (Job.the_field T g).row _ _ (Job.the_type T g).to_one
        (Send.struct_send (Declared.shape (Job.the_type T g)) (
          parked_send T g s,
          (Vec'.the_send (Ask.the_row T) Global.the_row Allocator.ghosts (Ask'.the_send T s) Global'.the_send Heap.the_frees, tt),
        ))

-- The board, and passes on their way to a thread, can go to another thread where the hooks can: by hand for the types that hold a hook
-- as it was lent, since a snapshot has no such lemma of its own.
use denote.Builtin
use denote.Param.Send
use denote.RattleType
use denote.Struct.Declared
use Rattle.std.below.std_heap.proofs.GlobalAllocator.TheSendSync as Heap
use Rattle.std.proofs.alloc.Global.TheSendSync as Global'
use Rattle.std.proofs.option.Option.TheSendSync as Option'
use Rattle.std.proofs.vec.Vec.TheSendSync as Vec'
use Rattle.std.specs.contracts.alloc.Global
use Rattle.std.specs.contracts.impls.GlobalAllocator.TheImpl as Allocator
use Rattle.std.specs.contracts.option.Option
use Rattle.std.specs.contracts.snapshot.Snapshot
use Rattle.hp_account.proofs.account.Account.TheSendSync as Account'
use Rattle.hp_account.proofs.under_way.NextStep.TheSendSync as NextStep'
use Rattle.hp_account.specs.contracts.under_way.NextStep
use Rattle.hp_board.specs.contracts.board.Board
use Rattle.hp_board.specs.contracts.board.Board.TheInside as BoardInside
use Rattle.hp_called.proofs.called.Called.TheSendSync as Called'
use Rattle.hp_event.proofs.journal.Journal.TheSendSync as Journal'
use Rattle.hp_hook.specs.declared.hook.Hook
use Rattle.hp_live.specs.contracts.left.Left
use Rattle.hp_live.specs.contracts.left.Left.TheInside as LeftInside
use Rattle.hp_live.specs.contracts.live.Live
use Rattle.hp_live.specs.contracts.parked.Parked
use Rattle.hp_live.specs.contracts.parked.Parked.TheInside as ParkedInside
use Rattle.hp_live.specs.contracts.parked.ParkedAp
use Rattle.hp_live.specs.contracts.parked.ParkedAp.TheInside as ParkedApInside
use Rattle.hp_live.specs.contracts.sight.Sight
use Rattle.hp_live.specs.contracts.sight.Sight.TheInside as SightInside
use Rattle.hp_machine.specs.contracts.machine.Machine
use Rattle.hp_machine.specs.contracts.machine.Machine.TheInside as MachineInside
use Rattle.hp_states.proofs.cpu_set.CpuSet.TheSendSync as CpuSet'
use Rattle.hp_table.specs.contracts.record.Record
use Rattle.hp_table.specs.contracts.record.Record.TheInside as RecordInside
use Rattle.hp_table.specs.contracts.registered.Registered
use Rattle.hp_table.specs.contracts.registered.Registered.TheInside as RegisteredInside
use Rattle.hp_table.specs.contracts.table.Table
use Rattle.hp_table.specs.contracts.table.Table.TheInside as TableInside
use Rattle.hp_turn.proofs.pass.TurnPass.TheSendSync as TurnPass'

-- a snapshot has no bytes and owns nothing
pub snapshot_send : (R : RattleType.RattleType) → Send.IsSend (Snapshot.the_row R)
snapshot_send R = record { owned = λ d vs. ((λ vss. (tt, ((λ uss. (tt, tt)), tt))), tt); leaving = λ k f vs. tt }

module _ (T : RattleType.RattleType) where
  module _ (g : Hook.Ghosts T.Denot) where
    record_send : Send.IsSend T → Send.IsSend (Record.the_row T g)
    record_send = λ s. Send.view_send (RecordInside.the_row T g) _ _ _ _
        (Send.recorded_send (RecordInside.the_field T g).row _ _ (RecordInside.the_type T g).to_one
        (Send.struct_send (Declared.shape (RecordInside.the_type T g)) (
          Send.plain_send _ _ _ _ _,
          (
            Send.plain_send _ _ _ _ _,
            (
              Send.plain_send _ _ _ _ _,
              (
                Send.plain_send _ _ _ _ _,
                (
                  Option'.the_field_send T s,
                  (Option'.the_field_send (Snapshot.the_row T) (snapshot_send T), tt),
                ),
              ),
            ),
          ),
        )))

    registered_send : Send.IsSend T → Send.IsSend (Registered.the_row T g)
    registered_send = λ s. Send.view_send (RegisteredInside.the_row T g) _ _ _ _
        (Send.recorded_send (RegisteredInside.the_field T g).row _ _ (RegisteredInside.the_type T g).to_one
        (Send.struct_send (Declared.shape (RegisteredInside.the_type T g)) (
          record_send s,
          (Vec'.the_send Builtin.u32 Global.the_row Allocator.ghosts (Send.plain_send _ _ _ _ _) Global'.the_send Heap.the_frees, tt),
        )))

    table_send : Send.IsSend T → Send.IsSend (Table.the_row T g)
    table_send = λ s. Send.view_send (TableInside.the_row T g) _ _ _ _
        (Send.recorded_send (TableInside.the_field T g).row _ _ (TableInside.the_type T g).to_one
        (Send.struct_send (Declared.shape (TableInside.the_type T g)) (
          Vec'.the_send (Option.the_row (Registered.the_row T g)) Global.the_row Allocator.ghosts
              (Option'.the_send (Registered.the_row T g) (registered_send s)) Global'.the_send Heap.the_frees,
          (Send.plain_send _ _ _ _ _, (CpuSet'.the_field_send, tt)),
        )))

    machine_send : Send.IsSend T → Send.IsSend (Machine.the_row T g)
    machine_send = λ s. Send.view_send (MachineInside.the_row T g) _ _ _ _
        (Send.recorded_send (MachineInside.the_field T g).row _ _ (MachineInside.the_type T g).to_one
        (Send.struct_send (Declared.shape (MachineInside.the_type T g)) (
          Journal'.the_send,
          (
            Account'.the_field_send,
            (
              Option'.the_field_send NextStep.the_row NextStep'.the_send,
              (
                table_send s,
                (CpuSet'.the_field_send, tt),
              ),
            ),
          ),
        )))

    pub board_send : Send.IsSend T → Send.IsSend (Board.the_row T g)
    board_send = λ s. Send.view_send (BoardInside.the_row T g) _ _ _ _
        (Send.recorded_send (BoardInside.the_field T g).row _ _ (BoardInside.the_type T g).to_one
        (Send.struct_send (Declared.shape (BoardInside.the_type T g)) (machine_send s, (Called'.the_field_send, tt))))

    pub live_send : Send.IsSend T → Send.IsSend (Live.the_row T g)
    live_send = λ s. Send.recorded_send (Live.the_field T g).row _ _ (Live.the_type T g).to_one
        (Send.struct_send (Declared.shape (Live.the_type T g)) (board_send s, tt))

    sight_send : Send.IsSend T → Send.IsSend (Sight.the_row T g)
    sight_send = λ s. Send.view_send (SightInside.the_row T g) _ _ _ _
        (Send.recorded_send (SightInside.the_field T g).row _ _ (SightInside.the_type T g).to_one
        (Send.struct_send (Declared.shape (SightInside.the_type T g))
        (TurnPass'.the_send (Live.the_row T g) (live_send s), (Send.plain_send _ _ _ _ _, tt))))

    pub left_send : Send.IsSend T → Send.IsSend (Left.the_row T g)
    left_send = λ s. Send.view_send (LeftInside.the_row T g) _ _ _ _
        (Send.recorded_send (LeftInside.the_field T g).row _ _ (LeftInside.the_type T g).to_one
        (Send.struct_send (Declared.shape (LeftInside.the_type T g)) (sight_send s, (Send.plain_send _ _ _ _ _, tt))))

    pub parked_send : Send.IsSend T → Send.IsSend (Parked.the_row T g)
    parked_send = λ s. Send.view_send (ParkedInside.the_row T g) _ _ _ _
        (Send.recorded_send (ParkedInside.the_field T g).row _ _ (ParkedInside.the_type T g).to_one
        (Send.struct_send (Declared.shape (ParkedInside.the_type T g))
        (sight_send s, (Send.plain_send _ _ _ _ _, (Send.plain_send _ _ _ _ _, (Send.plain_send _ _ _ _ _, tt))))))

    pub parked_ap_send : Send.IsSend T → Send.IsSend (ParkedAp.the_row T g)
    parked_ap_send = λ s. Send.view_send (ParkedApInside.the_row T g) _ _ _ _
        (Send.recorded_send (ParkedApInside.the_field T g).row _ _ (ParkedApInside.the_type T g).to_one
        (Send.struct_send (Declared.shape (ParkedApInside.the_type T g))
        (sight_send s, (Send.plain_send _ _ _ _ _, (Send.plain_send _ _ _ _ _, (Send.plain_send _ _ _ _ _, tt))))))

use Rattle.std.proofs.Common.{◌∙◌}
use Rattle.hp_replay.specs.declared.first_word.EventWord.TheVariants as word
use Rattle.hp_replay.proofs.FirstWordLaws.{event_row, no_event, other_event}
use Rattle.hp_replay.proofs.event.event.Goals as goal

pub returns-in_err-word : goal.returns-in_err-word
returns-in_err-word c = c.from_residual.ensures ∙ no_event c.args.version c.args.words.now c.in_err-word.ensures.word

pub returns-in_err-event_word : goal.returns-in_err-event_word
returns-in_err-event_word c = c.from_residual-in_err-event_word.ensures ∙ other_event c.args.version c.args.words.now c.in_ok-word.word.now c.in_ok-word.ensures.word c.in_err-event_word.ensures

pub returns-in-Admit : goal.returns-in-Admit
returns-in-Admit c = event_row c.args.version word.Admit c.args.words.now _ c.in_ok-word.word.now c.in_ok-event_word.field-0 c.admit.result c.in_ok-word.ensures.word c.in_ok-word.ensures.rest c.in_ok-event_word.ensures c.in-Admit.is c.admit.ensures

pub returns-in-Leave : goal.returns-in-Leave
returns-in-Leave c = event_row c.args.version word.Leave c.args.words.now _ c.in_ok-word.word.now c.in_ok-event_word.field-0 c.leave.result c.in_ok-word.ensures.word c.in_ok-word.ensures.rest c.in_ok-event_word.ensures c.in-Leave.is c.leave.ensures

pub returns-in-Enter : goal.returns-in-Enter
returns-in-Enter c = event_row c.args.version word.Enter c.args.words.now _ c.in_ok-word.word.now c.in_ok-event_word.field-0 c.of_operation.result c.in_ok-word.ensures.word c.in_ok-word.ensures.rest c.in_ok-event_word.ensures c.in-Enter.is c.of_operation.ensures

pub returns-in-Refused : goal.returns-in-Refused
returns-in-Refused c = event_row c.args.version word.Refused c.args.words.now _ c.in_ok-word.word.now c.in_ok-event_word.field-0 c.of_operation-in-Refused.result c.in_ok-word.ensures.word c.in_ok-word.ensures.rest c.in_ok-event_word.ensures c.in-Refused.is c.of_operation-in-Refused.ensures

pub returns-in-Walk : goal.returns-in-Walk
returns-in-Walk c = event_row c.args.version word.Walk c.args.words.now _ c.in_ok-word.word.now c.in_ok-event_word.field-0 c.walk.result c.in_ok-word.ensures.word c.in_ok-word.ensures.rest c.in_ok-event_word.ensures c.in-Walk.is c.walk.ensures

pub returns-in-Call : goal.returns-in-Call
returns-in-Call c = event_row c.args.version word.Call c.args.words.now _ c.in_ok-word.word.now c.in_ok-event_word.field-0 c.call.result c.in_ok-word.ensures.word c.in_ok-word.ensures.rest c.in_ok-event_word.ensures c.in-Call.is c.call.ensures

pub returns-in-Walked : goal.returns-in-Walked
returns-in-Walked c = event_row c.args.version word.Walked c.args.words.now _ c.in_ok-word.word.now c.in_ok-event_word.field-0 c.walked.result c.in_ok-word.ensures.word c.in_ok-word.ensures.rest c.in_ok-event_word.ensures c.in-Walked.is c.walked.ensures

pub returns-in-Done : goal.returns-in-Done
returns-in-Done c = event_row c.args.version word.Done c.args.words.now _ c.in_ok-word.word.now c.in_ok-event_word.field-0 c.of_operation-in-Done.result c.in_ok-word.ensures.word c.in_ok-word.ensures.rest c.in_ok-event_word.ensures c.in-Done.is c.of_operation-in-Done.ensures

pub returns-in-Reg : goal.returns-in-Reg
returns-in-Reg c = event_row c.args.version word.Reg c.args.words.now _ c.in_ok-word.word.now c.in_ok-event_word.field-0 c.of_operation-in-Reg.result c.in_ok-word.ensures.word c.in_ok-word.ensures.rest c.in_ok-event_word.ensures c.in-Reg.is c.of_operation-in-Reg.ensures

pub returns-in-Regged : goal.returns-in-Regged
returns-in-Regged c = event_row c.args.version word.Regged c.args.words.now _ c.in_ok-word.word.now c.in_ok-event_word.field-0 c.of_operation-in-Regged.result c.in_ok-word.ensures.word c.in_ok-word.ensures.rest c.in_ok-event_word.ensures c.in-Regged.is c.of_operation-in-Regged.ensures

pub returns-in-Lock : goal.returns-in-Lock
returns-in-Lock c = event_row c.args.version word.Lock c.args.words.now _ c.in_ok-word.word.now c.in_ok-event_word.field-0 c.of_operation-in-Lock.result c.in_ok-word.ensures.word c.in_ok-word.ensures.rest c.in_ok-event_word.ensures c.in-Lock.is c.of_operation-in-Lock.ensures

pub returns-in-Unlock : goal.returns-in-Unlock
returns-in-Unlock c = event_row c.args.version word.Unlock c.args.words.now _ c.in_ok-word.word.now c.in_ok-event_word.field-0 c.of_operation-in-Unlock.result c.in_ok-word.ensures.word c.in_ok-word.ensures.rest c.in_ok-event_word.ensures c.in-Unlock.is c.of_operation-in-Unlock.ensures

pub returns-in-Armed : goal.returns-in-Armed
returns-in-Armed c = event_row c.args.version word.Armed c.args.words.now _ c.in_ok-word.word.now c.in_ok-event_word.field-0 c.of_operation-in-Armed.result c.in_ok-word.ensures.word c.in_ok-word.ensures.rest c.in_ok-event_word.ensures c.in-Armed.is c.of_operation-in-Armed.ensures

pub returns-in-Shown : goal.returns-in-Shown
returns-in-Shown c = event_row c.args.version word.Shown c.args.words.now _ c.in_ok-word.word.now c.in_ok-event_word.field-0 c.of_operation-in-Shown.result c.in_ok-word.ensures.word c.in_ok-word.ensures.rest c.in_ok-event_word.ensures c.in-Shown.is c.of_operation-in-Shown.ensures

pub returns-in-Wakeup : goal.returns-in-Wakeup
returns-in-Wakeup c = event_row c.args.version word.Wakeup c.args.words.now _ c.in_ok-word.word.now c.in_ok-event_word.field-0 c.of_operation-in-Wakeup.result c.in_ok-word.ensures.word c.in_ok-word.ensures.rest c.in_ok-event_word.ensures c.in-Wakeup.is c.of_operation-in-Wakeup.ensures

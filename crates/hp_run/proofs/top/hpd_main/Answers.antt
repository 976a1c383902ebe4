-- A script that the source holds isn't refused; a line that is written in part is one.
use Rattle.std.proofs.Common.{map, string_bytes, length, ap, subst}
use Rattle.hp_edge.proofs.Holding.{no_bad_script}
use Rattle.hp_run.specs.Commands.{AskFor, AskForSome}
use Rattle.hp_run.specs.Main.{refusal}
use Rattle.hp_run.proofs.Parts.{part_of}
use Rattle.hp_run.proofs.top.hpd_main.Goals as goal

pub returns-in-Err-Refused-clause-accepted : goal.returns-in-Err-Refused-clause-accepted
returns-in-Err-Refused-clause-accepted g c = λ run has source_faults sink_faults.
    let none = rw c.in-Err-Refused.field-0-is at c.in-Err-Refused.ensures.none in
    absurd
    (no_bad_script (length c.args.rack.hooks.items) (g.S.Source.left c.args.source.now) (g.S.Source.left c.text_of_command.new.source)
    c.in-Err-Refused.line.items has none.0)

pub returns-in-Err-Refused-clause-write_fault : goal.returns-in-Err-Refused-clause-write_fault
returns-in-Err-Refused-clause-write_fault g c = λ e.
    let f = c.write_answer-in-Err-Refused.ensures.fault e in
    let none = rw c.in-Err-Refused.field-0-is at c.in-Err-Refused.ensures.none in
    let asked : AskForSome (map string_bytes c.args.words.now.items) =
    record {
      command = c.in-Some.command;
      asked = subst (λ ws. AskFor c.in-Some.command (map string_bytes ws)) c.deref.ensures.value c.in-Some.ensures.some;
    } in (
      f.3,
      part_of refusal (map string_bytes c.args.words.now.items) (length c.args.rack.hooks.items) (g.S.Source.left c.args.source.now)
          (g.S.Source.left c.text_of_command.new.source) (g.K.Sink.taken c.args.sink.now)
          (g.K.Sink.taken c.write_answer-in-Err-Refused.new.sink) c.in-Err-Refused.line.items
          c.deref-in-Err-Refused.result.now (asked, none.0) c.deref-in-Err-Refused.ensures.value f.0 f.1 f.2,
    )

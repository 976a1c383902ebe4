-- What is written is an answer, whole or in part.
use Rattle.std.proofs.Common.{map, string_bytes, length, inl, ap, subst, refl, arith}
use Rattle.hp_command.specs.Commands.{IsCommand}
use Rattle.hp_play.specs.Main.{usage, refusal, bad_journal, usage_line}
use Rattle.hp_play.specs.Racks.{racks}
use Rattle.hp_play.proofs.Accepting.{no_refusal, no_journal_refusal}
use Rattle.hp_play.proofs.Parts.{part_of, no_command}
use Rattle.hp_play.proofs.top.hp_main.Goals as goal

pub returns-in-Ok-None-clause-bad_words : goal.returns-in-Ok-None-clause-bad_words
returns-in-Ok-None-clause-bad_words g c = λ e. record {
  bytes = usage_line;
  is_answer = (
    no_command (map string_bytes c.deref.result.now) (map string_bytes c.args.words.now.items) (g.S.Source.left c.args.source.now)
        (ap (map string_bytes) c.deref.ensures.value) (rw c.in-Ok-None.field-0-is at c.in-Ok-None.ensures.none),
    refl,
  );
  all = (c.write_answer.ensures.written (λ f. absurd (omega (arith, e, f)))).1;
}

pub returns-in-Ok-None-clause-write_fault : goal.returns-in-Ok-None-clause-write_fault
returns-in-Ok-None-clause-write_fault g c = λ e.
    let f = c.write_answer.ensures.fault e in (
      f.3,
      part_of usage (map string_bytes c.args.words.now.items)
          (racks g.H.Hook.counts c.args.rack.now.hooks.items c.args.rack.now.hooks.items)
          (g.S.Source.left c.args.source.now) (g.S.Source.left c.args.source.now) (g.K.Sink.taken c.args.sink.now)
          (g.K.Sink.taken c.write_answer.new.sink) usage_line usage_line (
            no_command (map string_bytes c.deref.result.now) (map string_bytes c.args.words.now.items) (g.S.Source.left c.args.source.now)
                (ap (map string_bytes) c.deref.ensures.value) (rw c.in-Ok-None.field-0-is at c.in-Ok-None.ensures.none),
            refl,
          ) refl f.0 f.1 f.2,
    )

pub returns-in-Err-BadScript-clause-write_fault : goal.returns-in-Err-BadScript-clause-write_fault
returns-in-Err-BadScript-clause-write_fault g c = λ e.
    let f = c.write_answer-in-Err-BadScript.ensures.fault e in
    let kept = (rw c.in-Err-BadScript.field-0-is at c.in-Err-BadScript.ensures.rack) (λ none. absurd (cc)) in
    let stop = rw c.in-Err-BadScript.field-0-is at c.in-Err-BadScript.ensures.stop in
    let asked = rw c.in-Ok-Some.field-0-is at c.in-Ok-Some.ensures.some in (
      f.3,
      part_of refusal (map string_bytes c.args.words.now.items)
          (racks g.H.Hook.counts c.args.rack.now.hooks.items c.output_of.new.rack.hooks.items)
          (g.S.Source.left c.args.source.now) (g.S.Source.left c.output_of.new.source) (g.K.Sink.taken c.args.sink.now)
          (g.K.Sink.taken c.write_answer-in-Err-BadScript.new.sink) c.in-Err-BadScript.line.items c.deref-in-Err-BadScript.result.now (
            record {
              command = c.in-Ok-Some.command;
              asked = subst (λ z. IsCommand z c.in-Ok-Some.command) (ap (map string_bytes) c.deref.ensures.value) asked;
              is = stop.0;
            },
            kept,
          ) c.deref-in-Err-BadScript.ensures.value f.0 f.1 f.2,
    )

pub returns-in-Err-BadJournal-clause-write_fault : goal.returns-in-Err-BadJournal-clause-write_fault
returns-in-Err-BadJournal-clause-write_fault g c = λ e.
    let f = c.write_answer-in-Err-BadJournal.ensures.fault e in
    let kept = (rw c.in-Err-BadJournal.field-0-is at c.in-Err-BadJournal.ensures.rack) (λ none. absurd (cc)) in
    let stop = rw c.in-Err-BadJournal.field-0-is at c.in-Err-BadJournal.ensures.stop in
    let asked = rw c.in-Ok-Some.field-0-is at c.in-Ok-Some.ensures.some in (
      f.3,
      part_of bad_journal (map string_bytes c.args.words.now.items)
          (racks g.H.Hook.counts c.args.rack.now.hooks.items c.output_of.new.rack.hooks.items)
          (g.S.Source.left c.args.source.now) (g.S.Source.left c.output_of.new.source) (g.K.Sink.taken c.args.sink.now)
          (g.K.Sink.taken c.write_answer-in-Err-BadJournal.new.sink) c.in-Err-BadJournal.line.items c.deref-in-Err-BadJournal.result.now (
            record {
              command = c.in-Ok-Some.command;
              asked = subst (λ z. IsCommand z c.in-Ok-Some.command) (ap (map string_bytes) c.deref.ensures.value) asked;
              is = stop.0;
            },
            kept,
          ) c.deref-in-Err-BadJournal.ensures.value f.0 f.1 f.2,
    )

pub returns-in-Ok-None-clause-accepted : goal.returns-in-Ok-None-clause-accepted
returns-in-Ok-None-clause-accepted g c = λ has source_faults sink_faults.
    let none =
    no_command (map string_bytes c.deref.result.now) (map string_bytes c.args.words.now.items) (g.S.Source.left c.args.source.now)
    (ap (map string_bytes) c.deref.ensures.value) (rw c.in-Ok-None.field-0-is at c.in-Ok-None.ensures.none) in
    absurd (none.other_words has.command has.asked)

pub returns-in-Err-BadScript-clause-accepted : goal.returns-in-Err-BadScript-clause-accepted
returns-in-Err-BadScript-clause-accepted g c = λ has source_faults sink_faults.
    let stop = rw c.in-Err-BadScript.field-0-is at c.in-Err-BadScript.ensures.stop in
    let asked = rw c.in-Ok-Some.field-0-is at c.in-Ok-Some.ensures.some in
    absurd
    (no_refusal (map string_bytes c.args.words.now.items) c.in-Ok-Some.command (length c.args.rack.now.hooks.items)
    (g.S.Source.left c.args.source.now) (g.S.Source.left c.output_of.new.source) c.in-Err-BadScript.line.items has
    (subst (λ z. IsCommand z c.in-Ok-Some.command) (ap (map string_bytes) c.deref.ensures.value) asked) stop.0)

pub returns-in-Err-BadJournal-clause-accepted : goal.returns-in-Err-BadJournal-clause-accepted
returns-in-Err-BadJournal-clause-accepted g c = λ has source_faults sink_faults.
    let stop = rw c.in-Err-BadJournal.field-0-is at c.in-Err-BadJournal.ensures.stop in
    let asked = rw c.in-Ok-Some.field-0-is at c.in-Ok-Some.ensures.some in
    absurd
    (no_journal_refusal (map string_bytes c.args.words.now.items) c.in-Ok-Some.command (length c.args.rack.now.hooks.items)
    (g.S.Source.left c.args.source.now) (g.S.Source.left c.output_of.new.source) c.in-Err-BadJournal.line.items has
    (subst (λ z. IsCommand z c.in-Ok-Some.command) (ap (map string_bytes) c.deref.ensures.value) asked) stop.0)

pub returns-in-Err-NoMemory-clause-no_memory : goal.returns-in-Err-NoMemory-clause-no_memory
returns-in-Err-NoMemory-clause-no_memory g c = λ e.
    let asked = rw c.in-Ok-Some.field-0-is at c.in-Ok-Some.ensures.some in (
      inl (
        c.in-Ok-Some.command,
        subst (λ z. IsCommand z c.in-Ok-Some.command) (ap (map string_bytes) c.deref.ensures.value) asked,
      ),
      refl,
    )

-- What is written is an answer, whole or in part.
use Rattle.std.proofs.Common.{map, string_bytes, ap, subst, refl, arith}
use Rattle.hp_view.specs.Options.{IsAsked}
use Rattle.hp_view.specs.Main.{usage, bad_window, bad_journal, usage_line}
use Rattle.hp_view.proofs.Accepting.{no_bad_journal, no_bad_window}
use Rattle.hp_view.proofs.ClapTakes.{can_be}
use Rattle.hp_view.proofs.OptionLaws.{begins}
use Rattle.hp_view.proofs.Parts.{part_of, nothing_asked}
use Rattle.hp_view.proofs.top.view_main.Goals as goal

pub returns-in-Ok-None-clause-bad_words : goal.returns-in-Ok-None-clause-bad_words
returns-in-Ok-None-clause-bad_words g c = λ e. record {
  bytes = usage_line;
  is_answer =
      nothing_asked (map string_bytes c.deref.result.now) (map string_bytes c.args.words.now.items) (g.S.Source.left c.args.source.now)
      (ap (map string_bytes) c.deref.ensures.value) (rw c.in-Ok-None.field-0-is at c.in-Ok-None.ensures.none);
  all = (c.write_answer.ensures.written (λ f. absurd (omega (arith, e, f)))).1;
}

pub returns-in-Ok-None-clause-write_fault : goal.returns-in-Ok-None-clause-write_fault
returns-in-Ok-None-clause-write_fault g c = λ e.
    let f = c.write_answer.ensures.fault e in (
      f.3,
      part_of usage (map string_bytes c.args.words.now.items) (g.S.Source.left c.args.source.now) (g.S.Source.left c.args.source.now)
          (g.K.Sink.taken c.args.sink.now) (g.K.Sink.taken c.write_answer.new.sink) usage_line usage_line
          (nothing_asked (map string_bytes c.deref.result.now) (map string_bytes c.args.words.now.items) (g.S.Source.left c.args.source.now)
          (ap (map string_bytes) c.deref.ensures.value) (rw c.in-Ok-None.field-0-is at c.in-Ok-None.ensures.none)) refl f.0 f.1 f.2,
    )

pub returns-in-Err-BadWindow-clause-write_fault : goal.returns-in-Err-BadWindow-clause-write_fault
returns-in-Err-BadWindow-clause-write_fault g c = λ e.
    let f = c.write_answer-in-Err-BadWindow.ensures.fault e in
    let stop = rw c.in-Err-BadWindow.field-0-is at c.in-Err-BadWindow.ensures.stop in
    let asked = rw c.in-Ok-Some.field-0-is at c.in-Ok-Some.ensures.some in (
      f.3,
      part_of bad_window (map string_bytes c.args.words.now.items) (g.S.Source.left c.args.source.now)
          (g.S.Source.left c.shown.new.source) (g.K.Sink.taken c.args.sink.now)
          (g.K.Sink.taken c.write_answer-in-Err-BadWindow.new.sink) c.in-Err-BadWindow.line.items c.deref-in-Err-BadWindow.result.now
          (record {
            asked = c.in-Ok-Some.asked;
            is_asked = subst (λ z. IsAsked z c.in-Ok-Some.asked) (ap (map string_bytes) c.deref.ensures.value) asked;
            is = stop.0;
          }) c.deref-in-Err-BadWindow.ensures.value f.0 f.1 f.2,
    )

pub returns-in-Err-BadJournal-clause-write_fault : goal.returns-in-Err-BadJournal-clause-write_fault
returns-in-Err-BadJournal-clause-write_fault g c = λ e.
    let f = c.write_answer-in-Err-BadJournal.ensures.fault e in
    let stop = rw c.in-Err-BadJournal.field-0-is at c.in-Err-BadJournal.ensures.stop in
    let asked = rw c.in-Ok-Some.field-0-is at c.in-Ok-Some.ensures.some in (
      f.3,
      part_of bad_journal (map string_bytes c.args.words.now.items) (g.S.Source.left c.args.source.now)
          (g.S.Source.left c.shown.new.source) (g.K.Sink.taken c.args.sink.now)
          (g.K.Sink.taken c.write_answer-in-Err-BadJournal.new.sink) c.in-Err-BadJournal.line.items c.deref-in-Err-BadJournal.result.now
          (record {
            asked = c.in-Ok-Some.asked;
            is_asked = subst (λ z. IsAsked z c.in-Ok-Some.asked) (ap (map string_bytes) c.deref.ensures.value) asked;
            is = stop.0;
          }) c.deref-in-Err-BadJournal.ensures.value f.0 f.1 f.2,
    )

pub returns-in-Ok-None-clause-accepted : goal.returns-in-Ok-None-clause-accepted
returns-in-Ok-None-clause-accepted g c = λ has source_faults sink_faults.
    let none =
    nothing_asked (map string_bytes c.deref.result.now) (map string_bytes c.args.words.now.items) (g.S.Source.left c.args.source.now)
    (ap (map string_bytes) c.deref.ensures.value) (rw c.in-Ok-None.field-0-is at c.in-Ok-None.ensures.none) in
    absurd (none.other_words has.asked has.is_asked)

pub returns-in-Err-BadWindow-clause-accepted : goal.returns-in-Err-BadWindow-clause-accepted
returns-in-Err-BadWindow-clause-accepted g c = λ has source_faults sink_faults.
    let stop = rw c.in-Err-BadWindow.field-0-is at c.in-Err-BadWindow.ensures.stop in
    let asked = rw c.in-Ok-Some.field-0-is at c.in-Ok-Some.ensures.some in
    absurd
    (no_bad_window (map string_bytes c.args.words.now.items) c.in-Ok-Some.asked (g.S.Source.left c.args.source.now)
    (g.S.Source.left c.shown.new.source) c.in-Err-BadWindow.line.items
    (subst (λ z. IsAsked z c.in-Ok-Some.asked) (ap (map string_bytes) c.deref.ensures.value) asked) has stop.0)

pub returns-in-Err-BadJournal-clause-accepted : goal.returns-in-Err-BadJournal-clause-accepted
returns-in-Err-BadJournal-clause-accepted g c = λ has source_faults sink_faults.
    let stop = rw c.in-Err-BadJournal.field-0-is at c.in-Err-BadJournal.ensures.stop in
    absurd
    (no_bad_journal (map string_bytes c.args.words.now.items) (g.S.Source.left c.args.source.now)
    (g.S.Source.left c.shown.new.source) c.in-Err-BadJournal.line.items has stop.0)

pub returns-in-Err-NoMemory-clause-no_memory : goal.returns-in-Err-NoMemory-clause-no_memory
returns-in-Err-NoMemory-clause-no_memory g c = λ e.
    let asked = rw c.in-Ok-Some.field-0-is at c.in-Ok-Some.ensures.some in
    let is : IsAsked (map string_bytes c.args.words.now.items) c.in-Ok-Some.asked =
    subst (λ z. IsAsked z c.in-Ok-Some.asked) (ap (map string_bytes) c.deref.ensures.value) asked in (
      can_be (map string_bytes c.args.words.now.items) is.start is.stop is.spelled (begins is.start c.in-Ok-Some.asked.start is.start_is)
          (begins is.stop c.in-Ok-Some.asked.stop is.stop_is),
      refl,
    )

use Rattle.std.proofs.Common.{[], subst}
use Rattle.std.proofs.lemmas.Result.{err_from_is_err_and}
use Rattle.hp_replay.specs.LinesLeft.{LinesLeft}
use Rattle.hp_replay.specs.Stages.{begins, among_events, whole}
use Rattle.hp_replay.specs.Judged.{accepted}
use Rattle.hp_replay.specs.Reading.{GoesOver, RefusedFrom}
use Rattle.hp_replay.proofs.ReadingLaws.{goes_on, refused_later}
use Rattle.hp_replay.proofs.SummaryReading.{all_of, is_refusal, is_replay, is_head, judged_over}
use Rattle.hp_replay.proofs.replay.read.Goals as goal

pub returns-in_err-head-clause-refused : goal.returns-in_err-head-clause-refused
returns-in_err-head-clause-refused c =
    let p = err_from_is_err_and c.from_residual.result c.from_residual.ensures.1 in
    let bad = subst (λ (a : LinesLeft). RefusedFrom c.args.version begins a c.in_err-head.field-0.0) c.of-lines.ensures c.in_err-head.ensures.bad in
    rw (p.1, p.2) (is_refusal c.args.version c.args.bytes.now _ c.if-bytes.false bad)

pub read_events-requires : goal.read_events-requires
read_events-requires c =
    let head = c.in_ok-head.head in
    let gone = subst (λ (a : LinesLeft). GoesOver c.args.version a begins c.read_head.new.lines (among_events head [])) c.of-lines.ensures c.in_ok-head.ensures.ok in
    is_head c.args.version c.args.bytes.now c.read_head.new.lines head gone

pub returns-in_err-journal-clause-refused : goal.returns-in_err-journal-clause-refused
returns-in_err-journal-clause-refused c =
    let p = err_from_is_err_and c.from_residual-in_err-journal.result c.from_residual-in_err-journal.ensures.1 in
    let head = c.in_ok-head.head in
    let gone = subst (λ (a : LinesLeft). GoesOver c.args.version a begins c.read_head.new.lines (among_events head [])) c.of-lines.ensures c.in_ok-head.ensures.ok in
    rw (p.1, p.2) (is_refusal c.args.version c.args.bytes.now _ c.if-bytes.false (refused_later c.args.version (all_of c.args.bytes.now) c.read_head.new.lines begins (among_events head []) _ gone c.in_err-journal.ensures.bad))

pub returns-in_err-text-clause-refused : goal.returns-in_err-text-clause-refused
returns-in_err-text-clause-refused c =
    let p = err_from_is_err_and c.from_residual-in_err-text.result c.from_residual-in_err-text.ensures.1 in
    let head = c.in_ok-head.head in
    let journal = c.in_ok-journal.journal in
    let end = whole journal.head journal.events in
    let start = all_of c.args.bytes.now in
    let gone = subst (λ (a : LinesLeft). GoesOver c.args.version a begins c.read_head.new.lines (among_events head [])) c.of-lines.ensures c.in_ok-head.ensures.ok in
    let all = goes_on c.args.version start c.read_head.new.lines c.read_events.new.lines begins (among_events head []) end gone c.in_ok-journal.ensures.ok in
    rw (p.1, p.2) (is_refusal c.args.version c.args.bytes.now _ c.if-bytes.false (refused_later c.args.version start c.read_events.new.lines begins end _ all (c.in_err-text.ensures.bad c.args.version)))

pub returns-clause-journal : goal.returns-clause-journal
returns-clause-journal c =
    let head = c.in_ok-head.head in
    let journal = c.in_ok-journal.journal in
    let end = whole journal.head journal.events in
    let start = all_of c.args.bytes.now in
    let gone = subst (λ (a : LinesLeft). GoesOver c.args.version a begins c.read_head.new.lines (among_events head [])) c.of-lines.ensures c.in_ok-head.ensures.ok in
    let all = goes_on c.args.version start c.read_head.new.lines c.read_events.new.lines begins (among_events head []) end gone c.in_ok-journal.ensures.ok in
    let over = accepted journal.head journal.events in
    is_replay c.args.version c.args.bytes.now over c.if-bytes.false (judged_over c.args.version start c.read_events.new.lines begins end over all (c.in_ok-text.ensures.ok c.args.version))

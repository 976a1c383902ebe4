use Rattle.std.proofs.Common.{[]}
use Rattle.std.proofs.lemmas.Result.{err_from_is_err_and, IfOk-weaker, IfErr-weaker}
use Rattle.hp_replay.specs.Stages.{begins, titled, counted, headed, among_events}
use Rattle.hp_replay.specs.Reading.{GoesOver}
use Rattle.hp_replay.proofs.ReadingLaws.{stays, goes_on, goes_one, refused_here, refused_later}
use Rattle.hp_replay.proofs.head.read_head.Goals as goal

pub returns-in_err-head-clause-bad : goal.returns-in_err-head-clause-bad
returns-in_err-head-clause-bad c =
    let p = err_from_is_err_and c.from_residual-in_err-head.result c.from_residual-in_err-head.ensures.1 in
    let start = c.args.lines.now in
    let title : GoesOver c.args.version start begins c.expect.new.self titled = goes_one c.args.version start start c.expect.new.self _ _ begins begins titled (stays c.args.version start begins) c.in_ok-line.ensures.line c.in_ok-take_title.ensures.ok in
    let cpus : GoesOver c.args.version start begins c.expect-2.new.self (counted c.in_ok-possible.possible) = goes_one c.args.version start c.expect.new.self c.expect-2.new.self _ _ begins titled (counted c.in_ok-possible.possible) title c.in_ok-line-2.ensures.line c.in_ok-possible.ensures.ok in
    rw (p.1, p.2) (refused_here c.args.version start c.expect-2.new.self c.expect-3.new.self _ _ begins (counted c.in_ok-possible.possible) _ cpus c.in_ok-line-3.ensures.line (c.in_err-head.ensures.bad c.args.version))

pub returns-clause-ok : goal.returns-clause-ok
returns-clause-ok c =
    let start = c.args.lines.now in
    let title : GoesOver c.args.version start begins c.expect.new.self titled = goes_one c.args.version start start c.expect.new.self _ _ begins begins titled (stays c.args.version start begins) c.in_ok-line.ensures.line c.in_ok-take_title.ensures.ok in
    let cpus : GoesOver c.args.version start begins c.expect-2.new.self (counted c.in_ok-possible.possible) = goes_one c.args.version start c.expect.new.self c.expect-2.new.self _ _ begins titled (counted c.in_ok-possible.possible) title c.in_ok-line-2.ensures.line c.in_ok-possible.ensures.ok in
    let absent : GoesOver c.args.version start begins c.expect-3.new.self (headed c.in_ok-head.head) = goes_one c.args.version start c.expect-2.new.self c.expect-3.new.self _ _ begins (counted c.in_ok-possible.possible) (headed c.in_ok-head.head) cpus c.in_ok-line-3.ensures.line (c.in_ok-head.ensures.ok c.args.version) in
    IfOk-weaker c.read_subs.result _ _ (λ all more. goes_on c.args.version start c.expect-3.new.self c.read_subs.new.lines begins (headed c.in_ok-head.head) (among_events all []) absent more) c.read_subs.ensures.ok

pub returns-clause-bad : goal.returns-clause-bad
returns-clause-bad c =
    let start = c.args.lines.now in
    let title : GoesOver c.args.version start begins c.expect.new.self titled = goes_one c.args.version start start c.expect.new.self _ _ begins begins titled (stays c.args.version start begins) c.in_ok-line.ensures.line c.in_ok-take_title.ensures.ok in
    let cpus : GoesOver c.args.version start begins c.expect-2.new.self (counted c.in_ok-possible.possible) = goes_one c.args.version start c.expect.new.self c.expect-2.new.self _ _ begins titled (counted c.in_ok-possible.possible) title c.in_ok-line-2.ensures.line c.in_ok-possible.ensures.ok in
    let absent : GoesOver c.args.version start begins c.expect-3.new.self (headed c.in_ok-head.head) = goes_one c.args.version start c.expect-2.new.self c.expect-3.new.self _ _ begins (counted c.in_ok-possible.possible) (headed c.in_ok-head.head) cpus c.in_ok-line-3.ensures.line (c.in_ok-head.ensures.ok c.args.version) in
    IfErr-weaker c.read_subs.result _ _ (λ e bad. refused_later c.args.version start c.expect-3.new.self begins (headed c.in_ok-head.head) e absent bad) c.read_subs.ensures.bad

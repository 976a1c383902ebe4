use Rattle.hp_print.specs.Tallies.{IsTally}
use Rattle.hp_print.proofs.SummaryText.{tally_same}
use Rattle.hp_print.proofs.summary_lines.append_summary.Goals as goal

pub returns : goal.returns
returns c =
    let tallied : IsTally c.args.journal.now.head c.args.journal.now.events c.in_ok-tally.tally =
    rw (← c.head.ensures, ← c.events.ensures) c.in_ok-tally.ensures
    in
    let same = tally_same c.args.journal.now.head c.args.journal.now.events c.in_ok-tally.tally tallied in
    let written = c.append_tally.ensures in
    rw (c.head-2.ensures, c.events-2.ensures, same) at written

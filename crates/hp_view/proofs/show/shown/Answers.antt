use Rattle.hp_view.proofs.Parts.{no_window}
use Rattle.hp_view.proofs.show.shown.Goals as goal

pub returns-clause-stop : goal.returns-clause-stop
returns-clause-stop g c = (
  no_window c.args.asked (g.S.Source.left c.args.source.now) (g.S.Source.left c.read_input.new.source) c.in-Ok.bytes.items
      c.in-Ok-check.journal.head c.in-Ok-check.journal.events c.len.result c.len-in-None.result
      c.in_ok-window_error_line-in-None.field-0.items c.in-Ok.ensures.read
      (rw c.deref.ensures.value at c.in-Ok-check.ensures.journal) c.in-None.ensures.none c.len.ensures.count
      c.in_ok-window_error_line-in-None.ensures c.len-in-None.ensures.count,
  c.in-Ok.ensures.faults,
)

use Rattle.std.proofs.Common.{◌∙◌}
use Rattle.hp_account.proofs.HookAsked.{flight_asks, flight_over}
use Rattle.hp_account.proofs.flights.Flight.hook_asked.Goals as goal

pub returns-in-Call : goal.returns-in-Call
returns-in-Call g c = λ head events thread one beside s i d how entry.
    c.hook_at.ensures
    ∙ flight_asks head events c.args.self.now c.args.table.now c.args.armed thread c.in-Call.key c.in-Call.dir c.in-Call.place c.in-Call.first
    c.made_by_in_walk.result one beside c.in-Call.ensures.asked c.requires c.made_by_in_walk.ensures s i d how entry

pub returns-in-Ended : goal.returns-in-Ended
returns-in-Ended g c = λ head events thread one beside s i d how entry.
    absurd (flight_over head events c.args.self.now c.args.table.now c.args.armed thread _ one beside
    c.in-Ended.ensures.asked s i d how entry)

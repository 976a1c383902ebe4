use Rattle.std.proofs.Common.{◌≡◌, ℕ, cond, sym, subst, rules}
use Rattle.std.specs.Prelude.{Some, option_map}
use Rattle.hp_states.specs.Sections.{is_ap_state}
use Rattle.hp_walk.specs.Cursor.{cpu_of}
use Rattle.hp_account.specs.declared.under_way.NextStep.TheVariants as coming
use Rattle.hp_account.specs.WalkComing.{IsNextOn}
use Rattle.hp_account.proofs.WalkComing.{flight_entry, flight_end, entry_at}
use Rattle.hp_account.proofs.flights.Flight.next.Goals as goal
use Rattle.hp_account.proofs.flights.Flight.next.Goals.{then-is_ap, else-is_ap}

pub returns-after-is_ap : goal.returns-after-is_ap
returns-after-is_ap g c =
    let seat : c.if-is_ap.seat ≡ cond (is_ap_state c.in-Call.key.state) c.args.thread (Some c.args.self.now.seat) =
    elim c.if-is_ap.branch [ then-is_ap w ↦ search rules | else-is_ap w ↦ search rules ] in
    let entry : c.map-entry.result ≡ option_map (entry_at c.cpu-cpu.result c.in-Call.key c.in-Call.dir c.in-Call.place c.made_by_in_walk-made_by.result) c.if-is_ap.seat =
    search rules in
    let there = rw c.cpu-cpu.ensures at entry in
    λ head events one beside.
    let P : ℕ → Type 0 = λ cpu. IsNextOn head events (cpu_of c.args.self.now.walk) (coming.Entry c.args.self.now.seat cpu c.map-entry.result) in
    subst P (sym c.cpu-cpu.ensures)
    (flight_entry head events c.args.self.now c.args.table.now c.args.armed c.args.thread c.in-Call.key c.in-Call.dir c.in-Call.place
    c.in-Call.first c.made_by_in_walk-made_by.result c.if-is_ap.seat c.map-entry.result one beside c.in-Call.ensures.asked c.requires
    c.made_by_in_walk-made_by.ensures seat there)

pub returns-in-Ended : goal.returns-in-Ended
returns-in-Ended g c = λ head events one beside.
    rw c.cpu-cpu.ensures
    (flight_end head events c.args.self.now c.args.table.now c.args.armed c.args.thread c.in-Ended.answer one beside c.in-Ended.ensures.asked)

-- Why there is no script is why nothing is played; which generated scripts can be.
use Rattle.std.proofs.Common.{◌≡◌, ℕ, ◌<◌, Option, Bool, true, false, ltb, List, Result, Ok, Err, IfErr, arith, refl, sym, subst}
use Rattle.std.proofs.lemmas.Bool.{ltb-true, ltb-false}
use Rattle.hp_command.specs.declared.command.Command.{Command}
use Rattle.hp_command.specs.declared.command.Command.TheVariants as asks
use Rattle.hp_command.specs.Commands.{IsCommand}
use Rattle.hp_command.specs.declared.options.Options.{Options}
use Rattle.hp_edge.specs.declared.script.NoScript.{NoScript}
use Rattle.hp_edge.specs.declared.script.NoScript.TheVariants as no_script
use Rattle.hp_edge.specs.Scripts.{counted_hooks}
use Rattle.hp_edge.specs.Scripts as edge
use Rattle.hp_model.specs.Lists.{numbers}
use Rattle.hp_model.specs.Processors.{is_present}
use Rattle.hp_model.proofs.SumLemmas.{length-filter_le, length-numbers}
use Rattle.hp_script.specs.Generated.{generated}
use Rattle.hp_script.specs.Script.{Contents}
use Rattle.hp_script.proofs.PlayableScripts.{read_scripts_play}
use Rattle.hp_script.specs.Judged.{IsRead, IsRefused}
use Rattle.hp_script.specs.declared.error.ScriptKind.{ScriptKind}
use Rattle.hp_script.proofs.GeneratedScripts.{is_read}
use Rattle.hp_play.specs.declared.stop.Stop.{Stop}
use Rattle.hp_play.specs.declared.stop.Stop.TheVariants.{BadScript, BadJournal, ReadFault, NoMemory}
use Rattle.hp_play.specs.Controlled.{HasSeatMore}
use Rattle.hp_play.specs.Ranges.{AreInRange}
use Rattle.hp_play.specs.Stops.{HasRanges, Stops, StopsScript, Refuses, stop_of}

-- the stop says why there is no script
pub refuses_stop : (hooks : ℕ) (bytes : List ℕ) (e : NoScript) (stop : Stop) → stop ≡ stop_of e → edge.Refuses hooks bytes e →
    Refuses hooks bytes stop
refuses_stop hooks bytes e stop is why = subst (Refuses hooks bytes) (sym is) (go e why)
  where
    go : (e : NoScript) → edge.Refuses hooks bytes e → Refuses hooks bytes (stop_of e)
    go (no_script.Refused line) why = why
    go no_script.ReadFault why = why
    go no_script.NoMemory why = why

pub stops_script : (hooks : ℕ) (left now : Option (List ℕ)) (faults faults_now : ℕ) (e : NoScript) (stop : Stop) → stop ≡ stop_of e →
    edge.Stops hooks left now faults faults_now e → StopsScript hooks left now faults faults_now stop
stops_script hooks left now faults faults_now e stop is why = subst (StopsScript hooks left now faults faults_now) (sym is) (go e why)
  where
    go : (e : NoScript) → edge.Stops hooks left now faults faults_now e → StopsScript hooks left now faults faults_now (stop_of e)
    go (no_script.Refused line) why = why
    go no_script.ReadFault why = why
    go no_script.NoMemory why = why

-- a script that is read leaves a seat
pub seat_more : (hooks : ℕ) (bytes : List ℕ) (script : Contents) → IsRead hooks bytes script → HasSeatMore script
seat_more hooks bytes script read =
    let p = read_scripts_play hooks bytes script read in
    let head = script.head in
    omega (arith, length-filter_le (λ c. is_present head c) (numbers head.possible), length-numbers head.possible, p.plays.head_is.few_possible, p.few_actors)

-- the words of a command have its options in their ranges
pub ranges : (words : List (List ℕ)) (command : Command) → IsCommand words command → HasRanges command
ranges words (asks.Gen options) is =
    (is.goes_on.said.seed_fits, is.goes_on.said.size_within.0, is.goes_on.said.size_within.1)
ranges words (asks.Bench options) is =
    (is.goes_on.said.seed_fits, is.goes_on.said.size_within.0, is.goes_on.said.size_within.1)
ranges words (asks.Count counting) is = (is.goes_on.state_within, is.goes_on.batch_within)
ranges words (asks.Smt controlling) is = is.goes_on.within
ranges words command is = tt

-- a generated script is refused for want of hooks alone
few_hooks : (hooks seed size number : ℕ) (kind : ScriptKind) → AreInRange seed size →
    IsRefused (counted_hooks hooks) (generated seed size) number kind → hooks < 12
few_hooks hooks seed size number kind r refused = go (ltb hooks 12) refl
  where
    go : (b : Bool) → ltb hooks 12 ≡ b → hooks < 12
    go true e = ltb-true hooks 12 e
    go false e =
        let many = ltb-false hooks 12 e in
        absurd (is_read (counted_hooks hooks) seed size (omega (arith, many)) r.0 r.2 number kind refused)

pub bench_stops : {X : Type 0} (options : Options) (hooks : ℕ) (left : Option (List ℕ)) (faults : ℕ) (r : Result X Stop) →
    AreInRange options.seed options.size → IfErr r (Refuses hooks (generated options.seed options.size)) →
    IfErr r (Stops (asks.Bench options) hooks left left faults faults)
bench_stops options hooks left faults (Ok x) range refuses = tt
bench_stops options hooks left faults (Err (BadScript line)) range refuses = (
  record {
    unread = refl;
    line = refuses.line;
    kind = refuses.kind;
    refused = refuses.refused;
    few_hooks = few_hooks hooks options.seed options.size refuses.line refuses.kind range refuses.refused;
    written_is = refuses.written_is;
  },
  refl,
)
bench_stops options hooks left faults (Err (BadJournal line)) range refuses = absurd refuses
bench_stops options hooks left faults (Err ReadFault) range refuses = absurd refuses
bench_stops options hooks left faults (Err NoMemory) range refuses = refl

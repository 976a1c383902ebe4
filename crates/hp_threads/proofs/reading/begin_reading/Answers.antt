-- A lock is asked for until it is answered.
use Rattle.std.proofs.Common.{subst}
use Rattle.hp_live.specs.ReadSections.{IsReadRefusal}
use Rattle.hp_live.specs.declared.reading.ReadRefusal.{ReadRefusal}
use Rattle.hp_threads.proofs.Locking.{full_done, locked_done, waits_more}
use Rattle.hp_threads.proofs.reading.begin_reading.Goals as goal

pub returns-in-Ok-clause-done : goal.returns-in-Ok-clause-done
returns-in-Ok-clause-done g c =
    locked_done c.args.pass c.loop.pass c.in-Ok.read.pass.front c.loop.invariant c.in-Ok.ensures.locked

pub returns-in-Err-LogFull-default-clause-done : goal.returns-in-Err-LogFull-default-clause-done
returns-in-Err-LogFull-default-clause-done g c =
    let i = c.in-Err-LogFull-default in
    full_done c.args.pass c.loop.pass i.back c.loop.invariant i.ensures.none
    (subst (λ (r : ReadRefusal). IsReadRefusal c.loop.pass.head c.loop.pass.seat i.back.front r) i.field-0-0-is i.ensures.refused)

pub loop-preserved : goal.loop-preserved
loop-preserved g c =
    let i = c.in-Err-NoMemory-default in
    waits_more c.args.pass c.loop.pass i.back c.loop.invariant i.ensures.back i.ensures.idle i.ensures.none

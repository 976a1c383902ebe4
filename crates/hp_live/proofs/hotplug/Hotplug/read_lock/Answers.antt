-- A client begins a read section, or gets its pass back.
use Rattle.std.proofs.Common.{[], false, pos, refl, sym, subst, ◌≡◌}
use Rattle.hp_event.specs.declared.answer.Answer.TheVariants.{Ok as Done}
use Rattle.hp_event.specs.declared.event.Event.TheVariants.{ReadLock}
use Rattle.hp_event.specs.declared.op.Op.TheVariants.{Lock}
use Rattle.hp_model.specs.Seats.{is_busy}
use Rattle.hp_live.specs.Grew.{Grew}
use Rattle.hp_live.specs.Known.{Seated}
use Rattle.hp_live.specs.Runs.{AnsweredBy}
use Rattle.hp_live.proofs.Growing.{grew_seen}
use Rattle.hp_live.proofs.ReadOnline.{locked_reader}
use Rattle.hp_live.proofs.ReadSteps.{makes_answered, made_idle, refused_out, refused_idle}
use Rattle.hp_live.proofs.hotplug.Hotplug.read_lock.Goals as goal

pub invariant_of-result : goal.invariant_of-result
invariant_of-result g c =
    let old = c.pass.inside.own in
    let e = c.in-Ok.ensures in
    locked_reader old c.lock_seat.new.own c.in-Ok.online e.same c.pass.invariant e.asks.0 e.asks.1
    (made_idle old c.lock_seat.new.own Lock (ReadLock old.seat) (Done (pos 0)) e.same e.asks.0 refl refl) e.nothing

pub returns-in-Ok-clause-locked : goal.returns-in-Ok-clause-locked
returns-in-Ok-clause-locked g c =
    let old = c.pass.inside.own in
    let new = c.lock_seat.new.own.front in
    subst (λ (s : Seated). AnsweredBy s.head s.seat Lock s.front new (Done (pos 0))) c.pass.view_is
    (makes_answered old.head old.seat Lock (ReadLock old.seat) old.front new (Done (pos 0)) c.in-Ok.ensures.asks.0 refl refl)

pub invariant_of-result-in-Err : goal.invariant_of-result-in-Err
invariant_of-result-in-Err g c =
    refused_out c.pass.inside.own c.lock_seat.new.own c.in-Err.ensures.same c.in-Err.ensures.asks.0 c.pass.invariant

pub returns-in-Err-clause-none : goal.returns-in-Err-clause-none
returns-in-Err-clause-none g c =
    let old = c.pass.inside.own in
    subst (λ (s : Seated). Grew s.seat s.front c.lock_seat.new.own.front []) c.pass.view_is
    (grew_seen old.seat old.front c.lock_seat.new.own.front c.in-Err.ensures.asks.0.seen)

pub returns-in-Err-clause-idle : goal.returns-in-Err-clause-idle
returns-in-Err-clause-idle g c =
    refused_idle c.pass.inside.own c.lock_seat.new.own c.in-Err.ensures.same c.in-Err.ensures.asks.0
    (subst (λ (s : Seated). is_busy s.seat s.front ≡ false) (sym c.pass.view_is) c.requires.idle)

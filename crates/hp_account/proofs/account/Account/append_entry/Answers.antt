use Rattle.std.proofs.Common.{◌≡◌, ◌-◌, ℕ, Bool, [], ◌∷◌, ◌++◌, refl, ap, sym, subst, ◌∙◌, arith}
use Rattle.hp_event.specs.Story.{Story}
use Rattle.hp_event.specs.declared.event.Event.{Event}
use Rattle.hp_states.specs.declared.cpu_set.CpuSet.{CpuSet}
use Rattle.hp_suspend.specs.Turns.{Queue}
use Rattle.hp_walk.specs.Keys.{keys_by}
use Rattle.hp_account.specs.declared.account.Account.{Account}
use Rattle.hp_account.specs.Accounted.{IsAccounted}
use Rattle.hp_account.specs.Appending.{Appended, CanAppend}
use Rattle.hp_account.specs.BatchTurns.{is_batch, HasPlaceInSet, CanTurn, TurnTaken, Awaited}
use Rattle.hp_account.specs.Entries.{entry_made}
use Rattle.hp_account.specs.Operations.{IsHeldBy}
use Rattle.hp_account.proofs.CanAppend.{can_append}
use Rattle.hp_account.proofs.AccountKept.{GoesOn, goes_on}
use Rattle.hp_account.proofs.OperationMore.{held_stays}
use Rattle.hp_account.proofs.account.Account.append_entry.Given as given
use Rattle.hp_account.proofs.account.Account.append_entry.Goals as goal
use Rattle.hp_account.proofs.account.Account.append_entry.Goals.{After-sound, After-take_entry, After-take_turn, After-push}

-- each part can take the entry
can : (g : given.Over) (c : After-sound g) →
    CanAppend (keys_by c.args.table.now) 0 (entry_made c.args.entry.now c.args.how) c.args.self.now
can g c =
    let j = c.args.journal.now in
    let r = c.requires in
    can_append j.head j.events c.args.table.now c.args.self.now 0 (entry_made c.args.entry.now c.args.how) (λ seat role is. absurd (cc))
    r.kept.lawful r.stands refl c.sound.ensures.states r.table r.kept.account

pub take_entry-requires : goal.take_entry-requires
take_entry-requires g c =
    let h = can g (goal.at.take_entry-requires g c).After-sound in
    record { processors = h.processors; flights = h.flights; registration = h.registration }

-- the turn of the walk that has gone on can be taken
pub take_turn-requires : goal.take_turn-requires
take_turn-requires g c =
    let at = goal.at.take_turn-requires g c in
    let h = can g at.After-sound in
    let entered = c.take_entry.new.self in
    let t = c.take_entry.ensures in
    let keys = keys_by c.args.table.now in
    let old = c.args.self.now in
    let e = entry_made c.args.entry.now c.args.how in
    let can = h.turns 0 entered.flights (t.flights, refl) in
    let by_queue : CanTurn keys (is_batch old.operation) e entered.flights entered.turns =
    subst (λ (q : Queue). CanTurn keys (is_batch old.operation) e entered.flights q) (sym t.turns) can in
    let by_event : CanTurn keys (is_batch old.operation) c.event-event.result entered.flights entered.turns =
    subst (λ (a : Event). CanTurn keys (is_batch old.operation) a entered.flights entered.turns) (sym c.event-event.ensures) by_queue in
    record {
      turn = subst (λ (b : Bool). CanTurn keys b c.event-event.result entered.flights entered.turns) (sym c.is_batch-batch.ensures) by_event;
      place = subst HasPlaceInSet (sym c.event-event.ensures) h.place_in_set;
    }

-- each part has taken it
appended : (g : given.Over) (c : After-take_turn g) →
    Appended (keys_by c.args.table.now) 0 0 (entry_made c.args.entry.now c.args.how) c.args.self.now
    (record c.take_entry.new.self { turns = c.take_turn.new.turns; awaited = c.take_turn.new.awaited })
appended g c =
    let old = c.args.self.now in
    let entered = c.take_entry.new.self in
    let after = c.take_turn.new.turns in
    let now = c.take_turn.new.awaited in
    let t = c.take_entry.ensures in
    let keys = keys_by c.args.table.now in
    let e = entry_made c.args.entry.now c.args.how in
    let batched : TurnTaken keys (is_batch old.operation) c.event-event.result entered.flights entered.turns after =
    subst (λ (b : Bool). TurnTaken keys b c.event-event.result entered.flights entered.turns after) c.is_batch-batch.ensures c.take_turn.ensures.turn in
    let called : TurnTaken keys (is_batch old.operation) e entered.flights entered.turns after =
    subst (λ (a : Event). TurnTaken keys (is_batch old.operation) a entered.flights entered.turns after) c.event-event.ensures batched in
    let awaits : Awaited keys (is_batch old.operation) c.event-event.result entered.flights entered.awaited now =
    subst (λ (b : Bool). Awaited keys b c.event-event.result entered.flights entered.awaited now) c.is_batch-batch.ensures c.take_turn.ensures.awaited in
    let awaited : Awaited keys (is_batch old.operation) e entered.flights entered.awaited now =
    subst (λ (a : Event). Awaited keys (is_batch old.operation) a entered.flights entered.awaited now) c.event-event.ensures awaits in
    record {
      seats = t.seats;
      locks = t.locks;
      to = 0;
      to_is = tt;
      processors = t.processors;
      suspended = λ op is. t.suspended;
      operation = λ head events lawful comes standing held.
          subst (IsHeldBy head (events ++ e ∷ [])) (sym t.operation)
          (held_stays head events e old.operation (λ k o n. absurd (cc)) (λ k c a b n. absurd (cc)) (λ k c a n. absurd (cc)) (λ k a n. absurd (cc)) held);
      freed_by_walk = 0;
      freed_by_registration = 0;
      flights = (t.flights, refl);
      registration = (t.registration, refl);
      freed_is = refl;
      turns = subst (λ (q : Queue). TurnTaken keys (is_batch old.operation) e entered.flights q after) t.turns called;
      awaited = subst (λ (s : CpuSet). Awaited keys (is_batch old.operation) e entered.flights s now) t.awaited awaited;
    }

-- there is room for the entry, and its account is kept
on : (g : given.Over) (c : After-take_turn g) →
    GoesOn c.args.journal.now 0 (entry_made c.args.entry.now c.args.how)
    (record c.take_entry.new.self { turns = c.take_turn.new.turns; awaited = c.take_turn.new.awaited })
on g c =
    let r = c.requires in
    goes_on c.args.journal.now 0 0 c.args.self.now _ c.args.table.now (entry_made c.args.entry.now c.args.how) r.kept r.stands refl r.table
    (appended g c)

-- so it is when the journal has the entry
kept : (g : given.Over) (c : After-push g) →
    GoesOn c.args.journal.now 0 (entry_made c.args.entry.now c.args.how)
    (record c.take_entry.new.self { turns = c.take_turn.new.turns; awaited = c.take_turn.new.awaited }) →
    IsAccounted c.push.new.self 0 (record c.take_entry.new.self { turns = c.take_turn.new.turns; awaited = c.take_turn.new.awaited })
kept g c on =
    let j = c.args.journal.now in
    let e = entry_made c.args.entry.now c.args.how in
    let new = record c.take_entry.new.self { turns = c.take_turn.new.turns; awaited = c.take_turn.new.awaited } in
    let none : (j.promised - 1) - 0 ≡ j.promised - 1 = omega arith in
    let now : c.push.new.self ≡ record { head = j.head; events = j.events ++ e ∷ []; promised = j.promised - 1 } =
    c.push.ensures
    ∙ ap (λ (a : Event). record { head = j.head; events = j.events ++ a ∷ []; promised = j.promised - 1 }) c.event-event.ensures in
    subst (λ (s : Story). IsAccounted s 0 new) (sym now)
    (subst (λ (n : ℕ). IsAccounted (record { head = j.head; events = j.events ++ e ∷ []; promised = n }) 0 new) none on.kept)

pub push-requires : goal.push-requires
push-requires g c = (on g (goal.at.push-requires g c).After-take_turn).room

pub under_way-requires-clause-lawful : goal.under_way-requires-clause-lawful
under_way-requires-clause-lawful g c =
    let at = goal.at.under_way-requires-clause-lawful g c in
    (kept g at.After-push (on g at.After-take_turn)).lawful

pub under_way-requires-clause-account : goal.under_way-requires-clause-account
under_way-requires-clause-account g c =
    let at = goal.at.under_way-requires-clause-account g c in
    (kept g at.After-push (on g at.After-take_turn)).account

pub returns-clause-kept : goal.returns-clause-kept
returns-clause-kept g c =
    let at = goal.at.returns-clause-kept g c in
    kept g at.After-push (on g at.After-take_turn)

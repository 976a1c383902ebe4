use Rattle.std.proofs.Common.{◌≡◌, Option, None, [], ◌∷◌, ◌++◌, sym, subst}
use Rattle.hp_event.specs.declared.event.Event.{Event}
use Rattle.hp_model.specs.MapLock.{operation}
use Rattle.hp_account.specs.declared.operation.MapOperation.{MapOperation}
use Rattle.hp_account.specs.Operations.{IsHeld, IsHeldBy}
use Rattle.hp_account.proofs.OperationMore.{held_enters, held_walks, held_ends, held_stays, none_walks_on}
use Rattle.hp_account.proofs.effects.operate.Goals as goal

pub returns-in-Enter : goal.returns-in-Enter
returns-in-Enter c = λ head events lawful comes standing held.
    let e = c.in-Enter in
    let is = c.begin.ensures head events e.seat standing in
    subst (λ (x : Event). IsHeld head (events ++ x ∷ []) (record { seat = e.seat; op = e.op; sequence = c.begin.result })) (sym e.is)
    (held_enters head events e.seat e.op c.begin.result is)

pub returns-in-Some-held : goal.returns-in-Some-held
returns-in-Some-held c = λ head events lawful comes standing held.
    let e = c.in-WalkEnd in
    let h = c.in-Some-held.held in
    let is = subst (IsHeldBy head events) c.in-Some-held.is held in
    subst (λ (x : Event). IsHeld head (events ++ x ∷ []) (record { seat = h.seat; op = h.op; sequence = c.took.new.self })) (sym e.is)
    (held_walks head events e.seat e.cpu e.answer h c.took.new.self
    (λ entered asked s. c.took.ensures head entered events asked e.seat e.cpu s) is)

pub returns-in_default-held-2 : goal.returns-in_default-held-2
returns-in_default-held-2 c = λ head events lawful comes standing held.
    let e = c.in-WalkEnd in
    let is = subst (IsHeldBy head events) c.in_default-held-2.is held in
    let after =
    subst (λ (x : Event). IsHeldBy head (events ++ x ∷ []) None) (sym e.is) (none_walks_on head events e.seat e.cpu e.answer is) in
    subst (λ (h : Option MapOperation). IsHeldBy head (events ++ c.args.event.now ∷ []) h) (sym c.in_default-held-2.is) after

pub returns-in-OpEnd : goal.returns-in-OpEnd
returns-in-OpEnd c = λ head events lawful comes standing held.
    let e = c.in-OpEnd in
    subst (λ (x : Event). operation (events ++ x ∷ []) ≡ None) (sym e.is) (held_ends events e.seat e.answer)

pub returns-in_default : goal.returns-in_default
returns-in_default c = λ head events lawful comes standing held.
    held_stays head events c.args.event.now c.args.held.now c.in_default.not-Enter c.in_default.not-WalkBegin c.in_default.not-WalkEnd
    c.in_default.not-OpEnd held

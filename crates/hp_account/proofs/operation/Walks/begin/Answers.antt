use Rattle.std.proofs.Common.{◌≡◌, ℤ, to_z, of_z, w32, None, [], ◌∷◌, ◌++◌, sym, subst, rules}
use Rattle.hp_model.specs.Sequence.{target_of}
use Rattle.hp_event.specs.declared.op.Op.{Op}
use Rattle.hp_event.specs.declared.op.Op.TheVariants.{Target, Freeze as FreezeOp}
use Rattle.hp_event.specs.declared.event.Event.TheVariants.{Enter}
use Rattle.hp_suspend.specs.Freezing.{IsFreezing}
use Rattle.hp_suspend.specs.Tables.{AreOnline, AreSettled}
use Rattle.hp_account.specs.Operations.{AreWalks}
use Rattle.hp_account.specs.declared.operation.Walks.TheVariants.{Single, Freeze, Batch}
use Rattle.hp_account.proofs.HeldNext.{online_all, settled_all}
use Rattle.hp_account.proofs.OperationMore.{single_begins}
use Rattle.hp_account.proofs.operation.Walks.begin.Goals as goal

pub returns-in-Up : goal.returns-in-Up
returns-in-Up c = λ head before seat online. rw (c.one_walk.ensures, c.in-Up.is) (single_begins c.in-Up.cpu 200 before seat _)

pub returns-in-Down : goal.returns-in-Down
returns-in-Down c = λ head before seat online.
    rw (c.one_walk-in-Down.ensures, c.in-Down.is) (single_begins c.in-Down.cpu 0 before seat _)

pub returns-in-Target : goal.returns-in-Target
returns-in-Target c = λ head before seat online.
    let to : c.target_of.result ≡ target_of c.in-Target.value = search rules in
    let made : c.one_walk-in-Target.result ≡ Single (record { cpu = c.in-Target.cpu; to = target_of c.in-Target.value; answer = None }) =
    search rules in
    let op : c.args.op.now ≡ Target c.in-Target.cpu c.in-Target.value = search rules in
    rw (made, op) (single_begins c.in-Target.cpu (target_of c.in-Target.value) before seat (Target c.in-Target.cpu c.in-Target.value))

pub returns-in-Freeze : goal.returns-in-Freeze
returns-in-Freeze c = λ head before seat standing.
    let online = subst (AreOnline head before) (sym c.online.ensures.online) (online_all head before c.args.processors.now standing) in
    let same : to_z w32 (of_z w32 c.in-Freeze.primary) ≡ c.in-Freeze.primary = search rules in
    let is : IsFreezing head before (before ++ Enter seat (FreezeOp c.in-Freeze.primary) ∷ []) c.in-Freeze.primary c.begin-in-Freeze.result =
    subst (λ (p : ℤ). IsFreezing head before (before ++ Enter seat (FreezeOp p) ∷ []) p c.begin-in-Freeze.result) same
    (c.begin-in-Freeze.ensures head before seat online)
    in
    subst (λ (x : Op). AreWalks head before (before ++ Enter seat x ∷ []) x (Freeze c.begin-in-Freeze.result)) (sym c.in-Freeze.is) is

pub returns-in-UpMany : goal.returns-in-UpMany
returns-in-UpMany c = λ head before seat standing.
    let settled = subst (AreSettled head before) (sym c.settled.ensures.settled) (settled_all head before c.args.processors.now standing) in
    subst (λ (x : Op). AreWalks head before (before ++ Enter seat x ∷ []) x (Batch c.begin-in-UpMany.result)) (sym c.in-UpMany.is)
    (c.begin-in-UpMany.ensures head before seat settled)

-- What stands after events can be said by the text.
use Rattle.std.proofs.Common.{◌≡◌, true, List, refl, sym, subst}
use Rattle.hp_event.specs.declared.op.Op.{Op}
use Rattle.hp_event.specs.declared.op.Op.TheVariants.{UpMany}
use Rattle.hp_event.specs.declared.answer.Answer.{Answer}
use Rattle.hp_event.specs.declared.head.Head.{Head}
use Rattle.hp_event.specs.declared.event.Event.{Event}
use Rattle.hp_event.specs.declared.event.Event.TheVariants.{Admit, Leave, Enter, Refused, WalkBegin, Call, WalkEnd, OpEnd, RegBegin, RegEnd, ReadLock, ReadUnlock, Armed, Shown, Wakeup}
use Rattle.hp_model.specs.Subsystems.{names_sub}
use Rattle.hp_model.specs.HasLine.{lists_one}
use Rattle.hp_model.specs.WalkShape.{Outcome, went, returned, stopped, IsAnswer}
use Rattle.hp_model.specs.Lawful.{Comes, Stands}
use Rattle.hp_replay.specs.Spelled.{IsWalkAnswer, IsSpelled}

answered : (outcome : Outcome) (entries : List Event) (a : Answer) → IsAnswer outcome entries a → IsWalkAnswer a
answered went entries a h = subst IsWalkAnswer (sym h) refl
answered returned entries a h = subst IsWalkAnswer (sym h.2) tt
answered (stopped at) entries a h = subst IsWalkAnswer (sym h.3) tt

one_listed : (head : Head) (op : Op) → names_sub head op ≡ true → lists_one op ≡ true
one_listed head (UpMany set) h = h
one_listed head op h = refl

comes_spelled : (head : Head) (before : List Event) (e : Event) → Comes head before e → IsSpelled e
comes_spelled head before (WalkEnd seat cpu a) h = answered h.whole.outcome _ a h.whole.answered
comes_spelled head before (Shown seat file cpu value) h = h.has_file
comes_spelled head before (Admit seat role) h = tt
comes_spelled head before (Leave seat) h = tt
comes_spelled head before (Enter seat op) h = one_listed head op h.has_sub
comes_spelled head before (Refused seat errno op) h = one_listed head op h.has_sub
comes_spelled head before (WalkBegin seat cpu from to) h = tt
comes_spelled head before (Call seat cpu state inst dir how) h = tt
comes_spelled head before (OpEnd seat answer) h = tt
comes_spelled head before (RegBegin seat state op) h = one_listed head op h.has_sub
comes_spelled head before (RegEnd seat answer) h = tt
comes_spelled head before (ReadLock seat) h = tt
comes_spelled head before (ReadUnlock seat) h = tt
comes_spelled head before (Armed seat cpu value) h = tt
comes_spelled head before (Wakeup seat) h = tt

pub stands_spelled : (head : Head) (before : List Event) (e : Event) → Stands head before e → IsSpelled e
stands_spelled head before e h = comes_spelled head before e h.0

-- Which events the text of a journal can say: a walk ends ok with the number 0, which isn't written, or with a fault
-- or stuck; the file of all states belongs to no processor, and has 0 in its place; an upmany lists a processor. Events
-- that stand are such. This project's own.
use Rattle.std.specs.Prelude.{◌≡◌, true, pos}
use Rattle.hp_event.specs.declared.answer.Answer.{Answer}
use Rattle.hp_event.specs.declared.answer.Answer.TheVariants.{Ok, Refused, Fault, Stuck, LogFull}
use Rattle.hp_event.specs.declared.event.Event.{Event}
use Rattle.hp_event.specs.declared.event.Event.TheVariants as event
use Rattle.hp_model.specs.Files.{HasFile}
use Rattle.hp_model.specs.HasLine.{lists_one}

abbrev pub IsWalkAnswer : Answer → Type 0
IsWalkAnswer (Ok value) = value ≡ pos 0
IsWalkAnswer (Refused errno) = ⊥
IsWalkAnswer (Fault code) = Unit {0}
IsWalkAnswer (Stuck first second at) = Unit {0}
IsWalkAnswer LogFull = ⊥

abbrev pub IsSpelled : Event → Type 0
IsSpelled (event.WalkEnd seat cpu answer) = IsWalkAnswer answer
IsSpelled (event.Shown seat file cpu value) = HasFile file cpu
IsSpelled (event.Enter seat op) = lists_one op ≡ true
IsSpelled (event.Refused seat errno op) = lists_one op ≡ true
IsSpelled (event.RegBegin seat state op) = lists_one op ≡ true
IsSpelled _ = Unit {0}

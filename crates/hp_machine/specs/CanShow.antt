-- What can be shown: the files of a possible processor, and `states` where no registration is in flight. This project's own.
use Rattle.std.specs.Prelude.{◌≡◌, ◌<◌, ℕ, None, List}
use Rattle.hp_event.specs.declared.event.File.{File}
use Rattle.hp_event.specs.declared.event.File.TheVariants.{State, Target, Fail, States}
use Rattle.hp_event.specs.declared.head.Head.{Head}
use Rattle.hp_event.specs.declared.event.Event.{Event}
use Rattle.hp_model.specs.Registrations.{registration}

abbrev pub CanShow : Head → List Event → File → (cpu : ℕ) → Type 0
CanShow head events State c = c < head.possible
CanShow head events Target c = c < head.possible
CanShow head events Fail c = c < head.possible
CanShow head events States c = registration events ≡ None

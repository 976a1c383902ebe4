-- What an event that comes next makes of the room, and of what is promised. This project's own.
use Rattle.std.specs.Prelude.{◌≡◌, ◌+◌, ◌≤◌, None, List, [], ◌∷◌, ◌++◌, length}
use Rattle.hp_states.specs.declared.limits.TheConstants.{MAX_EVENTS}
use Rattle.hp_event.specs.declared.head.Head.{Head}
use Rattle.hp_event.specs.declared.event.Event.{Event}
use Rattle.hp_model.specs.Lawful.{Comes, Stands}
use Rattle.hp_model.specs.Needs.{need, taken}
use Rattle.hp_model.specs.Promised.{promised, given_back}

-- it takes what it needs, uses one of the promises, and gives back what is left to what it ends
abbrev pub BalancesPromises : Head → (before : List Event) → Event → Type 0
BalancesPromises head before e =
    Comes head before e →
    promised head (before ++ e ∷ []) + 1 + given_back head before e ≡ promised head before + taken (need head before e)

-- where it can stand, the journal with it is within the limit
abbrev pub FitsIn : Head → (before : List Event) → Event → Type 0
FitsIn head before e = Stands head before e → length before + 1 ≤ MAX_EVENTS

-- where it takes no room of its own it finds one of the promises
abbrev pub FindsPromise : Head → (before : List Event) → Event → Type 0
FindsPromise head before e = Comes head before e → need head before e ≡ None → 1 ≤ promised head before

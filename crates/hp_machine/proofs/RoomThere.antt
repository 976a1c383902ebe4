-- There is room for what an event that stands needs.
use Rattle.std.proofs.Common.{◌≡◌, ℕ, ◌+◌, ◌≤◌, true, Option, Some, None, List, length, refl, arith}
use Rattle.std.proofs.lemmas.Bool.{leb-true}
use Rattle.hp_states.specs.declared.limits.TheConstants.{MAX_EVENTS}
use Rattle.hp_event.specs.declared.head.Head.{Head}
use Rattle.hp_event.specs.declared.event.Event.{Event}
use Rattle.hp_model.specs.Lawful.{Stands, IsLawful}
use Rattle.hp_model.specs.Needs.{need, taken}
use Rattle.hp_model.specs.Promised.{promised}
use Rattle.hp_model.specs.Room.{is_room}
use Rattle.hp_model.proofs.RoomKept.{promises_fit}

-- room is there for what an event that stands needs
pub room_for : (head : Head) (es : List Event) (e : Event) → IsLawful head es → Stands head es e →
    length es + promised head es + taken (need head es e) ≤ MAX_EVENTS
room_for head es e lawful stands = go (need head es e) refl stands.1
  where
    go : (n : Option ℕ) → need head es e ≡ n → is_room head es n ≡ true → length es + promised head es + taken (need head es e) ≤ MAX_EVENTS
    go None is h =
        let fits = promises_fit head es lawful in
        let none : taken (need head es e) ≡ 0 = rw is refl in
        omega (arith, fits, none)
    go (Some n) is h =
        let fits : length es + promised head es + n ≤ MAX_EVENTS = leb-true (length es + promised head es + n) MAX_EVENTS h in
        let some : taken (need head es e) ≡ n = rw is refl in
        omega (arith, fits, some)

-- The room that an event takes, by what decides whether it stands.
use Rattle.std.proofs.Common.{◌≡◌, ℕ, Bool, true, false, IsTrue, ◌↔◌, is_some, Option, Some, None, List, refl, sym, ap, ◌∙◌}
use Rattle.std.proofs.lemmas.Bool.{true≢false}
use Rattle.std.specs.Bool.{then_some}
use Rattle.hp_event.specs.declared.head.Head.{Head}
use Rattle.hp_event.specs.declared.event.Event.{Event}
use Rattle.hp_machine.specs.declared.next.Next.TheVariants as answer
use Rattle.hp_machine.specs.Next.{IsNext}
use Rattle.hp_model.specs.Lawful.{Stands, IsLawful}
use Rattle.hp_model.specs.Needs.{need, taken}
use Rattle.hp_model.specs.Events.{seat_of, is_call}
use Rattle.hp_account.specs.declared.under_way.Entry.{Entry}
use Rattle.hp_event.specs.declared.op.Op.{Op}
use Rattle.hp_law.specs.Asked.{asked_by, IsOfOperation}
use Rattle.hp_law.specs.EntryOf.{IsEntryOf}
use Rattle.hp_law.specs.RoomOf.{IsRoomOf}
use Rattle.hp_law.proofs.Comes.{comes_event}

-- a test that decides whether the event stands, and a number that it then takes
pub room_by : (head : Head) (es : List Event) (e : Event) (stood : Bool) (n : ℕ) → IsTrue stood ↔ Stands head es e →
    (Stands head es e → n ≡ taken (need head es e)) → IsRoomOf head es e (then_some stood n)
room_by head es e true n decides takes = record { stands = decides; takes = takes (decides.0 refl) }
room_by head es e false n decides takes = record { stands = decides; takes = tt }

pub no_room : (head : Head) (es : List Event) (e : Event) → IsTrue false ↔ Stands head es e → IsRoomOf head es e None
no_room head es e decides = record { stands = decides; takes = tt }

-- a call takes no room of its own where it stands, which is where it has an entry
pub room_of_entry : (head : Head) (es : List Event) (e : Event) (entry : Option Entry) → is_call e ≡ true → IsEntryOf head es e entry →
    IsRoomOf head es e (then_some (is_some entry) 0)
room_of_entry head es e None call is = no_room head es e (λ h. absurd (true≢false (sym h)), λ s. absurd (is s))
room_of_entry head es e (Some x) call is =
    room_by head es e true 0 (λ _. is.0, λ _. refl) (λ _. rw (sym is.1) refl)

-- what the machine says comes next, and its room
pub room_next : (head : Head) (es : List Event) (k : ℕ) (op : Op) (e next : Event) (takes : ℕ) (same : Bool) → IsLawful head es →
    IsOfOperation e → k ≡ seat_of e → op ≡ asked_by e → IsNext head es k op (answer.Event next takes) → IsTrue same ↔ (next ≡ e) →
    IsRoomOf head es e (then_some same takes)
room_next head es k op e next takes same lawful of k_is op_is is decides =
    let stands = comes_event head es k op e next takes same lawful of k_is op_is is decides in
    room_by head es e same takes stands
    (λ s. is.1 ∙ ap (λ (x : Event). taken (need head es x)) (decides.0 (stands.1 s)))

-- An operation that there is no room for has no event.
use Rattle.std.proofs.Common.{◌≡◌, ℕ, Bool, true, false, not, cond, Option, Some, None, List, refl, sym}
use Rattle.std.proofs.lemmas.Bool.{true≢false, and_parts}
use Rattle.hp_states.proofs.Basics.{not_true}
use Rattle.hp_event.specs.declared.op.Op.{Op}
use Rattle.hp_event.specs.declared.head.Head.{Head}
use Rattle.hp_event.specs.declared.event.Event.{Event}
use Rattle.hp_model.specs.FirstEvent.{first_event}
use Rattle.hp_model.specs.NextEvent.{next_event, is_full, lacks_room, if_room, next_in_flight}
use Rattle.hp_model.specs.Room.{has_room}
use Rattle.hp_model.specs.Seats.{is_busy}

-- where there is no room for a first event, none comes
no_room : (head : Head) (es : List Event) (o : Option Event) → lacks_room head es o ≡ true → if_room head es o ≡ None
no_room head es None h = refl
no_room head es (Some e) h = go (has_room head es e) h
  where
    go : (room : Bool) → not room ≡ true → cond room (Some e) None ≡ None
    go true h = absurd (true≢false (sym h))
    go false h = refl

skip : (b : Bool) (e o : Option Event) → b ≡ false → o ≡ None → cond b e o ≡ None
skip true e o h k = absurd (true≢false h)
skip false e o h k = k

pub full_none : (head : Head) (es : List Event) (k : ℕ) (op : Op) → is_full head es k op ≡ true → next_event head es k op ≡ None
unfolding is_full next_event
full_none head es k op h =
    let p = and_parts (not (is_busy k es)) (lacks_room head es (first_event head es k op)) h in
    skip (is_busy k es) (next_in_flight head es k) (if_room head es (first_event head es k op)) (not_true (is_busy k es) p.0)
    (no_room head es (first_event head es k op) p.1)

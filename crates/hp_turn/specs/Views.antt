-- Views of the lock's table: what each pass knows, and what a step makes of it. This project's own.
use Rattle.std.specs.Prelude.{◌||◌, ◌+◌, ℕ, Bool, true, false, List, [], Option, Some, None}
use Rattle.hp_event.specs.declared.aside.Aside.{Aside}
use Rattle.hp_event.specs.declared.head.Head.{Head}
use Rattle.hp_event.specs.declared.event.Event.{Event}
use Rattle.hp_turn.specs.declared.view.Heard.{Heard}
use Rattle.hp_turn.specs.declared.view.Held.{Held}
use Rattle.hp_turn.specs.declared.view.View.{View}
use Rattle.hp_turn.specs.Asides.{seat_aside}
use Rattle.hp_turn.specs.Story.{new_seat, longer}

abbrev pub view :
    Head → List Event → Option ℕ → Bool → Option Heard → ℕ → Option Held → Option Aside → List (ℕ × Aside) → View
view head front seat admits heard misses held aside kept = record {
  spent = false;
  head = head;
  front = front;
  seat = seat;
  admits = admits;
  heard = heard;
  misses = misses;
  held = held;
  aside = aside;
  kept = kept;
}

-- what a pass holds of this story and these pairs
abbrev pub held_of : List Event → List (ℕ × Aside) → Held
held_of t ps = record { story = t; pairs = ps }

-- of a pass without seat
abbrev pub fresh : Head → List Event → Bool → View
fresh head front admits = view head front None admits None 0 None None []

-- of a pass that was joined away
abbrev pub spent : View
spent = record {
  spent = true;
  head = record { possible = 0; absent = []; subs = [] };
  front = [];
  seat = None;
  admits = false;
  heard = None;
  misses = 0;
  held = None;
  aside = None;
  kept = [];
}

-- it holds the lock, this story and these pairs
abbrev pub holding : View → List Event → List (ℕ × Aside) → View
holding v t ps = view v.head v.front v.seat v.admits v.heard v.misses (Some (held_of t ps)) v.aside v.kept

-- it found the lock taken once more
abbrev pub missed : View → View
missed v = view v.head v.front v.seat v.admits v.heard (v.misses + 1) None v.aside v.kept

-- it puts this story and these pairs back
abbrev pub after_count : View → List Event → List (ℕ × Aside) → View
after_count v t ps =
    view v.head t (new_seat v.seat v.held t) v.admits v.heard v.misses (Some (held_of t ps))
    (seat_aside (new_seat v.seat v.held t) ps) ps

-- it no longer holds the lock
abbrev pub freed : View → View
freed v = view v.head v.front v.seat v.admits v.heard v.misses None v.aside v.kept

-- what a split leaves and gives: the right to admit goes to the new pass
abbrev pub split_left : View → View
split_left v = view v.head v.front v.seat false v.heard v.misses v.held v.aside v.kept

abbrev pub split_right : View → View
split_right v = fresh v.head v.front v.admits

-- what a join makes of the first of two; both fronts are kept until the next step
abbrev pub joined : View → View → View
joined v w =
    view v.head (longer v.front w.front) v.seat (v.admits || w.admits)
    (Some (record { one = v.front; two = w.front; had = v.admits; head = w.head })) v.misses v.held v.aside v.kept

-- that step: the two fronts are forgotten
abbrev pub settled : View → View
settled v = view v.head v.front v.seat v.admits None v.misses v.held v.aside v.kept

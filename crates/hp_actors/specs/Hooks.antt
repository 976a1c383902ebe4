-- The hooks that the operations of a run have: where they are from, what a turn makes of them, and which stay. After the callbacks of
-- `struct cpuhp_step` of `kernel/cpu.c`; that an operation has its hook is this project's own.
use Rattle.std.specs.Prelude.{◌≡◌, ℕ, ◌-◌, ◌<◌, ◌≤◌, nat_lt, if◌then◌else◌, is_some, Option, Some, None, option_to_list, List, [], ◌++◌, length, map, reverse, get_or, set, fold}
use Rattle.std.specs.List.{flat_map}
use Rattle.hp_event.specs.declared.event.Event.{Event}
use Rattle.hp_event.specs.declared.head.Head.{Head}
use Rattle.hp_event.specs.declared.op.Op.{Op}
use Rattle.hp_hook.specs.Counted.{Counts}
use Rattle.hp_hook.specs.declared.rack.Rack.{Rack}
use Rattle.hp_account.specs.Table.{counts_by}
use Rattle.hp_account.specs.TableChanges.{brings_hook, hands_hook, is_setup}
use Rattle.hp_model.specs.Calls.{sub_at}
use Rattle.hp_model.specs.Processors.{present}
use Rattle.hp_model.specs.Registrations.{Registration, registration}
use Rattle.hp_model.specs.ScriptTurns.{turn, unanswered}
use Rattle.hp_model.specs.Subsystems.{plan_of}
use Rattle.hp_board.specs.Contents.{Contents}
use Rattle.hp_board.specs.Retired.{registered_hooks}
use Rattle.hp_actors.specs.declared.actor.Actor.{Actor}
use Rattle.hp_actors.specs.Positions.{Position, hooks_of}
use Rattle.hp_actors.specs.ActorTurns.{asked, event_for}

-- the hook of an operation, where it has one
abbrev pub hook_at : (hooks : List (List (Option Counts))) → (actor place : ℕ) → Option Counts
hook_at hooks i j = get_or (get_or hooks i []) j None

-- those that operations have, by actor and then by operation
abbrev pub hooks_there : List (List (Option Counts)) → List Counts
hooks_there hooks = flat_map (flat_map option_to_list) hooks

-- so of actors
abbrev pub hooks_among : {H : Type 0} → (seen : H → Counts) → List (Actor H) → List Counts
hooks_among seen actors = hooks_there (map (hooks_of seen) actors)

-- each setup has one, and no other operation
abbrev pub OneForEachSetup : (actors : List (List Op)) → (hooks : List (List (Option Counts))) → Type 0
OneForEachSetup actors hooks = map (map is_some) hooks ≡ map (map is_setup) actors

-- each in turn was the last of a rack's
abbrev pub AreFromRack : (old new hooks : List Counts) → Type 0
AreFromRack old new hooks = old ≡ new ++ reverse hooks

-- so of hooks of a rack, by what they have counted
abbrev pub AreDealtFrom : {H : Type 0} → (seen : H → Counts) → (old new : Rack H) → (hooks : List Counts) → Type 0
AreDealtFrom seen old new hooks = AreFromRack (map seen old.hooks.items) (map seen new.hooks.items) hooks

-- those of a run that is given up: of its operations, and then of the registered states
abbrev pub hooks_at_end : Position → List Counts
hooks_at_end at = hooks_there at.hooks ++ registered_hooks at.head at.progress.events

-- ---- what a turn makes of them

-- the hook of the state that a registration is for: it has the plan of its subsystem, and has counted the calls of the journal since
-- its setup began
abbrev pub hook_of_state : Head → List Event → Option Registration → Option Counts
hook_of_state head events None = None
hook_of_state head events (Some r) = Some (counts_by (plan_of (sub_at head r.state events)) events r.state)

-- The hook of an operation, after an event of it or none: the begin of a setup takes it; where a setup faulted, or a state was
-- removed, the state's comes back; every other event leaves it as it is.
abbrev pub hook_after : Head → List Event → Option Event → (had : Option Counts) → Option Counts
hook_after head events None had = had
hook_after head events (Some e) had =
    if hands_hook events e
    then hook_of_state head events (registration events)
    else if brings_hook e then None else had

-- those of an actor, after a turn for its first operation that isn't answered: all others stay
abbrev pub hooks_after : Head → List Event → (seat answered : ℕ) → Option Op → List (Option Counts) → List (Option Counts)
hooks_after head events k n op hooks = set hooks n (hook_after head events (event_for head events k op) (get_or hooks n None))

-- so of an actor on a board
abbrev pub hooks_left : {H : Type 0} → (seen : H → Counts) → Contents → (seat : ℕ) → Actor H → List (Option Counts)
hooks_left seen b k actor = hooks_after b.head b.events k actor.answered (asked actor) (hooks_of seen actor)

abbrev pub HasHooksLeft : {H : Type 0} → (seen : H → Counts) → Contents → (seat : ℕ) → (old new : Actor H) → Type 0
HasHooksLeft seen b k old new = hooks_of seen new ≡ hooks_left seen b k old

abbrev pub hooks_asked : Position → (seat actor : ℕ) → List (List (Option Counts))
hooks_asked at k i =
    set at.hooks i
    (hooks_after at.head at.progress.events k (get_or at.progress.answers i 0) (unanswered at.actors at.progress.answers i)
    (get_or at.hooks i []))

-- those of all actors, after a turn of a seat: the seats of the threads come first
abbrev pub hooks_turned : Position → (seat : ℕ) → List (List (Option Counts))
hooks_turned at k =
    if nat_lt k (length (present at.head)) then at.hooks else hooks_asked at k (k - length (present at.head))

-- the run after a turn of a seat
abbrev pub turned : Position → (seat : ℕ) → Position
turned at k =
    record {
      head = at.head;
      actors = at.actors;
      progress = turn at.head at.actors at.progress k;
      hooks = hooks_turned at k;
    }

-- and after turns of these seats, one after the other
unfoldable pub after_seats : Position → (seats : List ℕ) → Position
after_seats at seats = fold turned at seats

-- turns of some seats made it of an earlier one
abbrev pub IsLater : (old new : Position) → Type 0
IsLater old new = (seats : List ℕ) × (new ≡ after_seats old seats)

-- ---- which stay

-- how many operations of an actor are answered
abbrev pub answers_at : Position → (actor : ℕ) → ℕ
answers_at at i = get_or at.progress.answers i 0

-- Later in a run: the hook of an operation that was answered is as it came back, so that it wasn't used again; an operation whose turn
-- hasn't come has its hook as it was; and so has the one whose turn it is, or it has none.
pub record KeepsHooks (old new : Position) : Type 0 where
  pub answered : (i : ℕ) → answers_at old i ≤ answers_at new i
  pub came_back : (i j : ℕ) → j < answers_at old i → hook_at new.hooks i j ≡ hook_at old.hooks i j
  pub waiting : (i j : ℕ) → answers_at new i < j → hook_at new.hooks i j ≡ hook_at old.hooks i j
  pub in_turn :
      (i : ℕ) (had : Counts) → hook_at new.hooks i (answers_at new i) ≡ Some had → hook_at old.hooks i (answers_at new i) ≡ Some had

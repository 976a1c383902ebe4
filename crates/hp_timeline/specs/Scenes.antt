-- What is kept of the events so far, and what one event more makes of it. This project's own.
use Rattle.std.specs.Prelude.{◌≡◌, ℕ, ◌<◌, ◌+◌, ◌&&◌, ◌==◌, Bool, true, false, if◌then◌else◌, is_some, option_to_list, Option, Some, None, List, [], ◌++◌, length, map, slice_set, slice_index_or}
use Rattle.std.specs.List.{flat_map}
use Rattle.hp_states.specs.declared.limits.TheConstants.{ONLINE}
use Rattle.hp_states.specs.declared.dir.Dir.{Dir}
use Rattle.hp_states.specs.Sections.{first_state}
use Rattle.hp_event.specs.declared.how.How.{How}
use Rattle.hp_event.specs.declared.answer.Answer.{Answer}
use Rattle.hp_event.specs.Leaves.{leaves_at}
use Rattle.hp_event.specs.declared.head.Head.{Head}
use Rattle.hp_event.specs.declared.event.Event.{Event}
use Rattle.hp_event.specs.declared.event.Event.TheVariants.{Enter, Refused, WalkBegin, Call, WalkEnd, OpEnd, RegBegin, RegEnd, ReadLock, ReadUnlock, Armed, Shown, Wakeup}
use Rattle.hp_model.specs.Crossing.{far}
use Rattle.hp_model.specs.Entries.{is_done}
use Rattle.hp_model.specs.Lists.{numbers}
use Rattle.hp_model.specs.MapLock.{Operation, operation}
use Rattle.hp_model.specs.Readers.{reading_since}
use Rattle.hp_model.specs.Registered.{registered, instances}
use Rattle.hp_model.specs.Registrations.{Registration, registration}
use Rattle.hp_model.specs.Settled.{settled}
use Rattle.hp_model.specs.Shown.{shown, is_last}
use Rattle.hp_model.specs.Subsystems.{is_multi}
use Rattle.hp_model.specs.Walks.{Walk, walk}
use Rattle.hp_print.specs.declared.state_tally.StateTally.{StateTally}
use Rattle.hp_print.specs.Tallies.{asked_of, sub_of}
use Rattle.hp_timeline.specs.declared.scene.Walking.{Walking}
use Rattle.hp_timeline.specs.declared.scene.Lane.{Lane}
use Rattle.hp_timeline.specs.declared.scene.Begun.{Begun}
use Rattle.hp_timeline.specs.declared.scene.Scene.{Scene}
use Rattle.hp_timeline.specs.declared.span.Row.TheVariants.{Processor, Operations, Section}
use Rattle.hp_timeline.specs.declared.span.Class.{Class}
use Rattle.hp_timeline.specs.declared.span.Class.TheVariants as class
use Rattle.hp_timeline.specs.declared.span.Span.{Span}
use Rattle.hp_timeline.specs.declared.sheet.Sheet.{Sheet}
use Rattle.hp_timeline.specs.declared.window.Window.{Window}
use Rattle.hp_timeline.specs.Spans.{class_of}
use Rattle.hp_timeline.specs.Tracks.{track_below}

-- ---- what a scene says of events

abbrev pub walking_of : Option Walk → Option Walking
walking_of None = None
walking_of (Some w) = Some (record { first = length w.before; to = w.to })

abbrev pub lane_of : Head → List Event → (cpu : ℕ) → Lane
lane_of head events c =
    record { settled = settled c events; shown = shown head c events; walk = walking_of (walk c events) }

abbrev pub operation_begun : Option Operation → Option Begun
operation_begun None = None
operation_begun (Some o) = Some (record { seat = o.seat; first = length o.before })

abbrev pub registration_begun : Option Registration → Option Begun
registration_begun None = None
registration_begun (Some r) = Some (record { seat = r.seat; first = length r.before })

abbrev pub section_begun : Option (List Event) → Option ℕ
section_begun None = None
section_begun (Some before) = Some (length before)

-- where the section of a seat begins; a seat past the list has none
abbrev pub section_at : List (Option ℕ) → (seat : ℕ) → Option ℕ
section_at sections k = slice_index_or sections k None

-- the lane of a processor that isn't possible
abbrev pub no_lane : Lane
no_lane = record { settled = 0; shown = 0; walk = None }

abbrev pub lane_at : List Lane → (cpu : ℕ) → Lane
lane_at lanes c = slice_index_or lanes c no_lane

-- a tally knows what is registered at each state; it needn't count calls
pub record KnowsStates (head : Head) (events : List Event) (t : StateTally) : Type 0 where
  pub many_subs : length t.subs.items ≡ ONLINE + 1
  pub many_insts : length t.insts.items ≡ ONLINE + 1
  pub asked_is : t.asked ≡ asked_of (registration events)
  pub sub_is : (s : ℕ) → s < ONLINE + 1 → slice_index_or t.subs.items s None ≡ sub_of (registered head s events)
  pub insts_is : (s : ℕ) → s < ONLINE + 1 → slice_index_or t.insts.items s [] ≡ instances (registered head s events)

pub record IsScene (head : Head) (events : List Event) (s : Scene) : Type 0 where
  pub lanes_many : length s.lanes.items ≡ head.possible
  pub lanes_are : (c : ℕ) → c < head.possible → lane_at s.lanes.items c ≡ lane_of head events c
  pub states_are : KnowsStates head events s.states
  pub operation_is : s.operation ≡ operation_begun (operation events)
  pub registration_is : s.registration ≡ registration_begun (registration events)
  pub sections_are : (k : ℕ) → section_at s.sections.items k ≡ section_begun (reading_since k events)

-- ---- one event more

-- a walk begins, at a place
abbrev pub set_out : (place from to : ℕ) → Lane → Lane
set_out k from to lane = record { settled = lane.settled; shown = from; walk = Some (record { first = k; to = to }) }

-- it ends
abbrev pub target_of : Option Walking → (stood : ℕ) → ℕ
target_of None at = at
target_of (Some w) at = w.to

abbrev pub stood : (state : ℕ) → Lane
stood at = record { settled = at; shown = at; walk = None }

abbrev pub arrived : Answer → Lane → Lane
arrived answer lane = stood (leaves_at answer (target_of lane.walk lane.settled) lane.settled)

-- the lanes before any event: processor 0 is up, the others are down
abbrev pub first_lanes : (possible : ℕ) → List Lane
first_lanes n = map (λ c. stood (first_state c)) (numbers n)

-- a state is crossed with the entry of its last key
abbrev pub crosses : (is_last_key : Bool) → How → Lane → Bool
crosses b how lane = is_some lane.walk && (is_done how && b)

abbrev pub crossed : (is_last_key : Bool) → (cpu state : ℕ) → Dir → How → List Lane → List Lane
crossed b c s dir how lanes =
    if crosses b how (lane_at lanes c)
    then slice_set lanes c (record (lane_at lanes c) { shown = far dir s })
    else lanes

abbrev pub is_last_of : Head → (sub : Option ℕ) → (insts : List ℕ) → (inst : ℕ) → Bool
is_last_of head None insts i = false
is_last_of head (Some sub) insts i = if is_multi head sub then is_last insts i else 0 == i

-- whether a key is the last of its state
abbrev pub is_last_key : Head → StateTally → (state inst : ℕ) → Bool
is_last_key head t s i = is_last_of head (slice_index_or t.subs.items s None) (slice_index_or t.insts.items s []) i

abbrev pub lanes_after : Head → (place : ℕ) → Scene → Event → List Lane
lanes_after head k s (WalkBegin seat cpu from to) =
    slice_set s.lanes.items cpu (set_out k from to (lane_at s.lanes.items cpu))
lanes_after head k s (Call seat cpu state inst dir how) =
    crossed (is_last_key head s.states state inst) cpu state dir how s.lanes.items
lanes_after head k s (WalkEnd seat cpu answer) =
    slice_set s.lanes.items cpu (arrived answer (lane_at s.lanes.items cpu))
lanes_after head k s _ = s.lanes.items

abbrev pub operation_after : (place : ℕ) → Option Begun → Event → Option Begun
operation_after k held (Enter seat op) = Some (record { seat = seat; first = k })
operation_after k held (OpEnd seat answer) = None
operation_after k held _ = held

abbrev pub registration_after : (place : ℕ) → Option Begun → Event → Option Begun
registration_after k held (RegBegin seat state op) = Some (record { seat = seat; first = k })
registration_after k held (RegEnd seat answer) = None
registration_after k held _ = held

-- a section of a seat begins, or ends
abbrev pub section_with : (seat : ℕ) → Option ℕ → (sections : List (Option ℕ)) → (of : ℕ) → Option ℕ
section_with seat first sections k = if seat == k then first else section_at sections k

abbrev pub section_after : (place : ℕ) → List (Option ℕ) → Event → (of : ℕ) → Option ℕ
section_after place sections (ReadLock seat) k = section_with seat (Some place) sections k
section_after place sections (ReadUnlock seat) k = section_with seat None sections k
section_after place sections _ k = section_at sections k

-- ---- what there is to draw by it

abbrev pub walking_span : Class → (is_over : Bool) → (last cpu : ℕ) → Option Walking → Option Span
walking_span c over last cpu None = None
walking_span c over last cpu (Some w) =
    Some (record { row = Processor cpu; class = c; first = w.first; last = last; is_over = over })

abbrev pub begun_span : Class → (is_over : Bool) → (last : ℕ) → Option Begun → Option Span
begun_span c over last None = None
begun_span c over last (Some b) =
    Some (record { row = Operations b.seat; class = c; first = b.first; last = last; is_over = over })

abbrev pub reading_span : Class → (is_over : Bool) → (last seat : ℕ) → Option ℕ → Option Span
reading_span c over last seat None = None
reading_span c over last seat (Some first) =
    Some (record { row = Section seat; class = c; first = first; last = last; is_over = over })

abbrev pub one_event : Class → (place seat : ℕ) → Option Span
one_event c k seat = Some (record { row = Operations seat; class = c; first = k; last = k; is_over = true })

-- what an event ends
abbrev pub ended_in : Scene → (place : ℕ) → Event → Option Span
ended_in s k (WalkEnd seat cpu answer) = walking_span (class_of answer) true k cpu (lane_at s.lanes.items cpu).walk
ended_in s k (OpEnd seat answer) = begun_span (class_of answer) true k s.operation
ended_in s k (RegEnd seat answer) = begun_span (class_of answer) true k s.registration
ended_in s k (ReadUnlock seat) = reading_span class.Done true k seat (section_at s.sections.items seat)
ended_in s k (Refused seat errno op) = one_event class.Refused k seat
ended_in s k (Armed seat cpu value) = one_event class.Done k seat
ended_in s k (Shown seat file cpu value) = one_event class.Done k seat
ended_in s k (Wakeup seat) = one_event class.Done k seat
ended_in s k _ = None

-- what is in flight
abbrev pub walks_in : Scene → (last possible : ℕ) → List Span
walks_in s last n =
    flat_map (λ c. option_to_list (walking_span class.Going false last c (lane_at s.lanes.items c).walk)) (numbers n)

abbrev pub sections_in : Scene → (last : ℕ) → (seats : List ℕ) → List Span
sections_in s last seats =
    flat_map (λ k. option_to_list (reading_span class.Going false last k (section_at s.sections.items k))) seats

abbrev pub going_in : Scene → (last : ℕ) → Sheet → List Span
going_in s last sheet =
    walks_in s last sheet.possible
    ++ (option_to_list (begun_span class.Going false last s.operation)
    ++ (option_to_list (begun_span class.Going false last s.registration) ++ sections_in s last sheet.clients))

-- the processor that walks, or that an entry is of
abbrev pub cpu_in : Event → Option ℕ
cpu_in (WalkBegin seat cpu from to) = Some cpu
cpu_in (Call seat cpu state inst dir how) = Some cpu
cpu_in (WalkEnd seat cpu answer) = Some cpu
cpu_in _ = None

-- the lines of the processors, as far as a place
pub record AreTracks (head : Head) (events : List Event) (w : Window) (place : ℕ) (tracks : List (List ℕ)) : Type 0 where
  pub many : length tracks ≡ head.possible
  pub each : (c : ℕ) → c < head.possible → slice_index_or tracks c [] ≡ track_below head events w place c

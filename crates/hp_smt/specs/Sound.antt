-- What is so of SMT control at any time. This project's own.
use Rattle.std.specs.Prelude.{◌≡◌, ◌⊎◌, ℕ, ◌<◌, ◌≤◌, Bool, true, false, not, ◌&&◌, ◌||◌, Option, Some, None, List, length}
use Rattle.hp_states.specs.declared.cpu_set.CpuSet.{CpuSet}
use Rattle.hp_states.specs.declared.limits.TheConstants.{MAX_CPU_SET}
use Rattle.hp_states.specs.CpuSets.{has}
use Rattle.hp_event.specs.declared.event.Event.{Event}
use Rattle.hp_event.specs.declared.event.Role.TheVariants.{Client}
use Rattle.hp_model.specs.MapLock.{Operation, operation}
use Rattle.hp_model.specs.Seats.{is_busy, role_of}
use Rattle.hp_table.specs.Step.{AllHome}
use Rattle.hp_board.specs.Contents.{Contents}
use Rattle.hp_smt.specs.Brought.{IsBroughtUp}
use Rattle.hp_smt.specs.Modes.{is_off, is_closing, wants_on, begun_mode, own_op}
use Rattle.hp_smt.specs.Shut.{IsShut}
use Rattle.hp_smt.specs.Writes.{write_by}
use Rattle.hp_smt.specs.declared.mode.Control.{Control}
use Rattle.hp_smt.specs.declared.mode.Control.TheVariants.{On}
use Rattle.hp_smt.specs.declared.mode.Mode.{Mode}
use Rattle.hp_smt.specs.declared.setting.Setting.{Setting}
use Rattle.hp_smt.specs.declared.setting.Write.{Write}

-- a write of Off or ForceOff that began where no sibling was online: the mode may fall back to that
abbrev pub falls_back_off : Write → Bool
falls_back_off w = not (wants_on w.want) && is_off w.was

abbrev pub may_fall_back_off : Option Write → Bool
may_fall_back_off None = false
may_fall_back_off (Some w) = falls_back_off w

-- whether the siblings are kept off
abbrev pub is_shut : Setting → Bool
is_shut s = is_off s.mode || may_fall_back_off s.write

-- the operation in flight is a write's own
pub record IsOwnFlight (events : List Event) (w : Write) (cpu : ℕ) : Type 0 where
  pub of : Operation
  pub held : operation events ≡ Some of
  pub seat_is : of.seat ≡ w.seat
  pub op_is : of.op ≡ own_op w.want cpu
  pub since_is : w.since ≤ length of.before
  pub fits : cpu < MAX_CPU_SET

-- while the write takes no processor its seat has nothing in flight
abbrev pub OwnFlight : List Event → Write → Option ℕ → Type 0
OwnFlight events w None = is_busy w.seat events ≡ false
OwnFlight events w (Some c) = IsOwnFlight events w c

-- each processor that was recorded as a write of On began is recorded still, or was brought up
abbrev pub AreOnTheirWay : List Event → CpuSet → Write → Type 0
AreOnTheirWay events recorded w =
    w.want ≡ On → (c : ℕ) → has w.first c ≡ true → (has recorded c ≡ true) ⊎ IsBroughtUp events w.since w.seat c

-- a write that has begun and isn't answered
pub record IsUnderWay (events : List Event) (recorded : CpuSet) (w : Write) : Type 0 where
  pub was_settled : is_closing w.was ≡ false
  pub since_made : w.since ≤ length events
  pub own : OwnFlight events w w.taking
  pub way : AreOnTheirWay events recorded w

-- so it is of the one in flight, which gives the mode
pub record IsFlying (events : List Event) (mode : Mode) (recorded : CpuSet) (w : Write) : Type 0 where
  pub mode_is : mode ≡ begun_mode w.want
  pub going : IsUnderWay events recorded w

abbrev pub HasWrite : List Event → Mode → CpuSet → Option Write → Type 0
HasWrite events mode recorded None = is_closing mode ≡ false
HasWrite events mode recorded (Some w) = IsFlying events mode recorded w

-- while no sibling may be online none is, nor may come up
pub record IsSmt (board : Contents) (threads : ℕ) (s : Setting) : Type 0 where
  pub at_least_two : 2 ≤ threads
  pub at_most_eight : threads ≤ 8
  pub home : AllHome board.places
  pub shut : is_shut s ≡ true → IsShut threads board.events
  pub write : HasWrite board.events s.mode s.recorded s.write

-- ---- what a turn of a write asks

-- a write can go on: its seat is a client's, and where it may fall back to Off no sibling is online
pub record CanGoOn (board : Contents) (threads : ℕ) (recorded : CpuSet) (w : Write) : Type 0 where
  pub client : role_of w.seat board.events ≡ Some Client
  pub going : IsUnderWay board.events recorded w
  pub back : falls_back_off w ≡ true → IsShut threads board.events

-- what a seat that has a write in flight writes is that
abbrev pub IsSameWrite : Option Write → Control → Type 0
IsSameWrite None want = Unit {0}
IsSameWrite (Some w) want = w.want ≡ want

-- a client's seat that has nothing in flight but this write
pub record MayWrite (board : Contents) (s : Setting) (seat : ℕ) (want : Control) : Type 0 where
  pub client : role_of seat board.events ≡ Some Client
  pub same : IsSameWrite (write_by seat s.write) want
  pub free : write_by seat s.write ≡ None → is_busy seat board.events ≡ false

-- The state whose hook the next entry calls, where it calls one: in the walk of a processor, in the registration in flight, and of a
-- thread that a client waits for. After `cpuhp_invoke_callback` of `kernel/cpu.c`; that it is known before is this project's own.
use Rattle.std.specs.Prelude.{◌≡◌, ℕ, Option, List}
use Rattle.hp_states.specs.declared.dir.Dir.{Dir}
use Rattle.hp_event.specs.declared.how.How.{How}
use Rattle.hp_event.specs.declared.head.Head.{Head}
use Rattle.hp_event.specs.declared.event.Event.{Event}
use Rattle.hp_model.specs.ApTurn.{IsApTurn}
use Rattle.hp_model.specs.StandsCalls.{WalkEntry, RegistrationEntry}
use Rattle.hp_account.specs.UnderWay.{hook_asked}

-- an entry that comes next in the walk of a processor calls the hook of this state, or none
abbrev pub WalkAsks : Head → List Event → (cpu : ℕ) → (asked : Option ℕ) → Type 0
WalkAsks head events c asked =
    (s i : ℕ) (d : Dir) (how : How) → WalkEntry head events c s i d how → asked ≡ hook_asked s how

-- so does one that comes next in the registration in flight
abbrev pub RegistrationAsks : Head → List Event → (asked : Option ℕ) → Type 0
RegistrationAsks head events asked =
    (c s i : ℕ) (d : Dir) (how : How) → RegistrationEntry head events c s i d how → asked ≡ hook_asked s how

-- and one that a client waits for, which the thread of a processor has to make
abbrev pub ThreadAsks : Head → List Event → (cpu : ℕ) → (asked : Option ℕ) → Type 0
ThreadAsks head events c asked = (seat : ℕ) (turn : IsApTurn head events seat c) → asked ≡ hook_asked turn.state turn.how

-- What becomes of the walks in flight where one begins, goes on past an entry, or ends. This project's own.
use Rattle.std.specs.Prelude.{◌≡◌, ◌<◌, ◌-◌, ◌==◌, ◌&&◌, ◌||◌, not, false, ℕ, Option, Some, None, List, [], slice_set, replicate}
use Rattle.hp_states.specs.CpuSets.{has}
use Rattle.hp_event.specs.declared.how.How.{How}
use Rattle.hp_walk.specs.Cursor.{cpu_of, from_of, to_of}
use Rattle.hp_walk.specs.After.{IsAfter, IsWithin}
use Rattle.hp_walk.specs.Asked.{asked, FitsStep}
use Rattle.hp_walk.specs.Took.{Took}
use Rattle.hp_account.specs.declared.flights.Flight.{Flight}
use Rattle.hp_account.specs.declared.flights.Flights.{Flights}
use Rattle.hp_account.specs.Places.{at_place}

-- no processor of so many walks
pub record IsStill (cpus : ℕ) (f : Flights) : Type 0 where
  pub by_cpu_is : f.by_cpu.items ≡ replicate cpus None
  pub walking_is : (c : ℕ) → has f.walking c ≡ false

-- the walk of one processor is this, and those of all others are as they were
pub record IsWithWalk (cpu : ℕ) (flight : Option Flight) (old new : Flights) : Type 0 where
  pub by_cpu_is : new.by_cpu.items ≡ slice_set old.by_cpu.items cpu flight

-- a walk has begun, with no entry made, and one event of its room is taken
pub record WalkBegan (keys : ℕ → List ℕ) (seat cpu from to need : ℕ) (old new : Flights) : Type 0 where
  pub flight : Flight
  pub with_it : IsWithWalk cpu (Some flight) old new
  pub walking_is : (c : ℕ) → has new.walking c ≡ (c == cpu || has old.walking c)
  pub seat_is : flight.seat ≡ seat
  pub walk_is : (cpu_of flight.walk ≡ cpu) × (from_of flight.walk ≡ from) × (to_of flight.walk ≡ to)
  pub after : IsAfter keys [] flight.walk
  pub left_is : flight.left ≡ need - 1

-- the walk of a processor stands among its keys, and has room for an event
pub record IsGoing (keys : ℕ → List ℕ) (flight : Flight) : Type 0 where
  pub within : IsWithin keys flight.walk
  pub room : 0 < flight.left

-- it asks for an entry that can be made so
pub record CanGoOn (keys : ℕ → List ℕ) (how : How) (flight : Flight) : Type 0 where
  pub going : IsGoing keys flight
  pub asks : FitsStep (asked keys flight.walk) how

abbrev pub IfFlies : Option Flight → (Flight → Type 0) → Type 0
IfFlies None P = Unit {0}
IfFlies (Some flight) P = P flight

abbrev pub IfWalks : Option Flight → (Flight → Type 0) → Type 0
IfWalks None P = ⊥
IfWalks (Some flight) P = P flight

-- the walk of a processor has gone on past an entry, which took one event of its room
pub record WalkWentOn (keys : ℕ → List ℕ) (cpu : ℕ) (how : How) (old new : Flights) : Type 0 where
  pub flight : Flight
  pub was : at_place old.by_cpu.items cpu ≡ Some flight
  pub now : Flight
  pub with_it : IsWithWalk cpu (Some now) old new
  pub walking_is : new.walking ≡ old.walking
  pub seat_is : now.seat ≡ flight.seat
  pub took : Took keys how flight.walk now.walk
  pub left_is : now.left ≡ flight.left - 1

-- the walk of a processor has ended, and what is left of its room is given back, but for the end itself
pub record WalkEnded (cpu freed : ℕ) (old new : Flights) : Type 0 where
  pub flight : Flight
  pub was : at_place old.by_cpu.items cpu ≡ Some flight
  pub with_it : IsWithWalk cpu None old new
  pub walking_is : (c : ℕ) → has new.walking c ≡ (not (c == cpu) && has old.walking c)
  pub freed_is : freed ≡ flight.left - 1

-- An entry that isn't done is one that may fail.
use Rattle.std.proofs.Common.{◌≡◌, ℕ, zero, suc, Bool, true, false, ◌&&◌, cond, List, refl}
use Rattle.std.proofs.lemmas.Bool.{true≢false, and_parts}
use Rattle.hp_states.specs.declared.dir.Dir.{Dir}
use Rattle.hp_states.specs.declared.place.Place.{Place}
use Rattle.hp_states.specs.Sections.{can_fail}
use Rattle.hp_event.specs.declared.how.How.TheVariants.{Injected, Empty, Presumed}
use Rattle.hp_event.specs.declared.op.Op.{Op}
use Rattle.hp_event.specs.declared.head.Head.{Head}
use Rattle.hp_event.specs.declared.event.Event.{Event}
use Rattle.hp_model.specs.Armed.{armed, is_armed_at}
use Rattle.hp_model.specs.Calls.{sub_at}
use Rattle.hp_model.specs.Entries.{is_done}
use Rattle.hp_model.specs.How.{how_answered, answer_at, takes_fault, how_in_walk, is_nocalls, how_in_registration}
use Rattle.hp_model.specs.Subsystems.{has_callback}

answered_fails : (may_fail : Bool) (code : ℕ) → is_done (how_answered may_fail code) ≡ false → may_fail ≡ true
answered_fails may_fail zero h = absurd (true≢false h)
answered_fails true (suc n) h = refl
answered_fails false (suc n) h = absurd (true≢false h)

pub walk_fails : (head : Head) (xs : List Event) (c s i : ℕ) (d : Dir) (place : Place) (first : Bool) →
    is_done (how_in_walk head xs c s i d place first) ≡ false → can_fail d s place ≡ true
walk_fails head xs c s i d place first h = go (has_callback (sub_at head s xs) d) (takes_fault xs c s d place first) refl h
  where
    go : (has takes : Bool) → takes_fault xs c s d place first ≡ takes →
        is_done (cond has (cond takes Injected (how_answered (can_fail d s place) (answer_at head xs c s i d))) Empty) ≡ false →
        can_fail d s place ≡ true
    go true true e h =
        (and_parts (can_fail d s place) (is_armed_at (armed c xs) s)
        (and_parts first (can_fail d s place && is_armed_at (armed c xs) s) e).1).0
    go true false e h = answered_fails (can_fail d s place) (answer_at head xs c s i d) h
    go false t e h = absurd (true≢false h)

pub registration_fails : (head : Head) (xs : List Event) (op : Op) (c s i : ℕ) (d : Dir) (place : Place) →
    is_done (how_in_registration head xs op c s i d place) ≡ false → can_fail d s place ≡ true
registration_fails head xs op c s i d place h = go (is_nocalls op) (has_callback (sub_at head s xs) d) h
  where
    go : (none has : Bool) →
        is_done (cond none Presumed (cond has (how_answered (can_fail d s place) (answer_at head xs c s i d)) Empty)) ≡ false →
        can_fail d s place ≡ true
    go true b h = absurd (true≢false h)
    go false true h = answered_fails (can_fail d s place) (answer_at head xs c s i d) h
    go false false h = absurd (true≢false h)

-- A seat leaves where it can.
use Rattle.std.proofs.Common.{◌≡◌, ℕ, Bool, true, false, not, ◌&&◌, is_some, is_none, ◌↔◌, Option, Some, None, List, refl, sym}
use Rattle.std.proofs.lemmas.Bool.{true≢false}
use Rattle.hp_event.specs.declared.event.Role.{Role}
use Rattle.hp_event.specs.declared.head.Head.{Head}
use Rattle.hp_event.specs.declared.event.Event.{Event}
use Rattle.hp_event.specs.declared.event.Event.TheVariants as event
use Rattle.hp_model.specs.Lawful.{Stands}
use Rattle.hp_model.specs.NextEvent.{due_entry}
use Rattle.hp_model.specs.Readers.{is_reading}
use Rattle.hp_model.specs.Seats.{role_of, is_busy}
use Rattle.hp_model.proofs.DueGives.{due_nothing}
use Rattle.hp_machine.specs.Leaving.{can_leave}

all_four : (a b c d : Bool) → (a && (not b && (not c && d))) ≡ true → (a ≡ true) × (b ≡ false) × (c ≡ false) × (d ≡ true)
all_four true false false true h = (refl, refl, refl, refl)
all_four false b c d h = absurd (true≢false (sym h))
all_four true true c d h = absurd (true≢false (sym h))
all_four true false true d h = absurd (true≢false (sym h))
all_four true false false false h = absurd (true≢false (sym h))

is_in : (o : Option Role) → is_some o ≡ true → (role : Role) × (o ≡ Some role)
is_in None h = absurd (true≢false (sym h))
is_in (Some role) h = (role, refl)

none_is : (o : Option Event) → is_none o ≡ true → o ≡ None
none_is None h = refl
none_is (Some e) h = absurd (true≢false (sym h))

pub leaves_so : (head : Head) (es : List Event) (k : ℕ) → (can_leave head es k ≡ true) ↔ Stands head es (event.Leave k)
leaves_so head es k = (there, back)
  where
    there : can_leave head es k ≡ true → Stands head es (event.Leave k)
    there h =
        let a = all_four (is_some (role_of k es)) (is_reading k es) (is_busy k es) (is_none (due_entry head es k)) h in (
          record {
            is_in = is_in (role_of k es) a.0;
            not_reading = a.1;
            idle = a.2;
            no_entry_due = (due_nothing head es k).0 (none_is (due_entry head es k) a.3);
          },
          refl,
        )

    back : Stands head es (event.Leave k) → can_leave head es k ≡ true
    back h =
        let b = h.0 in
        let role = b.is_in.1 in
        let reads = b.not_reading in
        let idle = b.idle in
        let none = (due_nothing head es k).1 b.no_entry_due in
        rw (role, reads, idle, none) refl

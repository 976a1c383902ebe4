-- Who holds the map lock isn't in a read section.
use Rattle.std.proofs.Common.{◌≡◌, ℕ, Bool, true, false, cond, eqb, is_some, Option, Some, None, List, [], ◌∷◌, ◌++◌, refl, sym}
use Rattle.std.proofs.lemmas.Bool.{true≢false}
use Rattle.hp_states.proofs.Basics.{unequal_turned, none_some, same_some}
use Rattle.hp_event.specs.declared.op.Op.{Op}
use Rattle.hp_event.specs.declared.op.Op.TheVariants.{Target, Boot, Disable, Enable, Freeze, Thaw}
use Rattle.hp_event.specs.declared.head.Head.{Head}
use Rattle.hp_event.specs.declared.event.Event.{Event}
use Rattle.hp_event.specs.declared.event.Event.TheVariants.{Enter, OpEnd, ReadLock, ReadUnlock}
use Rattle.hp_model.specs.MapLock.{Operation, operation, is_map_op}
use Rattle.hp_model.specs.Readers.{reading_since, is_reading}
use Rattle.hp_model.specs.RefusalsAtOnce.{refusals_at_once, first_that_holds}
use Rattle.hp_model.specs.StandsOperations.{Enters}
use Rattle.hp_model.specs.Lawful.{Comes, IsLawful}
use Rattle.hp_model.proofs.Laws.{operation_push, reading_since_push}
use Rattle.hp_model.proofs.Passing.{none_holds, passed}
use Rattle.hp_model.proofs.Owners.{idle_op}
use Rattle.hp_model.proofs.Induction.{holds}

pub record HoldersDontRead (xs : List Event) : Type 0 where
  pub at : (o : Operation) → operation xs ≡ Some o → is_reading o.seat xs ≡ false

-- an operation of the map lock that isn't refused at once is of a seat that doesn't read
not_reader : (head : Head) (xs : List Event) (k : ℕ) (op : Op) → is_map_op op ≡ true →
    first_that_holds (refusals_at_once head xs k op) ≡ None → is_reading k xs ≡ false
not_reader head xs k (Op.Up c) m h = (none_holds (refusals_at_once head xs k (Op.Up c)) h).0
not_reader head xs k (Op.Down c) m h = (none_holds (refusals_at_once head xs k (Op.Down c)) h).0
not_reader head xs k (Target c v) m h = (none_holds (refusals_at_once head xs k (Target c v)) h).0
not_reader head xs k (Boot n) m h = (none_holds (refusals_at_once head xs k (Boot n)) h).0
not_reader head xs k Disable m h = (none_holds (refusals_at_once head xs k Disable) h).0
not_reader head xs k Enable m h = (none_holds (refusals_at_once head xs k Enable) h).0
not_reader head xs k (Freeze p) m h = (none_holds (refusals_at_once head xs k (Freeze p)) h).0
not_reader head xs k Thaw m h = (none_holds (refusals_at_once head xs k Thaw) h).0
not_reader head xs k (Op.UpMany set) m h = (none_holds (refusals_at_once head xs k (Op.UpMany set)) h).0
not_reader head xs k op m h = absurd (true≢false (sym m))

entered_reader : (head : Head) (xs : List Event) (k : ℕ) (op : Op) → Enters head xs k op → is_reading k xs ≡ false
entered_reader head xs k op h =
    not_reader head xs k op h.takes_map (passed head xs k op h.free.idle h.passes.not_waiting h.passes.not_refused).0

holders_step : (head : Head) (xs : List Event) (e : Event) → Comes head xs e → HoldersDontRead xs → HoldersDontRead (xs ++ e ∷ [])
holders_step head xs (Enter seat op) h d = record {
  at = λ a q.
      let n : Operation = record { seat = seat; op = op; before = xs } in
      let s : n ≡ a = same_some n a (rw (operation_push xs (Enter seat op)) at q) in
      rw (← s, reading_since_push seat xs (Enter seat op)) (entered_reader head xs seat op h);
}
holders_step head xs (OpEnd seat answer) h d =
    record { at = λ a q. absurd (none_some a (rw (operation_push xs (OpEnd seat answer)) at q)) }
holders_step head xs (ReadLock seat) h d = record {
  at = λ a q.
      let q1 = rw (operation_push xs (ReadLock seat)) at q in
      rw (reading_since_push a.seat xs (ReadLock seat), unequal_turned a.seat seat (idle_op xs seat a h.free.idle q1)) (d.at a q1);
}
holders_step head xs (ReadUnlock seat) h d = record {
  at = λ a q.
      let q1 = rw (operation_push xs (ReadUnlock seat)) at q in
      rw (reading_since_push a.seat xs (ReadUnlock seat)) (go (eqb seat a.seat) (reading_since a.seat xs) (d.at a q1));
}
  where
    go : (b : Bool) (o : Option (List Event)) → is_some o ≡ false → is_some (cond b None o) ≡ false
    go true o h = refl
    go false o h = h
holders_step head xs e h d =
    record { at = λ a q. rw (reading_since_push a.seat xs e) (d.at a (rw (operation_push xs e) at q)) }

holders_none : HoldersDontRead []
unfolding operation
holders_none = record { at = λ a q. absurd (none_some a q) }

pub holders : (head : Head) (xs : List Event) → IsLawful head xs → HoldersDontRead xs
holders head xs h = holds head HoldersDontRead holders_none (λ xs e s k d. holders_step head xs e s.0 d) xs h

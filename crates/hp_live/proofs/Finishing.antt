-- One whole operation of a client that has none in flight.
use Rattle.std.proofs.Common.{◌≡◌, ℕ, Bool, true, false, not, ◌&&◌, Result, Ok, Err, OnOk, OnErr, Some, List, [], inl, inr, refl, sym, ap, ◌∙◌, subst}
use Rattle.std.proofs.lemmas.Bool.{eq-eqb, true≢false}
use Rattle.hp_states.proofs.Basics.{and_true, or_true}
use Rattle.hp_event.specs.declared.event.Event.{Event}
use Rattle.hp_event.specs.declared.event.Role.TheVariants.{Client}
use Rattle.hp_event.specs.declared.head.Head.{Head}
use Rattle.hp_event.specs.declared.op.Op.{Op}
use Rattle.hp_event.specs.declared.op.Op.TheVariants as op
use Rattle.hp_model.specs.Lawful.{IsLawful}
use Rattle.hp_model.specs.MapLock.{operation}
use Rattle.hp_model.specs.Pending.{IsInFlight}
use Rattle.hp_model.specs.Seats.{holds_map, is_busy, role_of}
use Rattle.hp_model.specs.Subsystems.{names_sub}
use Rattle.hp_account.specs.TableChanges.{is_setup}
use Rattle.hp_live.specs.Grew.{Grew}
use Rattle.hp_live.specs.Known.{IsOut, IsSamePass, Seated, Stays}
use Rattle.hp_live.specs.Sections.{CanAsk}
use Rattle.hp_live.proofs.Again.{seen_grew}
use Rattle.hp_live.proofs.Others.{busy_later}

flies_busy : (xs : List Event) (k : ℕ) (op : Op) → IsInFlight xs (record { seat = k; op = op }) → is_busy k xs ≡ true
flies_busy xs k op (inl f) =
    let at = f.1 in
    let own = eq-eqb f.0.seat k f.2 in
    rw (at, own) refl
flies_busy xs k op (inr f) =
    let at = f.1 in
    let own = eq-eqb f.0.seat k f.2 in
    rw (at, own) (or_true (holds_map k (operation xs)))

-- a client with nothing in flight may ask for any operation, with its hook
pub can_ask : (head : Head) (xs : List Event) (k : ℕ) (op : Op) (had : Bool) → role_of k xs ≡ Some Client → is_busy k xs ≡ false →
    names_sub head op ≡ true → had ≡ is_setup op → CanAsk head xs k op had
can_ask head xs k op had role idle named hook =
    record {
      allowed =
          record {
            client = role;
            same = λ other flies. absurd (true≢false (sym (flies_busy xs k other flies) ∙ idle));
            has_sub = named;
          };
      hook_is = hook ∙ sym (ap (λ b. is_setup op && not b) idle ∙ and_true (is_setup op));
    }

pub still_out : (old new : Seated) (asked : Op) → IsSamePass old new → Stays old.seat asked old.front new.front → (asked ≡ op.Lock → ⊥) →
    IsOut old.seat old.front → IsOut new.seat new.front
still_out old new asked same stays other out = subst (λ (n : ℕ). IsOut n new.front) (sym same.seat) (stays.out other out)

-- nothing is in flight afterwards
pub ran_idle : {A E : Type 0} (r : Result A E) (old new : Seated) → IsSamePass old new → OnOk r (is_busy new.seat new.front ≡ false) →
    OnErr r (Grew old.seat old.front new.front []) → IsLawful new.head new.front → is_busy old.seat old.front ≡ false →
    is_busy new.seat new.front ≡ false
ran_idle (Ok a) old new same ok err lawful idle = ok
ran_idle (Err e) old new same ok err lawful idle =
    subst (λ (n : ℕ). is_busy n new.front ≡ false) (sym same.seat)
    (busy_later new.head old.seat false old.front new.front (seen_grew old.seat old.front new.front err) lawful idle)

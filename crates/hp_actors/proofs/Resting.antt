-- Where every operation is answered, nothing is in flight.
use Rattle.std.proofs.Common.{◌≡◌, ℕ, ◌<◌, true, is_none, Option, Some, None, List, length, map, refl, ap, sym, subst, ◌∙◌, inl, inr}
use Rattle.std.proofs.lemmas.Bool.{true≢false}
use Rattle.hp_event.specs.declared.op.Op.{Op}
use Rattle.hp_event.specs.declared.event.Role.TheVariants.{Client}
use Rattle.hp_board.specs.Contents.{Contents}
use Rattle.hp_model.specs.MapLock.{Operation, operation}
use Rattle.hp_model.specs.Pending.{IsInFlight}
use Rattle.hp_model.specs.Registrations.{Registration, registration}
use Rattle.hp_model.specs.ScriptRun.{answered_below, is_over}
use Rattle.hp_model.specs.ScriptTurns.{unanswered}
use Rattle.hp_model.specs.Seats.{role_of}
use Rattle.hp_model.proofs.OneNext.{owners}
use Rattle.hp_actors.specs.declared.actor.Actor.{Actor}
use Rattle.hp_actors.specs.RunInvariant.{IsPlaying}
use Rattle.hp_actors.specs.Positions.{ops_of, answered_of, progress_of}
use Rattle.hp_actors.proofs.Playing.{going_of}
use Rattle.hp_actors.proofs.RoundLaws.{not_over}

some_pending : (actors : List (List Op)) (answers : List ℕ) (i n : ℕ) (op : Op) → answered_below actors answers n ≡ true → i < n →
    unanswered actors answers i ≡ Some op → ⊥
some_pending actors answers i n op over below asks =
    true≢false (sym over ∙ not_over actors answers i n below (ap is_none asks))

-- a client's seat has nothing in flight then
idle_client : {H : Type 0} (board : Contents) (threads : ℕ) (actors : List (Actor H)) (k : ℕ) (op : Op) →
    IsPlaying board threads actors → is_over (map ops_of actors) (progress_of board.events actors) ≡ true →
    role_of k board.events ≡ Some Client → IsInFlight board.events (record { seat = k; op = op }) → ⊥
idle_client board threads actors k op p over client flies =
    let g = going_of board threads actors p in
    let a = g.roster.only k client in
    some_pending (map ops_of actors) (map answered_of actors) a.0 (length (map ops_of actors)) op over a.1
    (g.asked a.0 op (subst (λ z. IsInFlight board.events (record { seat = z; op = op })) a.2 flies))

pub no_operation : {H : Type 0} (board : Contents) (threads : ℕ) (actors : List (Actor H)) → IsPlaying board threads actors →
    is_over (map ops_of actors) (progress_of board.events actors) ≡ true → operation board.events ≡ None
no_operation board threads actors p over = go (operation board.events) refl
  where
    go : (o : Option Operation) → operation board.events ≡ o → o ≡ None
    go None f = refl
    go (Some o) f =
        let g = going_of board threads actors p in
        absurd (idle_client board threads actors o.seat o.op p over ((owners board.head board.events g.lawful).op_client o f)
        (inl (o, f, refl, refl)))

pub no_registration : {H : Type 0} (board : Contents) (threads : ℕ) (actors : List (Actor H)) → IsPlaying board threads actors →
    is_over (map ops_of actors) (progress_of board.events actors) ≡ true → registration board.events ≡ None
no_registration board threads actors p over = go (registration board.events) refl
  where
    go : (r : Option Registration) → registration board.events ≡ r → r ≡ None
    go None f = refl
    go (Some r) f =
        let g = going_of board threads actors p in
        absurd (idle_client board threads actors r.seat r.op p over ((owners board.head board.events g.lawful).reg_client r f)
        (inr (r, f, refl, refl)))

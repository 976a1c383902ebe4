-- The client may write what comes next.
use Rattle.std.proofs.Common.{◌≡◌, ℕ, ◌+◌, Bool, true, false, cond, eqb, Option, Some, None, List, [], ◌∷◌, ◌++◌, length, map, ap, sym, subst, ◌∙◌, arith}
use Rattle.std.specs.Prelude.{slice_get, option_to_list}
use Rattle.std.proofs.lemmas.Bool.{eq-eqb}
use Rattle.std.proofs.lemmas.List.{length-map}
use Rattle.hp_states.proofs.Basics.{none_some, same_some}
use Rattle.hp_event.specs.declared.op.Op.{Op}
use Rattle.hp_event.specs.declared.event.Role.TheVariants.{Client}
use Rattle.hp_event.specs.declared.event.Event.{Event}
use Rattle.hp_model.specs.Pending.{IsInFlight}
use Rattle.hp_model.specs.Processors.{present}
use Rattle.hp_model.specs.Seats.{is_busy, role_of}
use Rattle.hp_model.proofs.Going.{Going}
use Rattle.hp_actors.specs.Positions.{ops_of}
use Rattle.hp_smt.specs.Run.{writes}
use Rattle.hp_smt.specs.Sound.{MayWrite, IsSameWrite}
use Rattle.hp_smt.specs.Writes.{write_by}
use Rattle.hp_smt.specs.declared.mode.Control.{Control}
use Rattle.hp_smt.specs.declared.setting.Write.{Write}
use Rattle.hp_smt_run.specs.Playing.{ops_in, state_of, written_as, IsPlaying}
use Rattle.hp_smt_run.specs.declared.run.SmtRun.{SmtRun}
use Rattle.hp_smt_run.proofs.Beside.{beside, un_last, long_beside}
use Rattle.hp_smt_run.proofs.Kept.{Kept, op_of_write, IsWriterOf}
use Rattle.hp_smt_run.proofs.Rounds.{kept_of}
use Rattle.hp_smt_run.proofs.Stepped.{idle_unless}

-- the seat of the client
pub clients_seat : {H : Type 0} (run : SmtRun H) → IsPlaying run →
    run.seats + length run.actors.items ≡ length (present run.smt.board.head) + length (ops_in run)
clients_seat run p = let l = length-map run.actors.items ops_of in let a = p.seats_are in omega (arith, l, a)

pub may_write : {H : Type 0} (run : SmtRun H) (want : Control) → IsPlaying run →
    slice_get (writes run.want) (length run.written.items) ≡ Some want →
    MayWrite run.smt.board run.smt.setting (run.seats + length run.actors.items) want
may_write {H} run want p next = record {
  client =
      let l = long_beside ops (option_to_list (op_of_write run.smt.setting.write)) in
      subst (λ z. role_of z xs ≡ Some Client) (sym seat) (k.going.roster.clients A (omega (arith, l)));
  same = same run.smt.setting.write k.writer;
  free = λ none. free run.smt.setting.write k.writer k.going none;
}
  where
    xs : List Event
    xs = run.smt.board.events

    ops : List (List Op)
    ops = ops_in run

    A : ℕ
    A = length ops

    S : ℕ
    S = run.seats + length run.actors.items

    K : ℕ
    K = length (present run.smt.board.head) + A

    seat : S ≡ K
    seat = clients_seat run p

    k : Kept run.smt.board.head ops run.want (state_of run)
    k = kept_of run p

    slot : slice_get (writes run.want) (length (map written_as run.written.items)) ≡ Some want
    slot = ap (slice_get (writes run.want)) (length-map run.written.items written_as) ∙ next

    by : (w : Write) → w.want ≡ want → (b : Bool) → IsSameWrite (cond b (Some w) None) want
    by w e true = e
    by w e false = tt

    same : (o : Option Write) → IsWriterOf K (slice_get (writes run.want) (length (map written_as run.written.items))) o →
        IsSameWrite (write_by S o) want
    same None h = tt
    same (Some w) h = by w (same_some w.want want (sym h.1 ∙ slot)) (eqb w.seat S)

    free : (o : Option Write) → IsWriterOf K (slice_get (writes run.want) (length (map written_as run.written.items))) o →
        Going run.smt.board.head (beside ops (op_of_write o)) xs ((state_of run).run.answers ++ 0 ∷ []) → write_by S o ≡ None →
        is_busy S xs ≡ false
    free None h g none =
        idle_unless xs S (λ op f.
        let u = g.asked A op (subst (λ z. IsInFlight xs (record { seat = z; op = op })) seat f) in
        absurd (none_some op (sym (un_last ops [] (state_of run).run.answers 0 k.long) ∙ u)))
    free (Some w) h g none =
        let same : w.seat ≡ S = h.0 ∙ sym seat in
        absurd (none_some w (sym none ∙ ap (λ b. cond b (Some w) None) (eq-eqb w.seat S same)))

use Rattle.std.proofs.Common.{◌≡◌, None, Result, Ok, Err, OnOk, OnErr, refl, ◌∙◌, ap, sym, subst}
use Rattle.hp_event.specs.declared.event.Event.TheVariants.{Admit}
use Rattle.hp_machine.specs.Admission.{refusal_of}
use Rattle.hp_machine.proofs.Admitted.{admission_stands}
use Rattle.hp_model.specs.Seats.{admits}
use Rattle.hp_called.specs.Called.{IsCalled}
use Rattle.hp_board.specs.Contents.{Contents, with_event}
use Rattle.hp_board.specs.Loans.{AreOut, loan}
use Rattle.hp_board.proofs.Following.{after_admit}
use Rattle.hp_board.proofs.KeptOut.{calm_seat}
use Rattle.hp_board.proofs.Loans.{next_idle}
use Rattle.hp_board.proofs.LoansStay.{goes_on, loans_stay, out_stays}
use Rattle.hp_board.proofs.board.Board.admit.Goals as goal

either : {T E : Type 0} (r : Result T E) (A F B P : Type 0) → OnOk r A → OnOk r F → OnErr r B → (A → F → P) → (B → P) → P
either (Ok x) A F B P a f b on_ok on_err = on_ok a f
either (Err e) A F B P a f b on_ok on_err = on_err b

pub invariant_of-self : goal.invariant_of-self
invariant_of-self g c =
    let b = c.self.inside.machine in
    let e = Admit (admits b.events) c.args.role in
    let new = c.admit.new.self in
    record {
      out =
          either c.admit.result (new ≡ with_event b e) (refusal_of b.head b.events c.args.role ≡ None) (new ≡ b)
          (AreOut new) c.admit.ensures.ok c.admit.ensures.free c.admit.ensures.err
          (λ is free. subst AreOut (sym is)
          (out_stays b (with_event b e) c.self.invariant.out
          (goes_on b (admits b.events) e c.sound.ensures.lawful c.self.invariant.out (admission_stands b.head b.events c.args.role free) refl
          (next_idle b c.sound.ensures.lawful) (calm_seat b e refl (λ c. refl)))))
          (λ is. subst AreOut (sym is) c.self.invariant.out);
      called =
          either c.admit.result (new ≡ with_event b e) (refusal_of b.head b.events c.args.role ≡ None) (new ≡ b)
          (IsCalled new.head new.events c.self.inside.called) c.admit.ensures.ok c.admit.ensures.free c.admit.ensures.err
          (λ is free. subst (λ (m : Contents). IsCalled m.head m.events c.self.inside.called) (sym is)
          (after_admit b (admits b.events) c.args.role c.self.inside.called c.sound.ensures.lawful
          (admission_stands b.head b.events c.args.role free) c.self.invariant.called))
          (λ is. subst (λ (m : Contents). IsCalled m.head m.events c.self.inside.called) (sym is) c.self.invariant.called);
    }

pub returns-clause-stays : goal.returns-clause-stays
returns-clause-stays g c = λ k.
    let b = c.self.inside.machine in
    let e = Admit (admits b.events) c.args.role in
    let new = c.admit.new.self in
    either c.admit.result (new ≡ with_event b e) (refusal_of b.head b.events c.args.role ≡ None) (new ≡ b)
    (loan new k ≡ loan b k) c.admit.ensures.ok c.admit.ensures.free c.admit.ensures.err
    (λ is free. ap (λ (z : Contents). loan z k) is
    ∙ loans_stay b (admits b.events) e c.sound.ensures.lawful c.self.invariant.out (admission_stands b.head b.events c.args.role free) refl
    (next_idle b c.sound.ensures.lawful) (calm_seat b e refl (λ c. refl)) k)
    (λ is. ap (λ (z : Contents). loan z k) is)
    ∙ ap (λ (z : Contents). loan z k) c.self.view_is

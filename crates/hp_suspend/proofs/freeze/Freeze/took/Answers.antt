use Rattle.std.proofs.Common.{◌≡◌, true, false, not, Option, Some, None, refl, ap, sym, ◌∙◌}
use Rattle.std.proofs.lemmas.Bool.{true≢false}
use Rattle.std.specs.Prelude.{is_some}
use Rattle.hp_event.specs.declared.answer.Answer.{Answer}
use Rattle.hp_event.specs.Answers.{is_ok}
use Rattle.hp_suspend.specs.declared.freeze.Freeze.{Freeze}
use Rattle.hp_suspend.specs.ByLists.{ended_after, freeze_after}
use Rattle.hp_suspend.proofs.Taking.{freezing_took}
use Rattle.hp_suspend.proofs.freeze.Freeze.took.Goals as goal
use Rattle.hp_suspend.proofs.freeze.Freeze.took.Goals.{else-is_none-via-then-is_none+else-not-is_ok, else-is_none-via-else-is_none}

none_yet : (o : Option Answer) → is_some o ≡ false → o ≡ None
none_yet None h = refl
none_yet (Some x) h = absurd (true≢false h)

some_already : (o : Option Answer) (answer : Answer) → is_some o ≡ true → o ≡ ended_after answer o
some_already None answer h = absurd (true≢false (sym h))
some_already (Some x) answer h = refl

keeps : (f : Freeze) (answer : Answer) → f.ended ≡ ended_after answer f.ended → f ≡ freeze_after f answer
keeps f answer h = ap (λ o. record { primary = f.primary; ended = o }) h

pub returns-then-not-is_ok : goal.returns-then-not-is_ok
returns-then-not-is_ok c =
    let e : is_ok c.args.answer ≡ false = sym c.is_ok.ensures ∙ c.if-not-is_ok.true in
    let n = none_yet c.args.self.now.ended (c.is_none.ensures ∙ ap not c.if-is_none.true) in
    let is : _ ≡ freeze_after c.args.self.now c.args.answer = rw (n, e) refl in
    record { freezing = freezing_took c.args.self.now _ c.args.answer is; kept = is }

pub returns-else-is_none : goal.returns-else-is_none
returns-else-is_none c =
    let is : c.args.self.now ≡ freeze_after c.args.self.now c.args.answer =
    keeps c.args.self.now c.args.answer
    (elim c.else-is_none.branch [
      | else-is_none-via-then-is_none+else-not-is_ok w ↦
          let e : is_ok c.args.answer ≡ true = sym w.is_ok.ensures ∙ w.if-not-is_ok.false in
          let n = none_yet c.args.self.now.ended (c.is_none.ensures ∙ ap not w.if-is_none.true) in
          rw (n, e) refl
      | else-is_none-via-else-is_none w ↦
          some_already c.args.self.now.ended c.args.answer (c.is_none.ensures ∙ ap not w.if-is_none.false)
    ])
    in
    record { freezing = freezing_took c.args.self.now c.args.self.now c.args.answer is; kept = is }

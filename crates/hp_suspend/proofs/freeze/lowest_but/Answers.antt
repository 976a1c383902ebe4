use Rattle.std.proofs.Common.{◌≡◌, ℕ, ◌&&◌, ◌∙◌, Bool, true, false, not, eqb, get_or, length, refl, ap, sym}
use Rattle.std.specs.Prelude.{filter, slice_get}
use Rattle.std.proofs.lemmas.Bool.{eqb-true}
use Rattle.hp_model.specs.Lists.{numbers}
use Rattle.hp_suspend.proofs.Places.{place_at}
use Rattle.hp_suspend.proofs.freeze.lowest_but.Goals as goal

passes : (on : Bool) (c p : ℕ) → on ≡ true → (c ≡ p → ⊥) → (on && not (eqb c p)) ≡ true
passes on c p h other = rw h (go (eqb c p) refl)
  where
    go : (b : Bool) → eqb c p ≡ b → not b ≡ true
    go true e = absurd (other (eqb-true c p e))
    go false e = refl

pub returns-then-cpu-primary : goal.returns-then-cpu-primary
returns-then-cpu-primary c =
    let on = c.args.online.now in
    let test : ℕ → Bool = λ d. get_or on d false && not (eqb d c.args.primary) in
    let here = place_at test (length on) c.loop-cpu.cpu c.loop-cpu-test.true
    (passes (get_or on c.loop-cpu.cpu false) c.loop-cpu.cpu c.args.primary c.if-online-cpu.true c.if-cpu-primary.true)
    in
    sym (ap (slice_get (filter test (numbers (length on)))) (sym c.loop-cpu.invariant) ∙ here)

use Rattle.std.proofs.Common.{◌≡◌, Some, None, to_z, w32, refl, sym, ◌∙◌, arith}
use Rattle.std.specs.Prelude.{pos}
use Rattle.std.proofs.lemmas.Int.{ints}
use Rattle.hp_suspend.proofs.Asking.{first_to_thaw, thaw_said, thaw_asks}
use Rattle.hp_suspend.proofs.thaw.Thaw.next.Goals as goal

pub returns-in-None : goal.returns-in-None
returns-in-None c =
    let t = c.args.self.now in
    let found : first_to_thaw t c.args.frozen.now c.args.settled.now ≡ None = sym c.first_left.ensures ∙ c.in-None.is in
    let failed : to_z w32 t.failed ≡ pos t.failed = omega (arith, ints) in
    record {
      by_lists = thaw_said t c.args.frozen.now c.args.settled.now _ (rw (found, failed) refl);
      by_journal = thaw_asks t c.args.frozen.now c.args.settled.now _ (rw (found, failed) refl);
    }

pub returns-in-Some : goal.returns-in-Some
returns-in-Some c =
    let t = c.args.self.now in
    let found : first_to_thaw t c.args.frozen.now c.args.settled.now ≡ Some c.in-Some.cpu =
    sym c.first_left.ensures ∙ c.in-Some.is
    in
    record {
      by_lists = thaw_said t c.args.frozen.now c.args.settled.now _ (rw found refl);
      by_journal = thaw_asks t c.args.frozen.now c.args.settled.now _ (rw found refl);
    }

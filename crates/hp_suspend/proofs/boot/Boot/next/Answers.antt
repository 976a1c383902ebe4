use Rattle.std.proofs.Common.{◌≡◌, true, false, leb, Some, None, to_z, w32, refl, sym, ◌∙◌, arith}
use Rattle.std.specs.Prelude.{pos}
use Rattle.std.proofs.lemmas.Int.{ints}
use Rattle.std.proofs.lemmas.Bool.{le-leb, lt-leb}
use Rattle.hp_suspend.specs.ByLists.{online_count}
use Rattle.hp_suspend.proofs.Asking.{first_to_boot, boot_said, boot_asks}
use Rattle.hp_suspend.proofs.boot.Boot.next.Goals as goal

pub returns-then-self-count : goal.returns-then-self-count
returns-then-self-count c =
    let enough : leb c.args.self.now.max (online_count c.args.online.now) ≡ true =
    le-leb c.args.self.now.max (online_count c.args.online.now) (rw c.count.ensures at c.if-self-count.true)
    in
    let failed : to_z w32 c.args.self.now.failed ≡ pos c.args.self.now.failed = omega (arith, ints) in
    record {
      by_lists = boot_said c.args.self.now c.args.present.now c.args.online.now _ (rw (enough, failed) refl);
      by_journal = boot_asks c.args.self.now c.args.present.now c.args.online.now _ (rw (enough, failed) refl);
    }

pub returns-in-None : goal.returns-in-None
returns-in-None c =
    let more : leb c.args.self.now.max (online_count c.args.online.now) ≡ false =
    lt-leb c.args.self.now.max (online_count c.args.online.now) (rw c.count.ensures at c.if-self-count.false)
    in
    let found : first_to_boot c.args.self.now c.args.present.now c.args.online.now ≡ None =
    sym c.first_left.ensures ∙ c.in-None.is
    in
    let failed : to_z w32 c.args.self.now.failed ≡ pos c.args.self.now.failed = omega (arith, ints) in
    record {
      by_lists = boot_said c.args.self.now c.args.present.now c.args.online.now _ (rw (more, found, failed) refl);
      by_journal = boot_asks c.args.self.now c.args.present.now c.args.online.now _ (rw (more, found, failed) refl);
    }

pub returns-in-Some : goal.returns-in-Some
returns-in-Some c =
    let more : leb c.args.self.now.max (online_count c.args.online.now) ≡ false =
    lt-leb c.args.self.now.max (online_count c.args.online.now) (rw c.count.ensures at c.if-self-count.false)
    in
    let found : first_to_boot c.args.self.now c.args.present.now c.args.online.now ≡ Some c.in-Some.cpu =
    sym c.first_left.ensures ∙ c.in-Some.is
    in
    record {
      by_lists = boot_said c.args.self.now c.args.present.now c.args.online.now _ (rw (more, found) refl);
      by_journal = boot_asks c.args.self.now c.args.present.now c.args.online.now _ (rw (more, found) refl);
    }

use Rattle.std.proofs.Common.{arith, ◌≡◌, ◌<◌, ◌∙◌, false, length, List, Option, sym}
use Rattle.hp_states.specs.declared.limits.TheConstants.{ONLINE}
use Rattle.hp_table.specs.Step.{Step}
use Rattle.hp_table.specs.Named.{is_named}
use Rattle.hp_table.proofs.Marked.{marked_more}
use Rattle.hp_table.proofs.Tables.{counted_installed}
use Rattle.hp_table.proofs.table.Table.install.Goals as goal

pub invariant_of-self : goal.invariant_of-self
invariant_of-self g c =
    let places : List (Option Step) = c.self.inside.places.items in
    let below : c.args.state < ONLINE = omega arith in
    let free : is_named places c.args.state ≡ false = rw c.self.view_is (sym c.is_named.ensures.named ∙ c.if-is_named.false) in
    let within : c.args.state < length places = omega (arith, c.self.invariant.counted.sound.states) in
    rw c.new.ensures (record {
      counted = counted_installed places c.args.state c.self.inside.count _ below free c.self.invariant.counted;
      marked = marked_more places c.args.state _ c.self.inside.states _ within c.self.invariant.marked c.put.ensures;
    })

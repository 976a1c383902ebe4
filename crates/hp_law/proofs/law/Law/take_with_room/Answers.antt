use Rattle.std.proofs.Common.{◌≡◌, Result, Ok, Err, OnOk, OnErr, sym, subst}
use Rattle.hp_table.specs.Step.{AllHome}
use Rattle.hp_machine.proofs.Homes.{home_after}
use Rattle.hp_machine.specs.Contents.{Contents, with_event}
use Rattle.hp_law.proofs.law.Law.take_with_room.Goals as goal

either : {T E : Type 0} (r : Result T E) (A B P : Type 0) → OnOk r A → OnErr r B → (A → P) → (B → P) → P
either (Ok x) A B P a b f g = f a
either (Err e) A B P a b f g = g b

pub invariant_of-self : goal.invariant_of-self
invariant_of-self c =
    let m = c.self.inside.machine in
    let e = c.args.event.now in
    let new = c.make.new.self in
    either c.make.result (new ≡ with_event m e) ((new ≡ m) × (c.make.new.hook ≡ c.hook_for.result)) (AllHome new.places) c.make.ensures.made c.make.ensures.err
    (λ is. subst (λ (x : Contents). AllHome x.places) (sym is) (home_after m.head m.events e m.places c.self.invariant))
    (λ is. subst (λ (x : Contents). AllHome x.places) (sym is.0) c.self.invariant)

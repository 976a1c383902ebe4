use Rattle.std.proofs.Common.{◌≡◌, ◌∙◌, refl, ap}
use Rattle.std.proofs.lemmas.Bool.{lt-ltb}
use Rattle.hp_event.specs.Heads.{among}
use Rattle.hp_event.proofs.Among.{among_any}
use Rattle.hp_event.proofs.head.Head.is_present.Goals as goal

pub returns-then-cpu-self : goal.returns-then-cpu-self
returns-then-cpu-self c =
    let absent : c.contains.result ≡ among c.args.cpu c.args.self.now.absent =
    c.contains.ensures.value ∙ among_any c.args.cpu _ ∙ ap (among c.args.cpu) c.as_slice.ensures
    in
    rw (lt-ltb c.args.cpu c.args.self.now.possible c.if-cpu-self.true, absent) refl

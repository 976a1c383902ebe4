use Rattle.std.proofs.Common.{sym, subst, refl}
use Rattle.std.proofs.lemmas.Bool.{false≢true}
use Rattle.hp_smt.specs.Sound.{IsSmt}
use Rattle.hp_smt.specs.declared.setting.Setting.{Setting}
use Rattle.hp_smt.proofs.Going.{rest_home}
use Rattle.hp_smt.proofs.smt.Smt.over.Goals as goal

pub invariant_of-result : goal.invariant_of-result
invariant_of-result g c =
    subst (λ (s : Setting). IsSmt c.args.board c.args.threads s) (sym c.start.ensures.rest)
    (record {
      at_least_two = c.requires.at_least_two;
      at_most_eight = c.requires.at_most_eight;
      home = rest_home c.args.board c.sound.ensures.lawful c.sound.ensures.out c.requires.no_operation c.requires.no_registration;
      shut = λ h. absurd (false≢true h);
      write = refl;
    })

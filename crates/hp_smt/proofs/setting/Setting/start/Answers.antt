use Rattle.std.proofs.Common.{ap, ◌∙◌}
use Rattle.hp_smt.specs.Siblings.{lowest_of}
use Rattle.hp_smt.specs.declared.setting.Setting.{Setting}
use Rattle.hp_smt.proofs.Sets.{lowest_none}
use Rattle.hp_smt.proofs.setting.Setting.start.Goals as goal

pub returns-clause-none : goal.returns-clause-none
returns-clause-none c = ap (λ (s : Setting). lowest_of s.recorded) c.rest.ensures ∙ lowest_none c.none.result c.none.ensures

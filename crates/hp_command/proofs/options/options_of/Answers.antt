use Rattle.std.proofs.Common.{◌≡◌, Option, Some, None, IfNone, arith}
use Rattle.hp_command.proofs.OptionLaws.{number_begins}
use Rattle.hp_command.proofs.options.options_of.Goals as goal

at_none : {A P : Type 0} (o : Option A) → o ≡ None → IfNone o P → P
at_none None e p = p
at_none (Some x) e p = absurd cc

pub returns-in-None-clause-none : goal.returns-in-None-clause-none
returns-in-None-clause-none c options h =
    at_none c.in_ok-texts.field-0 c.in-None.is c.in_ok-texts.ensures.none h.seed h.size h.spelled
    (number_begins 1 h.seed options.seed h.said.seed_fits h.said.seed_is) (number_begins 100 h.size options.size (omega arith) h.said.size_is)

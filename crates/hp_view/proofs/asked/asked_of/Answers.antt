use Rattle.std.proofs.Common.{◌≡◌, Option, Some, None, IfNone, map, string_bytes}
use Rattle.hp_view.proofs.OptionLaws.{begins, none_so, not_asked}
use Rattle.hp_view.proofs.asked.asked_of.Goals as goal

at_none : {A P : Type 0} (o : Option A) → o ≡ None → IfNone o P → P
at_none None e p = p
at_none (Some x) e p = absurd cc

pub returns-in-None-clause-none : goal.returns-in-None-clause-none
returns-in-None-clause-none c asked h =
    at_none c.in_ok-texts.field-0 c.in-None.is c.in_ok-texts.ensures.none h.start h.stop h.spelled
    (begins h.start asked.start h.start_is) (begins h.stop asked.stop h.stop_is)

pub returns-in-Some-clause-none : goal.returns-in-Some-clause-none
returns-in-Some-clause-none c =
    none_so c.said_by.result _ _
    (not_asked (map string_bytes c.args.words.now) c.in-Some.texts (rw c.in-Some.is at c.in_ok-texts.ensures.some))
    c.said_by.ensures.none

-- What stands behind `sub` and `rule`: a subsystem, as yet without rules, and a rule of the subsystem above it. This
-- project's own.
use Rattle.std.specs.Prelude.{ℕ, ◌+◌, Bool, Option, List, [], ◌∷◌, decimal}
use Rattle.hp_states.specs.declared.limits.TheConstants.{MAX_RULE_CPU, MAX_INSTANCE, MAX_EVENTS, MAX_CODE}
use Rattle.hp_states.specs.declared.dir.Dir.{Dir}
use Rattle.hp_states.specs.declared.plan.Rule.{Rule}
use Rattle.hp_event.specs.declared.head.Sub.{Sub}
use Rattle.hp_model.specs.Words.{dir_word, name_word, any_word, calls_word, kind_word}
use Rattle.hp_text.specs.Readings.{Field, Tail, of_form, said, alone, in_front}
use Rattle.hp_text.specs.Numbers.{number_from}
use Rattle.hp_text.specs.Choices.{dir_of, calls_of, kind_of, name_of, any_from}

abbrev pub name : Field (List ℕ)
name w = of_form (name_of w)

abbrev pub calls : Field (Bool × Bool)
calls w = of_form (calls_of w)

abbrev pub kind : Field Bool
kind w = of_form (kind_of w)

abbrev pub dir : Field Dir
dir w = of_form (dir_of w)

abbrev pub fresh_sub : List ℕ × ((Bool × Bool) × Bool) → Sub
fresh_sub x = record { name = x.0; up = x.1.0.0; down = x.1.0.1; multi = x.1.1; plan = [] }

-- which callbacks there are, and whether there are instances
abbrev pub calls_and_kind : Tail ((Bool × Bool) × Bool)
calls_and_kind = in_front calls (alone kind)

unfoldable pub sub : Tail Sub
sub words = said fresh_sub (in_front name calls_and_kind words)

-- how a subsystem is spelled behind that word
abbrev pub behind_sub : Sub → List (List ℕ)
behind_sub sub = name_word sub.name ∷ calls_word sub.up sub.down ∷ kind_word sub.multi ∷ []

-- of which call a rule speaks, and with which code that is answered
abbrev pub nth_and_code : Tail (Option ℕ × ℕ)
nth_and_code = in_front (any_from 1 (MAX_EVENTS + 1)) (alone (number_from 1 (MAX_CODE + 1)))

abbrev pub inst_and_call : Tail (Option ℕ × (Option ℕ × ℕ))
inst_and_call = in_front (any_from 0 (MAX_INSTANCE + 1)) nth_and_code

abbrev pub cpu_and_call : Tail (Option ℕ × (Option ℕ × (Option ℕ × ℕ)))
cpu_and_call = in_front (any_from 0 (MAX_RULE_CPU + 1)) inst_and_call

abbrev pub rule_of : Dir × (Option ℕ × (Option ℕ × (Option ℕ × ℕ))) → Rule
rule_of x = record { dir = x.0; cpu = x.1.0; inst = x.1.1.0; nth = x.1.1.1.0; code = x.1.1.1.1 }

unfoldable pub rule : Tail Rule
rule words = said rule_of (in_front dir cpu_and_call words)

-- how a rule is spelled behind that word
abbrev pub behind_rule : Rule → List (List ℕ)
behind_rule rule =
    dir_word rule.dir ∷ any_word rule.cpu ∷ any_word rule.inst ∷ any_word rule.nth ∷ decimal rule.code ∷ []

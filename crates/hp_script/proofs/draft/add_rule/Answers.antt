use Rattle.std.proofs.Common.{◌≡◌, refl, ◌<◌, ◌++◌, ◌∷◌, [], true, cond, length, ap, ◌∙◌, arith}
use Rattle.hp_states.specs.declared.limits.TheConstants.{MAX_RULES}
use Rattle.hp_script.specs.Drafts.{one_rule_more}
use Rattle.hp_script.proofs.Lasts.{changed_last, rules_of_last}
use Rattle.hp_script.proofs.draft.add_rule.Goals as goal

pub returns-in-Some : goal.returns-in-Some
returns-in-Some c =
    let e = c.in-Some.ensures in
    let some = e.variant.0 refl in
    let few = rules_of_last c.args.subs.now.items c.args.subs.now.len c.in-Some.sub.now c.args.subs.now.ok.0 some e.value in
    let room : length c.in-Some.sub.now.plan < MAX_RULES = omega (arith, few, c.requires) in
    let added : c.add.result ≡ true = c.add.ensures.added.1 room in
    let plan : c.add.new.self ≡ c.in-Some.sub.now.plan ++ c.args.rule ∷ [] = c.add.ensures.rules ∙ ap (λ b. cond b (c.in-Some.sub.now.plan ++ c.args.rule ∷ []) c.in-Some.sub.now.plan) added in
    changed_last (one_rule_more c.args.rule) c.args.subs.now.items c.args.subs.now.len c.in-Some.sub.now _ c.args.subs.now.ok.0 some e.value (ap (λ p. record c.in-Some.sub.now { plan = p }) plan)

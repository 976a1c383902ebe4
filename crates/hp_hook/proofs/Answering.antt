-- What is answered next: of the rules from `i` on, the first one decides, or else those behind it.
use Rattle.std.proofs.Common.{◌≡◌, ℕ, ◌+◌, ◌<◌, ◌≤◌, ◌&&◌, Bool, true, false, if◌then◌else◌, List, take, drop, length, get_or, refl, ap, sym, ◌∙◌, arith}
use Rattle.std.proofs.lemmas.List.{get_or-take, length-take-le, drop_all}
use Rattle.hp_states.proofs.Basics.{drop_at}
use Rattle.hp_states.specs.declared.plan.Rule.{Rule}
use Rattle.hp_states.specs.Rules.{Site, matches, allows, raised, counted_answer}

-- what the rules from `i` on answer to a site that comes next
abbrev pub answer_from : (i : ℕ) → List Rule → List ℕ → Site → ℕ
answer_from i rules seen site = counted_answer (drop i rules) (raised (drop i rules) (drop i seen) site) site

raised_where : (holds : Bool) (test : ℕ → Bool) (n : ℕ) → (holds && test (if holds then n + 1 else n)) ≡ (holds && test (n + 1))
raised_where true test n = refl
raised_where false test n = refl

answer_at : (rules : List Rule) (seen : List ℕ) (site : Site) (i : ℕ) (d : Rule) → i < length rules → length seen ≡ length rules
    → answer_from i rules seen site
    ≡ (if matches (get_or rules i d) site && allows (get_or rules i d).nth (get_or seen i 0 + 1)
    then (get_or rules i d).code
    else answer_from (i + 1) rules seen site)
answer_at rules seen site i d within same =
    let in_seen : i < length seen = omega arith in
    let rule : Rule = get_or rules i d in
    rw (drop_at rules i d within, drop_at seen i 0 in_seen)
    (ap (λ (b : Bool). if b then rule.code else answer_from (i + 1) rules seen site)
    (raised_where (matches rule site) (allows rule.nth) (get_or seen i 0)))

-- where no rule before `i` answers, the rule at `i` does, or else those behind it
pub first_answers : (rules : List Rule) (seen : List ℕ) (site : Site) (i : ℕ) (d : Rule) (answers : Bool)
    → i < length rules → length rules ≤ length seen
    → answers ≡ (matches (get_or rules i d) site && allows (get_or rules i d).nth (get_or seen i 0 + 1))
    → answer_from 0 rules (take (length rules) seen) site ≡ answer_from i rules (take (length rules) seen) site
    → answer_from 0 rules (take (length rules) seen) site
    ≡ (if answers then (get_or rules i d).code else answer_from (i + 1) rules (take (length rules) seen) site)
first_answers rules seen site i d answers within enough says before =
    let rule : Rule = get_or rules i d in
    let same : length (take (length rules) seen) ≡ length rules = length-take-le (length rules) seen enough in
    let here : get_or (take (length rules) seen) i 0 ≡ get_or seen i 0 = get_or-take (length rules) seen i 0 within in
    let at_i : answers ≡ (matches rule site && allows rule.nth (get_or (take (length rules) seen) i 0 + 1)) =
    says ∙ ap (λ (n : ℕ). matches rule site && allows rule.nth (n + 1)) (sym here) in
    rw at_i (before ∙ answer_at rules (take (length rules) seen) site i d within same)

-- past the last rule there is no answer
pub none_answers : (rules : List Rule) (seen : List ℕ) (site : Site) (i : ℕ) → length rules ≤ i → answer_from i rules seen site ≡ 0
none_answers rules seen site i past = rw (drop_all i rules past) refl

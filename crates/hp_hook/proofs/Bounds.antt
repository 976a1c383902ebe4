-- One call more raises no count by more than one, and a plan's counts begin at 0.
use Rattle.std.proofs.Common.{◌≡◌, ℕ, ◌+◌, ◌≤◌, Bool, true, false, if◌then◌else◌, List, [], ◌∷◌, take, length, refl, ap, ◌∙◌, arith}
use Rattle.std.proofs.Math.ListN.{replicate}
use Rattle.std.proofs.lemmas.List.{take-replicate}
use Rattle.std.proofs.lemmas.List.Elements.{All-nil, All-cons, All-head, All-tail}
use Rattle.hp_states.specs.declared.plan.Rule.{Rule}
use Rattle.hp_states.specs.Rules.{Site, matches, counts_of, raised}
use Rattle.hp_hook.specs.Counted.{NoneAbove}

raised_by_one : (holds : Bool) (n made : ℕ) → n ≤ made → (if holds then n + 1 else n) ≤ made + 1
raised_by_one true n made below = omega arith
raised_by_one false n made below = omega arith

pub none_above : (plan : List Rule) (seen : List ℕ) (site : Site) (made : ℕ) → NoneAbove seen made → NoneAbove (raised plan seen site) (made + 1)
none_above [] seen site made below = All-nil (λ n. n ≤ made + 1)
none_above (rule ∷ rules) [] site made below = All-nil (λ n. n ≤ made + 1)
none_above (rule ∷ rules) (n ∷ ns) site made below =
    All-cons (λ n. n ≤ made + 1) _ _
    (raised_by_one (matches rule site) n made (All-head (λ n. n ≤ made) n ns below))
    (none_above rules ns site made (All-tail (λ n. n ≤ made) n ns below))

-- and the counts of no sites are none above 0
pub none_yet : (plan : List Rule) → NoneAbove (counts_of plan []) 0
none_yet [] = All-nil (λ n. n ≤ 0)
none_yet (rule ∷ rules) = All-cons (λ n. n ≤ 0) _ _ (omega arith) (none_yet rules)

-- the counts of no sites
counts_of-nil : (plan : List Rule) → replicate (length plan) 0 ≡ counts_of plan []
counts_of-nil [] = refl
counts_of-nil (rule ∷ rules) = ap (λ (ns : List ℕ). 0 ∷ ns) (counts_of-nil rules)

pub zeros : (plan : List Rule) (places : ℕ) → length plan ≤ places → take (length plan) (replicate places 0) ≡ counts_of plan []
zeros plan places few = take-replicate (length plan) places 0 few ∙ counts_of-nil plan

-- The counts of a plan's rules, kept call by call, give the answer that the sites of the calls determine.
use Rattle.std.specs.Prelude.{count_by, cond}
use Rattle.std.proofs.Common.{◌≡◌, ℕ, ◌+◌, Bool, true, false, if◌then◌else◌, List, [], ◌∷◌, ◌++◌, refl, ◌∙◌, arith}
use Rattle.std.proofs.lemmas.List.Sums.{fold-append}
use Rattle.hp_states.specs.declared.plan.Rule.{Rule}
use Rattle.hp_states.specs.Rules.{Site, matches, answer_of, counts_of, raised, counted_answer}

added : (holds : Bool) (n : ℕ) → n + cond holds 1 0 ≡ (if holds then n + 1 else n)
added true n = refl
added false n = omega arith

-- one site more is counted where the test holds of it
pub count_by-more : (test : Site → Bool) (earlier : List Site) (site : Site) → count_by test (earlier ++ site ∷ []) ≡ (if test site then count_by test earlier + 1 else count_by test earlier)
count_by-more test earlier site =
    fold-append (λ (n : ℕ) (x : Site). n + cond (test x) 1 0) 0 earlier (site ∷ [])
    ∙ added (test site) (count_by test earlier)

-- the counts of the sites before, raised at a site, are those with this site
pub raised_counts : (plan : List Rule) (earlier : List Site) (site : Site) → raised plan (counts_of plan earlier) site ≡ counts_of plan (earlier ++ site ∷ [])
raised_counts [] earlier site = refl
raised_counts (rule ∷ rules) earlier site =
    rw (count_by-more (matches rule) earlier site, raised_counts rules earlier site) refl

-- the counts with this site give the answer that the sites determine
pub answer_of_counts : (plan : List Rule) (earlier : List Site) (site : Site) → counted_answer plan (counts_of plan (earlier ++ site ∷ [])) site ≡ answer_of plan earlier site
answer_of_counts [] earlier site = refl
answer_of_counts (rule ∷ rules) earlier site =
    rw (answer_of_counts rules earlier site) refl

-- so the counts of the sites before, raised at a site, give that answer
pub answer_of_raised : (plan : List Rule) (earlier : List Site) (site : Site) → counted_answer plan (raised plan (counts_of plan earlier) site) site ≡ answer_of plan earlier site
answer_of_raised plan earlier site =
    rw (raised_counts plan earlier site) (answer_of_counts plan earlier site)

-- Rules: what a plan answers to a call, by the calls before it. This project's own.
use Rattle.std.specs.Prelude.{◌≡◌, ℕ, ◌+◌, Bool, true, false, ◌&&◌, ◌==◌, if◌then◌else◌, Option, Some, None, List, [], ◌∷◌, ◌++◌, count_by, map}
use Rattle.hp_states.specs.declared.dir.Dir.{Dir}
use Rattle.hp_states.specs.declared.dir.Dir.TheVariants.{Up, Down}
use Rattle.hp_states.specs.declared.plan.Rule.{Rule}

-- where a callback is called: the processor, the instance and the direction
pub record Site : Type 0 where
  pub cpu : ℕ
  pub inst : ℕ
  pub dir : Dir

abbrev pub site_at : (cpu : ℕ) → (inst : ℕ) → Dir → Site
site_at c i d = record { cpu = c; inst = i; dir = d }

abbrev pub same_dir : Dir → Dir → Bool
same_dir Up Up = true
same_dir Up Down = false
same_dir Down Up = false
same_dir Down Down = true

-- an absent number stands for every number
abbrev pub allows : Option ℕ → ℕ → Bool
allows None n = true
allows (Some m) n = m == n

-- a rule matches a site that has its direction and the numbers that it asks for
abbrev pub matches : Rule → Site → Bool
matches rule site = same_dir rule.dir site.dir && (allows rule.cpu site.cpu && allows rule.inst site.inst)

-- The code of the first rule that matches the site and whose `nth` is absent or is the number of sites
-- that it has matched, those before and this one; 0 where there is none.
abbrev pub answer_of : (plan : List Rule) → (earlier : List Site) → Site → ℕ
answer_of [] earlier site = 0
answer_of (rule ∷ rules) earlier site =
    if matches rule site && allows rule.nth (count_by (matches rule) (earlier ++ site ∷ []))
    then rule.code
    else answer_of rules earlier site

-- how many of the sites each rule matches
abbrev pub counts_of : (plan : List Rule) → List Site → List ℕ
counts_of plan sites = map (λ rule. count_by (matches rule) sites) plan

-- the counts after one site more: that of each rule that matches it is raised by one
abbrev pub raised : (plan : List Rule) → (counts : List ℕ) → Site → List ℕ
raised [] counts site = []
raised (rule ∷ rules) [] site = []
raised (rule ∷ rules) (n ∷ ns) site = (if matches rule site then n + 1 else n) ∷ raised rules ns site

-- the answer that the raised counts give
abbrev pub counted_answer : (plan : List Rule) → (raised : List ℕ) → Site → ℕ
counted_answer [] counts site = 0
counted_answer (rule ∷ rules) [] site = 0
counted_answer (rule ∷ rules) (n ∷ ns) site =
    if matches rule site && allows rule.nth n then rule.code else counted_answer rules ns site

-- the counts of the sites of all calls before, raised at a site, are those with this site
abbrev pub CountsGoOn : (plan : List Rule) → Type 0
CountsGoOn plan =
    (earlier : List Site) (site : Site) → raised plan (counts_of plan earlier) site ≡ counts_of plan (earlier ++ site ∷ [])

-- and what they answer is what the sites themselves determine
abbrev pub CountsAnswer : (plan : List Rule) → Type 0
CountsAnswer plan =
    (earlier : List Site) (site : Site) →
    counted_answer plan (raised plan (counts_of plan earlier) site) site ≡ answer_of plan earlier site

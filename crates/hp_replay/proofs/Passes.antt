-- How stages lead to one another over lines.
use Rattle.std.proofs.Common.{◌≡◌, ℕ, List, [], ◌∷◌, ◌++◌, refl, sym, subst, ◌∙◌}
use Rattle.hp_event.specs.declared.version.Version.{Version}
use Rattle.hp_replay.specs.Judged.{Leads}
pub use Rattle.hp_replay.specs.Reading.{Passes}
use Rattle.hp_replay.specs.Stages.{Stage, Step, goes, asks, stops, step}

leads_one : (x : Step) (a b : Stage) → Leads x a → Leads x b → a ≡ b
leads_one (goes s) a b p q = sym p ∙ q
leads_one (asks head events e) a b p q = sym p.1 ∙ q.1
leads_one (stops kind) a b p q = absurd p

-- at most one stage is led to
pub passes_one : (v : Version) (s : Stage) (ls : List (List ℕ)) (a b : Stage) → Passes v s ls a → Passes v s ls b → a ≡ b
passes_one v s [] a b p q = sym p ∙ q
passes_one v s (l ∷ ls) a b p q =
    let same : p.0 ≡ q.0 = leads_one (step v s l) p.0 q.0 p.1 q.1 in
    passes_one v q.0 ls a b (subst (λ (m : Stage). Passes v m ls a) same p.2) q.2

pub passes-append : (v : Version) (s : Stage) (ls : List (List ℕ)) (m : Stage) (ms : List (List ℕ)) (t : Stage) → Passes v s ls m → Passes v m ms t → Passes v s (ls ++ ms) t
passes-append v s [] m ms t p q = subst (λ (x : Stage). Passes v x ms t) (sym p) q
passes-append v s (l ∷ ls) m ms t p q = (p.0, p.1, passes-append v p.0 ls m ms t p.2 q)

-- a front leads somewhere
pub passes_front : (v : Version) (s : Stage) (ls ms : List (List ℕ)) (t : Stage) → Passes v s (ls ++ ms) t → (m : Stage) × Passes v s ls m × Passes v m ms t
passes_front v s [] ms t p = (s, refl, p)
passes_front v s (l ∷ ls) ms t p = let r = passes_front v p.0 ls ms t p.2 in (r.0, (p.0, p.1, r.1), r.2)

-- over one line, which a step says
pub passes_line : (v : Version) (s : Stage) (l : List ℕ) (ls : List (List ℕ)) (m t : Stage) → step v s l ≡ goes m → Passes v m ls t → Passes v s (l ∷ ls) t
passes_line v s l ls m t h p = (m, subst (λ (x : Step). Leads x m) (sym h) refl, p)

-- What follows from a line's step, step by step.
use Rattle.std.proofs.Common.{◌≡◌, ℕ, ◌+◌, List, [], ◌∷◌, ◌++◌, refl, sym, ap, subst, ◌∙◌, inl, inr}
use Rattle.std.specs.Prelude.{◌⊎◌}
use Rattle.hp_model.specs.Lawful.{Stands}
use Rattle.hp_event.specs.declared.version.Version.{Version}
use Rattle.hp_replay.specs.declared.error.ReplayKind.{ReplayKind}
use Rattle.hp_replay.specs.declared.error.ReplayKind.TheVariants.{Unlawful}
use Rattle.hp_replay.specs.Stages.{Stage, among_events, Step, goes, asks, stops, step}
use Rattle.hp_replay.specs.Judged.{Outcome, refused, Leads, Refuses, Judged}

-- where `more` says what follows from the stage after it
abbrev pub Follows : Step → (line : ℕ) → (more : Stage → Type 0) → Outcome → Type 0
Follows (goes stage) n more o = more stage
Follows (stops kind) n more o = o ≡ refused n kind
Follows (asks head events e) n more o =
    (Stands head events e × more (among_events head (events ++ e ∷ [])))
    ⊎ ((Stands head events e → ⊥) × (o ≡ refused n Unlawful))

abbrev Either : Step → (line : ℕ) → (more : Stage → Type 0) → Outcome → Type 0
Either x n more o = ((m : Stage) × Leads x m × more m) ⊎ ((k : ReplayKind) × Refuses x k × (o ≡ refused n k))

to : (x : Step) (n : ℕ) (more : Stage → Type 0) (o : Outcome) → Either x n more o → Follows x n more o
to (goes stage) n more o (inl h) = subst more (sym h.1) h.2
to (goes stage) n more o (inr h) = absurd h.1
to (stops kind) n more o (inl h) = absurd h.1
to (stops kind) n more o (inr h) = h.2 ∙ ap (refused n) h.1
to (asks head events e) n more o (inl h) = inl (h.1.0, subst more (sym h.1.1) h.2)
to (asks head events e) n more o (inr h) = inr (h.1.0, h.2 ∙ ap (refused n) h.1.1)

from : (x : Step) (n : ℕ) (more : Stage → Type 0) (o : Outcome) → Follows x n more o → Either x n more o
from (goes stage) n more o h = inl (stage, refl, h)
from (stops kind) n more o h = inr (kind, refl, h)
from (asks head events e) n more o (inl h) = inl (among_events head (events ++ e ∷ []), (h.0, refl), h.1)
from (asks head events e) n more o (inr h) = inr (Unlawful, (h.0, refl), h.1)

pub judged_follows : (v : Version) (s : Stage) (n : ℕ) (l : List ℕ) (ls : List (List ℕ)) (o : Outcome) → Judged v s n (l ∷ ls) o → Follows (step v s l) n (λ m. Judged v m (n + 1) ls o) o
judged_follows v s n l ls o h = to (step v s l) n (λ m. Judged v m (n + 1) ls o) o h

pub follows_judged : (v : Version) (s : Stage) (n : ℕ) (l : List ℕ) (ls : List (List ℕ)) (o : Outcome) → Follows (step v s l) n (λ m. Judged v m (n + 1) ls o) o → Judged v s n (l ∷ ls) o
follows_judged v s n l ls o h = from (step v s l) n (λ m. Judged v m (n + 1) ls o) o h

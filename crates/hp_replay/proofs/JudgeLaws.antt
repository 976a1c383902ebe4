-- What the function answers is what is judged.
use Rattle.std.proofs.Common.{◌≡◌, ℕ, ◌+◌, Bool, true, false, cond, List, [], ◌∷◌, ◌++◌, refl, sym, subst, inl, inr}
use Rattle.std.specs.Bool.{Decides}
use Rattle.hp_event.specs.declared.head.Head.{Head}
use Rattle.hp_event.specs.declared.event.Event.{Event}
use Rattle.hp_model.specs.Lawful.{Stands}
use Rattle.hp_event.specs.declared.version.Version.{Version}
use Rattle.hp_replay.specs.declared.error.ReplayKind.TheVariants.{Unlawful}
use Rattle.hp_replay.specs.Stages.{Stage, begins, among_events, Step, goes, asks, stops, step}
use Rattle.hp_replay.specs.Judged.{Outcome, refused, Leads, Judged}
use Rattle.hp_replay.specs.Judge.{Test, IsTest, after_step, judge}
use Rattle.hp_replay.proofs.Follows.{Follows, follows_judged}
use Rattle.hp_replay.proofs.Reached.{Reached, reached_more}
use Rattle.hp_replay.proofs.KindLaws.{asked_of}

tested : (can : Test) (head : Head) (events : List Event) (e : Event) (n : ℕ) (more : Stage → Outcome) (Then : Outcome → Stage → Type 0) (t : Bool) → can head events e ≡ t → Decides (can head events e) (Stands head events e) →
    (Stands head events e → Then (more (among_events head (events ++ e ∷ []))) (among_events head (events ++ e ∷ []))) →
    Follows (asks head events e) n (Then (cond t (more (among_events head (events ++ e ∷ []))) (refused n Unlawful))) (cond t (more (among_events head (events ++ e ∷ []))) (refused n Unlawful))
tested can head events e n more Then true t d f = inl (d.0 t, f (d.0 t))
tested can head events e n more Then false t d f = inr (λ stands. let x = d.1 stands in cc, refl)

stepped : (v : Version) (can : Test) (s : Stage) (l : List ℕ) (n : ℕ) (more : Stage → Outcome) (Then : Outcome → Stage → Type 0) (x : Step) → step v s l ≡ x →
    ((head : Head) (events : List Event) (e : Event) → step v s l ≡ asks head events e → Decides (can head events e) (Stands head events e)) →
    ((m : Stage) → Leads (step v s l) m → Then (more m) m) → Follows x n (Then (after_step can x n more)) (after_step can x n more)
stepped v can s l n more Then (goes m) h d f = f m (subst (λ (y : Step). Leads y m) (sym h) refl)
stepped v can s l n more Then (stops k) h d f = refl
stepped v can s l n more Then (asks head events e) h d f =
    tested can head events e n more Then (can head events e) refl (d head events e h)
    (λ stands. let m = among_events head (events ++ e ∷ []) in f m (subst (λ (y : Step). Leads y m) (sym h) (stands, refl)))

pub judge_from : (v : Version) (can : Test) → IsTest can → (s : Stage) (before : List (List ℕ)) (n : ℕ) (ls : List (List ℕ)) → Reached v s before → Judged v s n ls (judge v can s n ls)
judge_from v can is s before n [] r = refl
judge_from v can is s before n (l ∷ ls) r =
    follows_judged v s n l ls (judge v can s n (l ∷ ls))
    (stepped v can s l n (λ m. judge v can m (n + 1) ls) (λ o m. Judged v m (n + 1) ls o) (step v s l) refl
    (λ head events e h. let a = asked_of v s l head events e h in is head events e (subst (λ (x : Stage). Reached v x before) a r).journal.lawful)
    (λ m p. judge_from v can is m (before ++ l ∷ []) (n + 1) ls (reached_more v s before l m r p)))

pub judge_is_judged : (v : Version) (can : Test) → IsTest can → (ls : List (List ℕ)) → Judged v begins 1 ls (judge v can begins 1 ls)
judge_is_judged v can is ls = judge_from v can is begins [] 1 ls refl

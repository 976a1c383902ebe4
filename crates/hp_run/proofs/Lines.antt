-- The lines of what queues hold, appended one after another.
use Rattle.std.proofs.Common.{◌≡◌, ℕ, List, ◌++◌, append_assoc, refl, sym, ap, subst, ◌∙◌}
use Rattle.std.specs.Prelude.{flat_map, codes}
use Rattle.hp_event.specs.declared.event.Event.{Event}
use Rattle.hp_work.specs.declared.drain.Drain.{Drain}
use Rattle.hp_work.specs.Drained.{IsDrained, drained as drained_in}
use Rattle.hp_work.specs.Work.{Work}
use Rattle.hp_work.specs.Worked.{worked}
use Rattle.hp_run.specs.WorkLines.{list_line, drained_line, lines_of, work_lines}

pub lines_appended : (s : ℕ) (events : List Event) (w : Work) (d : Drain) (old one two three : List ℕ) → w ≡ worked s events → IsDrained w d →
    one ≡ old ++ list_line (codes "ran") d.ran → two ≡ one ++ flat_map drained_line d.queues → three ≡ two ++ list_line (codes "unbound") d.unbound →
    three ≡ old ++ work_lines s events
unfolding work_lines
lines_appended s events w d old one two three is drained e f g =
    g
    ∙ (ap (λ xs. xs ++ list_line (codes "unbound") d.unbound) (f ∙ ap (λ xs. xs ++ flat_map drained_line d.queues) e)
    ∙ (append_assoc (old ++ list_line (codes "ran") d.ran) (flat_map drained_line d.queues) (list_line (codes "unbound") d.unbound)
    ∙ (append_assoc old (list_line (codes "ran") d.ran) (flat_map drained_line d.queues ++ list_line (codes "unbound") d.unbound)
    ∙ ap (λ xs. old ++ xs) (same ∙ ap lines_of is))))
  where
    same : list_line (codes "ran") d.ran ++ (flat_map drained_line d.queues ++ list_line (codes "unbound") d.unbound) ≡ lines_of w
    same =
        ap (λ xs. list_line (codes "ran") xs ++ (flat_map drained_line d.queues ++ list_line (codes "unbound") d.unbound)) drained.ran_are
        ∙ (ap (λ qs. list_line (codes "ran") w.ran ++ (flat_map drained_line qs ++ list_line (codes "unbound") d.unbound)) drained.queues
        ∙ ap (λ xs. list_line (codes "ran") w.ran ++ (flat_map drained_line (drained_in w.lists) ++ list_line (codes "unbound") xs)) drained.unbound)

-- Lines gone over one after another, and refusals behind them.
use Rattle.std.proofs.Common.{◌≡◌, ℕ, List, [], ◌∷◌, ◌++◌, refl, sym, ap, subst, ◌∙◌, append_assoc, length-append, inr, arith}
use Rattle.hp_event.specs.declared.version.Version.{Version}
use Rattle.hp_replay.specs.declared.error.ReplayKind.{ReplayKind}
use Rattle.hp_replay.specs.declared.error.ReplayKind.TheVariants.{Missing}
use Rattle.hp_replay.specs.declared.error.ReplayError.{ReplayError}
use Rattle.hp_replay.specs.declared.error.ReplayError.TheVariants.{Bad, NoMemory}
use Rattle.hp_replay.specs.LinesLeft.{LinesLeft, Takes}
use Rattle.hp_replay.specs.Stages.{Stage, step}
use Rattle.hp_replay.specs.Judged.{refused, at_end, Leads, Judged}
use Rattle.hp_replay.specs.Reading.{GoesOver, RefusesLine, RefusedFrom}
use Rattle.hp_replay.proofs.Passes.{passes-append}
use Rattle.hp_replay.proofs.VerdictLaws.{judged_after}

pub stays : (v : Version) (a : LinesLeft) (s : Stage) → GoesOver v a s a s
stays v a s = record { taken = []; lines_are = refl; number_is = omega arith; passes = refl }

pub goes_on : (v : Version) (a b c : LinesLeft) (s t u : Stage) → GoesOver v a s b t → GoesOver v b t c u → GoesOver v a s c u
goes_on v a b c s t u p q = record {
  taken = p.taken ++ q.taken;
  lines_are = p.lines_are ∙ ap (λ (ls : List (List ℕ)). p.taken ++ ls) q.lines_are ∙ sym (append_assoc p.taken q.taken c.lines);
  number_is = omega (arith, p.number_is, q.number_is, length-append p.taken q.taken);
  passes = passes-append v s p.taken t q.taken u p.passes q.passes;
}

-- one line more
pub goes_one : (v : Version) (a b c : LinesLeft) (n : ℕ) (l : List ℕ) (s t u : Stage) → GoesOver v a s b t → Takes b n l c → Leads (step v t l) u → GoesOver v a s c u
goes_one v a b c n l s t u p q h = goes_on v a b c s t u p (record { taken = l ∷ []; lines_are = q.lines_are; number_is = omega (arith, q.next_is); passes = (u, h, refl) })

refused_behind : (v : Version) (a b : LinesLeft) (s t : Stage) (n : ℕ) (k : ReplayKind) → GoesOver v a s b t → Judged v t b.number b.lines (refused n k) → Judged v s a.number a.lines (refused n k)
refused_behind v a b s t n k p j =
    subst (λ (ls : List (List ℕ)). Judged v s a.number ls (refused n k)) (sym p.lines_are)
    (judged_after v s a.number p.taken t b.lines (refused n k) p.passes (subst (λ (m : ℕ). Judged v t m b.lines (refused n k)) p.number_is j))

pub refused_later : (v : Version) (a b : LinesLeft) (s t : Stage) (e : ReplayError) → GoesOver v a s b t → RefusedFrom v t b e → RefusedFrom v s a e
refused_later v a b s t (Bad n k) p h = refused_behind v a b s t n k p h
refused_later v a b s t NoMemory p h = tt

here : (v : Version) (b c : LinesLeft) (n : ℕ) (l : List ℕ) (t : Stage) (e : ReplayError) → Takes b n l c → RefusesLine (step v t l) n e → RefusedFrom v t b e
here v b c n l t (Bad m k) q h =
    subst (λ (ls : List (List ℕ)). Judged v t b.number ls (refused m k)) (sym q.lines_are)
    (inr (k, h.1, ap (λ (i : ℕ). refused i k) (h.0 ∙ q.number_is)))
here v b c n l t NoMemory q h = tt

-- the line behind those that were gone over is refused
pub refused_here : (v : Version) (a b c : LinesLeft) (n : ℕ) (l : List ℕ) (s t : Stage) (e : ReplayError) → GoesOver v a s b t → Takes b n l c → RefusesLine (step v t l) n e → RefusedFrom v s a e
refused_here v a b c n l s t e p q h = refused_later v a b s t e p (here v b c n l t e q h)

-- there is none behind them
pub none_here : (v : Version) (a b : LinesLeft) (s t : Stage) (e : ReplayError) → GoesOver v a s b t → b.lines ≡ [] → e ≡ Bad b.number Missing → refused b.number Missing ≡ at_end t b.number → RefusedFrom v s a e
none_here v a b s t e p none is missing =
    refused_later v a b s t e p
    (subst (RefusedFrom v t b) (sym is) (subst (λ (ls : List (List ℕ)). Judged v t b.number ls (refused b.number Missing)) (sym none) missing))

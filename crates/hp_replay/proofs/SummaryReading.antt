-- Lines of a summary, at the stage of those that are left of it; and the whole input.
use Rattle.std.proofs.Common.{◌≡◌, ℕ, ◌≤◌, true, false, List, [], ◌∷◌, length, refl, sym, subst, inr}
use Rattle.std.specs.Str.{bytes_eq}
use Rattle.hp_states.specs.declared.limits.TheConstants.{MAX_JOURNAL_BYTES}
use Rattle.hp_event.specs.declared.head.Head.{Head}
use Rattle.hp_event.specs.declared.event.Event.{Event}
use Rattle.hp_model.specs.Heads.{IsHead}
use Rattle.hp_model.specs.Summary.{summary}
use Rattle.hp_event.specs.declared.version.Version.{Version}
use Rattle.hp_replay.specs.declared.error.ReplayKind.TheVariants.{Trailing, Missing}
use Rattle.hp_replay.specs.declared.error.ReplayError.{ReplayError}
use Rattle.hp_replay.specs.declared.error.ReplayError.TheVariants.{Bad, NoMemory}
use Rattle.hp_replay.specs.InputLines.{lines_of}
use Rattle.hp_replay.specs.LinesLeft.{LinesLeft, Takes}
use Rattle.hp_replay.specs.Stages.{Stage, begins, among_events, whole, among_summary, Step, goes, stops, step}
use Rattle.hp_replay.specs.Judged.{Outcome, accepted, refused, Leads, Refuses, Judged}
use Rattle.hp_replay.specs.Reading.{GoesOver, RefusedFrom}
use Rattle.hp_replay.specs.Verdict.{IsReplay, IsRefusal}
use Rattle.hp_replay.proofs.ReadingLaws.{goes_one, refused_here, none_here}
use Rattle.hp_replay.proofs.CanPass.{reached_from}
use Rattle.hp_replay.proofs.VerdictLaws.{judged_after, judged_is_verdict}

line_step : (v : Version) (head : Head) (events : List Event) (m : List ℕ) (ms : List (List ℕ)) (l : List ℕ) → bytes_eq l m ≡ true → goes (among_summary head events ms) ≡ step v (among_summary head events (m ∷ ms)) l
unfolding step
line_step v head events m ms l e = rw e refl

other_step : (v : Version) (head : Head) (events : List Event) (m : List ℕ) (ms : List (List ℕ)) (l : List ℕ) → bytes_eq l m ≡ false → stops Trailing ≡ step v (among_summary head events (m ∷ ms)) l
unfolding step
other_step v head events m ms l e = rw e refl

more_step : (v : Version) (head : Head) (events : List Event) (l : List ℕ) → stops Trailing ≡ step v (among_summary head events []) l
unfolding step
more_step v head events l = refl

abbrev At : Version → (a : LinesLeft) (s : Stage) (b : LinesLeft) → Head → List Event → (left : List (List ℕ)) → Type 0
At v a s b head events left = GoesOver v a s b (among_summary head events left)

pub reads_line : (v : Version) (a b c : LinesLeft) (n : ℕ) (l : List ℕ) (s : Stage) (head : Head) (events : List Event) (left : List (List ℕ)) (m : List ℕ) (ms : List (List ℕ)) →
    At v a s b head events left → Takes b n l c → left ≡ m ∷ ms → bytes_eq l m ≡ true → At v a s c head events ms
reads_line v a b c n l s head events left m ms p q e same =
    let here : At v a s b head events (m ∷ ms) = subst (λ (x : List (List ℕ)). At v a s b head events x) e p in
    goes_one v a b c n l s (among_summary head events (m ∷ ms)) (among_summary head events ms) here q
    (subst (λ (y : Step). Leads y (among_summary head events ms)) (line_step v head events m ms l same) refl)

pub refuses_line : (v : Version) (a b c : LinesLeft) (n : ℕ) (l : List ℕ) (s : Stage) (head : Head) (events : List Event) (left : List (List ℕ)) (m : List ℕ) (ms : List (List ℕ)) (x : ReplayError) →
    At v a s b head events left → Takes b n l c → left ≡ m ∷ ms → bytes_eq l m ≡ false → x ≡ Bad n Trailing → RefusedFrom v s a x
refuses_line v a b c n l s head events left m ms x p q e other is =
    let here : At v a s b head events (m ∷ ms) = subst (λ (x : List (List ℕ)). At v a s b head events x) e p in
    subst (RefusedFrom v s a) (sym is)
    (refused_here v a b c n l s (among_summary head events (m ∷ ms)) (Bad n Trailing) here q
    (refl, subst (λ (y : Step). Refuses y Trailing) (other_step v head events m ms l other) refl))

pub misses_line : (v : Version) (a b : LinesLeft) (s : Stage) (head : Head) (events : List Event) (left : List (List ℕ)) (m : List ℕ) (ms : List (List ℕ)) (x : ReplayError) →
    At v a s b head events left → left ≡ m ∷ ms → b.lines ≡ [] → x ≡ Bad b.number Missing → RefusedFrom v s a x
misses_line v a b s head events left m ms x p e none is =
    let here : At v a s b head events (m ∷ ms) = subst (λ (x : List (List ℕ)). At v a s b head events x) e p in
    none_here v a b s (among_summary head events (m ∷ ms)) x here none is refl

pub refuses_more : (v : Version) (a b c : LinesLeft) (n : ℕ) (l : List ℕ) (s : Stage) (head : Head) (events : List Event) (left : List (List ℕ)) (x : ReplayError) →
    At v a s b head events left → Takes b n l c → left ≡ [] → x ≡ Bad n Trailing → RefusedFrom v s a x
refuses_more v a b c n l s head events left x p q e is =
    let here : At v a s b head events [] = subst (λ (x : List (List ℕ)). At v a s b head events x) e p in
    subst (RefusedFrom v s a) (sym is)
    (refused_here v a b c n l s (among_summary head events []) (Bad n Trailing) here q
    (refl, subst (λ (y : Step). Refuses y Trailing) (more_step v head events l) refl))

pub judged_over : (v : Version) (a b : LinesLeft) (s t : Stage) (o : Outcome) → GoesOver v a s b t → Judged v t b.number b.lines o → Judged v s a.number a.lines o
judged_over v a b s t o p j =
    subst (λ (ls : List (List ℕ)). Judged v s a.number ls o) (sym p.lines_are)
    (judged_after v s a.number p.taken t b.lines o p.passes (subst (λ (m : ℕ). Judged v t m b.lines o) p.number_is j))

pub ends_here : (v : Version) (a b : LinesLeft) (s : Stage) (head : Head) (events : List Event) (left : List (List ℕ)) → At v a s b head events left → left ≡ [] → b.lines ≡ [] → Judged v s a.number a.lines (accepted head events)
ends_here v a b s head events left p e none =
    let here : At v a s b head events [] = subst (λ (x : List (List ℕ)). At v a s b head events x) e p in
    judged_over v a b s (among_summary head events []) (accepted head events) here
    (subst (λ (ls : List (List ℕ)). Judged v (among_summary head events []) b.number ls (accepted head events)) (sym none) refl)

-- ---- where a line is left, the whole text is as a summary with all its lines left

pub from_whole : (v : Version) (head : Head) (events : List Event) (text : List ℕ) (n : ℕ) (ls : List (List ℕ)) (o : Outcome) → (ls ≡ [] → ⊥) → text ≡ summary head events →
    Judged v (among_summary head events (lines_of text)) n ls o → Judged v (whole head events) n ls o
unfolding step
from_whole v head events text n [] o some is j = absurd (some refl)
from_whole v head events text n (l ∷ ls) o some is j = subst (λ (t : List ℕ). Judged v (among_summary head events (lines_of t)) n (l ∷ ls) o) is j

pub refused_whole : (v : Version) (head : Head) (events : List Event) (text : List ℕ) (left : LinesLeft) (x : ReplayError) → (left.lines ≡ [] → ⊥) → text ≡ summary head events →
    RefusedFrom v (among_summary head events (lines_of text)) left x → RefusedFrom v (whole head events) left x
refused_whole v head events text left (Bad n k) some is j = from_whole v head events text left.number left.lines (refused n k) some is j
refused_whole v head events text left NoMemory some is j = tt

pub text_alone : (v : Version) (head : Head) (events : List Event) (left : LinesLeft) → left.lines ≡ [] → Judged v (whole head events) left.number left.lines (accepted head events)
text_alone v head events left none = subst (λ (ls : List (List ℕ)). Judged v (whole head events) left.number ls (accepted head events)) (sym none) refl

-- ---- the whole input

abbrev pub all_of : (bytes : List ℕ) → LinesLeft
all_of bytes = record { number = 1; lines = lines_of bytes }

pub is_replay : (v : Version) (bytes : List ℕ) (o : Outcome) → length bytes ≤ MAX_JOURNAL_BYTES → Judged v begins 1 (lines_of bytes) o → IsReplay v bytes o
is_replay v bytes o short j = inr (short, judged_is_verdict v bytes o j)

pub is_refusal : (v : Version) (bytes : List ℕ) (x : ReplayError) → length bytes ≤ MAX_JOURNAL_BYTES → RefusedFrom v begins (all_of bytes) x → IsRefusal v bytes x
is_refusal v bytes (Bad n k) short j = is_replay v bytes (refused n k) short j
is_refusal v bytes NoMemory short j = tt

pub is_head : (v : Version) (bytes : List ℕ) (b : LinesLeft) (head : Head) → GoesOver v (all_of bytes) begins b (among_events head []) → IsHead head
is_head v bytes b head p = (reached_from v p.taken (among_events head []) p.passes).journal.lawful.0

-- What is judged line by line is the verdict, and the verdict is judged so.
use Rattle.std.proofs.Common.{◌≡◌, ℕ, ◌+◌, List, [], ◌∷◌, ◌++◌, length, refl, sym, ap, subst, ◌∙◌, append_assoc, inl, inr, arith}
use Rattle.std.proofs.lemmas.List.{append-nil, length-append}
use Rattle.hp_event.specs.declared.head.Head.{Head}
use Rattle.hp_event.specs.declared.event.Event.{Event}
use Rattle.hp_event.specs.declared.version.Version.{Version}
use Rattle.hp_replay.specs.declared.error.ReplayKind.{ReplayKind}
use Rattle.hp_replay.specs.declared.error.ReplayKind.TheVariants.{Unlawful, Missing}
use Rattle.hp_replay.specs.InputLines.{lines_of}
use Rattle.hp_replay.specs.CanStand.{CanStand}
use Rattle.hp_replay.specs.Kinds.{kind_of}
use Rattle.hp_replay.specs.Stages.{Stage, begins, titled, counted, headed, ruled, among_events, whole, among_summary, Step, goes, asks, stops, step}
use Rattle.hp_replay.specs.Judged.{Outcome, accepted, refused, at_end, Leads, Judged}
use Rattle.hp_replay.proofs.Follows.{Follows, judged_follows, follows_judged}
use Rattle.hp_replay.specs.Verdict.{IsTextOf, IsFirstBad, IsCutOff, IsVerdict, IsReplay}
use Rattle.hp_replay.proofs.Passes.{Passes, passes_one, passes-append, passes_front}
use Rattle.hp_replay.proofs.Reached.{reached_stands}
use Rattle.hp_replay.proofs.CanPass.{can_pass, reached_from, text_is_accepted, whole_is_text, summary_is_text}
use Rattle.hp_replay.proofs.KindLaws.{Parted, parted_none, parted_more, HasKind, kind_is}

-- a stage, and the lines that lead to it
pub record At (v : Version) (s : Stage) (before : List (List ℕ)) : Type 0 where
  pub passes : Passes v begins before s
  pub parted : Parted s before

at_more : (v : Version) (s : Stage) (before : List (List ℕ)) (l : List ℕ) (m : Stage) → At v s before → Leads (step v s l) m → At v m (before ++ l ∷ [])
at_more v s before l m a h = record {
  passes = passes-append v begins before s (l ∷ []) m a.passes (m, h, refl);
  parted = parted_more v s before l m a.parted h;
}

parted_all : (v : Version) (s : Stage) (before ls : List (List ℕ)) (t : Stage) → Parted s before → Passes v s ls t → Parted t (before ++ ls)
parted_all v s before [] t r p = subst (λ (x : Stage). Parted x (before ++ [])) p (subst (λ (b : List (List ℕ)). Parted s b) (sym (append-nil before)) r)
parted_all v s before (l ∷ ls) t r p = subst (λ (b : List (List ℕ)). Parted t b) (append_assoc before (l ∷ []) ls) (parted_all v p.0 (before ++ l ∷ []) ls t (parted_more v s before l p.0 r p.1) p.2)

at_of : (v : Version) (front : List (List ℕ)) (t : Stage) → Passes v begins front t → At v t front
at_of v front t p = record { passes = p; parted = parted_all v begins [] front t parted_none p }

stood_at : (v : Version) (s : Stage) (before : List (List ℕ)) → At v s before → CanStand v before
stood_at v s before a = reached_stands v s before (reached_from v before s a.passes)

-- a line with which the lines can stand leads on
leads_on : (v : Version) (s : Stage) (before : List (List ℕ)) (l : List ℕ) → At v s before → CanStand v (before ++ l ∷ []) → (t : Stage) × Leads (step v s l) t
leads_on v s before l a c =
    let p = can_pass v (before ++ l ∷ []) c in
    let q = passes_front v begins before (l ∷ []) p.0 p.1 in
    let same : q.0 ≡ s = passes_one v begins before q.0 s q.1 a.passes in
    let one : Passes v s (l ∷ []) p.0 = subst (λ (x : Stage). Passes v x (l ∷ []) p.0) same q.2 in
    (one.0, one.1)

-- ---- from what is judged to the verdict

abbrev Rest : (bytes : List ℕ) (before ls : List (List ℕ)) → Type 0
Rest bytes before ls = lines_of bytes ≡ before ++ ls

bad_line : (v : Version) (bytes : List ℕ) (s : Stage) (before : List (List ℕ)) (l : List ℕ) (ls : List (List ℕ)) (k : ReplayKind) → At v s before → Rest bytes before (l ∷ ls) → (CanStand v (before ++ l ∷ []) → ⊥) → kind_of v before l ≡ k →
    IsVerdict v bytes (refused (length before + 1) k)
bad_line v bytes s before l ls k a r cant kind = inl (record {
  before = before;
  line = l;
  others = ls;
  lines_are = r;
  number_is = refl;
  stood = stood_at v s before a;
  cannot = cant;
  kind_is = sym kind;
})

cut_off : (v : Version) (bytes : List ℕ) (s : Stage) (n : ℕ) → At v s (lines_of bytes) → n ≡ length (lines_of bytes) + 1 → ((m : ℕ) → at_end s m ≡ refused m Missing) → IsVerdict v bytes (refused n Missing)
cut_off v bytes s n a e missing = inr (record {
  number_is = e;
  kind_is = refl;
  stood = stood_at v s (lines_of bytes) a;
  no_text = λ head events x.
      let t = text_is_accepted v bytes head events x in
      let same : s ≡ t.0 = passes_one v begins (lines_of bytes) s t.0 a.passes t.1 in
      let one : refused 0 Missing ≡ accepted head events = sym (missing 0) ∙ ap (λ (y : Stage). at_end y 0) same ∙ t.2 0 in
      cc;
})

ends : (v : Version) (bytes : List ℕ) (s : Stage) (n : ℕ) → At v s (lines_of bytes) → n ≡ length (lines_of bytes) + 1 → IsVerdict v bytes (at_end s n)
ends v bytes begins n a e = cut_off v bytes begins n a e (λ m. refl)
ends v bytes titled n a e = cut_off v bytes titled n a e (λ m. refl)
ends v bytes (counted possible) n a e = cut_off v bytes (counted possible) n a e (λ m. refl)
ends v bytes (headed head) n a e = cut_off v bytes (headed head) n a e (λ m. refl)
ends v bytes (ruled head sub) n a e = cut_off v bytes (ruled head sub) n a e (λ m. refl)
ends v bytes (among_events head events) n a e = cut_off v bytes (among_events head events) n a e (λ m. refl)
ends v bytes (whole head events) n a e = whole_is_text v bytes head events (reached_from v (lines_of bytes) (whole head events) a.passes)
ends v bytes (among_summary head events []) n a e = summary_is_text v bytes head events (reached_from v (lines_of bytes) (among_summary head events []) a.passes)
ends v bytes (among_summary head events (x ∷ left)) n a e = cut_off v bytes (among_summary head events (x ∷ left)) n a e (λ m. refl)

next_number : (before : List (List ℕ)) (l : List ℕ) → length before + 1 + 1 ≡ length (before ++ l ∷ []) + 1
next_number before l = omega (arith, length-append before (l ∷ []))

follows : (v : Version) (bytes : List ℕ) (o : Outcome) (l : List ℕ) (ls : List (List ℕ)) (s : Stage) (before : List (List ℕ)) → At v s before → Rest bytes before (l ∷ ls) → (x : Step) → step v s l ≡ x →
    ((m : Stage) → Leads (step v s l) m → Judged v m (length before + 1 + 1) ls o → IsVerdict v bytes o) →
    Follows x (length before + 1) (λ m. Judged v m (length before + 1 + 1) ls o) o → IsVerdict v bytes o
follows v bytes o l ls s before a r (goes m) e more h = more m (subst (λ (x : Step). Leads x m) (sym e) refl) h
follows v bytes o l ls s before a r (stops k) e more h =
    let cant : CanStand v (before ++ l ∷ []) → ⊥ = λ c. let t = leads_on v s before l a c in subst (λ (x : Step). Leads x t.0) e t.1 in
    let kind : kind_of v before l ≡ k = subst (λ (x : Step). HasKind x (kind_of v before l)) e (kind_is v s before l a.parted) in
    subst (IsVerdict v bytes) (sym h) (bad_line v bytes s before l ls k a r cant kind)
follows v bytes o l ls s before a r (asks head events e) x more (inl h) = more (among_events head (events ++ e ∷ [])) (subst (λ (y : Step). Leads y (among_events head (events ++ e ∷ []))) (sym x) (h.0, refl)) h.1
follows v bytes o l ls s before a r (asks head events e) x more (inr h) =
    let cant : CanStand v (before ++ l ∷ []) → ⊥ = λ c. let t = leads_on v s before l a c in let u = subst (λ (y : Step). Leads y t.0) x t.1 in h.0 u.0 in
    let kind : kind_of v before l ≡ Unlawful = subst (λ (y : Step). HasKind y (kind_of v before l)) x (kind_is v s before l a.parted) in
    subst (IsVerdict v bytes) (sym h.1) (bad_line v bytes s before l ls Unlawful a r cant kind)

judged_from : (v : Version) (bytes : List ℕ) (o : Outcome) (ls : List (List ℕ)) (s : Stage) (before : List (List ℕ)) → At v s before → Rest bytes before ls → Judged v s (length before + 1) ls o → IsVerdict v bytes o
judged_from v bytes o [] s before a r h =
    let lines : lines_of bytes ≡ before = r ∙ append-nil before in
    let b : At v s (lines_of bytes) = subst (At v s) (sym lines) a in
    subst (IsVerdict v bytes) (sym h) (ends v bytes s (length before + 1) b (ap (λ (x : List (List ℕ)). length x + 1) (sym lines)))
judged_from v bytes o (l ∷ ls) s before a r h =
    follows v bytes o l ls s before a r (step v s l) refl
    (λ m p j. judged_from v bytes o ls m (before ++ l ∷ []) (at_more v s before l m a p) (r ∙ sym (append_assoc before (l ∷ []) ls))
    (subst (λ (n : ℕ). Judged v m n ls o) (next_number before l) j))
    (judged_follows v s (length before + 1) l ls o h)

start : (v : Version) → At v begins []
start v = record { passes = refl; parted = parted_none }

pub judged_is_verdict : (v : Version) (bytes : List ℕ) (o : Outcome) → Judged v begins 1 (lines_of bytes) o → IsVerdict v bytes o
judged_is_verdict v bytes o h = judged_from v bytes o (lines_of bytes) begins [] (start v) refl h

-- ---- from the verdict to what is judged

pub judged_after : (v : Version) (s : Stage) (n : ℕ) (ls : List (List ℕ)) (m : Stage) (ms : List (List ℕ)) (o : Outcome) → Passes v s ls m → Judged v m (n + length ls) ms o → Judged v s n (ls ++ ms) o
judged_after v s n [] m ms o p j =
    let here : n + length {A = List ℕ} [] ≡ n = omega arith in
    subst (λ (x : Stage). Judged v x n ms o) (sym p) (subst (λ (k : ℕ). Judged v m k ms o) here j)
judged_after v s n (l ∷ ls) m ms o p j =
    let number : n + length (l ∷ ls) ≡ n + 1 + length ls = omega arith in
    inl (p.0, p.1, judged_after v p.0 (n + 1) ls m ms o p.2 (subst (λ (k : ℕ). Judged v m k ms o) number j))

judged_end : (v : Version) (s : Stage) (ls : List (List ℕ)) (t : Stage) (o : Outcome) → Passes v s ls t → o ≡ at_end t (1 + length ls) → Judged v s 1 ls o
judged_end v s ls t o p e = subst (λ (x : List (List ℕ)). Judged v s 1 x o) (append-nil ls) (judged_after v s 1 ls t [] o p e)

stops_here : (v : Version) (s : Stage) (n : ℕ) (before : List (List ℕ)) (l : List ℕ) (x : Step) (more : Stage → Type 0) → step v s l ≡ x → At v s before → (CanStand v (before ++ l ∷ []) → ⊥) → Follows x n more (refused n (kind_of v before l))
stops_here v s n before l (goes m) more e a cant =
    let next = at_more v s before l m a (subst (λ (x : Step). Leads x m) (sym e) refl) in
    absurd (cant (stood_at v m (before ++ l ∷ []) next))
stops_here v s n before l (stops k) more e a cant =
    let kind : kind_of v before l ≡ k = subst (λ (x : Step). HasKind x (kind_of v before l)) e (kind_is v s before l a.parted) in
    ap (refused n) kind
stops_here v s n before l (asks head events x) more e a cant =
    let kind : kind_of v before l ≡ Unlawful = subst (λ (y : Step). HasKind y (kind_of v before l)) e (kind_is v s before l a.parted) in
    inr (
      λ stands.
          let m = among_events head (events ++ x ∷ []) in
          let next = at_more v s before l m a (subst (λ (y : Step). Leads y m) (sym e) (stands, refl)) in
          cant (stood_at v m (before ++ l ∷ []) next),
      ap (refused n) kind,
    )

first_bad_judged : (v : Version) (bytes : List ℕ) (n : ℕ) (k : ReplayKind) → IsFirstBad v (lines_of bytes) n k → Judged v begins 1 (lines_of bytes) (refused n k)
first_bad_judged v bytes n k f =
    let p = can_pass v f.before f.stood in
    let here : n ≡ 1 + length f.before = omega (arith, f.number_is) in
    let bad : Judged v p.0 n (f.line ∷ f.others) (refused n (kind_of v f.before f.line)) =
    follows_judged v p.0 n f.line f.others (refused n (kind_of v f.before f.line))
    (stops_here v p.0 n f.before f.line (step v p.0 f.line) (λ x. Judged v x (n + 1) f.others (refused n (kind_of v f.before f.line))) refl (at_of v f.before p.0 p.1) f.cannot) in
    let kinded : Judged v p.0 n (f.line ∷ f.others) (refused n k) = subst (λ (j : ReplayKind). Judged v p.0 n (f.line ∷ f.others) (refused n j)) (sym f.kind_is) bad in
    subst (λ (ls : List (List ℕ)). Judged v begins 1 ls (refused n k)) (sym f.lines_are)
    (judged_after v begins 1 f.before p.0 (f.line ∷ f.others) (refused n k) p.1 (subst (λ (i : ℕ). Judged v p.0 i (f.line ∷ f.others) (refused n k)) here kinded))

missing_at : (v : Version) (bytes : List ℕ) (t : Stage) (n : ℕ) → Passes v begins (lines_of bytes) t → ((head : Head) (events : List Event) → IsTextOf v bytes head events → ⊥) → at_end t n ≡ refused n Missing
missing_at v bytes begins n p cant = refl
missing_at v bytes titled n p cant = refl
missing_at v bytes (counted possible) n p cant = refl
missing_at v bytes (headed head) n p cant = refl
missing_at v bytes (ruled head sub) n p cant = refl
missing_at v bytes (among_events head events) n p cant = refl
missing_at v bytes (whole head events) n p cant = absurd (cant head events (whole_is_text v bytes head events (reached_from v (lines_of bytes) (whole head events) p)))
missing_at v bytes (among_summary head events []) n p cant = absurd (cant head events (summary_is_text v bytes head events (reached_from v (lines_of bytes) (among_summary head events []) p)))
missing_at v bytes (among_summary head events (x ∷ left)) n p cant = refl

cut_off_judged : (v : Version) (bytes : List ℕ) (n : ℕ) (k : ReplayKind) → IsCutOff v bytes n k → Judged v begins 1 (lines_of bytes) (refused n k)
cut_off_judged v bytes n k c =
    let p = can_pass v (lines_of bytes) c.stood in
    let here : n ≡ 1 + length (lines_of bytes) = omega (arith, c.number_is) in
    judged_end v begins (lines_of bytes) p.0 (refused n k) p.1
    (ap (refused n) c.kind_is ∙ sym (missing_at v bytes p.0 n p.1 c.no_text) ∙ ap (at_end p.0) here)

pub verdict_is_judged : (v : Version) (bytes : List ℕ) (o : Outcome) → IsVerdict v bytes o → Judged v begins 1 (lines_of bytes) o
verdict_is_judged v bytes (accepted head events) x =
    let t = text_is_accepted v bytes head events x in
    judged_end v begins (lines_of bytes) t.0 (accepted head events) t.1 (sym (t.2 (1 + length (lines_of bytes))))
verdict_is_judged v bytes (refused n k) (inl f) = first_bad_judged v bytes n k f
verdict_is_judged v bytes (refused n k) (inr c) = cut_off_judged v bytes n k c

-- ---- one verdict

one_step : (x : Step) (n : ℕ) (more : Outcome → Stage → Type 0) (a b : Outcome) → ((m : Stage) → more a m → more b m → a ≡ b) → Follows x n (more a) a → Follows x n (more b) b → a ≡ b
one_step (goes m) n more a b same p q = same m p q
one_step (stops k) n more a b same p q = p ∙ sym q
one_step (asks head events e) n more a b same (inl p) (inl q) = same (among_events head (events ++ e ∷ [])) p.1 q.1
one_step (asks head events e) n more a b same (inl p) (inr q) = absurd (q.0 p.0)
one_step (asks head events e) n more a b same (inr p) (inl q) = absurd (p.0 q.0)
one_step (asks head events e) n more a b same (inr p) (inr q) = p.1 ∙ sym q.1

pub judged_one : (v : Version) (s : Stage) (n : ℕ) (ls : List (List ℕ)) (a b : Outcome) → Judged v s n ls a → Judged v s n ls b → a ≡ b
judged_one v s n [] a b p q = p ∙ sym q
judged_one v s n (l ∷ ls) a b p q = one_step (step v s l) n (λ o m. Judged v m (n + 1) ls o) a b (λ m x y. judged_one v m (n + 1) ls a b x y) (judged_follows v s n l ls a p) (judged_follows v s n l ls b q)

-- an input has at most one verdict
pub verdict_one : (v : Version) (bytes : List ℕ) (a b : Outcome) → IsVerdict v bytes a → IsVerdict v bytes b → a ≡ b
verdict_one v bytes a b p q = judged_one v begins 1 (lines_of bytes) a b (verdict_is_judged v bytes a p) (verdict_is_judged v bytes b q)

-- any input has one outcome at most
pub one_outcome : (v : Version) (bytes : List ℕ) (a b : Outcome) → IsReplay v bytes a → IsReplay v bytes b → a ≡ b
one_outcome v bytes a b (inl p) (inl q) = p.1 ∙ sym q.1
one_outcome v bytes a b (inl p) (inr q) = absurd (omega (arith, p.0, q.0))
one_outcome v bytes a b (inr p) (inl q) = absurd (omega (arith, p.0, q.0))
one_outcome v bytes a b (inr p) (inr q) = verdict_one v bytes a b p.1 q.1

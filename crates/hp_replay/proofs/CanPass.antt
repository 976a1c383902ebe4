-- Lines can stand exactly where they pass.
use Rattle.std.proofs.Common.{◌≡◌, ℕ, List, [], ◌∷◌, ◌++◌, refl, sym, ap, subst, ◌∙◌, append_assoc, inl, inr}
use Rattle.std.specs.Prelude.{◌⊎◌}
use Rattle.std.proofs.lemmas.List.{append-nil}
use Rattle.hp_event.specs.declared.head.Head.{Head}
use Rattle.hp_event.specs.declared.event.Event.{Event}
use Rattle.hp_model.specs.JournalText.{journal_text}
use Rattle.hp_model.specs.Summary.{summary}
use Rattle.hp_event.specs.declared.version.Version.{Version}
use Rattle.hp_replay.specs.InputLines.{lines_of}
use Rattle.hp_replay.specs.CanStand.{IsJournal, CanStand}
use Rattle.hp_replay.specs.Stages.{Stage, begins, whole}
use Rattle.hp_replay.specs.Judged.{accepted, at_end}
use Rattle.hp_replay.specs.Verdict.{IsTextOf}
use Rattle.hp_replay.proofs.VersionLaws.{cpus_within}
use Rattle.hp_replay.proofs.InputLaws.{same_lines}
use Rattle.hp_replay.proofs.TextLines.{text_lines, text_lines_are}
use Rattle.hp_replay.proofs.Passes.{Passes, passes-append, passes_front}
use Rattle.hp_replay.proofs.TextPasses.{not_many, text_passes, all_passes}
use Rattle.hp_replay.proofs.Reached.{Reached, AtWhole, AtSummary, all_lines_are, reached_more}

-- ---- what can stand passes

both_pass : (v : Version) (head : Head) (events : List Event) → IsJournal v head events → (t : Stage) × Passes v begins (lines_of (journal_text v head events ++ summary head events)) t × ((n : ℕ) → at_end t n ≡ accepted head events)
both_pass v head events j =
    let more = all_passes v head events (lines_of (summary head events)) refl in
    let both = passes-append v begins (text_lines v head events) (whole head events) (lines_of (summary head events)) more.0 (text_passes v head events j) more.1 in
    (more.0, subst (λ (ls : List (List ℕ)). Passes v begins ls more.0) (sym (all_lines_are v head events j)) both, more.2)

pub can_pass : (v : Version) (front : List (List ℕ)) → CanStand v front → (t : Stage) × Passes v begins front t
can_pass v front c =
    let all = both_pass v c.head c.events c.journal in
    let parts = passes_front v begins front c.rest all.0 (subst (λ (ls : List (List ℕ)). Passes v begins ls all.0) (sym c.is_front) all.1) in
    (parts.0, parts.1)

-- ---- what passes can stand

pub reached_all : (v : Version) (s : Stage) (before ls : List (List ℕ)) (t : Stage) → Reached v s before → Passes v s ls t → Reached v t (before ++ ls)
reached_all v s before [] t r p = subst (λ (x : Stage). Reached v x (before ++ [])) p (subst (λ (b : List (List ℕ)). Reached v s b) (sym (append-nil before)) r)
reached_all v s before (l ∷ ls) t r p =
    let next = reached_more v s before l p.0 r p.1 in
    subst (λ (b : List (List ℕ)). Reached v t b) (append_assoc before (l ∷ []) ls) (reached_all v p.0 (before ++ l ∷ []) ls t next p.2)

pub reached_from : (v : Version) (front : List (List ℕ)) (t : Stage) → Passes v begins front t → Reached v t front
reached_from v front t p = reached_all v begins [] front t refl p

-- ---- whole texts

no_more : (ls : List (List ℕ)) → ls ++ lines_of [] ≡ ls
unfolding lines_of
no_more ls = append-nil ls

text_alone : (v : Version) (head : Head) (events : List Event) → IsJournal v head events → lines_of (journal_text v head events) ≡ text_lines v head events
text_alone v head events j =
    ap lines_of (sym (append-nil (journal_text v head events)))
    ∙ text_lines_are v head events [] j.lawful.0 (cpus_within v head events j.lawful.0 j.within) j.fit (not_many head events j.lawful)
    ∙ no_more (text_lines v head events)

-- the lines of a text, or of a text and its summary, lead to where it is accepted
pub text_is_accepted : (v : Version) (bytes : List ℕ) (head : Head) (events : List Event) → IsTextOf v bytes head events → (t : Stage) × Passes v begins (lines_of bytes) t × ((n : ℕ) → at_end t n ≡ accepted head events)
text_is_accepted v bytes head events x = is x.bytes_are
  where
    is : (bytes ≡ journal_text v head events) ⊎ (bytes ≡ journal_text v head events ++ summary head events) → (t : Stage) × Passes v begins (lines_of bytes) t × ((n : ℕ) → at_end t n ≡ accepted head events)
    is (inl e) =
        (whole head events, subst (λ (ls : List (List ℕ)). Passes v begins ls (whole head events)) (sym (ap lines_of e ∙ text_alone v head events x.journal)) (text_passes v head events x.journal), λ n. refl)
    is (inr e) =
        let all = both_pass v head events x.journal in
        (all.0, subst (λ (ls : List (List ℕ)). Passes v begins ls all.0) (ap lines_of (sym e)) all.1, all.2)

pub whole_is_text : (v : Version) (bytes : List ℕ) (head : Head) (events : List Event) → AtWhole v head events (lines_of bytes) → IsTextOf v bytes head events
whole_is_text v bytes head events w = record {
  journal = w.journal;
  bytes_are = inl (same_lines bytes (journal_text v head events) (w.lines_are ∙ sym (text_alone v head events w.journal)));
}

pub summary_is_text : (v : Version) (bytes : List ℕ) (head : Head) (events : List Event) → AtSummary v head events [] (lines_of bytes) → IsTextOf v bytes head events
summary_is_text v bytes head events w = record {
  journal = w.journal;
  bytes_are = inr (same_lines bytes (journal_text v head events ++ summary head events) (sym (append-nil (lines_of bytes)) ∙ w.lines_are ∙ sym (all_lines_are v head events w.journal)));
}

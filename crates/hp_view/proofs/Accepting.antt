-- A journal that has the window is refused neither by a line nor for its window.
use Rattle.std.proofs.Common.{◌≡◌, ℕ, ◌+◌, ◌≤◌, ◌⊎◌, inl, inr, Option, Some, None, List, [], ◌++◌, length, sym, ap, subst, ◌∙◌, arith}
use Rattle.std.proofs.lemmas.List.{append-nil, length-append}
use Rattle.hp_states.specs.declared.limits.TheConstants.{MAX_JOURNAL_BYTES}
use Rattle.hp_event.specs.declared.head.Head.{Head}
use Rattle.hp_event.specs.declared.event.Event.{Event}
use Rattle.hp_edge.specs.Reading.{WasRead}
use Rattle.hp_event.specs.declared.version.Version.TheVariants.{Two}
use Rattle.hp_replay.specs.declared.error.ReplayKind.{ReplayKind}
use Rattle.hp_replay.specs.Judged.{Outcome, accepted, refused}
use Rattle.hp_replay.specs.Verdict.{IsReplay}
use Rattle.hp_replay.proofs.VerdictLaws.{one_outcome}
use Rattle.hp_view.specs.declared.asked.Asked.{Asked}
use Rattle.hp_view.specs.Options.{IsAsked}
use Rattle.hp_view.specs.Chosen.{IsChosen}
use Rattle.hp_view.specs.Main.{Asks, HoldsWindow, IsBadWindow, IsBadJournal}
use Rattle.hp_view.proofs.OptionLaws.{same_asked}

same_some : (a b : List ℕ) → Some a ≡ Some b → a ≡ b
same_some a b h = cc

-- of bytes that are few enough all were read
all_read : (limit : ℕ) (left now : Option (List ℕ)) (bytes all : List ℕ) → left ≡ Some all → length all ≤ limit →
    WasRead limit left now bytes → bytes ≡ all
all_read limit left None bytes all held few read = let first = sym held ∙ read.first in absurd (cc)
all_read limit left (Some rest) bytes all held few read = go read.whole
  where
    parts : bytes ++ rest ≡ all
    parts = same_some (bytes ++ rest) all (sym read.first ∙ held)

    go : (rest ≡ []) ⊎ (length bytes ≡ limit + 1) → bytes ≡ all
    go (inl none) = sym (append-nil bytes) ∙ (rw none at parts)
    go (inr many) =
        let more = length-append bytes rest in
        let whole : length (bytes ++ rest) ≤ limit = rw parts few in
        absurd (omega (arith, more, many, whole))

text_is_short : (bytes : List ℕ) (head : Head) (events : List Event) → IsReplay Two bytes (accepted head events) → length bytes ≤ MAX_JOURNAL_BYTES
text_is_short bytes head events (inl h) = let e = h.1 in absurd (cc)
text_is_short bytes head events (inr h) = h.0

accepted_refused : (head : Head) (events : List Event) (line : ℕ) (kind : ReplayKind) → accepted head events ≡ refused line kind → ⊥
accepted_refused head events line kind h = cc

same_events : (one other : Head) (events others : List Event) → accepted one events ≡ accepted other others → events ≡ others
same_events one other events others h = cc

-- the outcome of what was read is that of what the source holds
outcome_is : (asked : Asked) (left now : Option (List ℕ)) (bytes : List ℕ) (o : Outcome) (j : HoldsWindow asked left) →
    WasRead MAX_JOURNAL_BYTES left now bytes → IsReplay Two bytes o → accepted j.head j.events ≡ o
outcome_is asked left now bytes o j read is =
    let few = text_is_short j.bytes j.head j.events j.is_text in
    let same = all_read MAX_JOURNAL_BYTES left now bytes j.bytes j.held few read in
    one_outcome Two j.bytes (accepted j.head j.events) o j.is_text (subst (λ (b : List ℕ). IsReplay Two b o) same is)

pub no_bad_journal : (words : List (List ℕ)) (left now : Option (List ℕ)) (written : List ℕ) → Asks words (λ asked. HoldsWindow asked left) →
    IsBadJournal left now written → ⊥
no_bad_journal words left now written has bad =
    accepted_refused has.is.head has.is.events bad.line bad.kind
    (outcome_is has.asked left now bad.bytes (refused bad.line bad.kind) has.is bad.read bad.refused_is)

pub no_bad_window : (words : List (List ℕ)) (asked : Asked) (left now : Option (List ℕ)) (written : List ℕ) → IsAsked words asked →
    Asks words (λ asked. HoldsWindow asked left) → IsBadWindow asked left now written → ⊥
no_bad_window words asked left now written is has bad =
    let same : has.asked ≡ asked = same_asked words has.asked asked has.is_asked is in
    let events : has.is.events ≡ bad.events =
    same_events has.is.head bad.head has.is.events bad.events
    (outcome_is has.asked left now bad.bytes (accepted bad.head bad.events) has.is bad.read bad.is_text) in
    bad.none has.is.window
    (subst (λ (a : Asked). IsChosen a (length bad.events) has.is.window) same
    (subst (λ (n : ℕ). IsChosen has.asked n has.is.window) (ap (λ (es : List Event). length es) events) has.is.chosen))

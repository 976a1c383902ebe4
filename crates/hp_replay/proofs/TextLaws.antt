-- A text has one journal.
use Rattle.std.proofs.Common.{◌≡◌, List, refl, sym, ap, ◌∙◌, inl}
use Rattle.hp_states.proofs.Basics.{same_some}
use Rattle.hp_event.specs.declared.head.Head.{Head}
use Rattle.hp_event.specs.declared.event.Event.{Event}
use Rattle.hp_replay.specs.declared.event.NumberedEvent.{NumberedEvent}
use Rattle.hp_replay.specs.Spellings.{HaveSameLine}
use Rattle.hp_replay.specs.Versions.{numbered_event}
use Rattle.hp_model.specs.JournalText.{journal_text}
use Rattle.hp_event.specs.declared.version.Version.{Version}
use Rattle.hp_replay.specs.Fits.{EventFits}
use Rattle.hp_replay.specs.Spelled.{IsSpelled}
use Rattle.hp_replay.specs.EventAt.{event_at}
use Rattle.hp_replay.specs.CanStand.{IsJournal}
use Rattle.hp_replay.specs.Judged.{accepted}
use Rattle.hp_replay.proofs.EventAgain.{event_at_again}
use Rattle.hp_replay.proofs.VerdictLaws.{verdict_one}

pub line_says_one : (v : Version) (a b : Event) → EventFits a → IsSpelled a → EventFits b → IsSpelled b → HaveSameLine v a b → a ≡ b
line_says_one v a b f s g t h =
    let same : numbered_event v h.first a ≡ numbered_event v h.second b =
    same_some _ _ (sym (event_at_again v h.first a h.first_fits f s) ∙ ap (event_at v) h.same ∙ event_at_again v h.second b h.second_fits g t) in
    ap (λ (x : NumberedEvent). x.event) same

pub text_says_one : (v : Version) (one other : Head) (events others : List Event) → IsJournal v one events → IsJournal v other others → journal_text v one events ≡ journal_text v other others → (one ≡ other) × (events ≡ others)
text_says_one v one other events others j k e =
    let same : accepted one events ≡ accepted other others =
    verdict_one v (journal_text v one events) (accepted one events) (accepted other others) (record { journal = j; bytes_are = inl refl }) (record { journal = k; bytes_are = inl e }) in
    (cc, cc)

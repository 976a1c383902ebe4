-- A command that has its input isn't refused.
use Rattle.std.proofs.Common.{◌≡◌, ℕ, ◌≤◌, inl, inr, Option, List, length, subst, arith}
use Rattle.hp_states.specs.declared.limits.TheConstants.{MAX_JOURNAL_BYTES}
use Rattle.hp_event.specs.declared.head.Head.{Head}
use Rattle.hp_event.specs.declared.event.Event.{Event}
use Rattle.hp_command.specs.declared.command.Command.{Command}
use Rattle.hp_command.specs.declared.command.Command.TheVariants as asks
use Rattle.hp_command.specs.Commands.{IsCommand}
use Rattle.hp_command.proofs.CommandLaws.{same_command}
use Rattle.hp_event.specs.declared.version.Version.{Version}
use Rattle.hp_event.specs.declared.version.Version.TheVariants.{One, Two}
use Rattle.hp_replay.specs.declared.error.ReplayKind.{ReplayKind}
use Rattle.hp_replay.specs.Judged.{accepted, refused}
use Rattle.hp_replay.specs.Verdict.{IsReplay}
use Rattle.hp_replay.proofs.VerdictLaws.{one_outcome}
use Rattle.hp_edge.proofs.Holding.{all_read, no_bad_script}
use Rattle.hp_play.specs.Main.{Asked, HoldsJournal, HasInput, IsBadJournal, IsBadJournalOf, IsRefusedBy}

not_refused : (command : Command) (hooks : ℕ) (left now : Option (List ℕ)) (written : List ℕ) → HasInput command hooks left →
    IsRefusedBy command hooks left now written → ⊥
not_refused asks.Play hooks left now written has bad = no_bad_script hooks left now written has bad
not_refused asks.States hooks left now written has bad = no_bad_script hooks left now written has bad
not_refused asks.Report hooks left now written has bad = no_bad_script hooks left now written has bad
not_refused asks.Replay hooks left now written has bad = bad
not_refused asks.Migrate hooks left now written has bad = bad
not_refused (asks.Gen options) hooks left now written has bad = bad
not_refused (asks.Count counting) hooks left now written has bad = no_bad_script hooks left now written has bad
not_refused (asks.Smt controlling) hooks left now written has bad = no_bad_script hooks left now written has bad
not_refused (asks.Bench options) hooks left now written has bad = let few = bad.few_hooks in omega (arith, has, few)

-- the command that the words ask for is refused by no script
pub no_refusal : (words : List (List ℕ)) (command : Command) (hooks : ℕ) (left now : Option (List ℕ)) (written : List ℕ) →
    Asked words (λ c. HasInput c hooks left) → IsCommand words command → IsRefusedBy command hooks left now written → ⊥
no_refusal words command hooks left now written has is bad =
    not_refused has.command hooks left now written has.is
    (subst (λ (c : Command). IsRefusedBy c hooks left now written) (same_command words command has.command is has.asked) bad)

text_is_short : (v : Version) (bytes : List ℕ) (head : Head) (events : List Event) → IsReplay v bytes (accepted head events) →
    length bytes ≤ MAX_JOURNAL_BYTES
text_is_short v bytes head events (inl h) = let e = h.1 in absurd (cc)
text_is_short v bytes head events (inr h) = h.0

accepted_refused : (head : Head) (events : List Event) (line : ℕ) (kind : ReplayKind) → accepted head events ≡ refused line kind → ⊥
accepted_refused head events line kind h = cc

no_bad_journal : (v : Version) (left now : Option (List ℕ)) (written : List ℕ) → HoldsJournal v left → IsBadJournal v left now written → ⊥
no_bad_journal v left now written j bad =
    let few = text_is_short v j.bytes j.head j.events j.is_text in
    let same = all_read MAX_JOURNAL_BYTES left now bad.bytes j.bytes j.held few bad.read in
    let is = subst (λ (bytes : List ℕ). IsReplay v bytes (refused bad.line bad.kind)) same bad.refused_is in
    accepted_refused j.head j.events bad.line bad.kind
    (one_outcome v j.bytes (accepted j.head j.events) (refused bad.line bad.kind) j.is_text is)

no_bad_journal_of : (command : Command) (hooks : ℕ) (left now : Option (List ℕ)) (written : List ℕ) → HasInput command hooks left →
    IsBadJournalOf command left now written → ⊥
no_bad_journal_of asks.Replay hooks left now written has bad = no_bad_journal Two left now written has bad
no_bad_journal_of asks.Migrate hooks left now written has bad = no_bad_journal One left now written has bad
no_bad_journal_of command hooks left now written has bad = bad

-- nor by a journal
pub no_journal_refusal : (words : List (List ℕ)) (command : Command) (hooks : ℕ) (left now : Option (List ℕ)) (written : List ℕ) →
    Asked words (λ c. HasInput c hooks left) → IsCommand words command → IsBadJournalOf command left now written → ⊥
no_journal_refusal words command hooks left now written has is bad =
    no_bad_journal_of has.command hooks left now written has.is
    (subst (λ (c : Command). IsBadJournalOf c left now written) (same_command words command has.command is has.asked) bad)

use Rattle.std.proofs.Common.{◌≡◌, ℕ, ◌≤◌, ◌<◌, List, length, inl, inr, arith}
use Rattle.hp_states.specs.declared.limits.TheConstants.{MAX_JOURNAL_BYTES}
use Rattle.hp_event.specs.declared.head.Head.{Head}
use Rattle.hp_event.specs.declared.event.Event.{Event}
use Rattle.hp_event.specs.declared.version.Version.{Version}
use Rattle.hp_replay.specs.declared.error.ReplayKind.TheVariants.{TooLong}
use Rattle.hp_replay.specs.Judged.{Outcome, accepted, refused}
use Rattle.hp_replay.specs.Verdict.{IsTextOf, IsReplay}
use Rattle.hp_replay.proofs.VerdictLaws.{one_outcome}
use Rattle.hp_replay.proofs.laws.accepted_is_text.Goals as goal

is_text : (v : Version) (bytes : List ℕ) (head : Head) (events : List Event) → IsReplay v bytes (accepted head events) → (length bytes ≤ MAX_JOURNAL_BYTES) × IsTextOf v bytes head events
is_text v bytes head events (inl h) = let e = h.1 in absurd cc
is_text v bytes head events (inr h) = h

is_long : (v : Version) (bytes : List ℕ) (o : Outcome) → MAX_JOURNAL_BYTES < length bytes → IsReplay v bytes o → o ≡ refused 0 TooLong
is_long v bytes o lt (inl h) = h.1
is_long v bytes o lt (inr h) = absurd (omega (arith, lt, h.0))

pub returns-clause-accepted : goal.returns-clause-accepted
returns-clause-accepted c = λ v head events. (λ h. is_text v c.args.input.now head events h, λ h. inr h)

pub returns-clause-too_long : goal.returns-clause-too_long
returns-clause-too_long c = λ v o lt. (λ h. is_long v c.args.input.now o lt h, λ h. inl (lt, h))

pub returns-clause-one : goal.returns-clause-one
returns-clause-one c = λ v a b p q. one_outcome v c.args.input.now a b p q

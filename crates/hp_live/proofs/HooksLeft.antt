-- The hook that an operation leaves its ask with at its answer.
use Rattle.std.proofs.Common.{◌≡◌, ℕ, Bool, true, false, not, ◌&&◌, ◌||◌, Option, Some, None, List, inr, refl, sym, ap, ◌∙◌, subst}
use Rattle.std.proofs.lemmas.Bool.{false≢true, eq-eqb}
use Rattle.hp_states.proofs.Basics.{and_false, none_some, or_true, same_some}
use Rattle.hp_event.specs.declared.answer.Answer.{Answer}
use Rattle.hp_event.specs.declared.answer.Answer.TheVariants as answered
use Rattle.hp_event.specs.declared.event.Event.{Event}
use Rattle.hp_event.specs.declared.event.Event.TheVariants as event
use Rattle.hp_event.specs.declared.event.File.{File}
use Rattle.hp_event.specs.declared.event.File.TheVariants.{State, Target, Fail, States}
use Rattle.hp_event.specs.declared.head.Head.{Head}
use Rattle.hp_event.specs.declared.op.Op.{Op}
use Rattle.hp_event.specs.declared.op.Op.TheVariants.{Setup, Remove}
use Rattle.hp_model.specs.Events.{answer_by, BelongsTo, seat_of, showing}
use Rattle.hp_model.specs.Lawful.{Comes, IsLawful}
use Rattle.hp_model.specs.MapLock.{is_map_op, operation}
use Rattle.hp_model.specs.NextEvent.{next_event}
use Rattle.hp_model.specs.Pending.{IsAllowed}
use Rattle.hp_model.specs.Registrations.{registration}
use Rattle.hp_model.specs.Seats.{holds_map, is_busy}
use Rattle.hp_model.proofs.NextStands.{next_belongs, next_stands}
use Rattle.hp_account.specs.TableChanges.{is_setup, hands_out, hands_at_end}
use Rattle.hp_machine.proofs.FullNone.{full_none}
use Rattle.hp_board.specs.Hooks.{has_hook, has_hook_after}
use Rattle.hp_board.specs.declared.turn.Turn.TheVariants.{Answered}
use Rattle.hp_live.specs.Sections.{TurnOn, TurnedIn}
use Rattle.hp_live.proofs.Running.{idle_full}

-- neither a setup nor a remove
abbrev IsPlain : Op → Type 0
IsPlain (Setup asked sub form) = ⊥
IsPlain (Remove state form) = ⊥
IsPlain op = Unit {0}

map_plain : (op : Op) → is_map_op op ≡ true → IsPlain op
map_plain (Setup asked sub form) is = absurd (false≢true is)
map_plain (Remove state form) is = absurd (false≢true is)
map_plain op is = tt

shown_plain : (file : File) (cpu : ℕ) → IsPlain (showing file cpu)
shown_plain State cpu = tt
shown_plain Target cpu = tt
shown_plain Fail cpu = tt
shown_plain States cpu = tt

plain_hook : (op : Op) (b : Bool) (answer : Answer) → IsPlain op → (((is_setup op && b) && true) || false) ≡ hands_out op answer
plain_hook (Setup asked sub form) b answer plain = absurd plain
plain_hook (Remove state form) b answer plain = absurd plain
plain_hook op b answer plain = refl

refused_hook : (op : Op) (errno : ℕ) → (((is_setup op && true) && true) || false) ≡ hands_out op (answered.Refused errno)
refused_hook (Setup asked sub form) errno = refl
refused_hook (Remove state form) errno = refl
refused_hook op errno = refl

-- a registration of the seat is in flight
busy_hook : (xs : List Event) (k : ℕ) (op : Op) → is_busy k xs ≡ true → has_hook xs k op ≡ false
busy_hook xs k op busy = ap (λ b. is_setup op && not b) busy ∙ and_false (is_setup op)

-- the hook is there after an event that answers exactly where the answer hands it out
left_by : (head : Head) (xs : List Event) (k : ℕ) (op : Op) (answer : Answer) (e : Event) → IsAllowed head xs (record { seat = k; op = op }) →
    Comes head xs e → seat_of e ≡ k → BelongsTo op e → answer_by e ≡ Some answer →
    has_hook_after xs (Some e) (has_hook xs k op) ≡ hands_out op answer
left_by head xs k op answer (event.Refused seat errno asked) a h own of is =
    let idle : is_busy k xs ≡ false = subst (λ (n : ℕ). is_busy n xs ≡ false) own h.free.idle in
    ap (λ b. ((is_setup op && not b) && true) || false) idle ∙ refused_hook op errno
    ∙ ap (hands_out op) (same_some (answered.Refused errno) answer is)
left_by head xs k op answer (event.OpEnd seat given) a h own of is =
    plain_hook op (not (is_busy k xs)) given (map_plain op of) ∙ ap (hands_out op) (same_some given answer is)
left_by head xs k op answer (event.RegEnd seat given) a h own of is =
    let flies = h.in_flight in
    let mine = h.seat_is ∙ own in
    let same : h.of.op ≡ op = a.same h.of.op (inr (h.of, flies, mine, refl)) in
    let ours = eq-eqb h.of.seat k mine in
    let busy : is_busy k xs ≡ true = rw (flies, ours) (or_true (holds_map k (operation xs))) in
    ap (λ b. (b && true) || hands_at_end (registration xs) given) (busy_hook xs k op busy)
    ∙ ap (λ r. hands_at_end r given) flies ∙ ap (λ (o : Op). hands_out o given) same ∙ ap (hands_out op) (same_some given answer is)
left_by head xs k op answer (event.ReadLock seat) a h own of is =
    plain_hook op (not (is_busy k xs)) answer (subst IsPlain (sym of) tt)
left_by head xs k op answer (event.ReadUnlock seat) a h own of is =
    plain_hook op (not (is_busy k xs)) answer (subst IsPlain (sym of) tt)
left_by head xs k op answer (event.Armed seat cpu value) a h own of is =
    plain_hook op (not (is_busy k xs)) answer (subst IsPlain (sym of) tt)
left_by head xs k op answer (event.Shown seat file cpu value) a h own of is =
    plain_hook op (not (is_busy k xs)) answer (subst IsPlain (sym of) (shown_plain file cpu))
left_by head xs k op answer (event.Wakeup seat) a h own of is =
    plain_hook op (not (is_busy k xs)) answer (subst IsPlain (sym of) tt)
left_by head xs k op answer e a h own of is = absurd (none_some answer is)

full_hook : (op : Op) → (is_setup op && true) ≡ hands_out op answered.LogFull
full_hook (Setup asked sub form) = refl
full_hook (Remove state form) = refl
full_hook op = refl

left_turn : (head : Head) (k : ℕ) (op : Op) (had has : Bool) (found new : List Event) (at : Option ℕ) (answer : Answer) →
    IsLawful head found → IsAllowed head found (record { seat = k; op = op }) → had ≡ has_hook found k op →
    TurnOn head k op found new (Answered at answer) → has ≡ has_hook_after found (next_event head found k op) had →
    has ≡ hands_out op answer
left_turn head k op had has found new (Some at) answer lawful a is t hook =
    let s = next_stands head found k op t.event t.next_is in
    hook ∙ ap (λ (o : Option Event). has_hook_after found o had) t.next_is ∙ ap (λ b. has_hook_after found (Some t.event) b) is
    ∙ left_by head found k op answer t.event a s.0.0 s.1 (next_belongs head found (record { seat = k; op = op }) t.event lawful a t.next_is)
    t.answer_is
left_turn head k op had has found new None answer lawful a is t hook =
    hook ∙ ap (λ (o : Option Event). has_hook_after found o had) (full_none head found k op t.full) ∙ is
    ∙ ap (λ b. is_setup op && not b) (idle_full head found k op (is_busy k found) refl t.full)
    ∙ full_hook op ∙ ap (hands_out op) (sym t.answer_is)

-- at the answer of an operation
pub hook_left : (head : Head) (k : ℕ) (op : Op) (had has : Bool) (old new : List Event) (at : Option ℕ) (answer : Answer) →
    TurnedIn head k op had has old new (Answered at answer) → has ≡ hands_out op answer
hook_left head k op had has old new at answer t =
    left_turn head k op had has t.found new at answer t.lawful t.asked.allowed t.asked.hook_is t.turned t.hook

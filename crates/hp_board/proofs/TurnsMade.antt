-- What a turn makes of a board and of the hook that it is asked with.
use Rattle.std.proofs.Common.{◌≡◌, ℕ, Bool, true, false, not, ◌&&◌, ◌||◌, is_some, Option, Some, None, List, length, refl, sym, ap, ◌∙◌, subst}
use Rattle.std.proofs.lemmas.Bool.{true≢false, eq-eqb}
use Rattle.hp_states.proofs.Basics.{and_false, and_true, none_of}
use Rattle.hp_event.specs.declared.answer.Answer.{Answer}
use Rattle.hp_event.specs.declared.op.Op.{Op}
use Rattle.hp_event.specs.declared.head.Head.{Head}
use Rattle.hp_event.specs.declared.event.Event.{Event}
use Rattle.hp_event.specs.declared.event.Event.TheVariants.{RegBegin, RegEnd}
use Rattle.hp_model.specs.Events.{answer_by}
use Rattle.hp_model.specs.Lawful.{IsLawful}
use Rattle.hp_model.specs.NextEvent.{next_event}
use Rattle.hp_model.specs.Pending.{Pending, IsAllowed}
use Rattle.hp_model.specs.Seats.{is_busy, holds_map}
use Rattle.hp_model.specs.MapLock.{operation}
use Rattle.hp_model.specs.Registrations.{Registration, registration}
use Rattle.hp_model.proofs.NextStands.{next_stands, next_belongs}
use Rattle.hp_account.specs.TableChanges.{is_setup, is_registering, brings_hook, hands_hook}
use Rattle.hp_board.specs.Contents.{Contents, with_event}
use Rattle.hp_board.specs.Hooks.{has_hook, has_hook_after, leaves_hook}
use Rattle.hp_board.specs.Turns.{IsTurn, turn_by, goes_on}

-- where a registration begins or ends by what comes next, the ask has the hook that it brings
busy_of : (es : List Event) (k : ℕ) (r : Registration) → registration es ≡ Some r → r.seat ≡ k → is_busy k es ≡ true
busy_of es k r flies by = let own = eq-eqb r.seat k by in rw (flies, own) (go (holds_map k (operation es)))
  where
    go : (b : Bool) → (b || true) ≡ true
    go true = refl
    go false = refl

pub brings : (head : Head) (es : List Event) (p : Pending) (e : Event) → IsLawful head es → IsAllowed head es p →
    next_event head es p.seat p.op ≡ Some e → is_registering e ≡ true → has_hook es p.seat p.op ≡ brings_hook e
brings head es p (RegBegin seat state op) lawful a next is =
    let s = next_stands head es p.seat p.op (RegBegin seat state op) next in
    let idle : is_busy p.seat es ≡ false = ap (λ k. is_busy k es) (sym s.1) ∙ s.0.0.free.idle in
    let same : op ≡ p.op = next_belongs head es p (RegBegin seat state op) lawful a next in
    ap (λ b. is_setup p.op && not b) idle ∙ and_true (is_setup p.op) ∙ ap is_setup (sym same)
brings head es p (RegEnd seat answer) lawful a next is =
    let s = next_stands head es p.seat p.op (RegEnd seat answer) next in
    let busy = busy_of es p.seat s.0.0.of s.0.0.in_flight (s.0.0.seat_is ∙ s.1) in
    ap (λ b. is_setup p.op && not b) busy ∙ and_false (is_setup p.op)
brings head es p e lawful a next is = absurd (true≢false (sym is))

pub brought : (inside now : Contents) (p : Pending) (e : Event) (had : Bool) → inside ≡ now → IsLawful inside.head inside.events →
    IsAllowed now.head now.events p → had ≡ has_hook now.events p.seat p.op →
    next_event inside.head inside.events p.seat p.op ≡ Some e → is_registering e ≡ true → had ≡ brings_hook e
brought inside now p e had view lawful a has next is =
    subst (λ (b : Contents). had ≡ has_hook b.events p.seat p.op) (sym view) has
    ∙ brings inside.head inside.events p e lawful (subst (λ (b : Contents). IsAllowed b.head b.events p) (sym view) a) next is

-- the answer is the event's
pub turn_made : (old new : Contents) (k at : ℕ) (op : Op) (e : Event) → next_event old.head old.events k op ≡ Some e →
    new ≡ with_event old e → at ≡ length old.events → IsTurn k op old new (turn_by (answer_by e) at)
turn_made old new k at op e next is place = go (answer_by e) refl
  where
    go : (o : Option Answer) → answer_by e ≡ o → IsTurn k op old new (turn_by o at)
    go None a = record { event = e; next_is = next; new_is = is; place_is = place; answer_is = a }
    go (Some answer) a = record { event = e; next_is = next; new_is = is; place_is = place; answer_is = a }

-- where the operation goes on, the event answers nothing
pub unanswered : (answer : Option Answer) (at : ℕ) → goes_on (turn_by answer at) ≡ true → answer ≡ None
unanswered None at on = refl
unanswered (Some answer) at on = absurd (true≢false (sym on))

taken_away : (b c : Bool) → ((b && not b) || c) ≡ c
taken_away true c = refl
taken_away false c = refl

pub kept : (b : Bool) → ((b && true) || false) ≡ b
kept true = refl
kept false = refl

unchanged : (es : List Event) (e : Event) → is_registering e ≡ false → (brings_hook e ≡ false) × (hands_hook es e ≡ false)
unchanged es (RegBegin seat state op) h = absurd (true≢false h)
unchanged es (RegEnd seat answer) h = absurd (true≢false h)
unchanged es e h = (refl, refl)

pub hook_after : {X : Type 0} (es : List Event) (e : Event) (old new : Option X) →
    (is_registering e ≡ true → is_some old ≡ brings_hook e) → (is_registering e ≡ true → is_some new ≡ hands_hook es e) →
    (is_registering e ≡ false → new ≡ old) → is_some new ≡ has_hook_after es (Some e) (is_some old)
hook_after es e old new b h l = go (is_registering e) refl
  where
    go : (r : Bool) → is_registering e ≡ r → is_some new ≡ ((is_some old && not (brings_hook e)) || hands_hook es e)
    go true is = h is ∙ sym (ap (λ x. (x && not (brings_hook e)) || hands_hook es e) (b is) ∙ taken_away (brings_hook e) (hands_hook es e))
    go false is =
        let u = unchanged es e is in
        let none = u.0 in
        let stays = u.1 in
        ap is_some (l is) ∙ sym (rw (none, stays) (kept (is_some old)))

not_both : (a b : Bool) → (not a && not b) ≡ true → (a ≡ false) × (b ≡ false)
not_both true b h = absurd (true≢false (sym h))
not_both false true h = absurd (true≢false (sym h))
not_both false false h = (refl, refl)

pub hook_same : {X : Type 0} (es : List Event) (e : Event) (old new : Option X) →
    (is_registering e ≡ true → is_some old ≡ brings_hook e) → (is_registering e ≡ true → is_some new ≡ hands_hook es e) →
    (is_registering e ≡ false → new ≡ old) → leaves_hook es (Some e) ≡ true → new ≡ old
hook_same es e old new b h l leaves = go (is_registering e) refl
  where
    go : (r : Bool) → is_registering e ≡ r → new ≡ old
    go true is =
        let n = not_both (brings_hook e) (hands_hook es e) leaves in
        none_of new (h is ∙ n.1) ∙ sym (none_of old (b is ∙ n.0))
    go false is = l is

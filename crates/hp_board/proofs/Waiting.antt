-- A turn that waits: nothing of the operation comes next, or a write of `fail` that is kept out.
use Rattle.std.proofs.Common.{◌≡◌, ℕ, Bool, true, false, ◌&&◌, is_some, Some, None, List, refl, sym, ◌∙◌, inl, inr, ◌⊎◌, ⊎_elim}
use Rattle.std.proofs.lemmas.Bool.{false≢true, true≢false}
use Rattle.hp_board.proofs.TurnsMade.{kept}
use Rattle.hp_table.specs.Step.{AllHome}
use Rattle.hp_machine.specs.Next.{IsKept}
use Rattle.hp_event.specs.declared.op.Op.{Op}
use Rattle.hp_event.specs.declared.event.Event.{Event}
use Rattle.hp_event.specs.declared.event.Event.TheVariants.{Armed, Call}
use Rattle.hp_model.specs.Lent.{arms_walker}
use Rattle.hp_model.specs.NextEvent.{next_event}
use Rattle.hp_model.specs.Walks.{walk}
use Rattle.hp_locks.specs.declared.why.Why.{Why}
use Rattle.hp_locks.specs.declared.why.Why.TheVariants.{ApTurn, HookOut}
use Rattle.hp_board.specs.Contents.{Contents}
use Rattle.hp_board.specs.Hooks.{has_hook_after, leaves_hook}
use Rattle.hp_board.specs.Loans.{WaitsForThread, WaitsToArm}
use Rattle.hp_board.specs.Turns.{IsNotYet}

pub not_made : (k : ℕ) (op : Op) (b : Contents) (why : Why) → IsNotYet k op b why →
    (next_event b.head b.events k op ≡ None) ⊎ ((s : ℕ) × WaitsToArm b s k op)
not_made k op b (HookOut s) h = ⊎_elim (λ (w : WaitsForThread b s k op). inl w.kept.no_event) (λ w. inr (s, w)) h
not_made k op b (ApTurn cpu) h = inl h.0.no_event
not_made k op b why h = inl h.no_event

never : (b : Bool) → (b && false) ≡ true → ⊥
never true h = false≢true h
never false h = false≢true h

-- an event that arms is none that brings a hook or hands one out
by_armed : (P : Event → Type 0) → ((seat cpu : ℕ) (value : _) → P (Armed seat cpu value)) → (es : List Event) (c e : Event) →
    arms_walker es c e ≡ true → P e
by_armed P armed es (Call k c s i d how) (Armed seat cpu value) h = armed seat cpu value
by_armed P armed es (Call k c s i d how) e h = absurd (never (is_some (walk c es)) h)
by_armed P armed es c e h = absurd (false≢true h)

pub arms_leaves : (es : List Event) (c e : Event) (had : Bool) → arms_walker es c e ≡ true → has_hook_after es (Some e) had ≡ had
arms_leaves es c e had h = by_armed (λ x. has_hook_after es (Some x) had ≡ had) (λ seat cpu value. kept had) es c e h

pub arms_quietly : (es : List Event) (c e : Event) → arms_walker es c e ≡ true → leaves_hook es (Some e) ≡ true
arms_quietly es c e h = by_armed (λ x. leaves_hook es (Some x) ≡ true) (λ seat cpu value. refl) es c e h

-- where no hook is lent it is as the machine says
pub plain_wait : (k : ℕ) (op : Op) (b : Contents) (why : Why) → AllHome b.places → IsNotYet k op b why → IsKept b.head b.events k op why
plain_wait k op b (HookOut s) home h =
    absurd (⊎_elim (λ (w : WaitsForThread b s k op). true≢false (sym (home s) ∙ w.away))
    (λ (w : WaitsToArm b s k op). true≢false (sym (home s) ∙ w.out.away)) h)
plain_wait k op b (ApTurn cpu) home h = h.0
plain_wait k op b why home h = h

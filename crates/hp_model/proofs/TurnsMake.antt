-- What a turn makes in a run of a script.
use Rattle.std.proofs.Common.{◌≡◌, ℕ, ◌+◌, ◌-◌, Bool, true, false, cond, ltb, Option, Some, None, List, [], ◌∷◌, ◌++◌, length, refl, ap, sym, ◌∙◌, subst, inl, inr, arith}
use Rattle.std.proofs.lemmas.Bool.{false≢true, ltb-false}
use Rattle.hp_states.proofs.Basics.{none_some}
use Rattle.hp_event.specs.declared.op.Op.{Op}
use Rattle.hp_event.specs.declared.head.Head.{Head}
use Rattle.hp_event.specs.declared.event.Event.{Event}
use Rattle.hp_model.specs.Processors.{present}
use Rattle.hp_model.specs.Pending.{IsAllowed}
use Rattle.hp_model.specs.NextEvent.{due_entry, next_event, is_full}
use Rattle.hp_model.specs.Tasks.{Task, entries, operation, nothing, task_of, IsFor}
use Rattle.hp_model.specs.Scripts.{IsScript}
use Rattle.hp_model.specs.ScriptTurns.{RunState, unanswered, counted, after_entry, after_event, after_asking, turn, after_turns}
use Rattle.hp_model.specs.ScriptRun.{start}
use Rattle.hp_model.specs.TurnMakes.{task, CanTake, LacksRoom, TurnMakes}
use Rattle.hp_model.proofs.DueGives.{due_stands, due_gives}
use Rattle.hp_model.proofs.NextStands.{next_stands, next_belongs}
use Rattle.hp_model.proofs.NextGives.{next_gives, full_only, full_exactly}
use Rattle.hp_model.proofs.Going.{IsGoing, asks_allowed, turns_going, start_going, no_answer}

-- with its task named, so that the task's cases can be told
abbrev pub MakesAs : Head → (actors : List (List Op)) → RunState → (seat : ℕ) → Task → (after : RunState) → Type 0
MakesAs head actors at k t after = task head actors at k ≡ t → TurnMakes head actors at k after

no_take : (head : Head) (actors : List (List Op)) (at : RunState) (k : ℕ) → task head actors at k ≡ nothing → (e : Event) →
    CanTake head actors at k e → ⊥
no_take head actors at k t e c = subst (λ z. IsFor z e) t c.is_for

-- the turn of a thread
entry_makes : (head : Head) (actors : List (List Op)) (at : RunState) (k : ℕ) → IsGoing head actors at → (o : Option Event) →
    due_entry head at.events k ≡ o → MakesAs head actors at k entries (after_entry o at)
entry_makes head actors at k g None f t =
    inr (inr (
      λ e c. none_some e (sym f ∙ due_gives head at.events k e g.lawful c.stands (subst (λ z. IsFor z e) t c.is_for) c.by),
      λ l. subst (λ z. LacksRoom head at k z) t l,
      refl,
    ))
entry_makes head actors at k g (Some e) f t =
    let d = due_stands head at.events k e f in
    inl (
      e,
      record { stands = d.0; by = d.2; is_for = subst (λ z. IsFor z e) (sym t) d.1 },
      ap (λ z. record { events = at.events ++ e ∷ []; answers = counted (k - length (present head)) z at.answers }) (sym (no_answer e d.1)),
    )

-- the turn of an actor
event_makes : (head : Head) (actors : List (List Op)) (at : RunState) (k : ℕ) (op : Op) → IsGoing head actors at →
    IsAllowed head at.events (record { seat = k; op = op }) → (o : Option Event) → next_event head at.events k op ≡ o →
    (full : Bool) → is_full head at.events k op ≡ full →
    MakesAs head actors at k (operation op) (after_event (k - length (present head)) o full at)
event_makes head actors at k op g a (Some e) f full q t =
    let d = next_stands head at.events k op e f in
    let b = next_belongs head at.events (record { seat = k; op = op }) e g.lawful a f in
    inl (e, record { stands = d.0; by = d.1; is_for = subst (λ z. IsFor z e) (sym t) b }, refl)
event_makes head actors at k op g a None f true q t =
    inr (inl (subst (λ z. LacksRoom head at k z) (sym t) (full_only head at.events k op q), refl))
event_makes head actors at k op g a None f false q t =
    inr (inr (
      λ e c.
          none_some e
          (sym f
          ∙ next_gives head at.events (record { seat = k; op = op }) e g.lawful a c.stands c.by (subst (λ z. IsFor z e) t c.is_for)),
      λ l.
          false≢true
          (sym q ∙ (full_exactly head at.events (record { seat = k; op = op }) g.lawful a).1 (subst (λ z. LacksRoom head at k z) t l)),
      refl,
    ))

asking_makes : (head : Head) (actors : List (List Op)) (at : RunState) (k : ℕ) → IsScript head actors → IsGoing head actors at →
    k ≡ length (present head) + (k - length (present head)) → (o : Option Op) →
    unanswered actors at.answers (k - length (present head)) ≡ o →
    MakesAs head actors at k (task_of o) (after_asking head k (k - length (present head)) o at)
asking_makes head actors at k s g e None u t =
    inr (inr (λ x c. no_take head actors at k t x c, λ l. subst (λ z. LacksRoom head at k z) t l, refl))
asking_makes head actors at k s g e (Some op) u t =
    event_makes head actors at k op g (asks_allowed head actors at.events at.answers k (k - length (present head)) op s g e u)
    (next_event head at.events k op) refl (is_full head at.events k op) refl t

pub turn_makes : (head : Head) (actors : List (List Op)) (at : RunState) (k : ℕ) → IsScript head actors → IsGoing head actors at →
    TurnMakes head actors at k (turn head actors at k)
turn_makes head actors at k s g = go (ltb k P) refl
  where
    P : ℕ
    P = length (present head)

    named : (b : Bool) → ltb k P ≡ b → task head actors at k ≡ cond b entries (task_of (unanswered actors at.answers (k - P)))
    named b f = ap (λ z. cond z entries (task_of (unanswered actors at.answers (k - P)))) f

    turned : (b : Bool) → ltb k P ≡ b →
        turn head actors at k
        ≡ cond b (after_entry (due_entry head at.events k) at) (after_asking head k (k - P) (unanswered actors at.answers (k - P)) at)
    turned b f =
        ap (λ z. cond z (after_entry (due_entry head at.events k) at) (after_asking head k (k - P) (unanswered actors at.answers (k - P)) at)) f

    go : (b : Bool) → ltb k P ≡ b → TurnMakes head actors at k (turn head actors at k)
    go true f =
        subst (λ z. TurnMakes head actors at k z) (sym (turned true f))
        (entry_makes head actors at k g (due_entry head at.events k) refl (named true f))
    go false f =
        let l = ltb-false k P f in
        subst (λ z. TurnMakes head actors at k z) (sym (turned false f))
        (asking_makes head actors at k s g (omega (arith, l)) (unanswered actors at.answers (k - P)) refl (named false f))

pub turns_make : (head : Head) (actors : List (List Op)) (seats : List ℕ) (k : ℕ) → IsScript head actors →
    TurnMakes head actors (after_turns head actors (start head actors) seats) k
    (turn head actors (after_turns head actors (start head actors) seats) k)
turns_make head actors seats k s =
    turn_makes head actors (after_turns head actors (start head actors) seats) k s
    (turns_going head actors seats (start head actors) s (start_going head actors s))

pub run_asks : (head : Head) (actors : List (List Op)) (seats : List ℕ) (i : ℕ) (op : Op) → IsScript head actors →
    unanswered actors (after_turns head actors (start head actors) seats).answers i ≡ Some op →
    IsAllowed head (after_turns head actors (start head actors) seats).events (record { seat = length (present head) + i; op = op })
run_asks head actors seats i op s u =
    let at = after_turns head actors (start head actors) seats in
    asks_allowed head actors at.events at.answers (length (present head) + i) i op s
    (turns_going head actors seats (start head actors) s (start_going head actors s)) refl u

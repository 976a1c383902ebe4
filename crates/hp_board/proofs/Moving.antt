-- Where no hook is lent, what can stand is made by a turn.
use Rattle.std.proofs.Common.{◌≡◌, ℕ, true, Some, None, List, inl, inr, refl, sym, ◌∙◌}
use Rattle.std.specs.Prelude.{Contains}
use Rattle.std.proofs.lemmas.Bool.{true≢false}
use Rattle.std.proofs.lemmas.List.Elements.{All-contains}
use Rattle.hp_event.specs.declared.event.Event.{Event}
use Rattle.hp_locks.specs.declared.why.Why.{Why}
use Rattle.hp_locks.specs.declared.why.Why.TheVariants.{HookOut, Idle}
use Rattle.hp_machine.specs.Next.{IsKept}
use Rattle.hp_model.specs.Lawful.{IsLawful}
use Rattle.hp_model.specs.Moves.{ArePending, CanMove}
use Rattle.hp_model.specs.NextEvent.{due_entry}
use Rattle.hp_model.specs.Pending.{Pending, IsAllowed}
use Rattle.hp_model.proofs.DueGives.{due_gives}
use Rattle.hp_model.proofs.NextGives.{next_exactly, full_exactly}
use Rattle.hp_model.proofs.SomeMoves.{some_moves}
use Rattle.hp_table.specs.Step.{AllHome}
use Rattle.hp_board.specs.Contents.{Contents}
use Rattle.hp_board.specs.Moving.{moves, SomeMoves}
use Rattle.hp_board.specs.Turns.{IsTurn, IsServed}
use Rattle.hp_board.specs.declared.turn.Turn.{Turn}
use Rattle.hp_board.specs.declared.turn.Turn.TheVariants.{Made, Answered, NotYet}
use Rattle.hp_board.proofs.Waiting.{plain_wait}

some_none : (e : Event) → Some e ≡ None → ⊥
some_none e h = cc

-- a turn waits only where nothing comes next and there is room
unless_kept : (b : Contents) (p : Pending) → AllHome b.places → ((why : Why) → IsKept b.head b.events p.seat p.op why → ⊥) →
    (new : Contents) (turn : Turn) → IsTurn p.seat p.op b new turn → moves turn ≡ true
unless_kept b p home never new (Made at) is = refl
unless_kept b p home never new (Answered at answer) is = refl
unless_kept b p home never new (NotYet why) is = absurd (never why (plain_wait p.seat p.op b why home is.0))

serves : (b : Contents) (k : ℕ) (e : Event) → AllHome b.places → due_entry b.head b.events k ≡ Some e → (new : Contents) (turn : Turn) →
    IsServed k b new turn → moves turn ≡ true
serves b k e home due new (Made at) is = refl
serves b k e home due new (NotYet (HookOut s)) is = absurd (true≢false (sym (home s) ∙ is.0.away))
serves b k e home due new (NotYet Idle) is = absurd (some_none e (sym due ∙ is.0))
serves b k e home due new t is = absurd is

pub some_seat_moves : (b : Contents) (pending : List Pending) → IsLawful b.head b.events → AllHome b.places →
    ArePending b.head b.events pending → SomeMoves b pending
some_seat_moves b pending lawful home a = go (some_moves b.head b.events pending lawful a)
  where
    allowed : (p : Pending) → Contains pending p → IsAllowed b.head b.events p
    allowed p in_it = All-contains (IsAllowed b.head b.events) pending p a.allowed in_it

    go : CanMove b.head b.events pending → SomeMoves b pending
    go (inl (e, stands, inl (p, in_it, by, of))) =
        let next = (next_exactly b.head b.events p e lawful (allowed p in_it)).1 (stands, by, of) in
        inl (p, in_it, unless_kept b p home (λ why kept. some_none e (sym next ∙ kept.no_event)))
    go (inl (e, stands, inr (cpu, at, call))) =
        let due = due_gives b.head b.events _ e lawful stands call refl in
        inr (cpu, _, at, serves b _ e home due)
    go (inr (p, in_it, full)) =
        let is = (full_exactly b.head b.events p lawful (allowed p in_it)).1 full in
        inl (p, in_it, unless_kept b p home (λ why kept. true≢false (sym is ∙ kept.not_full)))

use Rattle.std.proofs.Common.{◌≡◌, ◌≤◌, ◌+◌, Result, Ok, Err, OnOk, is_ok, true, sym, subst, None, vec_len, vec_capacity, rules}
use Rattle.std.proofs.lemmas.Bool.{true≢false}
use Rattle.hp_model.specs.Registrations.{registration}
use Rattle.hp_table.specs.Step.{AllHome}
use Rattle.hp_board.specs.Contents.{Contents}
use Rattle.hp_board.specs.Retired.{IsRacked, hooks_of, registered_hooks}
use Rattle.hp_board.proofs.HooksRetired.{retired_as_registered}
use Rattle.hp_board.proofs.board.Board.retire.Goals as goal

room : {T E : Type 0} (r : Result T E) (P : Type 0) → OnOk r P → is_ok r ≡ true → P
room (Ok x) P h ok = h
room (Err e) P h ok = absurd (true≢false (sym ok))

pub move_hooks-requires-clause-room : goal.move_hooks-requires-clause-room
move_hooks-requires-clause-room g c =
    let ok : is_ok c.try_reserve.result ≡ true = search rules in
    let n : vec_len c.try_reserve.new.self + 201 ≤ vec_capacity c.try_reserve.new.self = room c.try_reserve.result _ c.try_reserve.ensures.ok ok in
    n

pub move_hooks-requires-clause-home : goal.move_hooks-requires-clause-home
move_hooks-requires-clause-home g c =
    subst AllHome (sym c.into_parts-journal.ensures.table) (subst (λ (b : Contents). AllHome b.places) (sym c.self.view_is) c.requires)

pub returns-clause-registered : goal.returns-clause-registered
returns-clause-registered g c = λ rest.
    let l = c.self.inside.machine in
    let at = subst (λ (b : Contents). registration b.events ≡ None) (sym c.self.view_is) rest in
    subst
    (λ (b : Contents).
    IsRacked g.H.Hook.counts c.args.rack.now.hooks.items c.move_hooks.new.hooks.items (registered_hooks b.head b.events))
    c.self.view_is
    (retired_as_registered g.H.Hook.counts c.args.rack.now.hooks.items c.try_reserve.new.self.items c.move_hooks.new.hooks.items l.head l.events c.self.inside.machine.places
    c.sound.ensures.table c.sound.ensures.places.states at c.try_reserve.ensures.items
    (subst (λ p. IsRacked g.H.Hook.counts c.try_reserve.new.self.items c.move_hooks.new.hooks.items (hooks_of p)) c.into_parts-journal.ensures.table c.move_hooks.ensures))

use Rattle.std.proofs.Common.{rules, ◌≡◌, ap, sym, ◌∙◌, subst}
use mathlib.Core.List.{IsPrefix}
use Rattle.hp_turn.specs.Story.{Knows, longer}
use Rattle.hp_turn.specs.Pass.{Pass}
use Rattle.hp_turn.proofs.Passing.{joins, learns, joined_front}
use Rattle.hp_turn.proofs.parts.TurnLock.join.Goals as goal

pub join_seat-requires : goal.join_seat-requires
join_seat-requires g c = (
  search rules,
  search rules,
  search rules,
  search rules,
  joins g.V.Grown.head g.V.Grown.story g.V.Grown.aside _ _ _ _ c.pass.invariant.0
      (ap (λ w. w.held) c.pass.view_is ∙ c.requires.own.1) c.other.invariant.0
      (ap (λ w. w.held) c.other.view_is ∙ c.requires.other.1),
)

pub load-requires : goal.load-requires
load-requires g c = (search rules, search rules, learns g.V.Grown.head g.V.Grown.story g.V.Grown.aside _ _ _ (search rules) (search rules))

pub returns-clause-front : goal.returns-clause-front
returns-clause-front g c =
    let told = joined_front c.pass.inside.seat.me.0 c.other.inside.seat.me.0 c.join_seat.new.seat.me.0 c.load.new.seat.me.0
    (ap (λ m. m.0) c.join_seat.ensures.2) (ap (λ m. m.0) c.load.ensures.2.0) c.load.ensures.2.1 in
    let now = c.load.new.seat.me.0.front in
    subst (λ (p : Pass). now ≡ longer p.front c.args.other.front) c.pass.view_is
    (subst (λ (p : Pass). now ≡ longer c.pass.inside.seat.me.0.front p.front) c.other.view_is told.0)

pub returns-clause-whole : goal.returns-clause-whole
returns-clause-whole g c =
    let told = joined_front c.pass.inside.seat.me.0 c.other.inside.seat.me.0 c.join_seat.new.seat.me.0 c.load.new.seat.me.0
    (ap (λ m. m.0) c.join_seat.ensures.2) (ap (λ m. m.0) c.load.ensures.2.0) c.load.ensures.2.1 in
    subst (λ (p : Pass). IsPrefix p.front c.load.new.seat.me.0.front) c.other.view_is told.2

pub returns-clause-knew : goal.returns-clause-knew
returns-clause-knew g c =
    let told = joined_front c.pass.inside.seat.me.0 c.other.inside.seat.me.0 c.join_seat.new.seat.me.0 c.load.new.seat.me.0
    (ap (λ m. m.0) c.join_seat.ensures.2) (ap (λ m. m.0) c.load.ensures.2.0) c.load.ensures.2.1 in
    subst (λ (p : Pass). Knows p.seat p.admits p.front c.load.new.seat.me.0.front) c.pass.view_is told.1

pub returns-clause-one_head : goal.returns-clause-one_head
returns-clause-one_head g c =
    let told = joined_front c.pass.inside.seat.me.0 c.other.inside.seat.me.0 c.join_seat.new.seat.me.0 c.load.new.seat.me.0
    (ap (λ m. m.0) c.join_seat.ensures.2) (ap (λ m. m.0) c.load.ensures.2.0) c.load.ensures.2.1 in
    sym (ap (λ (p : Pass). p.head) c.other.view_is) ∙ told.3 ∙ ap (λ (p : Pass). p.head) c.pass.view_is

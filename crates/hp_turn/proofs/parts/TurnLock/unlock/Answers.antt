use Rattle.std.proofs.Common.{rules, ◌≡◌, Some, sym, ap, ◌∙◌, subst}
use Rattle.hp_turn.specs.declared.view.View.{View}
use Rattle.hp_turn.specs.Asides.{KeepsOthers}
use Rattle.hp_turn.specs.Story.{MayAdd, new_seat}
use Rattle.hp_turn.specs.Pass.{Pass, Carries}
use Rattle.hp_turn.specs.Views.{held_of}
use Rattle.hp_turn.proofs.Counting.{counts}
use Rattle.hp_turn.proofs.Keeps.{releases}
use Rattle.hp_turn.proofs.parts.TurnLock.unlock.Goals as goal

pub fetch_add-requires : goal.fetch_add-requires
fetch_add-requires g c =
    let may = c.requires.story in
    let t = may.taken in
    let held : c.pass.inside.seat.me.0.held ≡ Some t = ap (λ w. w.held) c.pass.view_is ∙ may.holds in
    let out = subst (Carries c.pass.inside.seat.me.1 c.pass.inside.taken) held c.pass.invariant.2 in
    let add : MayAdd c.pass.inside.seat.me.0.seat c.pass.inside.seat.me.0.admits t.story may.added =
    subst (λ (p : Pass). MayAdd p.seat p.admits t.story may.added) (sym c.pass.view_is) may.may in
    let same : c.pass.inside.seat.me.0 ≡ c.exchange-nothing.new.seat.me.0 = search rules in
    let now = subst (λ (v : View). MayAdd v.seat v.admits t.story may.added) same add in
    let story = g.V.Grown.story c.args.value in
    let lent = g.V.Grown.aside c.args.value in
    let keep : KeepsOthers (new_seat c.pass.inside.seat.me.0.seat c.pass.inside.seat.me.0.held story) t.pairs lent =
    subst (λ (p : Pass). KeepsOthers (new_seat p.seat p.held story) t.pairs lent) (sym c.pass.view_is) may.others in
    let kept = subst (λ (v : View). KeepsOthers (new_seat v.seat v.held story) t.pairs lent) same keep in (
      search rules,
      search rules,
      counts g.V.Grown.head g.V.Grown.story g.V.Grown.aside _ _ _ c.args.value t may.added _ (search rules)
          (search rules) (search rules) (search rules) may.whole now kept (search rules) (search rules),
    )

pub swap-requires : goal.swap-requires
swap-requires g c =
    let may = c.requires.story in
    let t = may.taken in
    let held : c.pass.inside.seat.me.0.held ≡ Some t = ap (λ w. w.held) c.pass.view_is ∙ may.holds in
    let out = subst (Carries c.pass.inside.seat.me.1 c.pass.inside.taken) held c.pass.invariant.2 in
    let head : g.V.Grown.head c.args.value ≡ c.fetch_add.new.seat.me.0.head = search rules in (
      search rules,
      search rules,
      releases g.V.Grown.head g.V.Grown.story g.V.Grown.aside _ _ _ c.args.value (held_of (g.V.Grown.story c.args.value) (g.V.Grown.aside c.args.value))
          (search rules) (search rules) (search rules) (search rules) (search rules) (search rules) head,
    )

use Rattle.std.proofs.Common.{rules, ◌≡◌, ◌∷◌, Some, sym, refl, ap, ◌∙◌, subst}
use Rattle.atomic_table.specs.Table.{rest}
use Rattle.hp_turn.specs.Story.{Knows}
use Rattle.hp_turn.specs.Pass.{Pass}
use Rattle.hp_turn.proofs.Keeps.{locks}
use Rattle.hp_turn.proofs.parts.TurnLock.try_lock.Goals as goal

pub compare_exchange-found-requires : goal.compare_exchange-found-requires
compare_exchange-found-requires g c = (
  search rules,
  search rules,
  locks g.V.Grown.head g.V.Grown.story g.V.Grown.aside _ _ _ c.pass.invariant.0
      (ap (λ w. w.held) c.pass.view_is ∙ c.requires.1),
)

pub exchange-requires : goal.exchange-requires
exchange-requires g c =
    let h = c.compare_exchange-found.ensures.2.0 c.if-found-ne0.false in
    (search rules, (Some h.value, subst (λ cs. cs ≡ (0, Some h.value) ∷ rest cs) (sym (ap (λ m. m.1) h.now)) refl))

pub returns-clause-head : goal.returns-clause-head
returns-clause-head g c =
    let h = c.compare_exchange-found.ensures.2.0 c.if-found-ne0.false in
    let same : h.value ≡ c.in-Some.value = search rules in
    ap g.V.Grown.head (sym same) ∙ (h.alike ∙ ap (λ (p : Pass). p.head) c.pass.view_is)

pub returns-clause-knew : goal.returns-clause-knew
returns-clause-knew g c =
    let h = c.compare_exchange-found.ensures.2.0 c.if-found-ne0.false in
    let same : h.value ≡ c.in-Some.value = search rules in
    let told = subst (λ x. Knows c.pass.inside.seat.me.0.seat c.pass.inside.seat.me.0.admits c.pass.inside.seat.me.0.front
    (g.V.Grown.story x)) same h.knew in
    subst (λ (p : Pass). Knows p.seat p.admits p.front (g.V.Grown.story c.in-Some.value)) c.pass.view_is told

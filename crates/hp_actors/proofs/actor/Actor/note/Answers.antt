-- What is so of every actor stays so.
use Rattle.std.proofs.Common.{◌≡◌, ◌<◌, sym, subst, ap, length, ◌∙◌}
use Rattle.hp_actors.specs.Actors.{IsAgenda, agenda, agenda_at, wait_at}
use Rattle.hp_actors.specs.declared.actor.Actor.{Actor}
use Rattle.hp_actors.specs.declared.actor.Actor.TheInside.{Inside}
use Rattle.hp_actors.proofs.Agendas.{same_place, next_place}
use Rattle.hp_actors.proofs.actor.Actor.note.Goals as goal
use Rattle.hp_actors.proofs.actor.Actor.note.Goals.{in-Answered, in_default}

pub invariant_of-self : goal.invariant_of-self
invariant_of-self g c =
    let asks = c.self.inside.asks.items in
    let n = c.self.inside.answered in
    let i = c.self.invariant in
    let then = c.match-turn.self-inside in
    let pending = subst (λ (a : Actor g.row.H.Denot). a.answered < length a.asks) (sym c.self.view_is) c.requires in
    let waits : c.first_wait-self-inside.result ≡ wait_at then.answered (length then.asks.items) =
    c.first_wait-self-inside.ensures ∙ ap (wait_at then.answered) (c.len.ensures ∙ then.asks.ok.0) in
    subst (λ w. IsAgenda (agenda then.asks.items then.answered w)) (sym waits)
    (elim c.match-turn.branch [
      | in-Answered w ↦ subst (λ (s : Inside g.row.H.Denot). IsAgenda (agenda_at s.asks.items s.answered)) (sym w.self-inside-is)
          (next_place asks n i.within i.later pending)
      | in_default w ↦ subst (λ (s : Inside g.row.H.Denot). IsAgenda (agenda_at s.asks.items s.answered)) (sym w.self-inside-is)
          (same_place asks n i.within i.later)
    ])

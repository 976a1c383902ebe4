-- Whom an event frees, by what the board says after it.
use Rattle.std.proofs.Common.{refl, ◌≡◌, true, ◌||◌, ◌&&◌, eqb, ℕ, subst}
use Rattle.hp_live.specs.Freed.{WaitsForNone}
use Rattle.hp_live.proofs.Freeing.{all_left, frees}
use Rattle.hp_live.proofs.freed.freed_by.Goals as goal

pub returns : goal.returns
returns g c =
    frees c.args.board.now.head c.args.board.now.events c.args.event.now c.args.had_client
    (record {
      first = c.gives_back.result;
      in_flight = c.waits_for_none-holder.result || c.waits_for_none-registrar.result;
      thread = c.thread_due.result;
      threads = c.args.had_client && eqb c.clients.result 0;
    })
    (record {
      lawful = c.sound.ensures.lawful;
      holder = c.holder.result;
      registrar = c.registrar.result;
      h = c.waits_for_none-holder.result;
      r = c.waits_for_none-registrar.result;
      holder_is = c.holder.ensures;
      registrar_is = c.registrar.ensures;
      by_holder =
          subst
          (λ (n : ℕ). (seat : ℕ) → WaitsForNone c.args.board.now.head c.args.board.now.events n c.holder.result seat →
          c.waits_for_none-holder.result ≡ true)
          c.seat-by.ensures c.waits_for_none-holder.ensures;
      by_registrar =
          subst
          (λ (n : ℕ). (seat : ℕ) → WaitsForNone c.args.board.now.head c.args.board.now.events n c.registrar.result seat →
          c.waits_for_none-registrar.result ≡ true)
          c.seat-by.ensures c.waits_for_none-registrar.ensures;
      first_is = c.gives_back.ensures;
      in_flight_is = refl;
      thread_is = c.thread_due.ensures;
      threads_is = λ had none. all_left c.args.had_client c.clients.result _ c.clients.ensures had none;
    })

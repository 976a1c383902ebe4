use Rattle.std.proofs.Common.{◌≡◌, ◌∷◌, ℕ, List, refl, sym, ap, ◌∙◌}
use Rattle.std.specs.Prelude.{codes}
use Rattle.std.specs.Option.{option_and_then}
use Rattle.hp_event.specs.declared.version.Version.{Version}
use Rattle.hp_replay.specs.EventAt.{call_tail, event as event_tail, event_at}
use Rattle.hp_replay.proofs.event.event_of_line.Goals as goal

-- the row of an entry
call_row : (v : Version) (ws : List (List ℕ)) → call_tail ws ≡ event_tail v (codes "call" ∷ ws)
unfolding event_tail
call_row v ws = refl

pub returns-then-takes_call : goal.returns-then-takes_call
unfolding event_at
returns-then-takes_call c =
    let split = c.takes_call.ensures.taken c.if-takes_call.true in
    c.call.ensures ∙ call_row c.args.version c.takes_call.new.self ∙ sym (ap (event_tail c.args.version) split)
    ∙ ap (option_and_then (event_tail c.args.version)) c.in_ok-words.ensures

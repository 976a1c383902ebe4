-- What an actor is after the operation that it asks for was lent for a turn of the machine. This project's own.
use Rattle.std.specs.Prelude.{Option}
use Rattle.std.specs.Borrow.{LendsIf, Fml, RattleType, MutBor}
use Rattle.hp_board.specs.contracts.turn.Ask.{the_row as ask_row}
use Rattle.hp_actors.specs.Actors.{Agenda, with_ask}
use Rattle.hp_actors.specs.contracts.actor.Actor.{the_row}

module _ (H : RattleType) (s : MutBor (Agenda H.Denot)) where
  -- it has that operation as it was left; and it is as it was, where there is none
  abbrev pub lends_ask : Option (MutBor (ask_row H).Denot) → Fml
  lends_ask r = LendsIf (the_row H) (ask_row H) s r (with_ask s.now) s.now

-- Each seat has its turn.
use Rattle.std.proofs.Common.{◌≡◌, ◌+◌, length, refl, ap, ◌∙◌, arith}
use Rattle.std.proofs.lemmas.List.{length-map}
use Rattle.std.proofs.lemmas.Result.{on_ok_weaker}
use Rattle.hp_actors.specs.Positions.{ops_of}
use Rattle.hp_smt_run.proofs.HooksTurned.{made_same, made_turn, made_last}
use Rattle.hp_smt_run.proofs.Turned.{none_yet, one_more, whole_round, seats_same, actors_same}
use Rattle.hp_smt_run.proofs.run.SmtRun.round.Goals as goal

pub loop-seat-init : goal.loop-seat-init
loop-seat-init g c = record {
  partly = none_yet c.args.self.now c.requires c.sound.ensures.primaries;
  made = made_same g.H.Hook.counts c.args.self.now;
}

pub loop-seat-preserved : goal.loop-seat-preserved
loop-seat-preserved g c =
    let old = c.args.self.now in
    let now = c.loop-seat.self in
    let i = c.loop-seat.invariant in
    record {
      partly =
          one_more old now c.serve.new.self c.loop-seat.seat c.loop-seat.seat (c.loop-seat.seat + 1) i.partly c.serve.ensures.turned refl
          refl;
      made =
          made_turn g.H.Hook.counts old now c.serve.new.self c.loop-seat.seat i.partly.same i.made c.serve.ensures.turned
          c.serve.ensures.hooks;
    }

pub loop-place-preserved : goal.loop-place-preserved
loop-place-preserved g c =
    let old = c.args.self.now in
    let now = c.loop-place.self in
    let place = c.loop-place.place in
    let i = c.loop-place.invariant in
    let seats = seats_same old now (old.seats + place) c.requires i.partly in
    record {
      partly =
          one_more old now c.ask.new.self (now.seats + place) (old.seats + place) (old.seats + (place + 1)) i.partly
          c.in_ok-ask.ensures.turned (ap (λ z. z + place) seats) (omega arith);
      made =
          made_turn g.H.Hook.counts old now c.ask.new.self (now.seats + place) i.partly.same i.made c.in_ok-ask.ensures.turned
          c.in_ok-ask.ensures.hooks;
    }

pub returns-clause-rounded : goal.returns-clause-rounded
returns-clause-rounded g c =
    let old = c.args.self.now in
    let now = c.loop-place.self in
    let place = c.loop-place.place in
    let i = c.loop-place.invariant.partly in
    let seats = seats_same old now (old.seats + place) c.requires i in
    let end : c.len-place-end.result ≡ length c.loop-seat.self.actors.items = c.len-place-end.ensures ∙ c.loop-seat.self.actors.ok.0 in
    let first = actors_same old c.loop-seat.self c.loop-seat.invariant.partly.same in
    let last = actors_same old now i.same in
    let all : place ≡ c.len-place-end.result = omega arith in
    let ops = length-map old.actors.items ops_of in
    let there = c.requires.seats_are in
    on_ok_weaker c.write.result (λ t.
    whole_round old c.write.new.self (old.seats + place + 1)
    (one_more old now c.write.new.self (now.seats + length now.actors.items) (old.seats + place) (old.seats + place + 1) i t
    (omega (arith, seats, last, first, end, all)) refl)
    (omega (arith, there, ops, first, end, all))) c.write.ensures.turned

pub returns-clause-made : goal.returns-clause-made
returns-clause-made g c =
    let old = c.args.self.now in
    let now = c.loop-place.self in
    let i = c.loop-place.invariant in
    made_last c.write.result g.H.Hook.counts old now c.write.new.self (now.seats + length now.actors.items) i.partly.same i.made
    c.write.ensures.turned c.write.ensures.hooks
